use Rattle.std.proofs.Common.{arith, refl}
use Rattle.store.specs.Contents.{store_of}
use Rattle.store.proofs.lemmas.Arguments.{ValuesHaveTypes-at, ValuesHaveTypes-next, length-typed}
use Rattle.store.proofs.arguments.values_have_types.Goals as goal

pub loop-i-preserved : goal.loop-i-preserved
loop-i-preserved c =
    ValuesHaveTypes-next (store_of c.args.store.now) c.args.values.now c.args.types.now c.loop-i.i _ _ c.loop-i-test.true (omega arith) c.loop-i.invariant (c.if-not-value_has_type.ensures.0 refl)

pub returns-then-values-types : goal.returns-then-values-types
returns-then-values-types c =
    (λ no. absurd cc, λ typed. absurd (omega (arith, length-typed (store_of c.args.store.now) c.args.values.now c.args.types.now typed)))

pub returns-then-not-value_has_type : goal.returns-then-not-value_has_type
returns-then-not-value_has_type c =
    (λ no. absurd cc, λ typed. c.if-not-value_has_type.ensures.1 (ValuesHaveTypes-at (store_of c.args.store.now) c.args.values.now c.args.types.now c.loop-i.i _ _ c.loop-i-test.true typed))
