use Rattle.std.proofs.Common.{◌≡◌, ◌+◌, ℕ, suc, List, ap, sym, subst, take, arith, ◌∙◌}
use Rattle.std.specs.Prelude.{Some, get_or, slice_get}
use Rattle.core_types.specs.declared.module.Import.{Import}
use Rattle.core_types.specs.declared.outcome.Extern.TheVariants.{Func}
use Rattle.meaning.specs.execution.Modules.{AreGiven, IsGiven, import_type}
use Rattle.store.specs.Contents.{store_of}
use Rattle.std.proofs.lemmas.Option.{slice_get-get_or}
use Rattle.instantiate.proofs.lemmas.Imports.{given-next}
use Rattle.instantiate.proofs.imports.first_mismatch.Goals as goal

pub returns-then-not-is_given-clause-some : goal.returns-then-not-is_given-clause-some
returns-then-not-is_given-clause-some c = record {
  wanted = c.index-imports-k.result;
  given = get_or c.args.externs.now c.loop-k.k (Func 0);
  wanted_is = ap (λ (is : List Import). slice_get is c.loop-k.k) (sym c.as_slice-imports.ensures) ∙ slice_get-get_or c.as_slice-imports.result.now
      c.loop-k.k _ c.loop-k-test.true ∙ ap Some (sym c.index-imports-k.is);
  given_is = slice_get-get_or c.args.externs.now c.loop-k.k (Func 0) (let inside = rw c.as_slice-imports.ensures at c.loop-k-test.true in omega (arith, inside, c.requires));
  before = rw (← c.as_slice-imports.ensures) c.loop-k.invariant;
  differs = λ is. let yes = c.is_given.ensures.1
      (subst (λ (i : Import). IsGiven (store_of c.args.store.now) (get_or c.args.externs.now c.loop-k.k (Func 0))
      (import_type c.args.wanted.now i.desc)) c.index-imports-k.is is) in let no = c.if-not-is_given.true in absurd cc;
}

pub loop-k-preserved : goal.loop-k-preserved
loop-k-preserved c =
    let there = slice_get-get_or c.as_slice-imports.result.now c.loop-k.k _ c.loop-k-test.true ∙ ap Some (sym c.index-imports-k.is) in
    let given = slice_get-get_or c.args.externs.now c.loop-k.k (Func 0) (let inside = rw c.as_slice-imports.ensures at c.loop-k-test.true in omega (arith, inside, c.requires)) in
    let is = subst (λ (i : Import).
    IsGiven (store_of c.args.store.now) (get_or c.args.externs.now c.loop-k.k (Func 0)) (import_type c.args.wanted.now i.desc))
    (sym c.index-imports-k.is) (c.is_given.ensures.0 (let yes = c.if-not-is_given.false in cc)) in
    let next : suc c.loop-k.k ≡ c.loop-k.k + 1 = omega arith in
    subst (λ (n : ℕ). AreGiven (store_of c.args.store.now) c.args.wanted.now (take n c.as_slice-imports.result.now) c.args.externs.now) next
    (given-next (store_of c.args.store.now) c.args.wanted.now c.as_slice-imports.result.now c.args.externs.now c.loop-k.k c.index-imports-k.result
    (get_or c.args.externs.now c.loop-k.k (Func 0)) there given is c.loop-k.invariant)
