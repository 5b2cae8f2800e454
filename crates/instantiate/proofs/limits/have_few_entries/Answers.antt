use Rattle.std.proofs.Common.{◌≤◌, refl, subst}
use Rattle.std.specs.List.{All}
use Rattle.std.proofs.lemmas.List.{take_all}
use Rattle.std.proofs.lemmas.List.Elements.{All-more}
use Rattle.core_types.specs.declared.types.TableType.{TableType}
use Rattle.instantiate.proofs.limits.have_few_entries.Goals as goal

pub loop-k-preserved : goal.loop-k-preserved
loop-k-preserved c =
    All-more (λ (t : TableType). t.limits.min ≤ c.args.entries) c.args.tables.now c.loop-k.k _ c.loop-k-test.true c.loop-k.invariant c.if-tables-k.false

pub returns : goal.returns
returns c =
    (λ _. subst (All (λ (t : TableType). t.limits.min ≤ c.args.entries)) (take_all c.loop-k.k c.args.tables.now c.loop-k-test.false) c.loop-k.invariant, λ _. refl)
