use Rattle.std.proofs.Common.{◌≤◌, refl, subst}
use Rattle.std.specs.List.{All}
use Rattle.std.proofs.lemmas.List.{take_all}
use Rattle.std.proofs.lemmas.List.Elements.{All-more}
use Rattle.core_types.specs.declared.types.Limits.{Limits}
use Rattle.instantiate.proofs.limits.have_few_pages.Goals as goal

pub loop-k-preserved : goal.loop-k-preserved
loop-k-preserved c =
    All-more (λ (s : Limits). s.min ≤ c.args.pages) c.args.memories.now c.loop-k.k _ c.loop-k-test.true c.loop-k.invariant c.if-memories-k.false

pub returns : goal.returns
returns c =
    (λ _. subst (All (λ (s : Limits). s.min ≤ c.args.pages)) (take_all c.loop-k.k c.args.memories.now c.loop-k-test.false) c.loop-k.invariant, λ _. refl)
