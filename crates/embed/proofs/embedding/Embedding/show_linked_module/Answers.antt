use Rattle.std.proofs.Common.{sym, ◌∙◌, subst}
use Rattle.std.proofs.lemmas.Option.{same_Some}
use Rattle.soundness.specs.Links.{IsSoundModule}
use Rattle.embed.proofs.lemmas.Steps.{module-of}
use Rattle.embed.proofs.embedding.Embedding.show_linked_module.Goals as goal

pub returns-in-Some : goal.returns-in-Some
returns-in-Some g c = λ m is.
    let there = module-of c.args.self.now.modules.items c.args.number c.in-Some.loaded.now (rw c.deref.ensures.value at c.in-Some.ensures) in
    subst IsSoundModule (same_Some _ _ (sym there ∙ is)) (rw c.as_ref.ensures at c.module.ensures.sound)
