use Rattle.std.proofs.Common.{ℕ, List, ap, ◌∙◌}
use Rattle.meaning.specs.embedding.Names.{under}
use Rattle.linker.proofs.Named.{no_numbers, number-there}
use Rattle.linker.proofs.names.Names.host.Goals as goal

pub returns-in_err-get : goal.returns-in_err-get
returns-in_err-get c =
    rw (← c.self.view_is)
    (c.from_residual.ensures ∙ ap (λ (items : List (List ℕ × ℕ)). under items c.args.name.now) (no_numbers c.self.inside.hosts c.args.module_name.now c.in_err-get.ensures.value))

pub returns : goal.returns
returns c =
    rw (← c.self.view_is)
    (c.copied.ensures ∙ c.get-2.ensures.value ∙ number-there c.self.inside.hosts c.args.module_name.now c.in_ok-get.field-0.now c.in_ok-get.ensures.value c.args.name.now)
