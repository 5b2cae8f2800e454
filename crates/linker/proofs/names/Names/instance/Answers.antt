use Rattle.std.proofs.Common.{◌∙◌}
use Rattle.linker.proofs.Named.{number-under}
use Rattle.linker.proofs.names.Names.instance.Goals as goal

pub returns : goal.returns
returns c =
    rw (← c.self.view_is)
    (c.copied.ensures ∙ c.get.ensures.value ∙ number-under c.self.inside.registered c.args.name.now)
