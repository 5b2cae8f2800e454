use Rattle.std.proofs.Common.{sym, ◌∙◌}
use Rattle.linker.specs.Contents.{numbers_in}
use Rattle.linker.proofs.Named.{is_some-under}
use Rattle.linker.proofs.names.Names.has_hosts.Goals as goal

pub returns : goal.returns
returns c =
    let same = c.contains_key.ensures ∙ is_some-under numbers_in c.args.module_name.now c.self.inside.hosts.entries in
    rw (← c.self.view_is) (λ yes. sym same ∙ yes, λ there. same ∙ there)
