use Rattle.std.proofs.Common.{◌<◌, length, refl, arith}
use Rattle.std.proofs.lemmas.Option.{slice_get_within}
use Rattle.meaning.proofs.lemmas.HostSteps.{host-there}
use Rattle.hostfunc.specs.Boxes.{type_of_host}
use Rattle.hostfunc.specs.Tables.{hosts_in}
use Rattle.exec.proofs.hosts.has_host.Goals as goal

pub returns-else-function-len : goal.returns-else-function-len
returns-else-function-len g c = (
  λ w. absurd (cc),
  λ all.
      absurd (
      let objects = hosts_in c.args.hosts.now in
      let number = c.in-InHost.function.number in
      let there = host-there type_of_host objects number _ ((rw c.in-InHost.is at all) number refl) in
      let inside : number < length objects = slice_get_within objects number there.0 there.1 in
      omega (arith, inside, c.if-function-len.false, c.len.ensures)
      ),
)
