use Rattle.std.proofs.Common.{ap, length, refl}
use Rattle.std.proofs.lemmas.Option.{slice_get_read}
use Rattle.std.specs.Prelude.{option_map}
use Rattle.hostfunc.specs.Boxes.{type_of_host}
use Rattle.hostfunc.proofs.host_table.HostTable.ty.Goals as goal

pub returns : goal.returns
returns g c =
    let objects = c.args.self.now.objects.items in
    let is = slice_get_read objects (length objects) c.args.number c.index.result.now refl c.requires.there c.index.ensures in
    ap (option_map type_of_host) is
