use Rattle.std.proofs.Common.{take}
use Rattle.std.specs.Prelude.{filter_map}
use Rattle.interface.specs.Listings.{AreExports, typed_export}
use Rattle.interface.proofs.modules.list_exports.Given as goal

abbrev pub invariant-loop-export : goal.invariant-loop-export
invariant-loop-export l = record {
  found : AreExports l.listing.found (filter_map (typed_export l.types l.spaces) (take l.export-index l.exports));
}
