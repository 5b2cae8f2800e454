use Rattle.std.proofs.Common.{take}
use Rattle.std.specs.Prelude.{filter_map}
use Rattle.interface.specs.Listings.{AreImports, typed_import}
use Rattle.interface.proofs.modules.imports_of.Given as goal

abbrev pub invariant-loop-import : goal.invariant-loop-import
invariant-loop-import l = record {
  found : AreImports l.listing.found (filter_map (typed_import l.decoded) (take l.import-index l.import-items));
}
