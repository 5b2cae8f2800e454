use Rattle.std.proofs.Common.{take}
use Rattle.std.specs.Prelude.{Some, filter_map}
use Rattle.meaning.specs.embedding.Machine.{named_type}
use Rattle.meaning.specs.execution.Store.{instance_of}
use Rattle.store.specs.Contents.{store_of}
use Rattle.interface.specs.Listings.{AreExports}
use Rattle.embed.proofs.embedding.Embedding.exports.Given as goal

abbrev pub invariant-loop-export : goal.invariant-loop-export
invariant-loop-export g l = record {
  found : AreExports l.listing.found (filter_map (named_type (store_of l.self.store) (instance_of (store_of l.self.store) (Some l.address))) (take l.export-index l.export-items));
}
