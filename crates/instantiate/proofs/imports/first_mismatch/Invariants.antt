use Rattle.std.proofs.Common.{take}
use Rattle.meaning.specs.execution.Modules.{AreGiven}
use Rattle.store.specs.Contents.{store_of}
use Rattle.instantiate.proofs.imports.first_mismatch.Given as goal

abbrev pub invariant-loop-k : goal.invariant-loop-k
invariant-loop-k l = AreGiven (store_of l.store) l.wanted (take l.k l.imports) l.externs
