use Rattle.std.proofs.Common.{take}
use Rattle.meaning.specs.soundness.Values.{ValuesHaveTypes}
use Rattle.store.specs.Contents.{store_of}
use Rattle.store.proofs.arguments.values_have_types.Given as goal

abbrev pub invariant-loop-i : goal.invariant-loop-i
invariant-loop-i l = ValuesHaveTypes (store_of l.store) (take l.i l.values) (take l.i l.types)
