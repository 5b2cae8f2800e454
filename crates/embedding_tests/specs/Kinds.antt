-- The results of the host functions of the tests.
use Rattle.std.specs.Prelude.{List, [], ◌∷◌}
use Rattle.core_types.specs.declared.types.ValType.{ValType}
use Rattle.core_types.specs.declared.types.ValType.TheVariants.{I32, I64, FuncRef, ExternRef}
use Rattle.embedding_tests.specs.declared.kinds.Kind.{Kind}
use Rattle.embedding_tests.specs.declared.kinds.Kind.TheVariants.{Counts, Traps, LacksMemory, Writes, Marks, Measures, GivesFive, Swaps, GivesFunction}

abbrev pub results_of : Kind → List ValType
results_of Counts = I32 ∷ []
results_of Traps = []
results_of LacksMemory = []
results_of Writes = I32 ∷ []
results_of Marks = []
results_of Measures = I32 ∷ []
results_of GivesFive = I32 ∷ I64 ∷ ExternRef ∷ ExternRef ∷ I32 ∷ []
results_of Swaps = I64 ∷ I32 ∷ []
results_of GivesFunction = FuncRef ∷ []
