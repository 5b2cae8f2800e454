-- Where frames begin and where their code ends.
use Rattle.std.specs.Prelude.{◌≡◌, ℕ, ◌+◌, ◌-◌, ◌≤◌, List, [], ◌∷◌, ◌++◌, length, map, reverse, take, drop, replicate}
use Rattle.core_types.specs.declared.outcome.Val.{Val}
use Rattle.core_types.specs.declared.types.FuncType.{FuncType}
use Rattle.core_types.specs.declared.types.ValType.{ValType}
use Rattle.meaning.specs.structure.Bodies.{Body, Empty}
use Rattle.meaning.specs.execution.Configurations.{Label}
use Rattle.meaning.specs.execution.Instructions.{topmost}
use Rattle.meaning.specs.execution.Store.{Code, InCode}
use Rattle.meaning.specs.execution.Values.{default_of}
use Rattle.meaning.specs.soundness.Values.{ValuesHaveTypes}
use Rattle.soundness.specs.Places.{context_at}
use Rattle.soundness.specs.Stores.{ImplementationIsValid, StoreIsValid, body_place}
use Rattle.sidetable.specs.Counts.{Signatures}
use Rattle.sidetable.specs.Flat.{FlatOp, Leave}
use Rattle.simulation.specs.Laws.{BeginsAt, HasSignatures, code_at, function_label}
use Rattle.simulation.specs.Runs.{Ghost, Holds, Runs}
use Rattle.simulation.specs.Settling.{IsSettled}
use Rattle.simulation.specs.Standing.{FrameCode, StandsIn}

-- What runs in the frame of a function that is called with the topmost of these values. Its code begins at a place among operations.
abbrev pub callee : Ghost → Signatures → List FlatOp → (at : ℕ) → FuncType → (instance : ℕ) → Code
    → List Val → Ghost
callee g s ops at t instance code values = record {
  code = code_at s ops (length t.params + length code.locals) (length t.results) at code.body;
  store = g.store;
  instance = instance;
  types = t.params ++ code.locals;
  results = t.results;
  locals = topmost t.params values ++ map default_of code.locals;
  values = [];
  labels = function_label (length t.results) ∷ [];
  rest = code.body;
}

-- A callee's frame begins at the cells of the arguments. The other locals after them are zero.
abbrev pub CalleesAreEntered : Type 0
CalleesAreEntered =
    (g : Ghost) (cells : List ℕ) (top : ℕ) → StoreIsValid g.store → Holds g cells top
    → top ≤ length cells → (s : Signatures) (ops : List FlatOp) (at : ℕ) (t : FuncType)
    (instance : ℕ) (code : Code)
    → ImplementationIsValid g.store t (InCode instance code) → (below : List ValType)
    → ValuesHaveTypes g.store g.values (reverse t.params ++ below)
    → length t.params ≤ length g.values
    → HasSignatures (context_at g.store (body_place t instance code)) s
    → BeginsAt s ops (length t.params + length code.locals) (length t.results) at code.body
    → (cells' : List ℕ)
    → take (length t.params + length code.locals) cells'
    ≡ take (length t.params) (drop (top - length t.params) cells)
    ++ replicate (length code.locals) 0
    → (callee g s ops at t instance code g.values).code.greatest ≤ length cells'
    → Runs (callee g s ops at t instance code g.values) cells' at
    (length t.params + length code.locals)

-- Where a frame is left, after labels were left, only the results are left.
abbrev pub CodeEnds : Type 0
CodeEnds =
    (f : FrameCode) (at results : ℕ) (more : List FlatOp)
    → drop at f.operations ≡ Leave results ∷ more
    → (values : List Val) (labels : List Label) (rest : Body) → StandsIn f at values labels rest
    → IsSettled f at values labels rest
    → (labels ≡ []) × (rest ≡ Empty) × (length values ≡ f.outermost.kept)
    × (results ≡ f.outermost.kept)
