-- Where configurations run, and the contexts in which their bodies are typed (Appendix, Soundness, Module Instances and Frames).
use Rattle.std.specs.Prelude.{ℕ, zero, suc, List, [], ◌∷◌, length, map, reverse, Option, Some, None, option_map, slice_get, unwrap_or}
use Rattle.core_types.specs.declared.types.Limits.{Limits}
use Rattle.core_types.specs.declared.types.Mutability.TheVariants.{Const}
use Rattle.core_types.specs.declared.types.RefType.TheVariants.{FuncRef}
use Rattle.core_types.specs.declared.types.ValType.{ValType}
use Rattle.core_types.specs.declared.types.ValType.TheVariants.{I32}
use Rattle.meaning.specs.structure.Bodies.{Body}
use Rattle.meaning.specs.execution.Memories.{MemoryInstance}
use Rattle.meaning.specs.execution.Store.{FunctionInstance, GlobalInstance, ModuleInstance, Store, instance_of}
use Rattle.meaning.specs.execution.Tables.{ElementInstance, TableInstance}
use Rattle.meaning.specs.validation.Context.{Context}
use Rattle.meaning.specs.validation.Instructions.{HasType, known}
use Rattle.meaning.specs.validation.Types.{function_type}

-- Where a configuration runs, whatever the store contains. A place has the address of the instance of the frame around it, the types of
-- the frame's locals, and the results of the frame. It also has the types that branches to the labels around it carry, the innermost
-- first. Outside of all frames there is no instance and there are no results.
pub record Place : Type 0 where
  pub instance : Option ℕ
  pub locals : List ValType
  pub labels : List (List ValType)
  pub results : Option (List ValType)

-- The place outside of all frames.
abbrev pub outermost : Place
outermost = record { instance = None; locals = []; labels = []; results = None }

-- The place within one more label.
abbrev pub inside_label : Place → List ValType → Place
inside_label place types = record place { labels = types ∷ place.labels }

-- The place within a frame with these results.
abbrev pub inside_frame : (instance : Option ℕ) → (locals results : List ValType) → Place
inside_frame instance locals results =
    record { instance = instance; locals = locals; labels = []; results = Some results }

-- ---- contexts

-- The types of what is at the addresses. A valid store has something at each address that an instance names.
abbrev pub types_at : {X Y : Type 0} → (X → Y) → (missing : Y) → List X → List ℕ → List Y
types_at type missing items addresses =
    map (λ address. unwrap_or (option_map type (slice_get items address)) missing) addresses

-- The numbers below a number.
abbrev pub below : ℕ → List ℕ
below zero = []
below (suc n) = n ∷ below n

abbrev pub no_limits : Limits
no_limits = record { min = 0; max = None }

-- The context of an instance, in which ref.func may name each of its functions (Module Instances).
abbrev pub instance_context : Store → ModuleInstance → Context
instance_context store i = record {
  types = i.types;
  functions =
      types_at (λ (f : FunctionInstance). f.ty) (function_type [] []) store.functions i.functions;
  tables = types_at (λ (t : TableInstance). t.ty)
      (record { element = FuncRef; limits = no_limits }) store.tables i.tables;
  memories = types_at (λ (m : MemoryInstance). m.limits) no_limits store.memories i.memories;
  globals = types_at (λ (g : GlobalInstance). g.ty) (record { value = I32; mutability = Const })
      store.globals i.globals;
  elements = types_at (λ (e : ElementInstance). e.ty) FuncRef store.elements i.elements;
  datas = length i.datas;
  locals = [];
  labels = [];
  results = None;
  references = below (length i.functions);
}

-- The context of a place in a store.
abbrev pub context_at : Store → Place → Context
context_at store place =
    record (instance_context store (instance_of store place.instance)) {
      locals = place.locals;
      labels = place.labels;
      results = place.results;
    }

-- The body leads from values of these types, the top first, to these results, the top last.
abbrev pub RunsOn : Store → Place → Body → (stack results : List ValType) → Type 0
RunsOn store place body stack results =
    HasType (context_at store place) body (known (reverse stack)) (known results)
