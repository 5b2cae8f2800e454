-- What a link runs is typed.
use Rattle.std.proofs.Common.{◌≡◌, ℕ, suc, ◌<◌, List, [], ◌∷◌, ◌++◌, length, Option, Some, None, refl, ap, sym, ◌∙◌, append_assoc, arith, slice_get, get_or, option_map}
use Rattle.std.proofs.lemmas.List.{length-append}
use Rattle.std.proofs.lemmas.List.Elements.{All-append}
use Rattle.std.proofs.lemmas.Option.{slice_get-get_or, slice_get-map, slice_get_within}
use Rattle.std.specs.List.{All}
use Rattle.core_types.specs.declared.module.DataMode.{DataMode}
use Rattle.core_types.specs.declared.module.DataMode.TheVariants as data_mode
use Rattle.core_types.specs.declared.module.DataSegment.{DataSegment}
use Rattle.core_types.specs.declared.module.ElementMode.{ElementMode}
use Rattle.core_types.specs.declared.module.ElementMode.TheVariants.{Passive, Active, Declarative}
use Rattle.core_types.specs.declared.module.ElementSegment.{ElementSegment}
use Rattle.core_types.specs.declared.module.Module.{Module}
use Rattle.core_types.specs.declared.op.MemoryOp.TheVariants as memory_op
use Rattle.core_types.specs.declared.op.PlainOp.{PlainOp}
use Rattle.core_types.specs.declared.op.PlainOp.TheVariants.{Memory, Table}
use Rattle.core_types.specs.declared.op.TableOp.TheVariants as table_op
use Rattle.core_types.specs.declared.types.ValType.{ValType}
use Rattle.core_types.specs.declared.types.ValType.TheVariants as ty
use Rattle.meaning.specs.structure.Bodies.{Empty, Then}
use Rattle.meaning.specs.execution.Modules.{Copies, Drops, Starts, Task, data_task, data_tasks, element_task, element_tasks, start_task, tasks_by, tasks_of}
use Rattle.meaning.specs.validation.Instructions.{HasMemory, HasType, IsElement, Rule, known}
use Rattle.meaning.specs.validation.Modules.{HasDataMode, HasElementMode, IsConstantExpression, IsValid, IsValidElement, IsValidStart, constant_context, functions_of, memories_of, module_context}
use Rattle.meaning.specs.validation.Types.{function_type}
use Rattle.meaning.proofs.lemmas.Typing.{AllFit-same}
use Rattle.soundness.proofs.Appends.{append-first}
use Rattle.soundness.proofs.Objects.{All-first, All-none}
use Rattle.soundness.proofs.Values.{All-at}

abbrev pub three : List ValType
three = ty.I32 ∷ ty.I32 ∷ ty.I32 ∷ []

-- What a task runs is typed in the module.
abbrev pub TaskIsTyped : Module → Task → Type 0
TaskIsTyped m (Copies offset count init drop) =
    IsConstantExpression (constant_context m) offset ty.I32 × HasType (module_context m) (Then init (Then drop Empty)) (known three) []
TaskIsTyped m (Drops drop) = HasType (module_context m) (Then drop Empty) [] []
TaskIsTyped m (Starts x) = slice_get (functions_of m) x ≡ Some (function_type [] [])

-- ---- items by their indices

module _ {A : Type 0} (P : Task → Type 0) (task : ℕ → A → List Task) (all : List A) (each : (x : ℕ) (item : A) → slice_get all x ≡ Some item → All P (task x item)) where
  from-here : (front rest : List A) → front ++ rest ≡ all → All P (tasks_by task (length front) rest)
  from-here front [] is = All-none P
  from-here front (item ∷ rest) is =
      let longer : length (front ++ item ∷ []) ≡ suc (length front) = omega (arith, length-append front (item ∷ [])) in
      let others = from-here (front ++ item ∷ []) rest (append_assoc front (item ∷ []) rest ∙ is) in
      All-append P (task (length front) item) (tasks_by task (suc (length front)) rest)
      (each (length front) item (ap (λ (z : List A). slice_get z (length front)) (sym is) ∙ append-first front rest item))
      (rw longer at others)

  pub by-index : All P (tasks_by task 0 all)
  by-index = from-here [] all refl

module _ (m : Module) (valid : IsValid m) where
  drop-typed : (drop : PlainOp) → Rule (module_context m) drop [] [] → HasType (module_context m) (Then drop Empty) [] []
  drop-typed drop rule = ([], [], [], rule, record { below = []; given = []; before_is = refl; fits = tt; after_is = refl }, tt)

  copy-typed : (init drop : PlainOp) → Rule (module_context m) init (known three) [] → Rule (module_context m) drop [] [] → HasType (module_context m) (Then init (Then drop Empty)) (known three) []
  copy-typed init drop rule then_rule =
      (known three, [], [], rule, record { below = []; given = known three; before_is = refl; fits = AllFit-same (known three); after_is = refl }, drop-typed drop then_rule)

  element-typed : (x : ℕ) (e : ElementSegment) → slice_get m.elements x ≡ Some e → All (TaskIsTyped m) (element_task x e.items e.mode)
  element-typed x e is = by e.mode (All-at (IsValidElement m) m.elements x e is valid.elements).mode
    where
      there : IsElement (module_context m) x e.ty
      there = slice_get-map (λ (e : ElementSegment). e.ty) m.elements x ∙ ap (option_map (λ (e : ElementSegment). e.ty)) is

      by : (mode : ElementMode) → HasElementMode m e.ty mode → All (TaskIsTyped m) (element_task x e.items mode)
      by Passive fits = All-none (TaskIsTyped m)
      by Declarative fits = All-first (TaskIsTyped m) _ [] (drop-typed (Table (table_op.ElemDrop x)) (e.ty, there, (refl, refl))) (All-none (TaskIsTyped m))
      by (Active table offset) (type, at, element, expression) =
          All-first (TaskIsTyped m) _ []
          (expression, copy-typed (Table (table_op.Init x table)) (Table (table_op.ElemDrop x)) (e.ty, (type, at, element), there, (refl, refl)) (e.ty, there, (refl, refl)))
          (All-none (TaskIsTyped m))

  data-typed : (x : ℕ) (d : DataSegment) → slice_get m.datas x ≡ Some d → All (TaskIsTyped m) (data_task x d.bytes d.mode)
  data-typed x d is = by d.mode (All-at (λ (d : DataSegment). HasDataMode m d.mode) m.datas x d is valid.datas)
    where
      inside : x < length m.datas
      inside = slice_get_within m.datas x d is

      by : (mode : DataMode) → HasDataMode m mode → All (TaskIsTyped m) (data_task x d.bytes mode)
      by data_mode.Passive fits = All-none (TaskIsTyped m)
      by (data_mode.Active memory offset) (below, expression) =
          let has : HasMemory (module_context m) = (
            get_or (memories_of m) 0 (record { min = 0; max = None }),
            slice_get-get_or (memories_of m) 0 (record { min = 0; max = None }) (omega (arith, below)),
          ) in
          All-first (TaskIsTyped m) _ []
          (expression, copy-typed (Memory (memory_op.Init x)) (Memory (memory_op.DataDrop x)) (has, inside, (refl, refl)) (inside, (refl, refl)))
          (All-none (TaskIsTyped m))

  start-typed : (start : Option ℕ) → IsValidStart m start → All (TaskIsTyped m) (start_task start)
  start-typed None fits = All-none (TaskIsTyped m)
  start-typed (Some x) fits = All-first (TaskIsTyped m) (Starts x) [] fits (All-none (TaskIsTyped m))

  -- Each task of a valid module is typed.
  pub tasks-typed : All (TaskIsTyped m) (tasks_of m)
  tasks-typed =
      All-append (TaskIsTyped m) (element_tasks m.elements) (data_tasks m.datas ++ start_task m.start)
      (by-index (TaskIsTyped m) (λ (x : ℕ) (e : ElementSegment). element_task x e.items e.mode) m.elements element-typed)
      (All-append (TaskIsTyped m) (data_tasks m.datas) (start_task m.start)
      (by-index (TaskIsTyped m) (λ (x : ℕ) (d : DataSegment). data_task x d.bytes d.mode) m.datas data-typed)
      (start-typed m.start valid.start))
