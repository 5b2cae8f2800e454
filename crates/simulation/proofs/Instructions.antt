-- Instructions that name nothing of the store except functions: on values, and on their cells.
use Rattle.std.proofs.Common.{◌≡◌, ◌⊎◌, ℕ, zero, suc, ◌+◌, ◌-◌, ◌≤◌, List, [], ◌∷◌, get_or, refl, ap, sym, subst, ◌∙◌, arith, inl, inr}
use Rattle.std.specs.Prelude.{Some}
use Rattle.core_types.specs.declared.op.ControlOp.TheVariants.{Nop, Unreachable}
use Rattle.core_types.specs.declared.op.ParametricOp.TheVariants.{DropOperand, Select}
use Rattle.core_types.specs.declared.op.PlainOp.{PlainOp}
use Rattle.core_types.specs.declared.op.PlainOp.TheVariants as plain
use Rattle.core_types.specs.declared.op.ReferenceOp.TheVariants.{Func, IsNull, Null}
use Rattle.core_types.specs.declared.outcome.Trap.TheVariants.{Unreachable as UnreachableTrap}
use Rattle.core_types.specs.declared.outcome.Val.{Val}
use Rattle.core_types.specs.declared.outcome.Val.TheVariants.{I32, FuncRef}
use Rattle.core_types.specs.declared.types.OperandType.{OperandType}
use Rattle.core_types.specs.declared.types.OperandType.TheVariants.{Known}
use Rattle.core_types.specs.declared.types.RefType.{RefType}
use Rattle.core_types.specs.declared.types.RefType.TheVariants as ref
use Rattle.core_types.specs.declared.types.ValType.{ValType}
use Rattle.core_types.specs.declared.types.ValType.TheVariants as ty
use Rattle.meaning.specs.execution.Configurations.{Frame, Running}
use Rattle.meaning.specs.execution.Effects.{select_operand}
use Rattle.meaning.specs.execution.Instructions.{Goes, continue_after, step_instruction}
use Rattle.meaning.specs.execution.Store.{Store, instance_of}
use Rattle.meaning.specs.execution.Values.{null_of}
use Rattle.meaning.specs.structure.Bodies.{Body}
use Rattle.meaning.specs.validation.Instructions.{TakesAndGives, known}
use Rattle.meaning.specs.validation.Types.{function_type, reference_type}
use Rattle.soundness.proofs.Extension.{instance-valid, types-found}
use Rattle.soundness.proofs.Operands.{taken}
use Rattle.sidetable.specs.Counts.{counts, counts_of}
use Rattle.sidetable.specs.Flat.{without_annotations}
use Rattle.cells.specs.Cells.{IsCellOf, cell_of, value_of}
use Rattle.simulation.specs.Instructions.{AlwaysFails, DoesNothing, Drops, IsPut, PutsNull, RefersToFunction, Selects, TestsNull}
use Rattle.simulation.specs.Operations.{IsChosen, IsDear}
use Rattle.simulation.specs.Runs.{Ghost, frame_of}
use Rattle.simulation.proofs.Advances.{dear-goes, goes-on, pushes, puts, puts-one}
use Rattle.simulation.proofs.Cells.{cell-of-value}
use Rattle.simulation.proofs.Ifs.{positive}
use Rattle.simulation.proofs.Operands.{Operands, none-popped, operands-here}
use Rattle.simulation.proofs.Plain.{AtPlain, CostsOne, at-plain, at-written, dear-here, fails-here, found, here}
use Rattle.simulation.proofs.Typed.{Inner}

-- ---- control

pub does-nothing : DoesNothing
does-nothing g cells at top b =
    let op = plain.Control Nop in
    let p : AtPlain op g cells at top = at-plain op (tt {0}) g cells at top b in (
      λ fuel left enough left_is. goes-on op g cells at top p 0 top (none-popped op g cells at top p) g.store refl refl refl cells (suc at) top fuel left refl refl refl refl enough left_is,
      dear-goes op g cells at top p g.store g.locals p.values refl,
    )

pub always-fails : AlwaysFails
always-fails g cells at top b =
    let op = plain.Control Unreachable in
    let p : AtPlain op g cells at top = at-plain op (tt {0}) g cells at top b in
    (fails-here op g cells at top p UnreachableTrap refl, dear-here op g cells at top p refl)

-- ---- parametric instructions

-- The type of an operand that is popped from known types is known.
first-known : (stack : List ValType) (operands results between : List OperandType) → TakesAndGives operands results (known stack) between
    → (t : OperandType) (others : List OperandType) → operands ≡ t ∷ others → (u : ValType) × (t ≡ Known u)
first-known stack operands results between frames t others is =
    let (below, given, parts, known_are, after) = taken operands results stack between frames in by given (sym is ∙ known_are)
  where
    by : (given : List ValType) → t ∷ others ≡ known given → (u : ValType) × (t ≡ Known u)
    by [] e = absurd cc
    by (u ∷ given) e = (u, cc)

pub drops : Drops
drops g cells at top b =
    let op = plain.Parametric DropOperand in
    let p : AtPlain op g cells at top = at-plain op (tt {0}) g cells at top b in
    let f : Inner (here op g cells at top p) = found op g cells at top p in
    let (operands, results, between, (t, takes, gives), frames, runs) = f.runs in
    let (u, t_is) = first-known _ operands results between frames t [] takes in
    let w : Operands op g cells at top p (u ∷ []) = operands-here op g cells at top p (function_type (u ∷ []) []) (u ∷ []) refl operands results
    between (takes ∙ ap (λ (o : OperandType). o ∷ []) t_is, gives) f frames in
    let goes = ap (λ (vs : List Val). step_instruction g.store (frame_of g) op vs p.rest) w.are in
    (w.enough, w.inside, goes-on op g cells at top p 1 (top - 1) w.popped g.store refl refl goes, dear-goes op g cells at top p g.store g.locals w.popped.others goes)

-- A select is written with types or without.
written-select : (written : PlainOp) → plain.Parametric Select ≡ without_annotations written → (written ≡ plain.Parametric Select) ⊎ ((types : List ValType) × (written ≡ plain.SelectTyped types))
written-select (plain.Parametric o) is = inl (sym is)
written-select (plain.SelectTyped types) is = inr (types, refl)
written-select other is = absurd cc

-- A step for any topmost cell.
select-costs : (store : Store) (frame : Frame) (n : ℕ) (second first : Val) (values : List Val) (rest : Body)
    → CostsOne (continue_after frame (select_operand store frame (I32 n ∷ (second ∷ (first ∷ values)))) rest)
select-costs store frame zero second first values rest = refl
select-costs store frame (suc n) second first values rest = refl

module _ (g : Ghost) (cells : List ℕ) (at top : ℕ) where
  abbrev Chosen : Type 0
  Chosen = IsChosen cells top (IsPut g cells at (get_or cells (top - 2) 0) (top - 3)) (IsPut g cells at (get_or cells (top - 3) 0) (top - 3))

  selected : (op : PlainOp) (p : AtPlain op g cells at top)
      → ((values : List Val) → step_instruction g.store (frame_of g) op values p.rest
      ≡ continue_after (frame_of g) (select_operand g.store (frame_of g) values) p.rest)
      → counts_of g.code.signatures op ≡ Some (counts 3 1) → (t : ValType) → Operands op g cells at top p (ty.I32 ∷ t ∷ t ∷ []) → (3 ≤ top)
      × IsCellOf ty.I32 (get_or cells (top - 1) 0) × Chosen × IsDear g cells at top
  selected op p step counted t w =
      let second : ℕ = get_or cells (top - 2) 0 in
      let first : ℕ = get_or cells (top - 3) 0 in
      let steps : (n : ℕ) → get_or cells (top - 1) 0 ≡ n → step_instruction g.store (frame_of g) op p.values p.rest
      ≡ continue_after (frame_of g) (select_operand g.store (frame_of g) (I32 n ∷ (value_of t (get_or cells (top - 2) 0) ∷ (value_of t (get_or cells (top - 3) 0) ∷ w.popped.others)))) p.rest =
      λ n is. step p.values ∙ ap (λ (vs : List Val). continue_after (frame_of g) (select_operand g.store (frame_of g) vs) p.rest)
      (w.are ∙ ap (λ (k : ℕ). I32 k ∷ (value_of t (get_or cells (top - 2) 0) ∷ (value_of t (get_or cells (top - 3) 0) ∷ w.popped.others))) is) in (
        w.enough,
        w.fits.0,
        (
          omega (arith, w.enough),
          w.inside,
          λ is_zero. puts op g cells at top p 3 (top - 3) w.popped second (value_of t second) (cell-of-value t second) counted (steps 0 is_zero),
          λ not_zero.
              let (m, more) = positive (get_or cells (top - 1) 0) not_zero in
              puts op g cells at top p 3 (top - 3) w.popped first (value_of t first) (cell-of-value t first) counted (steps (suc m) more),
        ),
        dear-here op g cells at top p (subst CostsOne (sym (steps (get_or cells (top - 1) 0) refl))
            (select-costs g.store (frame_of g) (get_or cells (top - 1) 0) (value_of t second) (value_of t first) w.popped.others p.rest)),
      )

  untyped : (p : AtPlain (plain.Parametric Select) g cells at top) → (3 ≤ top) × IsCellOf ty.I32 (get_or cells (top - 1) 0) × Chosen × IsDear g cells at top
  untyped p =
      let op = plain.Parametric Select in
      let f : Inner (here op g cells at top p) = found op g cells at top p in
      let (operands, results, between, (t, numeric, takes, gives), frames, runs) = f.runs in
      let (u, t_is) = first-known _ operands results between frames t (t ∷ Known ty.I32 ∷ []) takes in
      selected op p (λ values. refl) refl u
      (operands-here op g cells at top p (function_type (u ∷ u ∷ ty.I32 ∷ []) (u ∷ [])) (ty.I32 ∷ u ∷ u ∷ []) refl operands results between
      (takes ∙ ap (λ (o : OperandType). o ∷ o ∷ Known ty.I32 ∷ []) t_is, gives ∙ ap (λ (o : OperandType). o ∷ []) t_is) f frames)

  typed : (types : List ValType) (p : AtPlain (plain.SelectTyped types) g cells at top) → (3 ≤ top) × IsCellOf ty.I32 (get_or cells (top - 1) 0) × Chosen × IsDear g cells at top
  typed types p =
      let op = plain.SelectTyped types in
      let f : Inner (here op g cells at top p) = found op g cells at top p in
      let (operands, results, between, (t, types_are, type), frames, runs) = f.runs in
      selected op p (λ values. refl) refl t
      (operands-here op g cells at top p (function_type (t ∷ t ∷ ty.I32 ∷ []) (t ∷ [])) (ty.I32 ∷ t ∷ t ∷ []) refl operands results between type f frames)

pub selects : Selects
selects g cells at top b =
    let (written, op_is, p) = at-written (plain.Parametric Select) g cells at top b in by written p (written-select written op_is)
  where
    by : (written : PlainOp) → AtPlain written g cells at top → (written ≡ plain.Parametric Select) ⊎ ((types : List ValType) × (written ≡ plain.SelectTyped types))
        → (3 ≤ top) × IsCellOf ty.I32 (get_or cells (top - 1) 0) × Chosen g cells at top × IsDear g cells at top
    by written p (inl is) = untyped g cells at top (subst (λ (o : PlainOp). AtPlain o g cells at top) is p)
    by written p (inr (types, is)) = typed g cells at top types (subst (λ (o : PlainOp). AtPlain o g cells at top) is p)

-- ---- references

null-cell : (t : RefType) → cell_of (null_of t) ≡ 0
null-cell ref.FuncRef = refl
null-cell ref.ExternRef = refl

pub puts-null : PutsNull
puts-null t = puts-one (plain.Reference (Null t)) (tt {0}) 0 (null_of t) (null-cell t) (λ s. refl) (λ store frame values rest. refl)

-- A null's cell is zero.
null-goes : (store : Store) (frame : Frame) (t : RefType) (values : List Val) (rest : Body)
    → step_instruction store frame (plain.Reference IsNull) (value_of (reference_type t) 0 ∷ values) rest ≡ Goes 1 store frame (Running (I32 1 ∷ values) rest)
null-goes store frame ref.FuncRef values rest = refl
null-goes store frame ref.ExternRef values rest = refl

other-goes : (store : Store) (frame : Frame) (t : RefType) (n : ℕ) (values : List Val) (rest : Body)
    → step_instruction store frame (plain.Reference IsNull) (value_of (reference_type t) (suc n) ∷ values) rest
    ≡ Goes 1 store frame (Running (I32 0 ∷ values) rest)
other-goes store frame ref.FuncRef n values rest = refl
other-goes store frame ref.ExternRef n values rest = refl

null-costs : (store : Store) (frame : Frame) (t : RefType) (n : ℕ) (values : List Val) (rest : Body)
    → CostsOne (step_instruction store frame (plain.Reference IsNull) (value_of (reference_type t) n ∷ values) rest)
null-costs store frame t zero values rest = subst CostsOne (sym (null-goes store frame t values rest)) refl
null-costs store frame t (suc n) values rest = subst CostsOne (sym (other-goes store frame t n values rest)) refl

pub tests-null : TestsNull
tests-null g cells at top b =
    let op = plain.Reference IsNull in
    let p : AtPlain op g cells at top = at-plain op (tt {0}) g cells at top b in
    let f : Inner (here op g cells at top p) = found op g cells at top p in
    let (operands, results, between, (t, type), frames, runs) = f.runs in
    let w : Operands op g cells at top p (reference_type t ∷ []) = operands-here op g cells at top p
    (function_type (reference_type t ∷ []) (ty.I32 ∷ [])) (reference_type t ∷ []) refl operands results between type f frames in
    let steps : (n : ℕ) → get_or cells (top - 1) 0 ≡ n → step_instruction g.store (frame_of g) op p.values p.rest
    ≡ step_instruction g.store (frame_of g) op (value_of (reference_type t) n ∷ w.popped.others) p.rest =
    λ n is. ap (λ (vs : List Val). step_instruction g.store (frame_of g) op vs p.rest) (w.are ∙ ap (λ (k : ℕ). value_of (reference_type t) k ∷ w.popped.others) is) in (
      (
        w.enough,
        w.inside,
        λ is_zero. puts op g cells at top p 1 (top - 1) w.popped 1 (I32 1) refl refl (steps 0 is_zero ∙ null-goes g.store (frame_of g) t w.popped.others p.rest),
        λ not_zero.
            let (m, more) = positive (get_or cells (top - 1) 0) not_zero in
            puts op g cells at top p 1 (top - 1) w.popped 0 (I32 0) refl refl (steps (suc m) more ∙ other-goes g.store (frame_of g) t m w.popped.others p.rest),
      ),
      dear-here op g cells at top p (subst CostsOne (sym (steps (get_or cells (top - 1) 0) refl)) (null-costs g.store (frame_of g) t (get_or cells (top - 1) 0) w.popped.others p.rest)),
    )

pub refers-to-function : RefersToFunction
refers-to-function g cells at top x b =
    let op = plain.Reference (Func x) in
    let p : AtPlain op g cells at top = at-plain op (tt {0}) g cells at top b in
    let f : Inner (here op g cells at top p) = found op g cells at top p in
    let (operands, results, between, (t, there, named, type), frames, runs) = f.runs in
    let (address, h, is, held, same) = types-found _ _ g.store.functions (instance_of g.store (Some g.instance)).functions x t
    (instance-valid g.store p.runs.typed.valid (Some g.instance)).functions there in
    let one_more : suc address ≡ address + 1 = omega arith in
    let (room, put, dear) = pushes op g cells at top p (address + 1) (FuncRef (Some address)) one_more refl (rw is refl) in
    (address, is, room, put, dear)
