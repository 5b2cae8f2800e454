-- Operands of an instruction: values of its types, and their cells.
use Rattle.std.proofs.Common.{◌≡◌, ℕ, suc, ◌+◌, ◌-◌, ◌^◌, ◌<◌, ◌≤◌, List, [], ◌∷◌, ◌++◌, length, map, reverse, take, get_or, refl, ap, sym, subst, ◌∙◌, arith}
use Rattle.std.specs.Prelude.{Some, None}
use Rattle.core_types.specs.declared.op.PlainOp.{PlainOp}
use Rattle.core_types.specs.declared.outcome.Val.{Val}
use Rattle.core_types.specs.declared.outcome.Val.TheVariants.{I32, I64, FuncRef, ExternRef}
use Rattle.core_types.specs.declared.types.FuncType.{FuncType}
use Rattle.core_types.specs.declared.types.OperandType.{OperandType}
use Rattle.core_types.specs.declared.types.ValType.{ValType}
use Rattle.meaning.specs.execution.Store.{Store}
use Rattle.meaning.specs.soundness.Values.{ValueHasType, ValuesHaveTypes}
use Rattle.meaning.specs.validation.Instructions.{TakesAndGives, HasFuncType, known}
use Rattle.soundness.proofs.Operands.{operands-on-top}
use Rattle.cells.specs.Cells.{IsCellOf, cell_of, value_of}
use Rattle.simulation.specs.Piles.{cells_of}
use Rattle.simulation.specs.Runs.{Ghost}
use Rattle.simulation.specs.Standing.{values_under}
use Rattle.simulation.proofs.Cells.{pile-pop, pile-top, value-read}
use Rattle.simulation.proofs.Plain.{AtPlain, here, pile-high, top-within}
use Rattle.simulation.proofs.Typed.{Inner}

-- ---- one cell

-- The cell of a value of a type is one of the type.
cell-fits : (store : Store) → length store.functions < 2 ^ 32 → (v : Val) (t : ValType) → ValueHasType store v t → IsCellOf t (cell_of v)
cell-fits store few (I32 n) t typed = rw typed.0 typed.1
cell-fits store few (I64 n) t typed = rw typed.0 typed.1
cell-fits store few (FuncRef None) t typed = rw typed.0 (omega arith)
cell-fits store few (FuncRef (Some a)) t typed = rw typed.0 (omega (arith, few, typed.1))
cell-fits store few (ExternRef None) t typed = rw typed.0 (omega arith)
cell-fits store few (ExternRef (Some x)) t typed = rw typed.0 (omega (arith, typed.1))

-- ---- cells in a row

-- The values of these types, the top first. Their cells are below a height, and that many of them were read.
abbrev pub operands_of : List ℕ → (top read : ℕ) → List ValType → List Val
operands_of cells top read [] = []
operands_of cells top read (t ∷ ts) = value_of t (get_or cells (top - suc read) 0) ∷ operands_of cells top (suc read) ts

-- These cells have the types.
abbrev pub AreOperands : List ℕ → (top read : ℕ) → List ValType → Type 0
AreOperands cells top read [] = Unit {0}
AreOperands cells top read (t ∷ ts) = IsCellOf t (get_or cells (top - suc read) 0) × AreOperands cells top (suc read) ts

module _ (store : Store) (few : length store.functions < 2 ^ 32) (cells base : List ℕ) (top : ℕ) (inside : top ≤ length cells) (lower : List Val) (below : List ValType) where
  pub record Reads (read : ℕ) (ts : List ValType) (values : List Val) : Type 0 where
    pub others : List Val
    pub are : values ≡ operands_of cells top read ts ++ others
    pub fits : AreOperands cells top read ts
    pub count : length values ≡ length ts + length others
    pub held : take (top - (read + length ts)) cells ≡ base ++ cells_of (others ++ lower)

  pub reads : (read : ℕ) (ts : List ValType) (values : List Val) → ValuesHaveTypes store values (ts ++ below) → take (top - read) cells ≡ base ++ cells_of (values ++ lower)
      → top - read ≡ length base + length (values ++ lower) → Reads read ts values
  reads read [] values typed held high =
      let same : read ≡ read + 0 = omega arith in
      record { others = values; are = refl; fits = tt; count = omega arith; held = subst (λ (n : ℕ). take (top - n) cells ≡ base ++ cells_of (values ++ lower)) same held }
  reads read (t ∷ ts) [] typed held high = absurd typed
  reads read (t ∷ ts) (v ∷ values) typed held high =
      let next : top - read - 1 ≡ top - suc read = omega arith in
      let tall : top - read ≡ length base + suc (length (values ++ lower)) = high in
      let cell : get_or cells (top - suc read) 0 ≡ cell_of v = rw next at (pile-top cells base (top - read) v (values ++ lower) held tall (omega (arith, inside))) in
      let popped : take (top - suc read) cells ≡ base ++ cells_of (values ++ lower) = rw next at (pile-pop cells base (top - read) v (values ++ lower) held tall (omega (arith, inside))) in
      let further : Reads (suc read) ts values = reads (suc read) ts values typed.1 popped (omega (arith, tall)) in
      let value : v ≡ value_of t (get_or cells (top - suc read) 0) = sym (ap (λ (n : ℕ). value_of t n) cell ∙ value-read store v t typed.0) in
      let more : suc read + length ts ≡ read + suc (length ts) = omega arith in record {
        others = further.others;
        are = ap (λ (w : Val). w ∷ values) value ∙ ap (λ (vs : List Val). value_of t (get_or cells (top - suc read) 0) ∷ vs) further.are;
        fits = (subst (λ (n : ℕ). IsCellOf t n) (sym cell) (cell-fits store few v t typed.0), further.fits);
        count = omega (arith, further.count);
        held = subst (λ (n : ℕ). take (top - n) cells ≡ base ++ cells_of (further.others ++ lower)) more further.held;
      }

-- ---- operands of an instruction

module _ (op : PlainOp) (g : Ghost) (cells : List ℕ) (at top : ℕ) (p : AtPlain op g cells at top) where
  -- That many values are popped, down to a height.
  pub record Popped (n low : ℕ) : Type 0 where
    pub others : List Val
    pub count : length p.values ≡ n + length others
    pub low_is : low + n ≡ top
    pub held : take low cells ≡ map cell_of g.locals ++ cells_of (others ++ values_under p.labels)

  abbrev pub none-popped : Popped 0 top
  none-popped = record { others = p.values; count = omega arith; low_is = omega arith; held = p.runs.holds.held }

  -- The operands of these types, the top first, are values of cells.
  pub record Operands (ts : List ValType) : Type 0 where
    pub popped : Popped (length ts) (top - length ts)
    pub are : p.values ≡ operands_of cells top 0 ts ++ popped.others
    pub fits : AreOperands cells top 0 ts
    pub enough : length ts ≤ top
    pub inside : top ≤ length cells

  -- Values of these types, the top first, on others.
  pub operands-typed : (ts below : List ValType) → ValuesHaveTypes g.store p.values (ts ++ below) → Operands ts
  operands-typed ts below typed =
      let zero_off : top - 0 ≡ top = omega arith in
      let inside = top-within _ cells at top p.runs in
      let high = pile-high _ cells at top p.runs in
      let r : Reads g.store p.runs.typed.valid.few.functions cells (map cell_of g.locals) top inside (values_under p.labels) below 0 ts p.values =
      reads g.store p.runs.typed.valid.few.functions cells (map cell_of g.locals) top inside (values_under p.labels) below 0 ts p.values typed (rw zero_off p.runs.holds.held) (rw zero_off high) in
      let all : 0 + length ts ≡ length ts = omega arith in
      let top_is = p.runs.holds.top_is in
      let count = r.count in
      let enough : length ts ≤ top = omega (arith, top_is, count) in record {
        popped = record {
          others = r.others;
          count = count;
          low_is = omega (arith, enough);
          held = subst (λ (n : ℕ). take (top - n) cells ≡ map cell_of g.locals ++ cells_of (r.others ++ values_under p.labels)) all r.held;
        };
        are = r.are;
        fits = r.fits;
        enough = enough;
        inside = inside;
      }

  pub operands-here : (s : FuncType) (ts : List ValType) → reverse s.params ≡ ts → (operands results between : List OperandType) → HasFuncType s operands results
      → (f : Inner (here op g cells at top p)) → TakesAndGives operands results (known (reverse f.stack)) between → Operands ts
  operands-here s ts params operands results between type f frames =
      let (below, stack_is, between_is) = operands-on-top f.stack s operands results between type frames in
      operands-typed ts below (subst (λ (us : List ValType). ValuesHaveTypes g.store p.values us) (stack_is ∙ ap (λ (us : List ValType). us ++ below) params) f.values)
