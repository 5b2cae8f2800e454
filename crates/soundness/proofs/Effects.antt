-- What a good effect is, and effects that leave the store unchanged: constants, numbers, parametric instructions, references and locals.
use Rattle.std.proofs.Common.{ℕ, ◌<◌, ◌≤◌, ◌^◌, List, ◌∷◌, ◌++◌, reverse, refl, arith, inl}
use Rattle.std.specs.Prelude.{Result, Ok, Err, IfOk}
use Rattle.core_types.specs.declared.op.Conversion.TheVariants.{I32WrapI64, I64ExtendI32S, I64ExtendI32U, I64Extend32S}
use Rattle.core_types.specs.declared.op.NumericOp.{NumericOp}
use Rattle.core_types.specs.declared.op.NumericOp.TheVariants.{Eqz, Compare, Unary, Binary, Convert}
use Rattle.core_types.specs.declared.op.Width.TheVariants.{W32, W64}
use Rattle.core_types.specs.declared.outcome.Trap.{Trap}
use Rattle.core_types.specs.declared.outcome.Val.{Val}
use Rattle.core_types.specs.declared.outcome.Val.TheVariants.{I32, I64}
use Rattle.core_types.specs.declared.types.ValType.{ValType}
use Rattle.core_types.specs.declared.types.ValType.TheVariants as ty
use Rattle.meaning.specs.execution.Configurations.{Frame}
use Rattle.meaning.specs.execution.Costs.{instruction_cost}
use Rattle.meaning.specs.execution.Effects.{Effect, Done, Grown, Fails, Lacks, numeric_effect, push_result}
use Rattle.meaning.specs.execution.Numerics.{binary_operator, comparison_operator, conversion_operator, eqz_operator, unary_operator}
use Rattle.meaning.specs.execution.Store.{Store}
use Rattle.meaning.specs.soundness.Values.{ValuesHaveTypes}
use Rattle.meaning.specs.validation.Instructions.{numeric_instruction_type}
use Rattle.meaning.proofs.lemmas.OperatorRanges.{binary_range, comparison_range, conversion_range, eqz_range, unary_range}
use Rattle.soundness.specs.Configurations.{FrameHasPlace}
use Rattle.soundness.specs.Places.{Place}
use Rattle.soundness.specs.Stores.{Extends, Follows, StoreIsValid}
use Rattle.soundness.proofs.Operands.{i32-on-top, i64-on-top}

-- What an instruction without control must do at a place. It gives values of these types, over a store that is valid and extended, and
-- leaves the types of the locals. Or it traps.
abbrev pub EffectIsGood : Store → Place → (stack : List ValType) → Effect → Type 0
EffectIsGood old place stack (Done cost store locals values) =
    Follows old store × StoreIsValid store × ValuesHaveTypes store locals place.locals × ValuesHaveTypes store values stack
EffectIsGood old place stack (Grown cost store locals values) =
    Follows old store × StoreIsValid store × ValuesHaveTypes store locals place.locals × ValuesHaveTypes store values stack
EffectIsGood old place stack (Fails trap) = Unit {0}
EffectIsGood old place stack Lacks = ⊥

pub Extends-same : (store : Store) → Extends store store
Extends-same store = record {
  functions = λ address f is. (f, is, refl);
  instances = λ address i is. (i, is, refl);
  tables = λ address t is. (t, is, (refl, (omega (arith), refl)));
  memories = λ address m is. (m, is, (omega (arith), refl));
  globals = λ address g is. (g, is, (refl, λ constant. refl));
  elements = λ address e is. (e, is, (refl, inl refl));
  datas = λ address d is. (d, is, inl refl);
  pages = refl;
  entries = refl;
}

pub Follows-same : (store : Store) → Follows store store
Follows-same store = record { extends = Extends-same store; functions = refl }

module _ (store : Store) (valid : StoreIsValid store) (place : Place) (frame : Frame) (own : FrameHasPlace store frame place) where
  -- The store and the locals stay.
  pub stays : (cost : ℕ) (values : List Val) (stack : List ValType) → ValuesHaveTypes store values stack → EffectIsGood store place stack (Done cost store frame.locals values)
  stays cost values stack typed = (Follows-same store, valid, own.1, typed)

  -- ---- numbers

  small : (n : ℕ) → n ≤ 1 → n < 2 ^ 32
  small n at_most = omega (arith, at_most)

  module _ (values : List Val) (below : List ValType) (typed : ValuesHaveTypes store values below) where
    pushed-32 : (r : Result ℕ Trap) → IfOk r (λ n. n < 2 ^ 32) → EffectIsGood store place (ty.I32 ∷ below) (push_result store frame I32 r values)
    pushed-32 (Ok n) fits = stays instruction_cost (I32 n ∷ values) (ty.I32 ∷ below) ((refl, fits), typed)
    pushed-32 (Err trap) fits = tt

    pushed-64 : (r : Result ℕ Trap) → IfOk r (λ n. n < 2 ^ 64) → EffectIsGood store place (ty.I64 ∷ below) (push_result store frame I64 r values)
    pushed-64 (Ok n) fits = stays instruction_cost (I64 n ∷ values) (ty.I64 ∷ below) ((refl, fits), typed)
    pushed-64 (Err trap) fits = tt

  pub numeric-good : (op : NumericOp) (values : List Val) (below : List ValType)
      → ValuesHaveTypes store values (reverse (numeric_instruction_type op).params ++ below)
      → EffectIsGood store place (reverse (numeric_instruction_type op).results ++ below) (numeric_effect store frame op values)
  numeric-good (Eqz W32) values below typed =
      let (n, rest, is, fits, others) = i32-on-top store values below typed in
      rw is (stays instruction_cost (I32 (eqz_operator n) ∷ rest) (ty.I32 ∷ below) ((refl, small _ (eqz_range n)), others))
  numeric-good (Eqz W64) values below typed =
      let (n, rest, is, fits, others) = i64-on-top store values below typed in
      rw is (stays instruction_cost (I32 (eqz_operator n) ∷ rest) (ty.I32 ∷ below) ((refl, small _ (eqz_range n)), others))
  numeric-good (Compare W32 op) values below typed =
      let (b, first, is, fits, more) = i32-on-top store values (ty.I32 ∷ below) typed in
      let (a, rest, then, fits', others) = i32-on-top store first below more in
      rw (is, then) (stays instruction_cost (I32 (comparison_operator 32 op a b) ∷ rest) (ty.I32 ∷ below) ((refl, small _ (comparison_range 32 op a b)), others))
  numeric-good (Compare W64 op) values below typed =
      let (b, first, is, fits, more) = i64-on-top store values (ty.I64 ∷ below) typed in
      let (a, rest, then, fits', others) = i64-on-top store first below more in
      rw (is, then) (stays instruction_cost (I32 (comparison_operator 64 op a b) ∷ rest) (ty.I32 ∷ below) ((refl, small _ (comparison_range 64 op a b)), others))
  numeric-good (Unary W32 op) values below typed =
      let (n, rest, is, fits, others) = i32-on-top store values below typed in
      rw is (stays instruction_cost (I32 (unary_operator 32 op n) ∷ rest) (ty.I32 ∷ below) ((refl, unary_range 32 op n), others))
  numeric-good (Unary W64 op) values below typed =
      let (n, rest, is, fits, others) = i64-on-top store values below typed in
      rw is (stays instruction_cost (I64 (unary_operator 64 op n) ∷ rest) (ty.I64 ∷ below) ((refl, unary_range 64 op n), others))
  numeric-good (Binary W32 op) values below typed =
      let (b, first, is, fits, more) = i32-on-top store values (ty.I32 ∷ below) typed in
      let (a, rest, then, fits', others) = i32-on-top store first below more in
      rw (is, then) (pushed-32 rest below others (binary_operator 32 op a b) (binary_range 32 op a b (omega (arith)) fits' fits))
  numeric-good (Binary W64 op) values below typed =
      let (b, first, is, fits, more) = i64-on-top store values (ty.I64 ∷ below) typed in
      let (a, rest, then, fits', others) = i64-on-top store first below more in
      rw (is, then) (pushed-64 rest below others (binary_operator 64 op a b) (binary_range 64 op a b (omega (arith)) fits' fits))
  numeric-good (Convert I32WrapI64) values below typed =
      let (n, rest, is, fits, others) = i64-on-top store values below typed in
      rw is (stays instruction_cost (I32 (conversion_operator I32WrapI64 n) ∷ rest) (ty.I32 ∷ below) ((refl, omega (arith)), others))
  numeric-good (Convert I64ExtendI32S) values below typed =
      let (n, rest, is, fits, others) = i32-on-top store values below typed in
      rw is (stays instruction_cost (I64 (conversion_operator I64ExtendI32S n) ∷ rest) (ty.I64 ∷ below) ((refl, conversion_range I64ExtendI32S n (omega (arith, fits))), others))
  numeric-good (Convert I64ExtendI32U) values below typed =
      let (n, rest, is, fits, others) = i32-on-top store values below typed in
      rw is (stays instruction_cost (I64 (conversion_operator I64ExtendI32U n) ∷ rest) (ty.I64 ∷ below) ((refl, conversion_range I64ExtendI32U n (omega (arith, fits))), others))
  numeric-good (Convert I64Extend32S) values below typed =
      let (n, rest, is, fits, others) = i64-on-top store values below typed in
      rw is (stays instruction_cost (I64 (conversion_operator I64Extend32S n) ∷ rest) (ty.I64 ∷ below) ((refl, conversion_range I64Extend32S n fits), others))
