-- Effects on locals and globals.
use Rattle.std.proofs.Common.{◌≡◌, ℕ, ◌<◌, List, [], ◌∷◌, length, Some, refl, slice_get, slice_set}
use Rattle.std.proofs.lemmas.Option.{slice_get_within}
use Rattle.core_types.specs.declared.op.VariableOp.{VariableOp}
use Rattle.core_types.specs.declared.op.VariableOp.TheVariants.{LocalGet, LocalSet, LocalTee, GlobalGet, GlobalSet}
use Rattle.core_types.specs.declared.outcome.Val.{Val}
use Rattle.core_types.specs.declared.types.GlobalType.{GlobalType}
use Rattle.core_types.specs.declared.types.Mutability.TheVariants.{Var}
use Rattle.core_types.specs.declared.types.OperandType.{OperandType}
use Rattle.core_types.specs.declared.types.ValType.{ValType}
use Rattle.meaning.specs.execution.Configurations.{Frame}
use Rattle.meaning.specs.execution.Costs.{instruction_cost}
use Rattle.meaning.specs.execution.Effects.{Done, Lacks, set_local, variable_effect}
use Rattle.meaning.specs.execution.Store.{GlobalInstance, Store, instance_of, with_global}
use Rattle.meaning.specs.soundness.Values.{ValueHasType, ValuesHaveTypes}
use Rattle.meaning.specs.validation.Instructions.{variable_rule}
use Rattle.meaning.specs.validation.Types.{function_type}
use Rattle.soundness.specs.Configurations.{FrameHasPlace}
use Rattle.soundness.specs.Places.{Place, context_at}
use Rattle.soundness.specs.Stores.{GlobalIsValid, GlobalStays, StoreIsValid}
use Rattle.soundness.proofs.Effects.{EffectIsGood, Follows-same, stays}
use Rattle.soundness.proofs.Extension.{instance-valid, types-found}
use Rattle.soundness.proofs.Locals.{Works, WorksAs, if-below}
use Rattle.soundness.proofs.Operands.{value-on-top}
use Rattle.soundness.proofs.Values.{All-at, values-at, values-set}
use Rattle.soundness.proofs.Writes.{global-extends, global-valid, leaves}

module _ (store : Store) (valid : StoreIsValid store) (place : Place) (frame : Frame) (own : FrameHasPlace store frame place) where
  good : (cost : ℕ) (values : List Val) (stack : List ValType) → ValuesHaveTypes store values stack → EffectIsGood store place stack (Done cost store frame.locals values)
  good cost values stack typed = stays store valid place frame own cost values stack typed

  -- ---- locals

  local-gets : (x : ℕ) (t : ValType) → slice_get place.locals x ≡ Some t → WorksAs store place (function_type [] (t ∷ [])) (variable_effect store frame (LocalGet x))
  local-gets x t is values below typed =
      let (v, at, v_typed) = values-at store frame.locals place.locals x t own.1 is in
      rw at (good instruction_cost (v ∷ values) (t ∷ below) (v_typed, typed))

  local-set : (x : ℕ) (t : ValType) → slice_get place.locals x ≡ Some t → (v : Val) → ValueHasType store v t → (values : List Val) (stack : List ValType) → ValuesHaveTypes store values stack
      → EffectIsGood store place stack (set_local store frame x v values)
  local-set x t is v v_typed values stack typed =
      let (w, at, w_typed) = values-at store frame.locals place.locals x t own.1 is in
      let inside : x < length frame.locals = slice_get_within frame.locals x w at in
      rw (if-below x (length frame.locals) (Done instruction_cost store (slice_set frame.locals x v) values) Lacks inside)
      (Follows-same store, valid, values-set store frame.locals place.locals x t v own.1 is v_typed, typed)

  local-sets : (x : ℕ) (t : ValType) → slice_get place.locals x ≡ Some t → WorksAs store place (function_type (t ∷ []) []) (variable_effect store frame (LocalSet x))
  local-sets x t at values below typed =
      let (v, rest, is, v_typed, left) = value-on-top store values below t typed in
      rw is (local-set x t at v v_typed rest below left)

  local-tees : (x : ℕ) (t : ValType) → slice_get place.locals x ≡ Some t → WorksAs store place (function_type (t ∷ []) (t ∷ [])) (variable_effect store frame (LocalTee x))
  local-tees x t at values below typed =
      let (v, rest, is, v_typed, left) = value-on-top store values below t typed in
      rw is (local-set x t at v v_typed (v ∷ rest) (t ∷ below) (v_typed, left))

  -- ---- globals

  module _ (x : ℕ) (ty : GlobalType) (there : slice_get (context_at store place).globals x ≡ Some ty) where
    found-global : (address : ℕ) × (g : GlobalInstance) × (slice_get (instance_of store place.instance).globals x ≡ Some address) × (slice_get store.globals address ≡ Some g) × (g.ty ≡ ty)
    found-global = types-found _ _ store.globals (instance_of store place.instance).globals x ty (instance-valid store valid place.instance).globals there

    global-gets : WorksAs store place (function_type [] (ty.value ∷ [])) (variable_effect store frame (GlobalGet x))
    global-gets values below typed =
        let (address, g, at, is, same) = found-global in
        let held : ValueHasType store g.value ty.value = rw same at (All-at (GlobalIsValid store) store.globals address g is valid.globals) in
        rw (own.0, at, is) (good instruction_cost (g.value ∷ values) (ty.value ∷ below) (held, typed))

    global-sets : ty.mutability ≡ Var → WorksAs store place (function_type (ty.value ∷ []) []) (variable_effect store frame (GlobalSet x))
    global-sets variable values below typed =
        let (v, rest, top, v_typed, left) = value-on-top store values below ty.value typed in
        let (address, g, at, is, same) = found-global in
        let fits : ValueHasType store v g.ty.value = rw same v_typed in
        let stays : GlobalStays g (record { ty = g.ty; value = v }) = (refl, λ constant. absurd cc) in
        rw (top, own.0, at, is)
        (leaves store valid place frame own (with_global store address (record { ty = g.ty; value = v })) (global-extends store valid address g v is stays fits)
        (global-valid store valid address g v is stays fits) refl instruction_cost rest below left)

  pub variable-works : (op : VariableOp) (operands results : List OperandType) → variable_rule (context_at store place) op operands results
      → Works store place operands results (variable_effect store frame op)
  variable-works (LocalGet x) operands results (t, is, type) given known_are = (function_type [] (t ∷ []), type, local-gets x t is)
  variable-works (LocalSet x) operands results (t, is, type) given known_are = (function_type (t ∷ []) [], type, local-sets x t is)
  variable-works (LocalTee x) operands results (t, is, type) given known_are = (function_type (t ∷ []) (t ∷ []), type, local-tees x t is)
  variable-works (GlobalGet x) operands results (g, is, type) given known_are = (function_type [] (g.value ∷ []), type, global-gets x g is)
  variable-works (GlobalSet x) operands results (g, is, variable, type) given known_are = (function_type (g.value ∷ []) [], type, global-sets x g is variable)
