-- Calls, on the machine, and the functions that they find.
use Rattle.std.proofs.Common.{◌≡◌, ℕ, ◌-◌, ◌<◌, List, true, false, length, slice_get, refl, ap, sym, subst, ◌∙◌, arith, length-append}
use Rattle.std.specs.Prelude.{Option, Some, None, Ok, Err, ◌∷◌, []}
use Rattle.std.proofs.lemmas.List.{length-map}
use Rattle.std.proofs.lemmas.Option.{same_Some, slice_get_within}
use Rattle.core_types.specs.declared.op.PlainOp.{PlainOp}
use Rattle.core_types.specs.declared.outcome.Trap.{Trap}
use Rattle.core_types.specs.declared.outcome.Trap.TheVariants.{UndefinedElement, UninitializedElement}
use Rattle.core_types.specs.declared.outcome.Val.{Val}
use Rattle.core_types.specs.declared.outcome.Val.TheVariants.{ExternRef, FuncRef, I32, I64}
use Rattle.core_types.specs.declared.types.FuncType.{FuncType}
use Rattle.core_types.specs.declared.types.ValType.TheVariants as ty
use Rattle.meaning.specs.execution.Store.{FunctionInstance, Store}
use Rattle.meaning.proofs.lemmas.SameTypes.{function_type_decided}
use Rattle.sidetable.specs.Flat.{Plain}
use Rattle.simulation.specs.Callees.{CallsEntry, CostsAround, FindsFunction, FindsTable, ReachesCall}
use Rattle.simulation.specs.Instructions.{IsTrapped}
use Rattle.simulation.specs.Runs.{Ghost, IsBefore}
use Rattle.simulation.proofs.Callees.{calls-by-name, tail-calls-by-name}
use Rattle.simulation.proofs.TableCalls.{calls-through, tail-calls-through}
use Rattle.store.specs.Contents.{Contents, IsCalleeAt, callee_function, function_at, functions_in}
use Rattle.interpreter.specs.Callees.{FindsEntry, IsCalled, RefersToFunction, by_name, through_table}
use Rattle.interpreter.specs.Running.{Machine, RunsAt, cells_in, height_in}
use Rattle.interpreter.specs.Operations.{CallsByName, CallsThrough, CostsOne, function_address, table_address}
use Rattle.interpreter.specs.Worlds.{World}
use Rattle.interpreter.specs.declared.callees.Found.{Found}
use Rattle.interpreter.specs.declared.machine.CallKind.{CallKind}
use Rattle.interpreter.specs.declared.machine.CallKind.TheVariants.{Nested, Tail}
use Rattle.interpreter.proofs.Forms.{HasOwn, IsAt, has-operands, topmost}
use Rattle.interpreter.proofs.Worlds.{TableThere, function-there, table-there, type-there}

-- The call finds its function, or its table.
found-by-name : (kind : CallKind) (g : Ghost) (cells : List ℕ) (at top x : ℕ) → IsBefore (Plain (by_name kind x)) g cells at top
    → FindsFunction g x (λ address function. IsCalled kind (by_name kind x) address function g cells at top top) × CostsAround g cells at top
found-by-name Nested g cells at top x b = calls-by-name g cells at top x b
found-by-name Tail g cells at top x b = tail-calls-by-name g cells at top x b

found-through : (kind : CallKind) (g : Ghost) (cells : List ℕ) (at top type x : ℕ) → IsBefore (Plain (through_table kind type x)) g cells at top
    → FindsTable g cells at top type x (λ address function. IsCalled kind (through_table kind type x) address function g cells at top (top - 1)) × CostsAround g cells at top
found-through Nested g cells at top type x b = calls-through g cells at top type x b
found-through Tail g cells at top type x b = tail-calls-through g cells at top type x b

pub reached-by : (kind : CallKind) (op : PlainOp) (address : ℕ) (function : FunctionInstance) (g : Ghost) (cells : List ℕ) (at top height : ℕ)
    → IsCalled kind op address function g cells at top height → ReachesCall op address function g cells at top height
reached-by Nested op address function g cells at top height c = c.reached
reached-by Tail op address function g cells at top height c = c.reached

module _ (w : World) (m : Machine) (g : Ghost) (r : RunsAt w m g) (kind : CallKind) where
  pub calls-there : (x : ℕ) → IsAt m g (Plain (by_name kind x)) → (x < length w.instance.addresses.functions.items) × (CallsByName kind w m g x × CostsOne g m)
  calls-there x b =
      let ((address, function, named, calling), costs) = found-by-name kind g (cells_in g m) m.place (height_in m) x b in
      let (inside, is) = function-there w m g r x address named in
      let c : ReachesCall (by_name kind x) address function g (cells_in g m) m.place (height_in m) (height_in m) = reached-by kind (by_name kind x)
      address function g (cells_in g m) m.place (height_in m) (height_in m) calling in
      let there : slice_get (functions_in w.code) (function_address w x) ≡ Some function =
      ap (slice_get (functions_in w.code)) is ∙ ap (λ (s : Store). slice_get s.functions address) (sym (c.store ∙ r.store)) ∙ c.there in
      (inside, ((function, there, subst (λ (a : ℕ). IsCalled kind (by_name kind x) a function g (cells_in g m) m.place (height_in m) (height_in m)) (sym is) calling), costs))

  pub calls-through-there : (type x : ℕ) → IsAt m g (Plain (through_table kind type x))
      → (HasOwn g m 1 × (type < length w.instance.loaded.value.source.types) × (x < length w.instance.addresses.tables.items) × (table_address w.instance x < length w.state.contents.tables))
      × (CallsThrough kind w m g type x × CostsOne g m)
  calls-through-there type x b =
      let ((address, table, has_table, wanted, named, operands, one, is_cell, entries), costs) = found-through kind g (cells_in g m) m.place (height_in m) type x b in
      let some : HasOwn g m 1 = has-operands w m g r 1 (let above = operands.above in let size = length-append wanted.params (ty.I32 ∷ []) in omega (arith, above, size)) (omega arith) in
      let (type_inside, type_is) = type-there w m g r type wanted named in
      let t : TableThere w m g r x table = table-there w m g r x address table has_table in (
        (some, type_inside, t.named, t.inside),
        (
          λ entry is.
              subst (λ (u : FuncType). CallsEntry g (cells_in g m) m.place (height_in m)
              (λ a function. IsCalled kind (through_table kind type x) a function g (cells_in g m) m.place (height_in m) (height_in m - 1)) u
              entry) (sym type_is)
              (entries entry (ap (slice_get table.entries) (topmost w m g r 1 (omega arith) some.0) ∙ sym (t.entry m.operand) ∙ is)),
          costs,
        ),
      )

-- The function found at an address is among those that are kept.
pub within-code : (code : Contents) (address : ℕ) (f : FunctionInstance) → slice_get (functions_in code) address ≡ Some f → address < length code.functions
within-code code address f there =
    let inside = slice_get_within (functions_in code) address f there in
    let as_many = length-map code.functions (function_at code.hosts code.instances) in
    omega (arith, inside, as_many)

-- ---- by an entry

module _ (code : Contents) (g : Ghost) (store : (address : ℕ) → slice_get (functions_in code) address ≡ slice_get g.store.functions address)
    (cells : List ℕ) (at top : ℕ) (Called : ℕ → FunctionInstance → Type 0) (wanted : FuncType) where
  pub refers : (entry : Option Val) → CallsEntry g cells at top Called wanted entry → RefersToFunction code entry
  refers None calls = tt
  refers (Some (FuncRef None)) calls = tt
  refers (Some (FuncRef (Some address))) (function, there, other, same) = within-code code address function (store address ∙ there)
  refers (Some (I32 n)) calls = absurd calls
  refers (Some (I64 n)) calls = absurd calls
  refers (Some (ExternRef n)) calls = absurd calls

  pub entry-traps : (entry : Option Val) (trap : Trap) → FindsEntry code wanted entry (Err trap) → CallsEntry g cells at top Called wanted entry → IsTrapped g cells at top trap
  entry-traps None trap finds calls = let is : trap ≡ UndefinedElement = cc in subst (IsTrapped g cells at top) (sym is) calls
  entry-traps (Some (FuncRef None)) trap finds calls = let is : trap ≡ UninitializedElement = cc in subst (IsTrapped g cells at top) (sym is) calls
  entry-traps (Some (FuncRef (Some address))) trap (is, named, found, differs) (function, there, other, same) =
      let one : named ≡ function = same_Some named function (sym found ∙ store address ∙ there) in
      subst (IsTrapped g cells at top) (sym is) (other (function_type_decided false function.ty wanted (λ wrong. absurd cc, λ e. absurd (differs (ap (λ (f : FunctionInstance). f.ty) one ∙ e)))))
  entry-traps (Some (I32 n)) trap finds calls = absurd calls
  entry-traps (Some (I64 n)) trap finds calls = absurd calls
  entry-traps (Some (ExternRef n)) trap finds calls = absurd calls

  pub entry-calls : (entry : Option Val) (f : Found) → FindsEntry code wanted entry (Ok f) → CallsEntry g cells at top Called wanted entry → Called f.address (callee_function f.callee)
  entry-calls None f finds calls = absurd cc
  entry-calls (Some (FuncRef None)) f finds calls = absurd cc
  entry-calls (Some (FuncRef (Some address))) f (is, found, type_is) (function, there, other, same) =
      let one : function ≡ callee_function f.callee = same_Some function (callee_function f.callee) (sym there ∙ sym (store address) ∙ found.there) in
      let equal : function.ty ≡ wanted = ap (λ (i : FunctionInstance). i.ty) one ∙ type_is in
      subst (λ (a : ℕ). Called a (callee_function f.callee)) (sym is) (subst (Called address) one (same (function_type_decided true function.ty wanted (λ yes. equal, λ e. refl))).1)
  entry-calls (Some (I32 n)) f finds calls = absurd calls
  entry-calls (Some (I64 n)) f finds calls = absurd calls
  entry-calls (Some (ExternRef n)) f finds calls = absurd calls

-- The function found through an entry exists.
pub entry-found : (code : Contents) (wanted : FuncType) (entry : Option Val) (f : Found) → FindsEntry code wanted entry (Ok f) → IsCalleeAt code f.address f.callee
entry-found code wanted None f finds = absurd cc
entry-found code wanted (Some (FuncRef None)) f finds = absurd cc
entry-found code wanted (Some (FuncRef (Some address))) f (is, found, type_is) = subst (λ (a : ℕ). IsCalleeAt code a f.callee) (sym is) found
entry-found code wanted (Some (I32 n)) f finds = absurd finds
entry-found code wanted (Some (I64 n)) f finds = absurd finds
entry-found code wanted (Some (ExternRef n)) f finds = absurd finds
