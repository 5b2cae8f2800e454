use Rattle.std.proofs.Common.{◌≡◌, ℕ, zero, suc, [], ◌∷◌, Bool, true, false, Some, refl, sym, subst, slice_get}
use Rattle.meaning.specs.execution.Store.{FunctionInstance, ModuleInstance}
use Rattle.soundness.proofs.Objects.{All-first, All-none}
use Rattle.isolation.specs.Regions.{FunctionIsWithin, Has, InstanceIsWithin, IsClosed, Region, marked}
use Rattle.isolation.specs.Rows.{FromFirst, FromSecond, and_two, function_in, host_function, instance_with, is_none, is_one, is_zero, region_with_host, with_host}
use Rattle.isolation.specs.Reach.{Data, Element, Function, Global, IsIn, IsReached, Memory, Place, Table, onward, start}
use Rattle.isolation.proofs.Reach.{least}
use Rattle.isolation.proofs.rows.a_host_function_of_two_instances_is_shared.Goals as goal

abbrev first : Region
first = marked (region_with_host is_zero)

abbrev second : Region
second = marked (region_with_host is_one)

-- One function and one memory of its own, and the host function.
whole : (only : ℕ → Bool) (own : ℕ) → and_two only own ≡ true → only own ≡ true → InstanceIsWithin (marked (region_with_host only)) (record (instance_with own) { functions = own ∷ (2 ∷ []) })
whole only own function memory = record {
  functions = All-first (Has (λ (n : ℕ). and_two only n ≡ true)) own (2 ∷ []) function
      (All-first (Has (λ (n : ℕ). and_two only n ≡ true)) 2 [] refl (All-none (Has (λ (n : ℕ). and_two only n ≡ true))));
  tables = All-none (Has (λ (n : ℕ). is_none n ≡ true));
  memories = All-first (Has (λ (n : ℕ). only n ≡ true)) own [] memory (All-none (Has (λ (n : ℕ). only n ≡ true)));
  globals = All-none (Has (λ (n : ℕ). is_none n ≡ true));
  elements = All-none (Has (λ (n : ℕ). is_none n ≡ true));
  datas = All-none (Has (λ (n : ℕ). is_none n ≡ true));
}

module _ (only : ℕ → Bool) where
  functions : (address : ℕ) (f : FunctionInstance) → Has (λ (n : ℕ). and_two only n ≡ true) address → slice_get with_host.functions address ≡ Some f
      → FunctionIsWithin (marked (region_with_host only)) f
  functions zero f has is = let same_function : function_in 0 ≡ f = cc in subst (FunctionIsWithin (marked (region_with_host only))) same_function has
  functions (suc zero) f has is = let same_function : function_in 1 ≡ f = cc in subst (FunctionIsWithin (marked (region_with_host only))) same_function has
  functions (suc (suc zero)) f has is = let same_function : host_function ≡ f = cc in subst (FunctionIsWithin (marked (region_with_host only))) same_function refl
  functions (suc (suc (suc n))) f has is = absurd cc

  instances : (address : ℕ) (i : ModuleInstance) → Has (λ (n : ℕ). only n ≡ true) address → slice_get with_host.instances address ≡ Some i → InstanceIsWithin (marked (region_with_host only)) i
  instances zero i has is = let same : record (instance_with 0) { functions = 0 ∷ (2 ∷ []) } ≡ i = cc in subst (InstanceIsWithin (marked (region_with_host only))) same (whole only 0 has has)
  instances (suc zero) i has is = let same : record (instance_with 1) { functions = 1 ∷ (2 ∷ []) } ≡ i = cc in subst (InstanceIsWithin (marked (region_with_host only))) same (whole only 1 has has)
  instances (suc (suc n)) i has is = absurd cc

  closed : IsClosed (marked (region_with_host only)) with_host
  closed = record {
    functions = functions;
    instances = instances;
    tables = λ address t has is. absurd cc;
    globals = λ address g has is. absurd cc;
    elements = λ address e has is. absurd cc;
  }

within-first : (place : Place) → IsReached with_host FromFirst place → IsIn first place
within-first place reached = least with_host first (closed is_zero) FromFirst (λ at is. subst (IsIn first) (sym is) refl) place reached

within-second : (place : Place) → IsReached with_host FromSecond place → IsIn second place
within-second place reached = least with_host second (closed is_one) FromSecond (λ at is. subst (IsIn second) (sym is) refl) place reached

not-both : (address : ℕ) → is_zero address ≡ true → is_one address ≡ true → ⊥
not-both zero has too = absurd cc
not-both (suc n) has too = absurd cc

pub returns-clause-first : goal.returns-clause-first
returns-clause-first c = onward {from = Function 2} (onward (start refl) (record (instance_with 0) { functions = 0 ∷ (2 ∷ []) }, refl, (1, refl))) (host_function, refl, refl)

pub returns-clause-second : goal.returns-clause-second
returns-clause-second c = onward {from = Function 2} (onward (start refl) (record (instance_with 1) { functions = 1 ∷ (2 ∷ []) }, refl, (1, refl))) (host_function, refl, refl)

pub returns-clause-apart : goal.returns-clause-apart
returns-clause-apart c = record {
  tables = λ address has too. let wrong : false ≡ true = within-first (Table address) has in cc;
  memories = λ address has too. not-both address (within-first (Memory address) has) (within-second (Memory address) too);
  globals = λ address has too. let wrong : false ≡ true = within-first (Global address) has in cc;
  elements = λ address has too. let wrong : false ≡ true = within-first (Element address) has in cc;
  datas = λ address has too. let wrong : false ≡ true = within-first (Data address) has in cc;
}
