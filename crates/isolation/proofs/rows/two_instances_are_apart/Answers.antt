use Rattle.std.proofs.Common.{◌≡◌, ℕ, zero, suc, [], true, false, Some, refl, sym, subst, arith, slice_get}
use Rattle.meaning.specs.execution.Store.{FunctionInstance, ModuleInstance}
use Rattle.soundness.proofs.Objects.{All-first, All-none}
use Rattle.isolation.specs.Regions.{IsClosed, FunctionIsWithin, Has, InstanceIsWithin, Region, marked}
use Rattle.isolation.specs.Rows.{FromFirst, function_in, instance_with, is_none, is_one, is_zero, of_two, region_of}
use Rattle.isolation.specs.Reach.{IsIn, Memory, Place, onward, start}
use Rattle.isolation.proofs.Reach.{least}
use Rattle.isolation.proofs.rows.two_instances_are_apart.Goals as goal

abbrev first : Region
first = marked (region_of is_zero)

whole : InstanceIsWithin first (instance_with 0)
whole = record {
  functions = All-first (Has (λ (n : ℕ). is_zero n ≡ true)) 0 [] refl (All-none (Has (λ (n : ℕ). is_zero n ≡ true)));
  tables = All-none (Has (λ (n : ℕ). is_none n ≡ true));
  memories = All-first (Has (λ (n : ℕ). is_zero n ≡ true)) 0 [] refl (All-none (Has (λ (n : ℕ). is_zero n ≡ true)));
  globals = All-none (Has (λ (n : ℕ). is_none n ≡ true));
  elements = All-none (Has (λ (n : ℕ). is_none n ≡ true));
  datas = All-none (Has (λ (n : ℕ). is_none n ≡ true));
}

functions : (address : ℕ) (f : FunctionInstance) → Has (λ (n : ℕ). is_zero n ≡ true) address → slice_get of_two.functions address ≡ Some f → FunctionIsWithin first f
functions zero f has is = let same : function_in 0 ≡ f = cc in subst (FunctionIsWithin first) same refl
functions (suc n) f has is = absurd cc

instances : (address : ℕ) (i : ModuleInstance) → Has (λ (n : ℕ). is_zero n ≡ true) address → slice_get of_two.instances address ≡ Some i → InstanceIsWithin first i
instances zero i has is = let same : instance_with 0 ≡ i = cc in subst (InstanceIsWithin first) same whole
instances (suc n) i has is = absurd cc

below : (address : ℕ) → Has (λ (n : ℕ). is_zero n ≡ true) address → address ≡ 0
below zero has = refl
below (suc n) has = absurd cc

apart : (address : ℕ) → is_zero address ≡ true → is_one address ≡ true → ⊥
apart zero has too = absurd cc
apart (suc n) has too = absurd cc

closed : IsClosed first of_two
closed = record {
  functions = functions;
  instances = instances;
  tables = λ address t has is. absurd cc;
  globals = λ address g has is. absurd cc;
  elements = λ address e has is. absurd cc;
}

pub returns-clause-closed : goal.returns-clause-closed
returns-clause-closed c = closed

pub returns-clause-there : goal.returns-clause-there
returns-clause-there c = record {
  functions = λ address has. let is = below address has in omega (arith, is);
  instances = λ address has. let is = below address has in omega (arith, is);
  tables = λ address has. absurd cc;
  memories = λ address has. let is = below address has in omega (arith, is);
  globals = λ address has. absurd cc;
  elements = λ address has. absurd cc;
  datas = λ address has. absurd cc;
}

pub returns-clause-apart : goal.returns-clause-apart
returns-clause-apart c = record {
  tables = λ address has too. absurd cc;
  memories = apart;
  globals = λ address has too. absurd cc;
  elements = λ address has too. absurd cc;
  datas = λ address has too. absurd cc;
}

pub returns-clause-needed : goal.returns-clause-needed
returns-clause-needed c whole_without =
    let wrong : false ≡ true = (whole_without.instances 0 (instance_with 0) refl refl).memories 0 0 (omega arith) in absurd cc

pub returns-clause-own : goal.returns-clause-own
returns-clause-own c = onward (start refl) (instance_with 0, refl, (0, refl))

starts-first : (place : Place) → FromFirst place → IsIn first place
starts-first place is = subst (IsIn first) (sym is) refl

pub returns-clause-other : goal.returns-clause-other
returns-clause-other c reached = let wrong : false ≡ true = least of_two first closed FromFirst starts-first (Memory 1) reached in absurd cc
