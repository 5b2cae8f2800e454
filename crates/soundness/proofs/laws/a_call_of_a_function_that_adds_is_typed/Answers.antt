use Rattle.std.proofs.Common.{◌≡◌, ℕ, ◌<◌, [], ◌∷◌, reverse, Some, refl, subst, arith}
use Rattle.std.proofs.lemmas.List.Elements.{All-append, All-replicate}
use Rattle.std.specs.List.{All}
use Rattle.core_types.specs.declared.outcome.Val.TheVariants.{I32, I64}
use Rattle.core_types.specs.declared.types.OperandType.TheVariants.{Known}
use Rattle.core_types.specs.declared.types.ValType.TheVariants as ty
use Rattle.meaning.specs.execution.Rows.{adder, nothing}
use Rattle.meaning.specs.execution.Store.{FunctionInstance}
use Rattle.meaning.specs.soundness.Values.{ValuesHaveTypes}
use Rattle.soundness.specs.Rows.{adding}
use Rattle.soundness.specs.Stores.{FunctionIsValid, InstanceIsValid}
use Rattle.soundness.proofs.laws.a_call_of_a_function_that_adds_is_typed.Goals as goal

none : {X : Type 0} (P : X → Type 0) → All P []
none P k d inside = let wrong : ⊥ = omega (arith, inside) in absurd wrong

two : {X : Type 0} (P : X → Type 0) (x y : X) → P x → P y → All P (x ∷ y ∷ [])
two P x y first second = All-append P (x ∷ []) (y ∷ []) (All-replicate P 1 x first) (All-replicate P 1 y second)

adder-valid : FunctionIsValid adding adder
adder-valid = (
  omega (arith),
  (
    [],
    Known ty.I32 ∷ [],
    Known ty.I32 ∷ [],
    (ty.I32, refl, (refl, refl)),
    record { below = []; given = []; before_is = refl; fits = tt; after_is = refl },
    (
      [],
      Known ty.I32 ∷ [],
      Known ty.I32 ∷ Known ty.I32 ∷ [],
      (ty.I32, refl, (refl, refl)),
      record { below = Known ty.I32 ∷ []; given = []; before_is = refl; fits = tt; after_is = refl },
      (
        Known ty.I32 ∷ Known ty.I32 ∷ [],
        Known ty.I32 ∷ [],
        Known ty.I32 ∷ [],
        (refl, refl),
        record { below = []; given = Known ty.I32 ∷ Known ty.I32 ∷ []; before_is = refl; fits = (refl, (refl, tt)); after_is = refl },
        (refl, tt),
      ),
    ),
  ),
)

adds : (f : FunctionInstance) → Some adder ≡ Some f → f ≡ adder
adds f is = cc

pub returns : goal.returns
returns c = record {
  valid = record {
    functions = two (FunctionIsValid adding) adder nothing adder-valid (omega (arith), tt);
    instances = All-replicate (InstanceIsValid adding) 1 _ (record {
      functions = two (λ (a : ℕ). a < 2) 0 1 (omega (arith)) (omega (arith));
      tables = none (λ (a : ℕ). a < 0);
      memories = none (λ (a : ℕ). a < 0);
      globals = none (λ (a : ℕ). a < 0);
      elements = none (λ (a : ℕ). a < 0);
      datas = none (λ (a : ℕ). a < 0);
      exports = none _;
    });
    tables = none _;
    memories = none _;
    globals = none _;
    elements = none _;
    datas = none _;
    few = record {
      functions = omega (arith);
      instances = omega (arith);
      tables = omega (arith);
      memories = omega (arith);
      globals = omega (arith);
      elements = omega (arith);
      datas = omega (arith);
    };
  };
  typed = (adder, refl, ((refl, omega (arith)), ((refl, omega (arith)), tt)), refl);
  too_few = λ (f, is, typed, same). let wrong = subst (λ (g : FunctionInstance). ValuesHaveTypes adding (I32 1 ∷ []) (reverse g.ty.params)) (adds f is) typed in absurd wrong.1;
  other = λ (f, is, typed, same).
      let wrong = subst (λ (g : FunctionInstance). ValuesHaveTypes adding (I64 2 ∷ I32 1 ∷ []) (reverse g.ty.params)) (adds f is) typed in
      let types : ty.I32 ≡ ty.I64 = wrong.0.0 in absurd cc;
}
