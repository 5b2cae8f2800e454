use Rattle.std.proofs.Common.{inl, inr}
use Rattle.std.proofs.lemmas.Result.{on_ok_weaker, IfErr-weaker}
use Rattle.validator.proofs.completeness.Declarations.{declarations_valid}
use Rattle.validator.proofs.completeness.ModuleParts.{with_any_error}
use Rattle.validator.proofs.soundness.Declarations.{module_valid}
use Rattle.validator.proofs.modules.validate_module.Goals as goal

pub returns-clause-valid : goal.returns-clause-valid
returns-clause-valid g c =
    on_ok_weaker c.validate_functions.result (module_valid c.in_ok-validate_declarations.ensures.valid c.in_ok-validate_parts.ensures.valid) c.validate_functions.ensures.valid

pub returns-in_err-validate_declarations-clause-invalid : goal.returns-in_err-validate_declarations-clause-invalid
returns-in_err-validate_declarations-clause-invalid g c = with_any_error _ _ (λ error. inr (λ valid. c.in_err-validate_declarations.ensures.invalid (declarations_valid valid)))

pub returns-clause-invalid : goal.returns-clause-invalid
returns-clause-invalid g c = IfErr-weaker c.validate_functions.result _ _
    (λ error either. elim either [ inl none ↦ inl none | inr wrong ↦ inr (λ valid. wrong valid.bodies) ]) c.validate_functions.ensures.invalid

pub returns-clause-shown : goal.returns-clause-shown
returns-clause-shown g c = c.validate_functions.ensures.shown
