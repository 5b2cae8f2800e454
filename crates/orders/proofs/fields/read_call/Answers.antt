use Rattle.std.proofs.Common.{◌++◌, Err, refl, sym, ap, ◌∙◌, arith}
use Rattle.std.proofs.lemmas.Result.{err_from_is_err_and}
use Rattle.messages.specs.declared.faults.ReadFault.TheVariants.{NotSpelt}
use Rattle.messages.specs.Numbers.{text_bytes}
use Rattle.messages.specs.Values.{values_bytes}
use Rattle.messages.proofs.Spellings.{number_is_long, same_number, same_texts}
use Rattle.orders.proofs.Faults.{same_fault}
use Rattle.orders.proofs.fields.read_call.Goals as goal

pub returns-in_default-clause-not_spelt : goal.returns-in_default-clause-not_spelt
returns-in_default-clause-not_spelt c _ n name values fits is_name all e =
    let long = number_is_long n (text_bytes name ++ values_bytes values) _ e in
    omega (arith, c.in_default.ensures.none refl)

pub returns-in_default-split_text-clause-not_spelt : goal.returns-in_default-split_text-clause-not_spelt
returns-in_default-split_text-clause-not_spelt c _ n name values fits is_name all e =
    let same = same_number n c.in-Some.number (text_bytes name ++ values_bytes values) _ fits c.in-Some.ensures.fits (e ∙ sym c.in-Some.ensures.found) in
    c.in_default-split_text.ensures.none refl name (values_bytes values) is_name.0 is_name.1 same.1

pub returns-in_err-values-clause-not_spelt : goal.returns-in_err-values-clause-not_spelt
returns-in_err-values-clause-not_spelt c not_spelt n name values fits is_name all e =
    let same = same_number n c.in-Some.number (text_bytes name ++ values_bytes values) _ fits c.in-Some.ensures.fits (e ∙ sym c.in-Some.ensures.found) in
    let behind = same_texts name c.in-Some-split_text.name.now (values_bytes values) _ is_name.1 c.in-Some-split_text.ensures.fits (same.1 ∙ sym c.in-Some-split_text.ensures.found) in
    let passed = err_from_is_err_and c.from_residual.result c.from_residual.ensures.1 in
    let fault = sym passed.2 ∙ same_fault c.from_residual.result passed.0 NotSpelt passed.1 not_spelt in
    c.in_err-values.ensures.not_spelt (ap Err fault) values all behind.1
