use Rattle.std.proofs.Common.{◌++◌, Err, refl, sym, ap, ◌∙◌}
use Rattle.std.proofs.lemmas.Result.{err_from_is_err_and}
use Rattle.messages.specs.declared.faults.ReadFault.TheVariants.{NotSpelt}
use Rattle.messages.specs.Numbers.{text_bytes}
use Rattle.messages.specs.Types.{types_bytes}
use Rattle.messages.proofs.Spellings.{same_texts}
use Rattle.orders.proofs.Faults.{same_fault}
use Rattle.orders.proofs.fields.read_definition.Goals as goal

pub returns-in_default-split_text-clause-not_spelt : goal.returns-in_default-split_text-clause-not_spelt
returns-in_default-split_text-clause-not_spelt c _ first second t is_first is_second params results e =
    let types = types_bytes t.params ++ types_bytes t.results in
    let behind = same_texts first c.in-Some.first.now (text_bytes second ++ types) _ is_first.1 c.in-Some.ensures.fits (e ∙ sym c.in-Some.ensures.found) in
    c.in_default-split_text.ensures.none refl second types is_second.0 is_second.1 behind.1

pub returns-in_err-ty-clause-not_spelt : goal.returns-in_err-ty-clause-not_spelt
returns-in_err-ty-clause-not_spelt c not_spelt first second t is_first is_second params results e =
    let types = types_bytes t.params ++ types_bytes t.results in
    let behind = same_texts first c.in-Some.first.now (text_bytes second ++ types) _ is_first.1 c.in-Some.ensures.fits (e ∙ sym c.in-Some.ensures.found) in
    let last = same_texts second c.in-Some-split_text.second.now types _ is_second.1 c.in-Some-split_text.ensures.fits (behind.1 ∙ sym c.in-Some-split_text.ensures.found) in
    let passed = err_from_is_err_and c.from_residual.result c.from_residual.ensures.1 in
    let fault = sym passed.2 ∙ same_fault c.from_residual.result passed.0 NotSpelt passed.1 not_spelt in
    c.in_err-ty.ensures.not_spelt (ap Err fault) t params results last.1
