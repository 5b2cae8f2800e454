use Rattle.std.proofs.Common.{[], Err, length, sym, ap, ◌∙◌, arith, append-nil}
use Rattle.std.proofs.lemmas.Bool.Decides.{nat_tests}
use Rattle.std.proofs.lemmas.Result.{err_from_is_err_and}
use Rattle.messages.specs.declared.faults.ReadFault.TheVariants.{NotSpelt}
use Rattle.messages.specs.Types.{types_bytes}
use Rattle.messages.proofs.Fitting.{same_behind_types}
use Rattle.orders.proofs.Faults.{same_fault}
use Rattle.orders.proofs.fields.read_type.Goals as goal

pub returns-in_err-results-clause-not_spelt : goal.returns-in_err-results-clause-not_spelt
returns-in_err-results-clause-not_spelt c not_spelt t params results e =
    let behind = same_behind_types t.params c.in_ok-params.params.items (types_bytes t.results) _ params c.in_ok-params.ensures.fits (e ∙ sym c.in_ok-params.ensures.read) in
    let passed = err_from_is_err_and c.from_residual-in_err-results.result c.from_residual-in_err-results.ensures.1 in
    let fault = sym passed.2 ∙ same_fault c.from_residual-in_err-results.result passed.0 NotSpelt passed.1 not_spelt in
    c.in_err-results.ensures.not_spelt (ap Err fault) t.results [] results (append-nil (types_bytes t.results) ∙ behind)

pub returns-then-not-is_empty-clause-not_spelt : goal.returns-then-not-is_empty-clause-not_spelt
returns-then-not-is_empty-clause-not_spelt c not_spelt t params results e =
    let behind = same_behind_types t.params c.in_ok-params.params.items (types_bytes t.results) _ params c.in_ok-params.ensures.fits (e ∙ sym c.in_ok-params.ensures.read) in
    let last = same_behind_types t.results c.in_ok-results.results.items [] _ results c.in_ok-results.ensures.fits (append-nil (types_bytes t.results) ∙ behind ∙ sym c.in_ok-results.ensures.read) in
    let empty = ap length last in
    grind (arith, nat_tests)
