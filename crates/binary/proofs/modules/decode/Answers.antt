use Rattle.std.proofs.Common.{refl}
use Rattle.std.proofs.lemmas.Result.{err_from_is_err_and}
use Rattle.binary.proofs.Refusals.{OnRefused-map}
use Rattle.binary.proofs.exactness.Modules.{large_module, module_sound, no_module, wrong_count}
use Rattle.binary.proofs.modules.decode.Goals as goal

pub returns-in_err-decoded-clause-refused : goal.returns-in_err-decoded-clause-refused
returns-in_err-decoded-clause-refused c =
    let passed = err_from_is_err_and c.from_residual.result c.from_residual.ensures.1 in
    rw (passed.1, passed.2)
    (OnRefused-map c.in_err-decoded.field-0.0 _ _ (no_module c.args.bytes.now) (rw c.new-reader.ensures at c.in_err-decoded.ensures.reads))

pub returns-then-not-fits_count-clause-refused : goal.returns-then-not-fits_count-clause-refused
returns-then-not-fits_count-clause-refused c =
    wrong_count c.args.bytes.now _ c.in_ok-decoded.decoded c.in_ok-decoded.count
    (rw c.new-reader.ensures at c.in_ok-decoded.ensures.reads)
    (λ fits. let is = c.if-not-fits_count.ensures.1 fits in absurd cc)

pub returns-then-not-has_small_parts-clause-refused : goal.returns-then-not-has_small_parts-clause-refused
returns-then-not-has_small_parts-clause-refused c =
    large_module c.args.bytes.now _ c.in_ok-decoded.decoded c.in_ok-decoded.count
    (rw c.new-reader.ensures at c.in_ok-decoded.ensures.reads)
    (λ small. let is = c.if-not-has_small_parts.ensures.1 small in absurd cc)

pub returns-clause-spelt : goal.returns-clause-spelt
returns-clause-spelt c =
    let (sections, parts, spelt) =
    module_sound c.args.bytes.now _ c.in_ok-decoded.decoded c.in_ok-decoded.count
    (rw c.new-reader.ensures at c.in_ok-decoded.ensures.reads) in
    (sections, parts, (c.in_ok-decoded.count, spelt, c.if-not-fits_count.ensures.0 refl))
