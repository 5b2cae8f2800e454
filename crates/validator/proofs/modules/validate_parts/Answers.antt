use Rattle.std.proofs.lemmas.Result.{on_ok_weaker}
use Rattle.validator.proofs.completeness.ModuleParts.{answer_refused, globals_given, on_any_error, on_error_from, elements_given, datas_given, start_given}
use Rattle.validator.proofs.soundness.Declarations.{functions_typed}
use Rattle.validator.proofs.soundness.ModuleParts.{globals_valid, elements_valid, datas_valid, exports_exist, start_valid}
use Rattle.validator.proofs.modules.validate_parts.Goals as goal

pub returns-in_err-require-2-clause-invalid : goal.returns-in_err-require-2-clause-invalid
returns-in_err-require-2-clause-invalid c =
    let m = c.args.decoded.now in
    on_any_error _
    (
    answer_refused c.are_valid_globals.result c.are_valid_globals.ensures c.in_err-require-2.ensures.invalid.0
    (λ parts. rw c.as_slice.ensures (globals_given c.requires.spaces c.requires.marks c.constant_context-context.ensures m.globals parts.globals))
    )

pub returns-in_err-require-5-clause-invalid : goal.returns-in_err-require-5-clause-invalid
returns-in_err-require-5-clause-invalid c =
    let m = c.args.decoded.now in
    on_any_error _
    (
    answer_refused c.is_valid_start.result c.is_valid_start.ensures c.in_err-require-5.ensures.invalid.0
    (λ parts. rw c.as_slice-2.ensures (start_given c.requires.spaces (functions_typed c.requires.declarations) m.start parts.start))
    )

pub returns-in_err-require-6-clause-invalid : goal.returns-in_err-require-6-clause-invalid
returns-in_err-require-6-clause-invalid c =
    let m = c.args.decoded.now in
    on_any_error _
    (
    answer_refused c.are_valid_elements.result c.are_valid_elements.ensures c.in_err-require-6.ensures.invalid.0
    (λ parts. rw c.as_slice-3.ensures (elements_given c.requires.spaces c.requires.marks c.constant_context-context.ensures m.elements parts.elements))
    )

pub returns-clause-invalid : goal.returns-clause-invalid
returns-clause-invalid c =
    let m = c.args.decoded.now in
    on_error_from _ c.require-7.result
    (
    λ error invalid. answer_refused c.are_valid_datas.result c.are_valid_datas.ensures invalid.0
    (λ parts. rw c.as_slice-4.ensures (datas_given c.requires.spaces c.requires.marks c.constant_context-context.ensures m.datas parts.datas))
    ) c.require-7.ensures.invalid

pub returns-clause-valid : goal.returns-clause-valid
returns-clause-valid c =
    let m = c.args.decoded.now in
    on_ok_weaker c.require-7.result
    (
    λ datas. record {
      one_memory = rw (c.deref.ensures.value, c.requires.spaces.memories) at (c.is_at_most_one.ensures.0 c.in_ok-require.ensures.valid);
      globals = globals_valid c.requires.spaces c.requires.marks c.constant_context-context.ensures m.globals
          (rw c.as_slice.ensures at (c.are_valid_globals.ensures.0 c.in_ok-require-2.ensures.valid));
      elements = elements_valid c.requires.spaces c.requires.marks c.constant_context-context.ensures m.elements
          (rw c.as_slice-3.ensures at (c.are_valid_elements.ensures.0 c.in_ok-require-6.ensures.valid));
      datas = datas_valid c.requires.spaces c.requires.marks c.constant_context-context.ensures m.datas (rw c.as_slice-4.ensures at (c.are_valid_datas.ensures.0 datas));
      start = start_valid c.requires.spaces m.start (rw c.as_slice-2.ensures at (c.is_valid_start.ensures.0 c.in_ok-require-5.ensures.valid));
      exports = exports_exist c.requires.spaces m.exports (rw c.as_slice-exports.ensures at (c.all_exist.ensures.0 c.in_ok-require-3.ensures.valid));
      names_differ = rw c.as_slice-exports.ensures at (c.names_differ.ensures.0 c.in_ok-require-4.ensures.valid);
    }
    ) c.require-7.ensures.valid
