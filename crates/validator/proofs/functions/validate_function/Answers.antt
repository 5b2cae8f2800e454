use Rattle.std.proofs.Common.{List, ap, refl, sym, ◌++◌, ◌∙◌}
use Rattle.std.proofs.lemmas.Result.{err_from_is_err_and}
use Rattle.core_types.specs.declared.types.ValType.{ValType}
use Rattle.validator.proofs.FunctionBodies.{function_invalid, function_valid, untyped_function}
use Rattle.validator.proofs.functions.validate_function.Goals as goal

pub returns-in_default-clause-invalid : goal.returns-in_default-clause-invalid
returns-in_default-clause-invalid g c = λ invalid. untyped_function c.args.decoded.now c.args.func.now (sym (rw c.as_slice-types.ensures at c.in_default.ensures))

pub returns-in_err-named-clause-invalid : goal.returns-in_err-named-clause-invalid
returns-in_err-named-clause-invalid g c =
    let there = sym (rw c.as_slice-types.ensures at c.in-Some.ensures) in
    let passed = err_from_is_err_and c.from_residual-in_err-named.result c.from_residual-in_err-named.ensures.1 in
    rw passed.1
    (λ invalid.
    function_invalid c.args.decoded.now c.args.spaces.now c.requires.spaces c.requires.marks c.args.func.now c.in-Some.ty.now _
    c.as_slice-types.ensures c.as_slice-2.ensures c.len.ensures refl refl (c.new-locals.ensures ∙ ap (λ (params : List ValType). params ++ c.args.func.now.locals) c.as_slice.ensures) c.as_slice-3.ensures there c.args.func.now.body refl
    (c.in_err-named.ensures.untyped (sym passed.2 ∙ invalid)))

pub returns-clause-valid : goal.returns-clause-valid
returns-clause-valid g c =
    function_valid c.args.decoded.now c.args.spaces.now c.requires.spaces c.requires.marks c.args.func.now c.in-Some.ty.now _ c.as_slice-types.ensures
    c.as_slice-2.ensures c.len.ensures refl refl (c.new-locals.ensures ∙ ap (λ (params : List ValType). params ++ c.args.func.now.locals) c.as_slice.ensures) c.as_slice-3.ensures (sym (rw c.as_slice-types.ensures at c.in-Some.ensures))
    c.args.func.now.body
    refl c.in_ok-named.ensures.typed

pub returns-clause-shown : goal.returns-clause-shown
returns-clause-shown g c =
    let there = sym (rw c.as_slice-types.ensures at c.in-Some.ensures) in
    (c.in-Some.ty.now, _, _, there, c.in_ok-begin.ensures.begins, c.in_ok-named.ensures.shown, c.in_ok-end.ensures)
