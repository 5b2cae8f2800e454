use Rattle.std.proofs.lemmas.Result.{err_from_is_err_and}
use Rattle.binary.proofs.loops.Code.{codes_continue, codes_end, codes_fail}
use Rattle.core_types.specs.declared.module.Func.{Func}
use Rattle.binary.proofs.loops.DataNames.{noted_last}
use Rattle.binary.proofs.sections.code.read_codes.Goals as goal

pub returns-in_err-read_code-clause-reads : goal.returns-in_err-read_code-clause-reads
returns-in_err-read_code-clause-reads g c =
    let passed = err_from_is_err_and c.from_residual.result c.from_residual.ensures.1 in
    rw (passed.1, passed.2)
    (codes_fail g.R.ReadBody.reads c.args.types.now c.loop-ty.ty-index c.loop-ty.funcs.items _ _ c.loop-ty.invariant.0 c.in_err-read_code.field-0.0 c.loop-ty-test.true c.in_err-read_code.ensures.reads)

pub loop-ty-preserved : goal.loop-ty-preserved
loop-ty-preserved g c = (
  rw c.in_ok-push.ensures.items
      (codes_continue g.R.ReadBody.reads c.args.types.now c.loop-ty.ty-index c.loop-ty.funcs.items _ _ c.loop-ty.invariant.0 c.in_ok-read_code.field-0 _ c.loop-ty-test.true c.in_ok-read_code.ensures.reads),
  rw c.in_ok-push.ensures.items
      (noted_last (λ (f : Func). g.R.ReadBody.notes f.body) _ _ _ c.loop-ty.funcs.items c.in_ok-read_code.field-0 c.loop-ty.invariant.1 c.in_ok-read_code.ensures.data),
)

pub returns-clause-reads : goal.returns-clause-reads
returns-clause-reads g c =
    rw c.from_vec.ensures
    (codes_end g.R.ReadBody.reads c.args.types.now c.loop-ty.ty-index c.loop-ty.funcs.items _ _ c.loop-ty.invariant.0 c.loop-ty-test.false)
