use Rattle.std.proofs.Common.{◌≡◌, ◌++◌, refl}
use Rattle.core_types.specs.declared.op.ControlOp.TheVariants.{Return}
use Rattle.core_types.specs.declared.op.PlainOp.TheVariants.{Control}
use Rattle.meaning.proofs.lemmas.Typing.{AllFit-same}
use Rattle.meaning.specs.validation.Instructions.{known}
use Rattle.validator.proofs.completeness.Instructions.{rule_refused}
use Rattle.validator.proofs.Steps.{stop_steps}
use Rattle.validator.proofs.instructions.control.calls.step_return.Goals as goal

pub returns : goal.returns
returns c =
    let (given, takes, fits) = c.if-not-pop_types.ensures in
    let stop = c.set_unreachable.ensures in (
      stop_steps (Control Return) (known c.args.context.now.results.now) stop.innermost stop.outer takes fits stop.operands
          (λ context described any to. (any, c.args.context.now.results.now, described.results, refl)),
      tt,
    )

pub returns-then-not-pop_types : goal.returns-then-not-pop_types
returns-then-not-pop_types c = (
  tt,
  λ invalid.
      rule_refused (Control Return)
      (λ context is theirs others rule.
      let (below, types, has_results, parts) = rule in
      let same : types ≡ c.args.context.now.results.now = cc in
      (below, known c.args.context.now.results.now, c.if-not-pop_types.ensures, rw (parts, same) (AllFit-same (below ++ known c.args.context.now.results.now)))),
)
