use Rattle.std.proofs.Common.{List, ◌∷◌, ap, sym, ◌∙◌}
use Rattle.core_types.specs.declared.outcome.Val.{Val}
use Rattle.interpreter.specs.declared.machine.Frame.{Frame}
use Rattle.exec.specs.Hosting.{position_answered, with_results}
use Rattle.exec.proofs.hosts.return_results.Goals as goal

pub returns-clause-back : goal.returns-clause-back
returns-clause-back c =
    let values = c.deref.ensures.value in (
      c.in-Some.frame,
      c.in-Some.ensures ∙ ap (λ (fs : List Frame). c.in-Some.frame ∷ fs) (sym c.put_results.ensures.callers),
      c.put_results.ensures.cells ∙ ap (with_results c.args.call.now.cells.items c.args.call.now.position.base) values,
      c.put_results.ensures.position ∙ ap (λ (vs : List Val). position_answered c.in-Some.frame c.args.call.now.position c.args.call.now.position.base vs c.args.call.now.cells.items) values,
    )
