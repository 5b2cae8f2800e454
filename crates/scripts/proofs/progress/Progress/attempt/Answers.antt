use Rattle.std.proofs.Common.{Bool, ap, ◌∙◌}
use Rattle.embed.specs.Replies.{reply_of}
use Rattle.meaning.specs.scripts.Commands.{Tried}
use Rattle.meaning.specs.scripts.Runner.{turn, with_tried}
use Rattle.scripts.specs.FileMaps.{files_kept}
use Rattle.scripts.specs.Runs.{progress_view, report_view}
use Rattle.scripts.specs.Views.{task_view}
use Rattle.scripts.proofs.lemmas.Talks.{broken, telling-breaks, tried-breaks, tried-holds}
use Rattle.scripts.proofs.progress.Progress.attempt.Goals as goal

pub returns-in_err-reply-clause-held : goal.returns-in_err-reply-clause-held
returns-in_err-reply-clause-held g c =
    broken _ _ (turn c.args.fuel (files_kept c.args.files.now) (Tried c.args.line (task_view c.args.task.now)) (progress_view c.args.self.now)) c.from_residual.result _ _
    c.from_residual.ensures.1 (λ fault is. is ∙ c.in_err-reply.ensures.0)
    (telling-breaks _ c.args.fuel (files_kept c.args.files.now) (progress_view c.args.self.now) c.args.line (task_view c.args.task.now)
    (c.set_fuel.ensures.applied, c.set_fuel.ensures.goes_well, tt) c.in_err-reply.ensures.1)

pub returns-in_err-settle-clause-held : goal.returns-in_err-settle-clause-held
returns-in_err-settle-clause-held g c =
    broken _ _ (turn c.args.fuel (files_kept c.args.files.now) (Tried c.args.line (task_view c.args.task.now)) (progress_view c.args.self.now)) c.from_residual-in_err-settle.result _ _
    c.from_residual-in_err-settle.ensures.1 (λ fault is. is)
    (tried-breaks _ reply_of c.args.fuel (files_kept c.args.files.now) (progress_view c.args.self.now) c.args.line (task_view c.args.task.now) _
    (c.set_fuel.ensures.applied, c.set_fuel.ensures.goes_well, tt) c.in_ok-reply.ensures)

pub returns-in_err-count-clause-held : goal.returns-in_err-count-clause-held
returns-in_err-count-clause-held g c =
    broken _ _ (turn c.args.fuel (files_kept c.args.files.now) (Tried c.args.line (task_view c.args.task.now)) (progress_view c.args.self.now)) c.from_residual-in_err-count.result _ _
    c.from_residual-in_err-count.ensures.1 (λ fault is. is)
    (tried-breaks _ reply_of c.args.fuel (files_kept c.args.files.now) (progress_view c.args.self.now) c.args.line (task_view c.args.task.now) _
    (c.set_fuel.ensures.applied, c.set_fuel.ensures.goes_well, tt) c.in_ok-reply.ensures)

pub returns-clause-held : goal.returns-clause-held
returns-clause-held g c =
    let counted = c.in_ok-count.ensures ∙ ap (λ (passed : Bool). with_tried (report_view c.args.self.now.report) c.args.line passed) c.passes.ensures in
    tried-holds _ reply_of c.args.fuel (files_kept c.args.files.now) (progress_view c.args.self.now) c.args.line (task_view c.args.task.now) _
    (c.set_fuel.ensures.applied, c.set_fuel.ensures.goes_well, tt) c.in_ok-reply.ensures _
    (λ j. record { instances = c.in_ok-settle.ensures j; report = counted j })
