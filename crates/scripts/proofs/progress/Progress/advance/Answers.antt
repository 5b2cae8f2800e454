use Rattle.embed.specs.Contents.{embedding_of}
use Rattle.scripts.specs.FileMaps.{files_kept}
use Rattle.scripts.specs.Runs.{instances_view, progress_view}
use Rattle.scripts.proofs.lemmas.Talks.{skipped-holds}
use Rattle.scripts.proofs.progress.Progress.advance.Goals as goal

pub returns-in-Skipped-clause-held : goal.returns-in-Skipped-clause-held
returns-in-Skipped-clause-held g c =
    rw c.in-Skipped.is
    (skipped-holds _ c.args.fuel (files_kept c.args.files.now) (progress_view c.args.self.now) _ (embedding_of c.args.embedding.now)
    (λ j. record { instances = instances_view c.args.self.now.instances; report = c.skip.ensures j }))

pub returns-in-Tried-clause-held : goal.returns-in-Tried-clause-held
returns-in-Tried-clause-held g c = rw c.in-Tried.is c.attempt.ensures.held
