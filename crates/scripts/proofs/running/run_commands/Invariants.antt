use Rattle.std.proofs.Common.{◌≡◌, drop, map}
use Rattle.hostfunc.specs.Boxes.{HostStep}
use Rattle.embed.specs.Contents.{embedding_of}
use Rattle.meaning.specs.scripts.Runner.{counted, dialogue, start}
use Rattle.scripts.specs.Conversations.{Converses}
use Rattle.scripts.specs.FileMaps.{files_kept}
use Rattle.scripts.specs.Runs.{progress_view}
use Rattle.scripts.specs.Views.{command_view}
use Rattle.scripts.proofs.running.run_commands.Given as goal

abbrev pub invariant-loop-k : goal.invariant-loop-k
invariant-loop-k g l = record {
  counts : counted (progress_view l.at).report ≡ l.k;
  held : Converses (HostStep (λ vtable. (g.dyn-1.0.entry vtable).1)) (dialogue l.fuel (files_kept l.files) (map command_view l.commands) start) (embedding_of l.fn.embedding)
      (dialogue l.fuel (files_kept l.files) (map command_view (drop l.k l.commands)) (progress_view l.at)) (embedding_of l.embedding);
}
