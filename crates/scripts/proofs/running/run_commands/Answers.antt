use Rattle.std.proofs.Common.{◌+◌, ℕ, ◌∙◌, ap, arith, drop, map}
use Rattle.std.proofs.Math.ListN.{drop_of_length-le}
use Rattle.embed.specs.Contents.{embedding_of}
use Rattle.meaning.specs.scripts.Runner.{Progress, counted, dialogue}
use Rattle.scripts.specs.Conversations.{nothing}
use Rattle.scripts.specs.FileMaps.{files_kept}
use Rattle.scripts.specs.Views.{command_view}
use Rattle.scripts.proofs.lemmas.Talks.{breaks-later, converses-on}
use Rattle.scripts.proofs.lemmas.Whole.{all-broken, drop-item}
use Rattle.scripts.proofs.running.run_commands.Goals as goal

pub loop-k-init : goal.loop-k-init
loop-k-init g c = record {
  counts = ap (λ (at : Progress). counted at.report) c.new-at.ensures;
  held = rw c.new-at.ensures nothing;
}

pub advance-requires : goal.advance-requires
advance-requires g c = rw c.loop-k.invariant.counts (omega arith)

pub loop-k-preserved : goal.loop-k-preserved
loop-k-preserved g c =
    let so_far = rw (drop-item c.args.commands.now c.loop-k.k c.index-commands-k.result c.loop-k-test.true c.index-commands-k.is) at c.loop-k.invariant.held in
    record {
      counts = c.in_ok-advance.ensures.counts ∙ ap (λ (n : ℕ). n + 1) c.loop-k.invariant.counts;
      held = converses-on _ so_far (c.in_ok-advance.ensures.held (dialogue c.args.fuel (files_kept c.args.files.now) (map command_view (drop (c.loop-k.k + 1) c.args.commands.now))));
    }

pub returns-in_err-advance : goal.returns-in_err-advance
returns-in_err-advance g c =
    let so_far = rw (drop-item c.args.commands.now c.loop-k.k c.index-commands-k.result c.loop-k-test.true c.index-commands-k.is) at c.loop-k.invariant.held in
    let rest = dialogue c.args.fuel (files_kept c.args.files.now) (map command_view (drop (c.loop-k.k + 1) c.args.commands.now)) in
    all-broken _ c.args.fuel (files_kept c.args.files.now) (map command_view c.args.commands.now) c.from_residual.result (embedding_of c.args.embedding.now) _
    c.from_residual.ensures.1 (λ fault is. is ∙ c.in_err-advance.ensures.held.0) (breaks-later _ so_far (c.in_err-advance.ensures.held.1 rest))

pub returns : goal.returns
returns g c = rw (drop_of_length-le c.args.commands.now c.loop-k-test.false) at c.loop-k.invariant.held
