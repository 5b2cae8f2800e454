use Rattle.std.proofs.Common.{◌++◌, ◌∷◌, [], ◌<◌, ◌≤◌, ◌∙◌, length, arith, refl, sym}
use Rattle.std.proofs.lemmas.Grind.{common_steps}
use Rattle.std.proofs.lemmas.List.{append-nil, map-append, take_all}
use Rattle.meaning.proofs.lemmas.Lists.{map-next}
use Rattle.soundness.proofs.Embedding.{none-well, one-more-well}
use Rattle.hostfunc.specs.Boxes.{IfHostsKeep}
use Rattle.embed.specs.Replies.{command_of, reply_of}
use Rattle.embed.proofs.lemmas.Counting.{counts-most}
use Rattle.embed.proofs.embedding.Embedding.apply_all.Goals as goal

pub loop-command-init : goal.loop-command-init
loop-command-init g c = record {
  counted = refl;
  room = grind (arith, common_steps);
  run = ([], c.in_ok-try_reserve.ensures.items ∙ sym (append-nil c.args.replies.now.items), none-well _ _, λ kept. (none-well _ _, kept));
}

pub loop-command-preserved : goal.loop-command-preserved
loop-command-preserved g c =
    let (answers, items, run, own) = c.loop-command.invariant.run in
    let applied = c.apply-reply.ensures in
    let more = one-more-well _ run (applied.applied, applied.goes_well, applied.as_said) in
    let more_own : IfHostsKeep (λ vtable. (g.dyn-1.0.entry vtable).1) _ _ _ = λ kept. (
    let (run_own, keeps) = own kept in
    let (applied_own, keeps_then) = applied.own keeps in
    (one-more-well _ run_own applied_own, keeps_then)) in
    let inside : c.loop-command.command-index < length c.args.commands.now = c.loop-command-test.true in
    record {
      counted = counts-most (reply_of c.apply-reply.result) _ _ applied.counted ∙ c.loop-command.invariant.counted;
      room = grind (arith, common_steps);
      run = (
        answers ++ c.apply-reply.result ∷ [],
        grind (arith, common_steps),
        rw (← map-next command_of c.args.commands.now c.loop-command.command-index c.command-item.result inside, ← c.command-item.is, map-append) more,
        rw (← map-next command_of c.args.commands.now c.loop-command.command-index c.command-item.result inside, ← c.command-item.is, map-append) more_own,
      );
    }

pub returns-clause-applied : goal.returns-clause-applied
returns-clause-applied g c =
    let (answers, items, run, own) = c.loop-command.invariant.run in
    let past : length c.args.commands.now ≤ c.loop-command.command-index = c.loop-command-test.false in
    (answers, items, rw take_all at run, rw take_all at own)
