use Rattle.std.proofs.Common.{◌≡◌, ◌≤◌, ◌+◌, ◌-◌, ◌++◌, List, length, map, take, vec_len, vec_capacity}
use Rattle.soundness.specs.Headline.{RunsWell}
use Rattle.hostfunc.specs.Boxes.{HostStep, IfHostsKeep, OwnHostStep}
use Rattle.embed.specs.Contents.{embedding_of}
use Rattle.embed.specs.Replies.{command_of, reply_of}
use Rattle.embed.specs.declared.commands.Reply.{Reply}
use Rattle.embed.proofs.embedding.Embedding.apply_all.Given as goal

abbrev pub invariant-loop-command : goal.invariant-loop-command
invariant-loop-command g l = record {
  counted : l.self.quota.most ≡ l.fn.self.quota.most;
  room : vec_len l.replies + (length l.commands - l.command-index) ≤ vec_capacity l.replies;
  run : (answers : List Reply) × (l.replies.items ≡ l.fn.replies.items ++ answers)
      × RunsWell (HostStep (λ vtable. (g.dyn-1.0.entry vtable).1)) (embedding_of l.fn.self) (map command_of (take l.command-index l.commands)) (map reply_of answers) (embedding_of l.self)
      × IfHostsKeep (λ vtable. (g.dyn-1.0.entry vtable).1) (embedding_of l.fn.self).state.hosts (embedding_of l.self).state.hosts
      (RunsWell (OwnHostStep (λ vtable. (g.dyn-1.0.entry vtable).1)) (embedding_of l.fn.self) (map command_of (take l.command-index l.commands)) (map reply_of answers) (embedding_of l.self));
}
