use Rattle.embed.specs.Contents.{embedding_of}
use Rattle.embed.specs.Replies.{command_of, reply_of}
use Rattle.embed.proofs.lemmas.Headline.{is-done}
use Rattle.embed.proofs.embedding.Embedding.apply.Goals as goal

pub returns : goal.returns
returns g c =
    let done = is-done c.writing_is_read.ensures.whole (λ vtable. (g.dyn-1.0.entry vtable).1) (embedding_of c.args.self.now)
    (embedding_of c.apply_command.new.self) c.show_sound.ensures (command_of c.args.command.now) c.show_linkable.ensures
    (reply_of c.apply_command.result) c.apply_command.ensures.applied in
    record { applied = c.apply_command.ensures.applied; goes_well = done.goes_well; as_said = done.as_said; own = done.own; counted = c.apply_command.ensures.counted; sound = done.sound }
