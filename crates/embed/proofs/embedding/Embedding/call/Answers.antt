use Rattle.meaning.specs.embedding.Commands as machine
use Rattle.embed.specs.Contents.{embedding_of}
use Rattle.embed.specs.Replies.{call_reply}
use Rattle.embed.proofs.lemmas.Headline.{is-done}
use Rattle.embed.proofs.embedding.Embedding.call.Goals as goal

pub returns : goal.returns
returns g c =
    let done = is-done c.writing_is_read.ensures.whole (λ vtable. (g.dyn-1.0.entry vtable).1) (embedding_of c.args.self.now)
    (embedding_of c.call_counted.new.self) c.show_sound.ensures (machine.Call c.args.instance.0 c.args.name.now c.args.args.now) tt
    (call_reply c.call_counted.result) c.call_counted.ensures.calls in
    record { applied = c.call_counted.ensures.calls; goes_well = done.goes_well; as_said = done.as_said; own = done.own; counted = c.call_counted.ensures.counted; sound = done.sound }
