use Rattle.meaning.specs.embedding.Commands as machine
use Rattle.embed.specs.Contents.{embedding_of}
use Rattle.embed.specs.Replies.{link_reply}
use Rattle.embed.proofs.lemmas.Headline.{is-done}
use Rattle.embed.proofs.embedding.Embedding.link.Goals as goal

pub returns : goal.returns
returns g c =
    let done = is-done c.writing_is_read.ensures.whole (λ vtable. (g.dyn-1.0.entry vtable).1) (embedding_of c.args.self.now)
    (embedding_of c.link_counted.new.self) c.show_sound.ensures (machine.Link c.args.number.0) c.show_linked_module.ensures
    (link_reply c.link_counted.result) c.link_counted.ensures.links in
    record {
      applied = c.link_counted.ensures.links;
      goes_well = done.goes_well;
      as_said = done.as_said;
      own = done.own;
      first_at_fault = c.link_counted.ensures.first_at_fault;
      counted = c.link_counted.ensures.counted;
      sound = done.sound;
    }
