use Rattle.meaning.specs.embedding.Commands as machine
use Rattle.soundness.proofs.Embedding.{goes-well}
use Rattle.hostfunc.specs.Boxes.{HostAnswers, type_of_host}
use Rattle.embed.specs.Contents.{embedding_of}
use Rattle.embed.specs.Replies.{register_reply}
use Rattle.embed.proofs.embedding.Embedding.register.Goals as goal

pub returns : goal.returns
returns g c =
    let (well, sound) = goes-well type_of_host (HostAnswers (λ vtable. (g.dyn-1.0.entry vtable).1)) (embedding_of c.args.self.now)
    (embedding_of c.give_name.new.self) c.show_sound.ensures (register_reply c.give_name.result) c.writing_is_read.ensures.whole
    (machine.Register c.args.instance.0 c.args.name.now) tt c.give_name.ensures.registers in
    record { applied = c.give_name.ensures.registers; goes_well = well; counts_nothing = c.give_name.ensures.quota; sound = sound }
