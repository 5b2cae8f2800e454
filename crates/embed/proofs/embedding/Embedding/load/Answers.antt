use Rattle.meaning.specs.embedding.Commands as machine
use Rattle.soundness.proofs.Embedding.{goes-well}
use Rattle.hostfunc.specs.Boxes.{HostAnswers, type_of_host}
use Rattle.embed.specs.Contents.{embedding_of}
use Rattle.embed.specs.Replies.{load_reply}
use Rattle.embed.proofs.embedding.Embedding.load.Goals as goal

pub returns : goal.returns
returns g c =
    let (well, sound) = goes-well type_of_host (HostAnswers (λ vtable. (g.dyn-1.0.entry vtable).1)) (embedding_of c.args.self.now)
    (embedding_of c.load_counted.new.self) c.show_sound.ensures (load_reply c.load_counted.result) c.writing_is_read.ensures.whole
    (machine.Load c.args.bytes.now) tt c.load_counted.ensures.loads in
    record { applied = c.load_counted.ensures.loads; goes_well = well; counted = c.load_counted.ensures.counted; sound = sound }
