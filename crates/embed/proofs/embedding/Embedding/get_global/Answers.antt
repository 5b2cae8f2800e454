use Rattle.meaning.specs.embedding.Commands as machine
use Rattle.soundness.proofs.Embedding.{goes-well}
use Rattle.hostfunc.specs.Boxes.{HostAnswers, type_of_host}
use Rattle.embed.specs.Contents.{embedding_of}
use Rattle.embed.specs.Replies.{global_reply}
use Rattle.embed.proofs.embedding.Embedding.get_global.Goals as goal

pub returns : goal.returns
returns g c =
    let (well, sound) = goes-well type_of_host (HostAnswers (λ vtable. (g.dyn-1.0.entry vtable).1)) (embedding_of c.args.self.now)
    (embedding_of c.args.self.now) c.show_sound.ensures (global_reply c.read_global.result) c.writing_is_read.ensures.whole
    (machine.GetGlobal c.args.instance.0 c.args.name.now) tt c.read_global.ensures.gets in
    record { applied = c.read_global.ensures.gets; goes_well = well; needs_no_memory = c.read_global.ensures.needs_no_memory }
