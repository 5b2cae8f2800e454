use Rattle.meaning.specs.embedding.Commands as machine
use Rattle.soundness.proofs.Embedding.{goes-well}
use Rattle.hostfunc.specs.Boxes.{HostAnswers, type_of_host}
use Rattle.embed.specs.Contents.{embedding_of}
use Rattle.embed.proofs.embedding.Embedding.set_fuel.Goals as goal

pub returns : goal.returns
returns g c =
    let (well, sound) = goes-well type_of_host (HostAnswers (λ vtable. (g.dyn-1.0.entry vtable).1)) (embedding_of c.args.self.now)
    (embedding_of c.replace_fuel.new.self) c.show_sound.ensures machine.Done c.writing_is_read.ensures.whole (machine.SetFuel c.args.fuel) tt
    c.replace_fuel.ensures.sets in
    record { applied = c.replace_fuel.ensures.sets; goes_well = well; counts_nothing = c.replace_fuel.ensures.quota; sound = sound }
