use Rattle.std.proofs.Common.{ap, ◌∙◌}
use Rattle.meaning.specs.embedding.Names.{put_under}
use Rattle.linker.specs.Contents.{named, numbers_in, maps_in}
use Rattle.linker.proofs.Named.{named-insert_entry}
use Rattle.linker.proofs.name_maps.add_map.Goals as goal

pub returns-clause-put : goal.returns-clause-put
returns-clause-put c =
    ap (named numbers_in) c.in_ok-insert.ensures.entries ∙ named-insert_entry numbers_in c.args.maps.now.entries c.in_ok-key.key c.in_ok-numbers.numbers
    ∙ (λ j. put_under (maps_in c.args.maps.now) (c.in_ok-key.ensures.ok j) (c.in_ok-numbers.ensures j))
