use Rattle.scripts.proofs.lemmas.Names.{kept-new, kept-there}
use Rattle.scripts.proofs.file_maps.add_file.Goals as goal

pub returns-then-contains_key : goal.returns-then-contains_key
returns-then-contains_key c = kept-there c.args.kept.now c.args.name.now c.args.bytes.now c.if-contains_key.ensures

pub returns : goal.returns
returns c = kept-new c.args.kept.now c.insert.new.self c.args.name.now c.args.bytes c.if-contains_key.ensures c.in_ok-insert.ensures.updates
