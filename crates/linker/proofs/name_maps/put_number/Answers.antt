use Rattle.std.proofs.Common.{ℕ, List, ap, ◌∙◌}
use Rattle.meaning.specs.embedding.Names.{put_under}
use Rattle.linker.specs.Contents.{named, numbers_in}
use Rattle.linker.proofs.Named.{named-insert_entry}
use Rattle.linker.proofs.name_maps.put_number.Goals as goal

pub returns-clause-put : goal.returns-clause-put
returns-clause-put c =
    ap (named (λ (n : ℕ). n)) c.in_ok-insert.ensures.entries ∙ named-insert_entry (λ (n : ℕ). n) c.args.numbers.now.entries c.in_ok-key.key c.args.number
    ∙ ap (λ (name : List ℕ). put_under (numbers_in c.args.numbers.now) name c.args.number) c.in_ok-key.ensures.ok
