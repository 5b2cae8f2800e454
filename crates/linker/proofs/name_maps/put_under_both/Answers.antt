use Rattle.std.proofs.Common.{List, ℕ, sym, ap, ◌∙◌}
use Rattle.std.proofs.lemmas.Result.{on_ok_weaker, on_err_weaker}
use Rattle.meaning.specs.embedding.Names.{put_under}
use Rattle.linker.specs.Contents.{named, numbers_in, maps_in}
use Rattle.linker.proofs.Named.{named-set_value, named-set_same, numbers-there, no_numbers}
use Rattle.linker.proofs.name_maps.put_under_both.Goals as goal

pub returns-in-Some-clause-put : goal.returns-in-Some-clause-put
returns-in-Some-clause-put c =
    let new = c.put_number.new.numbers in
    let there = c.in-Some.ensures.value in
    let written = ap (named numbers_in) (c.get_mut.follows.holds new).0 ∙ named-set_value numbers_in c.args.first.now c.args.maps.now.entries c.in-Some.numbers.now new (sym there) in
    let grown = ap (λ (items : List (List ℕ × ℕ)). put_under items c.args.second.now c.args.number) (numbers-there c.args.maps.now c.args.first.now c.in-Some.numbers.now there) in
    on_ok_weaker c.put_number.result (λ put. written ∙ ap (put_under (maps_in c.args.maps.now) c.args.first.now) (put ∙ grown)) c.put_number.ensures.put

pub returns-in-Some-clause-unchanged : goal.returns-in-Some-clause-unchanged
returns-in-Some-clause-unchanged c =
    let new = c.put_number.new.numbers in
    let same = named-set_same numbers_in c.args.first.now c.args.maps.now.entries c.in-Some.numbers.now new (sym c.in-Some.ensures.value) in
    on_err_weaker c.put_number.result (λ kept. ap (named numbers_in) (c.get_mut.follows.holds new).0 ∙ same kept) c.put_number.ensures.unchanged

pub returns-in-None-clause-put : goal.returns-in-None-clause-put
returns-in-None-clause-put c =
    let none = no_numbers c.args.maps.now c.args.first.now c.in-None.ensures.value in
    on_ok_weaker c.add_map.result (λ put.
    put ∙ (λ j. put_under (maps_in (c.get_mut.follows.holds-at-none j)) c.args.first.now (put_under (none j) c.args.second.now c.args.number)))
    c.add_map.ensures.put
