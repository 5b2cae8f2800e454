use Rattle.std.proofs.Common.{◌∙◌, ap, map, sym}
use Rattle.std.proofs.lemmas.List.{map-append}
use Rattle.serde_json.specs.View.{view}
use Rattle.serde_json.specs.declared.value.Value.{Value}
use Rattle.scripts.specs.Reading.{command_of}
use Rattle.scripts.specs.Views.{command_view}
use Rattle.scripts.proofs.lemmas.Lists.{commands-end, commands-fault, commands-next}
use Rattle.scripts.proofs.reading.read_commands.Goals as goal

pub returns-in-Err-BadForm : goal.returns-in-Err-BadForm
returns-in-Err-BadForm c =
    let none = rw c.in-Err-BadForm.field-0-is at c.in-Err-BadForm.ensures in
    commands-fault view c.args.items.now c.loop-k.k (map command_view c.loop-k.commands.items) c.index-items-k.result c.loop-k-test.true c.loop-k.invariant
    (ap (λ (v : Value). command_of (view v)) (sym c.index-items-k.is) ∙ none)

pub loop-k-preserved : goal.loop-k-preserved
loop-k-preserved c =
    rw (c.in_ok-push-in-Ok.ensures.items, map-append)
    (commands-next view c.args.items.now c.loop-k.k (map command_view c.loop-k.commands.items) c.index-items-k.result (command_view c.in-Ok.command) c.loop-k-test.true c.loop-k.invariant
    (ap (λ (v : Value). command_of (view v)) (sym c.index-items-k.is) ∙ c.in-Ok.ensures))

pub returns : goal.returns
returns c = commands-end view c.args.items.now c.loop-k.k (map command_view c.loop-k.commands.items) c.loop-k-test.false c.loop-k.invariant
