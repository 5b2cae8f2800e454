use Rattle.std.proofs.Common.{◌≡◌, ◌∙◌, ◌∷◌, [], List, ap, arith, length, length-append, suc}
use Rattle.sidetable.specs.Completion.{ChangesEntries, with_targets}
use Rattle.sidetable.specs.Labels.{second_targets}
use Rattle.sidetable.specs.Signatures.{signatures_of}
use Rattle.sidetable.specs.declared.labels.Level.{Level}
use Rattle.sidetable.specs.declared.operations.PackedOp.TheVariants.{Transfer}
use Rattle.sidetable.specs.declared.operations.TransferInstruction.TheVariants.{Jump}
use Rattle.sidetable.proofs.Ending.{else-passes, in_second}
use Rattle.sidetable.proofs.flattening.step_else.Goals as goal

pub returns : goal.returns
returns c =
    let f = c.args.f.now in
    let level = c.in-Some.level in
    let pushed = c.in_ok-push_operation.ensures in
    let place : c.in_ok-number.field-0 ≡ suc (length f.operations.items) = omega
    (arith, c.in_ok-number.ensures, c.len.ensures, ap length pushed.operations, length-append f.operations.items (Transfer Jump level.label ∷ [])) in
    let tables : ChangesEntries f.tables c.complete_second.new.tables (with_targets f.tables.entries.items (second_targets level.pending c.in_ok-number.field-0)) = rw pushed.tables at
    c.complete_second.ensures in
    else-passes (signatures_of c.args.s.now) c.args.outermost f _ level c.pop.new.self c.in_ok-number.field-0 c.in-Some.ensures (c.in_ok-push.ensures.ok
    ∙ ap (λ (ls : List Level). in_second level ∷ ls) pushed.levels)
    pushed.operations pushed.heights place tables
