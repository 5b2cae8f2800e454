use Rattle.std.proofs.Common.{ap, refl}
use Rattle.std.specs.Prelude.{Option}
use Rattle.std.proofs.lemmas.Result.{on_ok_weaker}
use Rattle.sidetable.specs.Counts.{behind}
use Rattle.sidetable.specs.Signatures.{signatures_of}
use Rattle.sidetable.specs.declared.counts.Counts.{Counts}
use Rattle.sidetable.proofs.Passing.{have-entries, plain-passes}
use Rattle.sidetable.proofs.flattening.pass_any.Goals as goal

pub returns-in-Block : goal.returns-in-Block
returns-in-Block c = rw c.in-Block.is c.step_block.ensures

pub returns-in-Loop : goal.returns-in-Loop
returns-in-Loop c = rw c.in-Loop.is c.step_loop.ensures

pub returns-in-If : goal.returns-in-If
returns-in-If c = rw c.in-If.is c.step_if.ensures

pub returns-in-Else : goal.returns-in-Else
returns-in-Else c = rw c.in-Else.is c.step_else.ensures

pub returns-in-End : goal.returns-in-End
returns-in-End c = rw c.in-End.is c.step_end.ensures

pub pack-requires : goal.pack-requires
pack-requires c =
    let (before, begun) = c.requires in
    have-entries before c.args.outermost c.args.f.now begun

pub returns-in_ok-packed-in-Plain : goal.returns-in_ok-packed-in-Plain
returns-in_ok-packed-in-Plain c =
    let packed = c.in_ok-packed-in-Plain.packed in
    let packs = c.in_ok-packed-in-Plain.ensures in
    rw c.in-Plain.is
    (on_ok_weaker c.push_packed.result
    (λ pushes. plain-passes (signatures_of c.args.s.now) c.args.outermost c.args.f.now c.push_packed.new.f packed.op c.in-Plain.op (behind packed.counts c.args.f.now.heights.here)
    (rw pushes.tables packs.adds) (rw pushes.tables packs.packs) (ap (λ (x : Option Counts). behind x c.args.f.now.heights.here) packs.counts)
    (record { operations = pushes.operations; heights = pushes.heights; tables = refl; levels = pushes.levels }))
    c.push_packed.ensures)
