use Rattle.std.proofs.Common.{ap, refl}
use Rattle.std.specs.Prelude.{Option}
use Rattle.std.proofs.lemmas.Result.{on_ok_weaker}
use Rattle.core_types.specs.declared.op.PlainOp.TheVariants.{Control}
use Rattle.sidetable.specs.Counts.{behind}
use Rattle.sidetable.specs.Signatures.{signatures_of}
use Rattle.sidetable.specs.declared.counts.Counts.{Counts}
use Rattle.sidetable.proofs.Passing.{have-entries, plain-passes}
use Rattle.sidetable.proofs.flattening.pass_control.Goals as goal

pub pack_control-requires : goal.pack_control-requires
pack_control-requires c =
    let (before, begun) = c.requires in
    have-entries before c.args.outermost c.args.f.now begun

pub returns : goal.returns
returns c =
    let packed = c.in_ok-packed.packed in
    let counts = c.in_ok-packed.ensures.counts in
    on_ok_weaker c.push_packed.result
    (λ pushes. plain-passes (signatures_of c.args.s.now) c.args.outermost c.args.f.now c.push_packed.new.f packed.op (Control c.args.op) (behind packed.counts c.args.f.now.heights.here)
    (rw pushes.tables c.in_ok-packed.ensures.adds) (rw pushes.tables c.in_ok-packed.ensures.packs) (ap (λ (x : Option Counts). behind x c.args.f.now.heights.here) counts) (record { operations = pushes.operations; heights = pushes.heights; tables = refl; levels = pushes.levels }))
    c.push_packed.ensures
