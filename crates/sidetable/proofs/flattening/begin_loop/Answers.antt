use Rattle.std.proofs.Common.{◌≡◌, ◌∙◌, ◌-◌, ◌∷◌, [], ap, ap₂, arith, length, refl, ℕ}
use Rattle.std.specs.Prelude.{Option}
use Rattle.sidetable.specs.Counts.{block_counts, changed, height_or_zero}
use Rattle.sidetable.specs.Signatures.{signatures_of}
use Rattle.sidetable.specs.declared.counts.Counts.{Counts}
use Rattle.sidetable.specs.declared.operations.Entry.{Entry}
use Rattle.sidetable.proofs.Beginning.{entry-same, loop-passes}
use Rattle.sidetable.proofs.Marks.{begins-so}
use Rattle.sidetable.proofs.flattening.begin_loop.Goals as goal

pub returns : goal.returns
returns c =
    let f = c.args.f.now in
    let counted = c.requires in
    let start : c.in_ok-number.field-0 ≡ length f.operations.items = omega (arith, c.in_ok-number.ensures, c.len.ensures) in
    let here = c.here-inside.ensures in
    let entry = entry-same c.in_ok-number.field-0 (length f.operations.items) c.in_ok-number-2.field-0 (block_counts (signatures_of c.args.s.now) c.args.ty).takes c.base.result
    (height_or_zero f.heights.here - (block_counts (signatures_of c.args.s.now) c.args.ty).takes) start
    (c.in_ok-number-2.ensures ∙ ap (λ (x : Counts). x.takes) counted) (c.base.ensures ∙ ap₂ (λ (h : Option ℕ) (x : Counts). height_or_zero h - x.takes) here counted) in
    loop-passes (signatures_of c.args.s.now) c.args.outermost f _ c.args.ty
    (begins-so f c.push_operation.new.f c.push_entry.new.self c.push.new.self _ _ _ _ _ c.in_ok-label.ensures.entries (ap (λ (e : Entry). e ∷ []) entry) c.in_ok-push_operation.ensures
    c.in_ok-push.ensures.ok c.in_ok-label.ensures.number refl here
    (c.in_ok-after.ensures ∙ ap₂ changed counted here))
