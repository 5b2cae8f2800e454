use Rattle.std.proofs.Common.{◌∙◌, ◌-◌, ◌∷◌, [], ap, ap₂, refl, ℕ}
use Rattle.std.specs.Prelude.{Option}
use Rattle.sidetable.specs.Counts.{block_counts, changed, height_or_zero}
use Rattle.sidetable.specs.Signatures.{signatures_of}
use Rattle.sidetable.specs.declared.counts.Counts.{Counts}
use Rattle.sidetable.specs.declared.operations.Entry.{Entry}
use Rattle.sidetable.proofs.Beginning.{block-passes, entry-same}
use Rattle.sidetable.proofs.Marks.{begins-so}
use Rattle.sidetable.proofs.flattening.begin_block.Goals as goal

pub returns : goal.returns
returns c =
    let f = c.args.f.now in
    let counted = c.requires in
    let here = c.here-inside.ensures in
    let entry = entry-same 0 0 c.in_ok-number.field-0 (block_counts (signatures_of c.args.s.now) c.args.ty).gives c.base.result
    (height_or_zero f.heights.here - (block_counts (signatures_of c.args.s.now) c.args.ty).takes) refl (c.in_ok-number.ensures ∙ ap (λ (x : Counts). x.gives) counted)
    (c.base.ensures ∙ ap₂ (λ (h : Option ℕ) (x : Counts). height_or_zero h - x.takes) here counted) in
    block-passes (signatures_of c.args.s.now) c.args.outermost f _ c.args.ty
    (begins-so f c.push_operation.new.f c.push_pending.new.tables c.push.new.self _ _ _ _ _ c.in_ok-label.ensures.entries (ap (λ (e : Entry). e ∷ []) entry) c.in_ok-push_operation.ensures
    c.in_ok-push.ensures.ok c.in_ok-label.ensures.number refl here
    (c.in_ok-after.ensures ∙ ap₂ changed counted here))
