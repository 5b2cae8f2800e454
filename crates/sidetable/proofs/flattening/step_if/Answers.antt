use Rattle.std.proofs.Common.{◌≡◌, ◌∙◌, ◌-◌, ◌++◌, ◌∷◌, [], List, ap, ap₂, append_assoc, arith, length, length-append, refl, suc, ℕ}
use Rattle.std.specs.Prelude.{Option}
use Rattle.sidetable.specs.Completion.{ChangesEntries}
use Rattle.sidetable.specs.Counts.{block_counts, changed, height_or_zero, less}
use Rattle.sidetable.specs.Flattening.{Pushes}
use Rattle.sidetable.specs.Signatures.{signatures_of}
use Rattle.sidetable.specs.declared.counts.Counts.{Counts}
use Rattle.sidetable.specs.declared.labels.Pending.TheVariants.{SecondAndEnd}
use Rattle.sidetable.specs.declared.operations.Entry.{Entry}
use Rattle.sidetable.specs.declared.operations.PackedOp.TheVariants as packed
use Rattle.sidetable.proofs.Beginning.{entry-same, if-passes}
use Rattle.sidetable.proofs.Marks.{begins-so}
use Rattle.sidetable.proofs.Passing.{with-tables}
use Rattle.sidetable.proofs.flattening.step_if.Goals as goal

pub returns : goal.returns
returns c =
    let f = c.args.f.now in
    let counted = c.counts_of_block-c.ensures in
    let inside = c.less_one-inside.ensures ∙ ap (less 1) c.here.ensures in
    let counts = block_counts (signatures_of c.args.s.now) c.args.ty in
    let base : ℕ = height_or_zero (less 1 f.heights.here) - counts.takes in
    let high : c.base-height.result ≡ base = c.base-height.ensures ∙ ap₂ (λ (h : Option ℕ) (x : Counts). height_or_zero h - x.takes) inside counted in
    let first = entry-same 0 0 c.in_ok-number.field-0 counts.gives c.base-height.result base refl (c.in_ok-number.ensures ∙ ap (λ (x : Counts). x.gives) counted) high in
    let second = entry-same 0 0 c.in_ok-number-2.field-0 counts.takes c.base-height.result base refl (c.in_ok-number-2.ensures ∙ ap (λ (x : Counts). x.takes) counted) high in
    let e : Entry = record { target = 0; kept = c.in_ok-number.field-0; height = c.base-height.result } in
    let g : Entry = record { target = 0; kept = c.in_ok-number-2.field-0; height = c.base-height.result } in
    let one = c.in_ok-label.ensures.entries in
    let two = c.in_ok-second.ensures.entries in
    let number : c.in_ok-second.second ≡ suc (length f.tables.entries.items) = c.in_ok-second.ensures.number ∙ ap length one.entries ∙ length-append f.tables.entries.items (e ∷ [])
    ∙ omega arith in
    let tables : ChangesEntries f.tables c.push_pending-2.new.tables (f.tables.entries.items ++ (e ∷ (g ∷ []))) = record {
      entries = two.entries ∙ ap (λ (es : List Entry). es ++ (g ∷ [])) one.entries ∙ append_assoc f.tables.entries.items (e ∷ []) (g ∷ []);
      branch_ranges = two.branch_ranges ∙ one.branch_ranges;
      constants = two.constants ∙ one.constants;
      pairs = two.pairs ∙ one.pairs;
    } in
    let pushes : Pushes (with-tables f c.push_pending-2.new.tables) (packed.If (suc (length f.tables.entries.items))) c.less_one-inside.result c.push_operation.new.f = rw number at
    c.in_ok-push_operation.ensures in
    if-passes (signatures_of c.args.s.now) c.args.outermost f _ c.args.ty
    (begins-so f c.push_operation.new.f c.push_pending-2.new.tables c.push.new.self (packed.If (suc (length f.tables.entries.items))) _ _ (e ∷ (g ∷ [])) _ tables
    (ap₂ (λ (x y : Entry). x ∷ (y ∷ [])) first second) pushes c.in_ok-push.ensures.ok c.in_ok-label.ensures.number
    (ap SecondAndEnd number) inside (c.in_ok-after.ensures ∙ ap₂ changed counted inside))
