use denote.Ref.{Bor}
use Rattle.std.proofs.Common.{◌≡◌, ◌++◌, ◌∷◌, ◌+◌, ◌-◌, ◌<◌, ℕ, [], List, ap, arith, drop, get_or, length, slice_set, subst, sym, take, ◌∙◌}
use Rattle.std.proofs.Math.Seq.{take-append_seam}
use Rattle.std.proofs.lemmas.List.{length-append, length-drop, length-map, length-take-le, map-append, take-append-drop, take_all}
use Rattle.core_types.specs.declared.types.ValType.{ValType}
use Rattle.validator.specs.OperandStack.{AreEntries, types_of}
use Rattle.validator.specs.declared.entries.Entry.{Entry}
use Rattle.validator.specs.declared.entries.Entry.TheVariants.{Run}
use Rattle.validator.proofs.OperandEntries.{has_run, operands_with_front, operands_with_run, some_on_top, top_within, types_parts, with_front, without_run}
use Rattle.validator.proofs.OperandStack.{set_last}
use Rattle.validator.proofs.operand_stack.cut_run.Goals as goal

-- The entries, the runs below the topmost one, and its types.
kept_parts : (es : List Entry) (bs : List (Bor (List ValType))) (more : ℕ) (x : Bor (List ValType)) (n : ℕ) (below : List Entry)
    → AreEntries es (types_of bs) more → es ≡ below ++ Run ∷ [] → n + 1 ≡ length bs → x ≡ get_or bs n x
    → AreEntries (below ++ Run ∷ []) (types_of (take n bs) ++ x.now ∷ []) more
kept_parts es bs more x n below kept parts last is = rw (← parts, ← types_parts bs x n last is) kept

-- The same with another topmost run.
types_set : (bs : List (Bor (List ValType))) (x : Bor (List ValType)) (n : ℕ) → n + 1 ≡ length bs → types_of (slice_set bs n x) ≡ types_of (take n bs) ++ x.now ∷ []
types_set bs x n last = ap types_of (set_last bs x n last) ∙ map-append (λ (run : Bor (List ValType)). run.now) (take n bs) (x ∷ [])

some_runs : (es : List Entry) (bs : List (Bor (List ValType))) (more : ℕ) (below : List Entry) → AreEntries es (types_of bs) more → es ≡ below ++ Run ∷ [] → 0 < length bs
some_runs es bs more below kept parts = omega (arith, has_run below kept parts, length-map bs (λ (run : Bor (List ValType)). run.now))

-- The entries below the topmost one.
entries_below : (es below : List Entry) (n : ℕ) → es ≡ below ++ Run ∷ [] → n ≡ length es - 1 → take n es ≡ below
entries_below es below n parts is =
    let long : n ≡ length below = omega (arith, is, ap length parts, length-append below (Run ∷ [])) in
    ap (λ (k : ℕ). take k es) long ∙ ap (take (length below)) parts ∙ take-append_seam below (Run ∷ [])

pub overflow_sub-index : goal.overflow_sub-index
overflow_sub-index c =
    let (below, parts) = c.requires.top in
    omega (arith, c.len-index.ensures, some_runs c.args.entries.now.items c.args.runs.now.items c.args.more.now below c.requires.entries parts)

pub index-run-requires : goal.index-run-requires
index-run-requires c =
    let (below, parts) = c.requires.top in
    omega (arith, c.len-index.ensures, some_runs c.args.entries.now.items c.args.runs.now.items c.args.more.now below c.requires.entries parts)

pub overflow_sub-more : goal.overflow_sub-more
overflow_sub-more c =
    let (below, parts) = c.requires.top in
    let bs = c.args.runs.now.items in
    let last : c.len-index.result - 1 + 1 ≡ length bs = omega (arith, c.len-index.ensures, some_runs c.args.entries.now.items bs c.args.more.now below c.requires.entries parts) in
    some_on_top below (types_of (take (c.len-index.result - 1) bs)) c.index-run.result.now.now
    (kept_parts c.args.entries.now.items bs c.args.more.now c.index-run.result.now (c.len-index.result - 1) below c.requires.entries parts last c.index-run.ensures)

pub overflow_sub-more-then-run-most : goal.overflow_sub-more-then-run-most
overflow_sub-more-then-run-most c =
    let (below, parts) = c.requires.top in
    let bs = c.args.runs.now.items in
    let last : c.len-index.result - 1 + 1 ≡ length bs = omega (arith, c.len-index.ensures, some_runs c.args.entries.now.items bs c.args.more.now below c.requires.entries parts) in
    omega (
      arith,
      top_within below (types_of (take (c.len-index.result - 1) bs)) c.index-run.result.now.now
          (kept_parts c.args.entries.now.items bs c.args.more.now c.index-run.result.now (c.len-index.result - 1) below c.requires.entries parts last c.index-run.ensures),
    )

pub returns-then-run-most-clause-entries : goal.returns-then-run-most-clause-entries
returns-then-run-most-clause-entries c =
    let (below, parts) = c.requires.top in
    let bs = c.args.runs.now.items in
    let last : c.len-index.result - 1 + 1 ≡ length bs = omega (arith, c.len-index.ensures, some_runs c.args.entries.now.items bs c.args.more.now below c.requires.entries parts) in
    let left : c.truncate-then-run-most.new.self.items ≡ below =
    c.truncate-then-run-most.ensures.items ∙ entries_below c.args.entries.now.items below (c.len.result - 1) parts (omega (arith, c.len.ensures)) in
    rw (left, c.truncate.ensures.items) (without_run below (types_of (take (c.len-index.result - 1) bs)) c.index-run.result.now.now
    (kept_parts c.args.entries.now.items bs c.args.more.now c.index-run.result.now (c.len-index.result - 1) below c.requires.entries parts last c.index-run.ensures))

pub returns-then-run-most-clause-popped : goal.returns-then-run-most-clause-popped
returns-then-run-most-clause-popped c =
    let (below, parts) = c.requires.top in
    let bs = c.args.runs.now.items in
    let n = c.len-index.result - 1 in
    let last : n + 1 ≡ length bs = omega (arith, c.len-index.ensures, some_runs c.args.entries.now.items bs c.args.more.now below c.requires.entries parts) in
    let left : c.truncate-then-run-most.new.self.items ≡ below =
    c.truncate-then-run-most.ensures.items ∙ entries_below c.args.entries.now.items below (c.len.result - 1) parts (omega (arith, c.len.ensures)) in
    let kept = kept_parts c.args.entries.now.items bs c.args.more.now c.index-run.result.now n below c.requires.entries parts last c.index-run.ensures in
    rw (left, c.truncate.ensures.items, parts, types_parts bs c.index-run.result.now n last c.index-run.ensures)
    (operands_with_run below (types_of (take n bs)) c.index-run.result.now.now kept)

pub returns-then-run-most-clause-some : goal.returns-then-run-most-clause-some
returns-then-run-most-clause-some c =
    let (below, parts) = c.requires.top in
    let bs = c.args.runs.now.items in
    let last : c.len-index.result - 1 + 1 ≡ length bs = omega (arith, c.len-index.ensures, some_runs c.args.entries.now.items bs c.args.more.now below c.requires.entries parts) in
    some_on_top below (types_of (take (c.len-index.result - 1) bs)) c.index-run.result.now.now
    (kept_parts c.args.entries.now.items bs c.args.more.now c.index-run.result.now (c.len-index.result - 1) below c.requires.entries parts last c.index-run.ensures)

pub index_mut-requires : goal.index_mut-requires
index_mut-requires c =
    let (below, parts) = c.requires.top in
    omega (arith, c.len-index.ensures, some_runs c.args.entries.now.items c.args.runs.now.items c.args.more.now below c.requires.entries parts)

pub overflow_sub-more-2 : goal.overflow_sub-more-2
overflow_sub-more-2 c =
    let (below, parts) = c.requires.top in
    let bs = c.args.runs.now.items in
    let last : c.len-index.result - 1 + 1 ≡ length bs = omega (arith, c.len-index.ensures, some_runs c.args.entries.now.items bs c.args.more.now below c.requires.entries parts) in
    omega (
      arith,
      c.if-run-most.false,
      top_within below (types_of (take (c.len-index.result - 1) bs)) c.index-run.result.now.now
          (kept_parts c.args.entries.now.items bs c.args.more.now c.index-run.result.now (c.len-index.result - 1) below c.requires.entries parts last c.index-run.ensures),
    )

pub returns-clause-entries : goal.returns-clause-entries
returns-clause-entries c =
    let (below, parts) = c.requires.top in
    let bs = c.args.runs.now.items in
    let n = c.len-index.result - 1 in
    let top = c.index-run.result.now in
    let left = length top.now - c.args.most in
    let front = take left top.now in
    let last : n + 1 ≡ length bs = omega (arith, c.len-index.ensures, some_runs c.args.entries.now.items bs c.args.more.now below c.requires.entries parts) in
    let kept = kept_parts c.args.entries.now.items bs c.args.more.now top n below c.requires.entries parts last c.index-run.ensures in
    let some : 0 < length front = rw (length-take-le left top.now (omega arith)) (omega (arith, c.if-run-most.false)) in
    let cut : length (drop left top.now) ≡ c.args.most = omega (arith, length-drop left top.now, c.if-run-most.false) in
    rw (types_set bs _ n last, parts)
    (subst (λ (k : ℕ). AreEntries (below ++ Run ∷ []) (types_of (take n bs) ++ front ∷ []) (c.args.more.now - k)) cut
    (with_front below (types_of (take n bs)) top.now kept front (drop left top.now) (sym (take-append-drop left top.now)) some))

pub returns-clause-popped : goal.returns-clause-popped
returns-clause-popped c =
    let (below, parts) = c.requires.top in
    let bs = c.args.runs.now.items in
    let n = c.len-index.result - 1 in
    let top = c.index-run.result.now in
    let left = length top.now - c.args.most in
    let front = take left top.now in
    let last : n + 1 ≡ length bs = omega (arith, c.len-index.ensures, some_runs c.args.entries.now.items bs c.args.more.now below c.requires.entries parts) in
    let kept = kept_parts c.args.entries.now.items bs c.args.more.now top n below c.requires.entries parts last c.index-run.ensures in
    rw (types_set bs _ n last, parts, types_parts bs top n last c.index-run.ensures, take_all (length top.now - left) (drop left top.now) (omega (arith, length-drop left top.now)))
    (operands_with_front below (types_of (take n bs)) top.now kept front (drop left top.now) (sym (take-append-drop left top.now)))
