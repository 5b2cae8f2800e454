-- The targets that are left, an operation on.
use Rattle.std.proofs.Common.{◌≡◌, ℕ, suc, ◌+◌, List, [], ◌∷◌, ◌++◌, ap, sym, ◌∙◌, add-zero, arith}
use Rattle.std.proofs.lemmas.List.Elements.{All-append, All-cons, All-head, All-nil, All-tail}
use Rattle.std.specs.List.{All}
use Rattle.std.specs.Prelude.{Option, Some, None}
use Rattle.core_types.specs.declared.op.BlockType.{BlockType}
use Rattle.core_types.specs.declared.op.Op.{Op}
use Rattle.core_types.specs.declared.op.Op.TheVariants as op
use Rattle.core_types.specs.declared.op.PlainOp.{PlainOp}
use Rattle.meaning.specs.structure.Bodies.{Body, IfElse, Kind, Nested, Part, Rests, first_part, other_parts, rests}
use Rattle.sidetable.specs.Flat.{size}
use Rattle.sidetable.specs.Flattening.{targets_around, targets_left}
use Rattle.sidetable.specs.Labels.{IfSecond, targets_of, second_targets}
use Rattle.sidetable.specs.declared.labels.Level.{Level}
use Rattle.sidetable.specs.declared.labels.Pending.{Pending}
use Rattle.sidetable.specs.declared.labels.Pending.TheVariants.{Nothing, End, SecondAndEnd}

module _ (outermost : ℕ) (levels : List Level) (at : ℕ) where
  pub targets-plain : (o : PlainOp) (ops : List Op) → targets_left outermost levels (suc at) (rests ops) ≡ targets_left outermost levels at (rests (op.Plain o ∷ ops))
  targets-plain o ops =
      let same : suc at + size (rests ops).here.body ≡ at + suc (size (rests ops).here.body) = omega arith in
      ap (λ (n : ℕ). targets_around outermost levels (rests ops).here.other n (rests ops).around) same

  -- a body that begins
  module _ (l : Level) (type : BlockType) (r : Rests) where
    abbrev around-mark : Body → Rests
    around-mark body = record { here = record { body = body; other = (first_part r.around).other }; around = other_parts r.around }

    abbrev end-of-first : ℕ
    end-of-first = suc at + size r.here.body

    pub targets-nested : (kind : Kind) → r.here.other ≡ None
        → targets_left outermost (l ∷ levels) (suc at) r ≡ targets_of l.pending l.label end-of-first end-of-first ++ targets_left outermost levels at
        (around-mark (Nested kind type r.here.body (first_part r.around).body))
    targets-nested kind none =
        let same : end-of-first + size (first_part r.around).body ≡ at + suc (size r.here.body + size (first_part r.around).body) = omega arith in
        ap (λ (other : Option Body). targets_around outermost (l ∷ levels) other end-of-first r.around) none
        ∙ ap (λ (n : ℕ). targets_of l.pending l.label end-of-first end-of-first ++ targets_around outermost levels (first_part r.around).other n (other_parts r.around)) same

    pub targets-both : (other : Body) → r.here.other ≡ Some other
        → targets_left outermost (l ∷ levels) (suc at) r ≡ targets_of l.pending l.label (suc end-of-first) (suc end-of-first + size other) ++ targets_left outermost levels at
        (around-mark (IfElse type r.here.body other (first_part r.around).body))
    targets-both other some =
        let same : suc end-of-first + size other + size (first_part r.around).body ≡ at + suc (size r.here.body + suc (size other + size (first_part r.around).body)) = omega arith in
        ap (λ (o : Option Body). targets_around outermost (l ∷ levels) o end-of-first r.around) some
        ∙ ap (λ (n : ℕ). targets_of l.pending l.label (suc end-of-first) (suc end-of-first + size other) ++ targets_around outermost levels (first_part r.around).other n (other_parts r.around)) same

-- A second body that begins behind an else.
pub targets-else : (outermost : ℕ) (l : Level) (levels : List Level) (at number : ℕ) (ops : List Op) → l.pending ≡ SecondAndEnd number → (rests ops).here.other ≡ None
    → targets_left outermost (l ∷ levels) at (rests (op.Else ∷ ops)) ≡ (number, suc at) ∷ targets_left outermost
    ((let m : Level = record { label = l.label; pending = End; inside = l.inside; after = l.after } in m) ∷ levels) (suc at) (rests ops)
targets-else outermost l levels at number ops pending none =
    ap (λ (n : ℕ). targets_around outermost (l ∷ levels) (Some (rests ops).here.body) n (rests ops).around) (add-zero at)
    ∙ ap (λ (p : Pending). targets_of p l.label (suc at) (suc at + size (rests ops).here.body) ++ targets_around outermost levels (first_part (rests ops).around).other
    (suc at + size (rests ops).here.body + size (first_part (rests ops).around).body) (other_parts (rests ops).around)) pending
    ∙ ap (λ (o : Option Body). (number, suc at) ∷ targets_around outermost ((let m : Level = record { label = l.label; pending = End; inside = l.inside; after = l.after } in m) ∷ levels) o
    (suc at + size (rests ops).here.body) (rests ops).around) (sym none)

-- A body that ends.
pub targets-end : (outermost : ℕ) (l : Level) (levels : List Level) (at : ℕ) (ops : List Op)
    → targets_left outermost (l ∷ levels) at (rests (op.End ∷ ops)) ≡ targets_of l.pending l.label at at ++ targets_left outermost levels at (rests ops)
targets-end outermost l levels at ops = ap (λ (n : ℕ). targets_around outermost (l ∷ levels) None n ((rests ops).here ∷ (rests ops).around)) (add-zero at)

-- A weaker fact of the second part.
pub second-weaker : (P Q : ℕ → Type 0) → ((n : ℕ) → P n → Q n) → (p : Pending) → IfSecond P p → IfSecond Q p
second-weaker P Q weaker Nothing holds = holds
second-weaker P Q weaker End holds = holds
second-weaker P Q weaker (SecondAndEnd number) holds = weaker number holds

-- ---- what holds of the numbers of labels holds of those of targets

module _ (P : ℕ → Type 0) where
  abbrev pub HoldsOfLevel : Level → Type 0
  HoldsOfLevel l = P l.label × IfSecond P l.pending

  abbrev OfTarget : (ℕ × ℕ) → Type 0
  OfTarget t = P t.0

  pub holds-of-targets : (p : Pending) (label second end : ℕ) → P label → IfSecond P p → All (λ (t : ℕ × ℕ). P t.0) (targets_of p label second end)
  holds-of-targets Nothing label second end h k = All-nil OfTarget
  holds-of-targets End label second end h k = All-cons OfTarget (label, end) [] h (All-nil OfTarget)
  holds-of-targets (SecondAndEnd number) label second end h k = All-cons OfTarget (number, second) ((label, end) ∷ []) k (All-cons OfTarget (label, end) [] h (All-nil OfTarget))

  pub holds-of-second : (p : Pending) (place : ℕ) → IfSecond P p → All (λ (t : ℕ × ℕ). P t.0) (second_targets p place)
  holds-of-second Nothing place k = All-nil OfTarget
  holds-of-second End place k = All-nil OfTarget
  holds-of-second (SecondAndEnd number) place k = All-cons OfTarget (number, place) [] k (All-nil OfTarget)

  pub holds-around : (outermost : ℕ) → P outermost → (levels : List Level) (other : Option Body) (at : ℕ) (around : List Part) → All HoldsOfLevel levels
      → All (λ (t : ℕ × ℕ). P t.0) (targets_around outermost levels other at around)
  holds-around outermost outer [] other at around inner = All-cons OfTarget (outermost, at) [] outer (All-nil OfTarget)
  holds-around outermost outer (l ∷ levels) None at around inner =
      let (label, second) = All-head HoldsOfLevel l levels inner in
      All-append OfTarget (targets_of l.pending l.label at at) _ (holds-of-targets l.pending l.label at at label second)
      (holds-around outermost outer levels (first_part around).other (at + size (first_part around).body) (other_parts around) (All-tail HoldsOfLevel l levels inner))
  holds-around outermost outer (l ∷ levels) (Some other) at around inner =
      let (label, second) = All-head HoldsOfLevel l levels inner in
      All-append OfTarget (targets_of l.pending l.label (suc at) (suc at + size other)) _ (holds-of-targets l.pending l.label (suc at) (suc at + size other) label second)
      (holds-around outermost outer levels (first_part around).other (suc at + size other + size (first_part around).body) (other_parts around) (All-tail HoldsOfLevel l levels inner))
