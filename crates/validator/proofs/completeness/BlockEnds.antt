-- Typings of the rest where a body ends: at an end or an else.
use Rattle.std.proofs.Common.{◌≡◌, List, [], ◌∷◌, ◌++◌, length, map, refl, reverse, sym, ap, ◌∙◌, subst, inl, inr, append_assoc}
use Rattle.std.proofs.lemmas.List.{append-nil}
use Rattle.core_types.specs.declared.op.Op.TheVariants as op
use Rattle.core_types.specs.declared.op.Op.{Op}
use Rattle.core_types.specs.declared.types.OperandType.{OperandType}
use Rattle.core_types.specs.declared.types.ValType.{ValType}
use Rattle.meaning.proofs.lemmas.Typing.{AllFit-same}
use Rattle.meaning.specs.structure.Bodies.{Body, Empty, Then, Nested, IfElse, BlockKind, LoopKind, IfKind, writing}
use Rattle.meaning.specs.validation.Context.{Context}
use Rattle.meaning.specs.validation.Instructions.{AllFit, HasType, known}
use Rattle.validator.specs.declared.context.BodyContext.{BodyContext}
use Rattle.validator.specs.declared.control_frames.ControlFrame.{ControlFrame}
use Rattle.validator.specs.declared.control_frames.FrameKind.TheVariants.{Function, Block, Loop, If, Else}
use Rattle.validator.specs.declared.control_frames.FrameKind.{FrameKind}
use Rattle.validator.specs.declared.control_frames.Stacks.{Stacks}
use Rattle.validator.specs.Completeness.{FrameEnd, AroundRest, IsTypingOfRest}
use Rattle.validator.specs.ControlFrames.{inside, label_by, label_of, NeedsNoElse, otherwise}
use Rattle.validator.specs.Operands.{Covers, Refuses, Takes}
use Rattle.validator.specs.Steps.{CannotBeNext, KeepsRest, NeverCloses}
use Rattle.validator.proofs.completeness.Covers.{AllFit-length, Covers-put, Covers-taken}
use Rattle.validator.proofs.completeness.Instructions.{IsTypingOfRest-parts}

no_more : (rest : Body) (ops later : List Op) → op.End ∷ ops ≡ writing rest ++ later → (rest ≡ Empty) × (op.End ∷ ops ≡ later)
no_more Empty ops later e = (refl, e)
no_more (Then o rest) ops later e = absurd cc
no_more (Nested BlockKind t inner rest) ops later e = absurd cc
no_more (Nested LoopKind t inner rest) ops later e = absurd cc
no_more (Nested IfKind t inner rest) ops later e = absurd cc
no_more (IfElse t inner other rest) ops later e = absurd cc

frame_end_by : (context : Context) (kind : FrameKind) (start_types end_types : List ValType) (ops after : List Op)
    → FrameEnd context kind start_types end_types (op.End ∷ ops) after → (ops ≡ after) × NeedsNoElse kind start_types end_types
frame_end_by context Function start_types end_types ops after e = absurd e
frame_end_by context Block start_types end_types ops after e = (cc, tt)
frame_end_by context Loop start_types end_types ops after e = (cc, tt)
frame_end_by context Else start_types end_types ops after e = (cc, tt)
frame_end_by context If start_types end_types ops after (inl (e, same)) = (cc, same)
frame_end_by context If start_types end_types ops after (inr (other, e, typed)) = absurd cc

no_else : (rest : Body) (ops later : List Op) → op.Else ∷ ops ≡ writing rest ++ later → (rest ≡ Empty) × (op.Else ∷ ops ≡ later)
no_else Empty ops later e = (refl, e)
no_else (Then o rest) ops later e = absurd cc
no_else (Nested BlockKind t inner rest) ops later e = absurd cc
no_else (Nested LoopKind t inner rest) ops later e = absurd cc
no_else (Nested IfKind t inner rest) ops later e = absurd cc
no_else (IfElse t inner other rest) ops later e = absurd cc

-- The else that ends the first body of an if, and the second one.
record Second (context : Context) (kind : FrameKind) (start_types end_types : List ValType) (ops after : List Op) : Type 0 where
  is : kind ≡ If
  other : Body
  written : ops ≡ writing other ++ (op.End ∷ after)
  typed : HasType context other (known start_types) (known end_types)

else_by : (context : Context) (kind : FrameKind) (start_types end_types : List ValType) (ops after : List Op)
    → FrameEnd context kind start_types end_types (op.Else ∷ ops) after → Second context kind start_types end_types ops after
else_by context Function start_types end_types ops after e = absurd e
else_by context Block start_types end_types ops after e = absurd cc
else_by context Loop start_types end_types ops after e = absurd cc
else_by context Else start_types end_types ops after e = absurd cc
else_by context If start_types end_types ops after (inl (e, same)) = absurd cc
else_by context If start_types end_types ops after (inr (other, e, typed)) = record { is = refl; other = other; written = cc; typed = typed }

nothing_under : (own others top : List OperandType) → [] ≡ others ++ top → AllFit own top → own ≡ []
nothing_under own (x ∷ others) top e fits = absurd cc
nothing_under [] [] top e fits = refl
nothing_under (x ∷ own) [] [] e fits = absurd fits
nothing_under (x ∷ own) [] (t ∷ top) e fits = absurd cc

-- The operands of a typing that has nothing left of a frame fit its end types. So those of the frame cover them, and all of them are
-- taken.
pub record Left (l : ControlFrame) (operands : List OperandType) (under theirs : List OperandType) : Type 0 where
  pub own : List OperandType
  pub whole : operands ≡ under ++ own
  pub height : length under ≡ l.height
  pub covers : Covers l.unreachable own theirs
  pub fits : AllFit theirs (known l.end_types.now)

pub left_refused : {l : ControlFrame} {operands under theirs : List OperandType} → Refuses l.unreachable l.height operands (known l.end_types.now) → Left l operands under theirs → ⊥
left_refused {under = under} {theirs = theirs} refuses left = refuses.at under left.own left.whole left.height theirs [] theirs left.covers refl left.fits

pub left_taken : {l : ControlFrame} {operands given new under theirs : List OperandType} → Takes l.unreachable l.height operands given new
    → AllFit given (known l.end_types.now) → Left l operands under theirs → new ≡ under
left_taken {l} {given = given} {new = new} {under = under} {theirs = theirs} takes fits left =
    let (rest, below, taken) = takes.at under left.own left.whole left.height in
    let long = AllFit-length theirs (known l.end_types.now) left.fits ∙ sym (AllFit-length given (known l.end_types.now) fits) in
    let (covers, fit) = Covers-taken l.unreachable left.own given rest theirs [] theirs left.covers taken refl long in
    below ∙ ap (λ (z : List OperandType). under ++ z) (nothing_under rest covers.others covers.top covers.parts covers.fits) ∙ append-nil under

module _ {old : Stacks} where
  never_closes : ((under theirs : List OperandType) → Left old.innermost old.operands under theirs → ⊥) → NeverCloses old
  never_closes bar = record { at = λ under own theirs whole height covers fits. bar under theirs (record { own = own; whole = whole; height = height; covers = covers; fits = fits }) }

  never_left : {under theirs : List OperandType} → NeverCloses old → Left old.innermost old.operands under theirs → ⊥
  never_left {under = under} {theirs = theirs} never left = never.at under left.own theirs left.whole left.height left.covers left.fits

  pub NeverCloses-refused : Refuses old.innermost.unreachable old.innermost.height old.operands (known old.innermost.end_types.now) → NeverCloses old
  NeverCloses-refused refuses = never_closes (λ under theirs left. left_refused {l = old.innermost} refuses left)

  -- The end types were taken, and operands of the frame are left.
  pub NeverCloses-over : {given new : List OperandType} → Takes old.innermost.unreachable old.innermost.height old.operands given new
      → AllFit given (known old.innermost.end_types.now) → (length new ≡ old.innermost.height → ⊥) → NeverCloses old
  NeverCloses-over takes fits over = never_closes (λ under theirs left. over (ap length (left_taken {l = old.innermost} takes fits left) ∙ left.height))

module _ {context : Context} {l : ControlFrame} {ls : List ControlFrame} {operands : List OperandType} where
  left_of : {ops : List Op} (p : IsTypingOfRest context l ls operands ops) → p.here.rest ≡ Empty → Left l operands p.under p.here.theirs
  left_of p none = record {
    own = p.here.own;
    whole = p.here.whole;
    height = p.here.height;
    covers = p.here.covers;
    fits = subst (λ (z : Body). HasType (inside context (l ∷ ls)) z p.here.theirs (known l.end_types.now)) none (rw (append-nil p.here.theirs) at p.here.typed);
  }

  pub end_left : {ops : List Op} (p : IsTypingOfRest context l ls operands (op.End ∷ ops)) → Left l operands p.under p.here.theirs
  end_left {ops = ops} p = left_of p (no_more p.here.rest ops p.later p.here.written).0

  pub else_left : {ops : List Op} (p : IsTypingOfRest context l ls operands (op.Else ∷ ops)) → Left l operands p.under p.here.theirs
  else_left {ops = ops} p = left_of p (no_else p.here.rest ops p.later p.here.written).0

  -- Nothing is left to read: only the function's frame is left.
  pub nothing_left : (p : IsTypingOfRest context l ls operands []) → (ls ≡ []) × Left l operands p.under p.here.theirs
  nothing_left p =
      let (none, later) = all_written p.here.rest p.later p.here.written in
      (outermost ls p.under p.later p.around later, left_of p none)
    where
      all_written : (rest : Body) (later : List Op) → [] ≡ writing rest ++ later → (rest ≡ Empty) × ([] ≡ later)
      all_written Empty later e = (refl, e)
      all_written (Then o rest) later e = absurd cc
      all_written (Nested kind t inner rest) later e = absurd cc
      all_written (IfElse t inner other rest) later e = absurd cc

      never : (context : Context) (kind : FrameKind) (start_types end_types : List ValType) (after : List Op) → FrameEnd context kind start_types end_types [] after → ⊥
      never context Function start_types end_types after e = e
      never context Block start_types end_types after e = cc
      never context Loop start_types end_types after e = cc
      never context Else start_types end_types after e = cc
      never context If start_types end_types after (inl (e, same)) = cc
      never context If start_types end_types after (inr (other, e, typed)) = cc

      outermost : (ls : List ControlFrame) (under : List OperandType) (later : List Op) → AroundRest context l ls under later → [] ≡ later → ls ≡ []
      outermost [] under later around e = refl
      outermost (m ∷ ms) under later (after, ended, lower, last, goes, around) e =
          absurd (never (inside context (l ∷ m ∷ ms)) l.kind l.start_types.now l.end_types.now after
          (subst (λ (z : List Op). FrameEnd (inside context (l ∷ m ∷ ms)) l.kind l.start_types.now l.end_types.now z after) (sym e) ended))

-- There is a frame around one that an end or an else ends.
pub end_outside : {context : Context} {l : ControlFrame} {operands : List OperandType} {ops : List Op} → IsTypingOfRest context l [] operands (op.End ∷ ops) → ⊥
end_outside {ops = ops} p =
    let (none, is_later) = no_more p.here.rest ops p.later p.here.written in
    let (kind, nothing, last) = p.around in
    let e : op.End ∷ ops ≡ [] = is_later ∙ last in cc

pub else_outside : {context : Context} {l : ControlFrame} {operands : List OperandType} {ops : List Op} → IsTypingOfRest context l [] operands (op.Else ∷ ops) → ⊥
else_outside {ops = ops} p =
    let (none, is_later) = no_else p.here.rest ops p.later p.here.written in
    let (kind, nothing, last) = p.around in
    let e : op.Else ∷ ops ≡ [] = is_later ∙ last in cc

end_by : {context : Context} {l m : ControlFrame} {ms : List ControlFrame} {operands : List OperandType} {ops : List Op}
    (p : IsTypingOfRest context l (m ∷ ms) operands (op.End ∷ ops)) → (ops ≡ p.around.0) × NeedsNoElse l.kind l.start_types.now l.end_types.now
end_by {context} {l} {m} {ms} {ops = ops} p =
    let (none, is_later) = no_more p.here.rest ops p.later p.here.written in
    frame_end_by (inside context (l ∷ m ∷ ms)) l.kind l.start_types.now l.end_types.now ops p.around.0
    (subst (λ (z : List Op). FrameEnd (inside context (l ∷ m ∷ ms)) l.kind l.start_types.now l.end_types.now z p.around.0) (sym is_later) p.around.1)

-- An end ends only a frame that needs no else.
end_alone : {context : Context} {l : ControlFrame} {ls : List ControlFrame} {operands : List OperandType} {ops : List Op}
    → IsTypingOfRest context l ls operands (op.End ∷ ops) → NeedsNoElse l.kind l.start_types.now l.end_types.now
end_alone {ls = []} p = absurd (end_outside p)
end_alone {ls = m ∷ ms} p = (end_by p).1

-- An end ends a frame, and the frame around it continues.
pub end_goes : {context : Context} {l m : ControlFrame} {ms : List ControlFrame} {operands given new : List OperandType} {ops : List Op}
    → Takes l.unreachable l.height operands given new → AllFit given (known l.end_types.now)
    → IsTypingOfRest context l (m ∷ ms) operands (op.End ∷ ops) → IsTypingOfRest context m ms (new ++ known l.end_types.now) ops
end_goes {l = l} {m} takes fits p =
    let here = left_taken takes fits (end_left p) in
    let (after, ended, lower, last, goes, around) = p.around in
    record {
      under = lower;
      later = last;
      around = around;
      here = record {
        own = goes.own ++ known l.end_types.now;
        height = goes.height;
        rest = goes.rest;
        written = (end_by p).0 ∙ goes.written;
        whole = ap (λ (z : List OperandType). z ++ known l.end_types.now) (here ∙ goes.whole) ∙ append_assoc lower goes.own (known l.end_types.now);
        theirs = goes.theirs ++ known l.end_types.now;
        covers = Covers-put m.unreachable goes.own goes.theirs (known l.end_types.now) (known l.end_types.now) goes.covers (AllFit-same (known l.end_types.now));
        typed = rw (append-nil (goes.theirs ++ known l.end_types.now)) goes.typed;
      };
    }

second_of : {context : Context} {l m : ControlFrame} {ms : List ControlFrame} {operands : List OperandType} {ops : List Op}
    (p : IsTypingOfRest context l (m ∷ ms) operands (op.Else ∷ ops))
    → Second (inside context (l ∷ m ∷ ms)) l.kind l.start_types.now l.end_types.now ops p.around.0
second_of {context} {l} {m} {ms} {ops = ops} p =
    let (none, is_later) = no_else p.here.rest ops p.later p.here.written in
    else_by (inside context (l ∷ m ∷ ms)) l.kind l.start_types.now l.end_types.now ops p.around.0
    (subst (λ (z : List Op). FrameEnd (inside context (l ∷ m ∷ ms)) l.kind l.start_types.now l.end_types.now z p.around.0) (sym is_later) p.around.1)

-- An else ends only the first body of an if.
pub else_kind : {context : Context} {l : ControlFrame} {ls : List ControlFrame} {operands : List OperandType} {ops : List Op} → IsTypingOfRest context l ls operands (op.Else ∷ ops) → l.kind ≡ If
else_kind {ls = []} p = absurd (else_outside p)
else_kind {ls = m ∷ ms} p = (second_of p).is

else_inside : {context : Context} {l m : ControlFrame} {ms : List ControlFrame} {operands given new : List OperandType} {ops : List Op}
    → Takes l.unreachable l.height operands given new → AllFit given (known l.end_types.now) → IsTypingOfRest context l (m ∷ ms) operands (op.Else ∷ ops)
    → IsTypingOfRest context (otherwise l) (m ∷ ms) (new ++ known l.start_types.now) ops
else_inside {context} {l} {m} {ms} {new = new} takes fits p =
    let here = left_taken takes fits (else_left p) in
    let (after, ended, lower, last, goes, around) = p.around in
    let second = second_of p in
    let typed = subst (λ (k : FrameKind).
    HasType (record context { labels = label_by k l.start_types.now l.end_types.now ∷ map label_of (m ∷ ms) }) second.other
    (known l.start_types.now) (known l.end_types.now)) second.is second.typed in
    record {
      under = p.under;
      later = op.End ∷ p.around.0;
      around = (after, refl, lower, last, goes, around);
      here = record {
        own = known l.start_types.now;
        height = p.here.height;
        rest = second.other;
        written = second.written;
        whole = ap (λ (z : List OperandType). z ++ known l.start_types.now) here;
        theirs = known l.start_types.now;
        covers = record { others = []; top = known l.start_types.now; parts = refl; fits = AllFit-same (known l.start_types.now); alone = λ alive. refl };
        typed = rw (append-nil (known l.start_types.now)) typed;
      };
    }

pub else_goes : {context : Context} {l : ControlFrame} {ls : List ControlFrame} {operands given new : List OperandType} {ops : List Op}
    → Takes l.unreachable l.height operands given new → AllFit given (known l.end_types.now) → IsTypingOfRest context l ls operands (op.Else ∷ ops)
    → IsTypingOfRest context (otherwise l) ls (new ++ known l.start_types.now) ops
else_goes {ls = []} takes fits p = absurd (else_outside p)
else_goes {ls = m ∷ ms} takes fits p = else_inside takes fits p

module _ {s : BodyContext} {old : Stacks} where
  pub end_refused : NeverCloses old → CannotBeNext s old op.End
  end_refused never = record { at = λ context is ops p. never_left never (end_left p) }

  pub end_needs_else : (NeedsNoElse old.innermost.kind old.innermost.start_types.now old.innermost.end_types.now → ⊥) → CannotBeNext s old op.End
  end_needs_else bar = record { at = λ context is ops p. bar (end_alone p) }

  pub end_outside_refused : old.outer.items ≡ [] → CannotBeNext s old op.End
  end_outside_refused none = record {
    at = λ context is ops p.
        end_outside (subst (λ (z : List ControlFrame). IsTypingOfRest context old.innermost z old.operands (op.End ∷ ops))
        (ap (λ (z : List ControlFrame). reverse z) none) p);
  }

  pub else_refused : NeverCloses old → CannotBeNext s old op.Else
  else_refused never = record { at = λ context is ops p. never_left never (else_left p) }

  pub else_without_if : (old.innermost.kind ≡ If → ⊥) → CannotBeNext s old op.Else
  else_without_if bar = record { at = λ context is ops p. bar (else_kind p) }

module _ {s : BodyContext} {old new : Stacks} {given left : List OperandType} where
  pub end_complete : (around : ControlFrame) (outer : List ControlFrame) → reverse old.outer.items ≡ around ∷ reverse outer
      → Takes old.innermost.unreachable old.innermost.height old.operands given left → AllFit given (known old.innermost.end_types.now)
      → new.innermost ≡ around → new.outer.items ≡ outer → new.operands ≡ left ++ known old.innermost.end_types.now → KeepsRest s old new op.End
  end_complete around outer split takes fits innermost below operands = record {
    on = λ context is ops p.
        IsTypingOfRest-parts context new.innermost around (reverse new.outer.items) (reverse outer) new.operands
        (left ++ known old.innermost.end_types.now) ops innermost (ap (λ (z : List ControlFrame). reverse z) below) operands
        (end_goes takes fits (subst (λ (z : List ControlFrame). IsTypingOfRest context old.innermost z old.operands (op.End ∷ ops)) split p));
  }

  pub else_complete : Takes old.innermost.unreachable old.innermost.height old.operands given left → AllFit given (known old.innermost.end_types.now)
      → new.innermost ≡ otherwise old.innermost → new.outer.items ≡ old.outer.items → new.operands ≡ left ++ known old.innermost.start_types.now → KeepsRest s old new op.Else
  else_complete takes fits innermost outer operands = record {
    on = λ context is ops p.
        IsTypingOfRest-parts context new.innermost (otherwise old.innermost) (reverse new.outer.items) (reverse old.outer.items) new.operands
        (left ++ known old.innermost.start_types.now) ops innermost (ap (λ (z : List ControlFrame). reverse z) outer) operands (else_goes takes fits p);
  }
