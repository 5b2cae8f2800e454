-- Typings of what was read: how they grow with an instruction, a block, an else and an end.
use Rattle.std.proofs.Common.{Some, ◌≡◌, Bool, true, false, List, [], ◌∷◌, ◌++◌, length, take, replicate, reverse, refl, sym, ap, subst, ◌∙◌, inl, inr, append_assoc, length-append, arith}
use Rattle.std.proofs.lemmas.List.{append-nil, nil_from_length, reverse-append, take_at}
use Rattle.std.specs.Prelude.{IsTrue, ◌↔◌}
use Rattle.core_types.specs.declared.op.BlockType.{BlockType}
use Rattle.core_types.specs.declared.op.Op.TheVariants as op
use Rattle.core_types.specs.declared.op.Op.{Op}
use Rattle.core_types.specs.declared.op.PlainOp.{PlainOp}
use Rattle.core_types.specs.declared.types.FuncType.{FuncType}
use Rattle.core_types.specs.declared.types.OperandType.TheVariants.{Unknown}
use Rattle.core_types.specs.declared.types.OperandType.{OperandType}
use Rattle.core_types.specs.declared.types.ValType.TheVariants.{I32}
use Rattle.core_types.specs.declared.types.ValType.{ValType}
use Rattle.meaning.proofs.lemmas.Typing.{AllFit-same, AllFit-joined, HasType-after, HasType-joined, writing-joined}
use Rattle.meaning.specs.structure.Bodies.{joined, Body, BlockKind, LoopKind, IfKind, Empty, Then, Nested, IfElse, writing}
use Rattle.meaning.specs.validation.Context.{Context, with_label}
use Rattle.meaning.specs.validation.Instructions.{AllFit, Rule, HasType, known}
use Rattle.meaning.specs.validation.Types.{function_type, block_type}
use Rattle.validator.specs.declared.control_frames.ControlFrame.{ControlFrame}
use Rattle.validator.specs.declared.control_frames.FrameKind.TheVariants.{Function, Block, Loop, If, Else}
use Rattle.validator.specs.declared.control_frames.FrameKind.{FrameKind}
use Rattle.validator.specs.ControlFrames.{condition_by, hand_of, inside, IsMark, label_by, NeedsNoElse, otherwise, signature_of, unreachable_from_here}
use Rattle.validator.specs.InstructionTypes.{with_i32}
use Rattle.validator.specs.Operands.{TakenFrom, Takes}
use Rattle.validator.specs.Soundness.{Admits, AroundRead, HereRead, IsTypingOfRead, FrameStart}

-- Operands that were taken can be pushed again.
Admits-taken : (unreachable : Bool) (own given rest hand target : List OperandType) → TakenFrom unreachable own given rest
    → Admits unreachable (rest ++ (given ++ hand)) target → Admits unreachable (own ++ hand) target
Admits-taken false own given rest hand target (inl parts) admits = admits ∙ sym (append_assoc rest given hand) ∙ ap (λ (z : List OperandType). z ++ hand) (sym parts)
Admits-taken false own given rest hand target (inr (dead, nothing, more)) admits = absurd (let e : false ≡ true = dead in cc)
Admits-taken true own given rest hand target (inl parts) (any, is) =
    (any, is ∙ ap (λ (z : List OperandType). any ++ z) (sym (append_assoc rest given hand) ∙ ap (λ (z : List OperandType). z ++ hand) (sym parts)))
Admits-taken true own given rest hand target (inr (dead, nothing, (n, parts))) (any, is) =
    let whole : rest ++ (given ++ hand)
    ≡ replicate n Unknown ++ (own ++ hand) = ap (λ (z : List OperandType). z ++ (given ++ hand)) nothing ∙ ap
    (λ (z : List OperandType). z ++ hand) parts ∙ append_assoc (replicate n Unknown) own hand in
    (any ++ replicate n Unknown, is ∙ ap (λ (z : List OperandType). any ++ z) whole ∙ sym (append_assoc any (replicate n Unknown) (own ++ hand)))

-- Those in hand can be treated as what they fit.
Admits-fit : (unreachable : Bool) (own hand wanted target : List OperandType) → AllFit hand wanted → Admits unreachable (own ++ wanted) target
    → (other : List OperandType) × Admits unreachable (own ++ hand) other × AllFit other target
Admits-fit false own hand wanted target fits admits = (own ++ hand, refl, rw admits (AllFit-joined own own hand wanted (AllFit-same own) fits))
Admits-fit true own hand wanted target fits (any, is) =
    (any ++ (own ++ hand), (any, refl), rw is (AllFit-joined any any (own ++ hand) (own ++ wanted) (AllFit-same any) (AllFit-joined own own hand wanted (AllFit-same own) fits)))

-- Others can be in hand, above the same operands.
Admits-other : (unreachable : Bool) (own hand other target : List OperandType) → Admits unreachable (own ++ other) target → (any : List OperandType)
    × Admits unreachable (own ++ hand) (any ++ hand) × (target ≡ any ++ other)
Admits-other false own hand other target admits = (own, refl, admits)
Admits-other true own hand other target (any, is) = (any ++ own, (any, append_assoc any own hand), is ∙ sym (append_assoc any own other))

Admits-same : (unreachable : Bool) (own : List OperandType) → Admits unreachable own own
Admits-same false own = refl
Admits-same true own = ([], refl)

Admits-alone : (unreachable : Bool) (own target : List OperandType) → unreachable ≡ false → Admits unreachable own target → target ≡ own
Admits-alone false own target alive admits = admits
Admits-alone true own target alive admits = absurd cc

behind : {read : List Op} (all : List Op) (more body : Body) (before : List Op) → all ≡ read ++ writing more → read ≡ before ++ writing body → all ≡ before ++ writing (joined body more)
behind {read} all more body before is written = is ∙ ap (λ (z : List Op). z ++ writing more) written ∙ append_assoc before (writing body)
    (writing more) ∙ ap (λ (z : List Op). before ++ z) (sym (writing-joined body more))

around_stopped : (context : Context) (l : ControlFrame) (ls : List ControlFrame) (under : List OperandType) (before : List Op)
    → AroundRead context l ls under before → AroundRead context (unreachable_from_here l) ls under before
around_stopped context l [] under before around = around
around_stopped context l (m ∷ ms) under before around = around

module _ {context : Context} {l : ControlFrame} {ls : List ControlFrame} where
  -- Operands are taken from the stack into the hand.
  take_open : {old given new hand : List OperandType} {read : List Op} → IsTypingOfRead context l ls old hand read
      → Takes l.unreachable l.height old given new → IsTypingOfRead context l ls new (given ++ hand) read
  take_open {given = given} {hand = hand} o takes =
      let h = o.here in
      let (rest, left, taken) = takes.at o.under h.own h.whole h.height in
      record {
        under = o.under;
        before = o.before;
        around = o.around;
        here = record {
          own = rest;
          body = h.body;
          whole = left;
          height = h.height;
          written = h.written;
          reaches = record { each = λ target admits. h.reaches.each target (Admits-taken l.unreachable h.own given rest hand target taken admits) };
        };
      }

  -- Those in hand are treated as what they fit.
  fit_open : {operands hand : List OperandType} {read : List Op} (wanted : List OperandType) → IsTypingOfRead context l ls operands hand read
      → AllFit hand wanted → IsTypingOfRead context l ls operands wanted read
  fit_open {hand = hand} wanted o fits =
      let h = o.here in
      record {
        under = o.under;
        before = o.before;
        around = o.around;
        here = record {
          own = h.own;
          body = h.body;
          whole = h.whole;
          height = h.height;
          written = h.written;
          reaches = record {
            each = λ target admits.
                let (other, admitted, fit) = Admits-fit l.unreachable h.own hand wanted target fits admits in
                HasType-after (inside context (l ∷ ls)) h.body (known l.start_types.now) other target (h.reaches.each other admitted) fit;
          };
        };
      }

  -- Operands that fit the wanted types are taken into the hand, which was empty.
  pub took_open : {old given new : List OperandType} {read : List Op} (wanted : List OperandType) → IsTypingOfRead context l ls old [] read
      → Takes l.unreachable l.height old given new → AllFit given wanted → IsTypingOfRead context l ls new wanted read
  took_open {given = given} wanted o takes fits = fit_open wanted (rw (append-nil given) at (take_open o takes)) fits

  -- Those in hand are pushed on the stack.
  push_open : {operands hand : List OperandType} {read : List Op} → IsTypingOfRead context l ls operands hand read → IsTypingOfRead context l ls (operands ++ hand) [] read
  push_open {hand = hand} o =
      let h = o.here in
      record {
        under = o.under;
        before = o.before;
        around = o.around;
        here = record {
          own = h.own ++ hand;
          body = h.body;
          whole = ap (λ (z : List OperandType). z ++ hand) h.whole ∙ append_assoc o.under h.own hand;
          height = h.height;
          written = h.written;
          reaches = rw (append-nil (h.own ++ hand)) h.reaches;
        };
      }

  -- ---- more is read

  -- What leads from those in hand to others is read.
  more_open : {operands hand : List OperandType} {read : List Op} (other : List OperandType) (more : Body) (all : List Op)
      → IsTypingOfRead context l ls operands hand read → ((any : List OperandType) → HasType (inside context (l ∷ ls)) more (any ++ hand) (any ++ other))
      → all ≡ read ++ writing more → IsTypingOfRead context l ls operands other all
  more_open {hand = hand} other more all o typed is =
      let h = o.here in
      record {
        under = o.under;
        before = o.before;
        around = o.around;
        here = record {
          own = h.own;
          body = joined h.body more;
          whole = h.whole;
          height = h.height;
          written = behind all more h.body o.before is h.written;
          reaches = record {
            each = λ target admits.
                let (any, admitted, whole) = Admits-other l.unreachable h.own hand other target admits in
                rw whole (HasType-joined (inside context (l ∷ ls)) h.body more (known l.start_types.now) (any ++ hand) (any ++ other) (h.reaches.each (any ++ hand) admitted) (typed any));
          };
        };
      }

  -- An instruction is read that takes what is in hand.
  pub plain_open : {operands hand : List OperandType} {read : List Op} (o : PlainOp) (results : List OperandType)
      → IsTypingOfRead context l ls operands hand read → Rule (inside context (l ∷ ls)) o hand results
      → IsTypingOfRead context l ls (operands ++ results) [] (read ++ op.Plain o ∷ [])
  plain_open {hand = hand} {read = read} o results opened rule =
      push_open (more_open results (Then o Empty) (read ++ op.Plain o ∷ []) opened
      (λ any. (
        hand,
        results,
        any ++ results,
        rule,
        record { below = any; given = hand; before_is = refl; fits = AllFit-same hand; after_is = refl },
        AllFit-same (any ++ results),
      )) refl)

  -- An instruction is read that takes what is in hand over anything, and leads to anything: nothing is reached after it.
  pub stop_open : {operands hand : List OperandType} {read : List Op} (o : PlainOp) → IsTypingOfRead context l ls operands hand read
      → ((any to : List OperandType) → Rule (inside context (l ∷ ls)) o (any ++ hand) to)
      → IsTypingOfRead context (unreachable_from_here l) ls (take l.height operands) [] (read ++ op.Plain o ∷ [])
  stop_open {operands = operands} {hand = hand} {read = read} o opened rule =
      let h = opened.here in
      record {
        under = opened.under;
        before = opened.before;
        around = around_stopped context l ls opened.under opened.before opened.around;
        here = record {
          own = [];
          body = joined h.body (Then o Empty);
          height = h.height;
          whole = ap (λ (z : List OperandType). take l.height z) h.whole ∙ take_at opened.under h.own l.height h.height ∙ sym (append-nil opened.under);
          written = behind (read ++ op.Plain o ∷ []) (Then o Empty) h.body opened.before refl h.written;
          reaches = record {
            each = λ target admits.
                HasType-joined (inside context (l ∷ ls)) h.body (Then o Empty) (known l.start_types.now) (h.own ++ hand) target
                (h.reaches.each (h.own ++ hand) (Admits-same l.unreachable (h.own ++ hand))) (
                  h.own ++ hand,
                  target,
                  target,
                  rule h.own target,
                  record { below = []; given = h.own ++ hand; before_is = refl; fits = AllFit-same (h.own ++ hand); after_is = refl },
                  AllFit-same target,
                );
          };
        };
      }

  -- ---- a frame whose body is whole

  -- The frame has no operands left except those in hand.
  dry : {operands hand : List OperandType} {read : List Op} (o : IsTypingOfRead context l ls operands hand read) → length operands ≡ l.height → (o.here.own ≡ []) × (o.under ≡ operands)
  dry o short =
      let nothing : o.here.own ≡ [] = nil_from_length o.here.own (omega (arith, ap length o.here.whole, length-append o.under o.here.own, o.here.height)) in
      (nothing, sym (o.here.whole ∙ ap (λ (z : List OperandType). o.under ++ z) nothing ∙ append-nil o.under))

  -- Its body leads from the start types to the end types.
  pub whole_body : {operands : List OperandType} {read : List Op} (o : IsTypingOfRead context l ls operands (known l.end_types.now) read)
      → length operands ≡ l.height → HasType (inside context (l ∷ ls)) o.here.body (known l.start_types.now) (known l.end_types.now)
  whole_body o short =
      let alone : o.here.own ++ known l.end_types.now ≡ known l.end_types.now = ap (λ (z : List OperandType). z ++ known l.end_types.now) (dry o short).0 in
      o.here.reaches.each (known l.end_types.now) (rw alone (Admits-same l.unreachable (known l.end_types.now)))

set_marks : (context : Context) (kind : FrameKind) (t : BlockType) (o : Op) (s : FuncType) (read : List Op) → IsMark kind t o
    → (block_type context.types t ≡ Some s) → FrameStart context kind s read (read ++ o ∷ [])
set_marks context Function t o s read mark is = absurd mark
set_marks context Block t o s read mark is = (t, ap (λ (z : Op). read ++ z ∷ []) mark, is)
set_marks context Loop t o s read mark is = (t, ap (λ (z : Op). read ++ z ∷ []) mark, is)
set_marks context If t o s read mark is = (t, ap (λ (z : Op). read ++ z ∷ []) mark, is)
set_marks context Else t o s read mark is = absurd mark

-- The operands that the instruction of a mark takes.
pub mark_takes : (kind : FrameKind) (t : BlockType) (o : Op) (topmost : Bool) (start_types : List ValType) → IsMark kind t o
    → (IsTrue topmost ↔ (kind ≡ If)) → with_i32 start_types topmost ≡ start_types ++ condition_by kind
mark_takes Function t o topmost start_types mark test = absurd mark
mark_takes Block t o false start_types mark test = sym (append-nil start_types)
mark_takes Block t o true start_types mark test = absurd (let e : Block ≡ If = test.0 refl in cc)
mark_takes Loop t o false start_types mark test = sym (append-nil start_types)
mark_takes Loop t o true start_types mark test = absurd (let e : Loop ≡ If = test.0 refl in cc)
mark_takes If t o false start_types mark test = absurd (let e : false ≡ true = test.1 refl in cc)
mark_takes If t o true start_types mark test = refl
mark_takes Else t o topmost start_types mark test = absurd mark

-- A block begins.
pub start_open : {context : Context} {l : ControlFrame} {ls : List ControlFrame} {operands : List OperandType} {read : List Op} (new : ControlFrame)
    (t : BlockType) (o : Op) → IsTypingOfRead context l ls operands (hand_of new) read → new.height ≡ length operands → new.unreachable ≡ false
    → IsMark new.kind t o → block_type (inside context (new ∷ l ∷ ls)).types t ≡ Some (signature_of new)
    → IsTypingOfRead context new (l ∷ ls) (operands ++ known new.start_types.now) [] (read ++ o ∷ [])
start_open {context} {l} {ls} {operands} {read} new t o opened height alive mark is =
    record {
      under = operands;
      before = read ++ o ∷ [];
      around = (read, set_marks (inside context (new ∷ l ∷ ls)) new.kind t o (signature_of new) read mark is, opened.under, opened.before, opened.here, opened.around);
      here = record {
        own = known new.start_types.now;
        body = Empty;
        whole = refl;
        height = sym height;
        written = sym (append-nil (read ++ o ∷ []));
        reaches = record {
          each = λ target admits.
              rw (Admits-alone new.unreachable (known new.start_types.now ++ []) target alive admits)
              (rw (append-nil (known new.start_types.now)) (AllFit-same (known new.start_types.now)));
        };
      };
    }

-- The instruction of a frame whose body is whole.
record Whole (context : Context) (kind : FrameKind) (s : FuncType) (inner : Body) (outer before : List Op) : Type 0 where
  block : Body
  typed : (any : List OperandType) → HasType context block (any ++ known (s.params ++ condition_by kind)) (any ++ known s.results)
  written : (before ++ writing inner) ++ op.End ∷ [] ≡ outer ++ writing block

whole : (context : Context) (kind : FrameKind) (start_types end_types : List ValType) (inner : Body) (outer before : List Op)
    → FrameStart (with_label context (label_by kind start_types end_types)) kind (function_type start_types end_types) outer before
    → NeedsNoElse kind start_types end_types
    → HasType (with_label context (label_by kind start_types end_types)) inner (known start_types) (known end_types) → Whole context kind (function_type start_types end_types) inner outer before
whole context Function start_types end_types inner outer before marks alone typed = absurd marks
whole context Block start_types end_types inner outer before (t, is, type) alone typed = record {
  block = Nested BlockKind t inner Empty;
  typed = λ any. (
    function_type start_types end_types,
    any ++ known end_types,
    type,
    typed,
    tt,
    record { below = any; given = known (start_types ++ []); before_is = refl; fits = AllFit-same (known (start_types ++ [])); after_is = refl },
    AllFit-same (any ++ known end_types),
  );
  written = rw is (simp append_assoc);
}
whole context Loop start_types end_types inner outer before (t, is, type) alone typed = record {
  block = Nested LoopKind t inner Empty;
  typed = λ any. (
    function_type start_types end_types,
    any ++ known end_types,
    type,
    typed,
    tt,
    record { below = any; given = known (start_types ++ []); before_is = refl; fits = AllFit-same (known (start_types ++ [])); after_is = refl },
    AllFit-same (any ++ known end_types),
  );
  written = rw is (simp append_assoc);
}
whole context If start_types end_types inner outer before (t, is, type) alone typed = record {
  block = Nested IfKind t inner Empty;
  typed = λ any. (
    function_type start_types end_types,
    any ++ known end_types,
    type,
    typed,
    alone,
    record { below = any; given = known (start_types ++ I32 ∷ []); before_is = refl; fits = AllFit-same (known (start_types ++ I32 ∷ [])); after_is = refl },
    AllFit-same (any ++ known end_types),
  );
  written = rw is (simp append_assoc);
}
whole context Else start_types end_types inner outer before (t, first, is, type, first_typed) alone typed = record {
  block = IfElse t first inner Empty;
  typed = λ any. (
    function_type start_types end_types,
    any ++ known end_types,
    type,
    first_typed,
    typed,
    record { below = any; given = known (start_types ++ I32 ∷ []); before_is = refl; fits = AllFit-same (known (start_types ++ I32 ∷ [])); after_is = refl },
    AllFit-same (any ++ known end_types),
  );
  written = rw is (simp append_assoc);
}

-- A block ends.
pub close_open : {context : Context} {l m : ControlFrame} {ms : List ControlFrame} {operands : List OperandType} {read : List Op}
    → IsTypingOfRead context l (m ∷ ms) operands (known l.end_types.now) read → length operands ≡ l.height
    → NeedsNoElse l.kind l.start_types.now l.end_types.now
    → IsTypingOfRead context m ms (operands ++ known l.end_types.now) [] (read ++ op.End ∷ [])
close_open {context} {l} {m} {ms} {operands} {read} o short alone =
    let (outer, marks, lower, earlier, here, around) = o.around in
    let block = whole (inside context (m ∷ ms)) l.kind l.start_types.now l.end_types.now o.here.body outer o.before marks alone (whole_body o short) in
    let outside : IsTypingOfRead context m ms o.under (hand_of l) outer = record { under = lower; before = earlier; here = here; around = around } in
    let after = more_open (known l.end_types.now) block.block (read ++ op.End ∷ []) outside block.typed (ap (λ (z : List Op). z ++ op.End ∷ []) o.here.written ∙ block.written) in
    push_open (rw (dry o short).1 at after)

-- The first body of an if ends, and the second one begins.
else_inside : {context : Context} {l m : ControlFrame} {ms : List ControlFrame} {operands : List OperandType} {read : List Op}
    → IsTypingOfRead context l (m ∷ ms) operands (known l.end_types.now) read → length operands ≡ l.height → l.kind ≡ If
    → IsTypingOfRead context (otherwise l) (m ∷ ms) (operands ++ known l.start_types.now) [] (read ++ op.Else ∷ [])
else_inside {context} {l} {m} {ms} {operands} {read} o short is =
    let (outer, marks, lower, earlier, here, around) = o.around in
    let (t, written, type) = rw is at marks in
    let typed = rw is at (whole_body o short) in
    let (nothing, under) = dry o short in
    record {
      under = operands;
      before = read ++ op.Else ∷ [];
      around = (
        outer,
        (t, o.here.body, ap (λ (z : List Op). z ++ op.Else ∷ []) (o.here.written ∙ ap (λ (z : List Op). z ++ writing o.here.body) written) ∙ simp append_assoc, type, typed),
        lower,
        earlier,
        subst (λ (z : List OperandType). HereRead (inside context (m ∷ ms)) m z (hand_of (otherwise l)) outer lower earlier) under (rw is at here),
        around,
      );
      here = record {
        own = known l.start_types.now;
        body = Empty;
        whole = refl;
        height = short;
        written = sym (append-nil (read ++ op.Else ∷ []));
        reaches = record { each = λ target admits. rw admits (rw (append-nil (known l.start_types.now)) (AllFit-same (known l.start_types.now))) };
      };
    }

pub else_open : {context : Context} {l : ControlFrame} {ls : List ControlFrame} {operands : List OperandType} {read : List Op}
    → IsTypingOfRead context l ls operands (known l.end_types.now) read → length operands ≡ l.height → l.kind ≡ If
    → IsTypingOfRead context (otherwise l) ls (operands ++ known l.start_types.now) [] (read ++ op.Else ∷ [])
else_open {ls = []} o short is = absurd (let e : If ≡ Function = sym is ∙ o.around.0 in cc)
else_open {ls = m ∷ ms} o short is = else_inside o short is

-- One more frame is pushed.
pub reverse_push : (outer more : List ControlFrame) (l : ControlFrame) → more ≡ outer ++ l ∷ [] → reverse more ≡ l ∷ reverse outer
reverse_push outer more l e = ap (λ (z : List ControlFrame). reverse z) e ∙ reverse-append outer (l ∷ [])

-- A function's frame, before anything is read.
pub nothing_open : {context : Context} (l : ControlFrame) → l.kind ≡ Function → l.start_types.now ≡ [] → context.results ≡ Some l.end_types.now
    → l.height ≡ 0 → l.unreachable ≡ false → IsTypingOfRead context l [] [] [] []
nothing_open l kind start_types end_types height alive = record {
  under = [];
  before = [];
  around = (kind, start_types, end_types, refl, refl);
  here = record {
    own = [];
    body = Empty;
    whole = refl;
    height = sym height;
    written = refl;
    reaches = record { each = λ target admits. rw (Admits-alone l.unreachable [] target alive admits, start_types) tt };
  };
}
