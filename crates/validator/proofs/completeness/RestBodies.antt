-- Typings of the rest, where an instruction without a body is next.
use Rattle.std.proofs.Common.{◌≡◌, true, false, List, [], ◌∷◌, ◌++◌, length, take, sym, ap, ◌∙◌, subst, inl, inr, append_assoc}
use Rattle.std.proofs.lemmas.List.{append-nil, take_at}
use Rattle.core_types.specs.declared.op.Op.TheVariants as op
use Rattle.core_types.specs.declared.op.Op.{Op}
use Rattle.core_types.specs.declared.op.PlainOp.{PlainOp}
use Rattle.core_types.specs.declared.types.OperandType.{OperandType}
use Rattle.core_types.specs.declared.types.ValType.{ValType}
use Rattle.meaning.proofs.lemmas.Typing.{AllFit-parts, AllFit-through}
use Rattle.meaning.specs.structure.Bodies.{Body, Empty, Then, Nested, IfElse, BlockKind, LoopKind, IfKind, writing}
use Rattle.meaning.specs.validation.Context.{Context}
use Rattle.meaning.specs.validation.Instructions.{AllFit, TakesAndGives, Rule, HasType, known}
use Rattle.validator.specs.declared.control_frames.ControlFrame.{ControlFrame}
use Rattle.validator.specs.declared.control_frames.FrameKind.TheVariants.{Function, Block, Loop, If, Else}
use Rattle.validator.specs.declared.control_frames.FrameKind.{FrameKind}
use Rattle.validator.specs.Completeness.{FrameEnd, AroundRest, IsTypingOfRest}
use Rattle.validator.specs.ControlFrames.{inside, unreachable_from_here}
use Rattle.validator.specs.Operands.{Refuses, Takes}
use Rattle.validator.proofs.completeness.Covers.{AllFit-length, Covers-put, Covers-taken}

-- The operation neither ends a body nor begins an else.
abbrev pub IsNoEnd : Op → Type 0
IsNoEnd (op.Plain o) = Unit {0}
IsNoEnd (op.Block t) = Unit {0}
IsNoEnd (op.Loop t) = Unit {0}
IsNoEnd (op.If t) = Unit {0}
IsNoEnd op.Else = ⊥
IsNoEnd op.End = ⊥

begins_end : (ops : List Op) (o : Op) (more : List Op) → IsNoEnd o → o ∷ ops ≡ op.End ∷ more → ⊥
begins_end ops op.End more begins e = begins
begins_end ops op.Else more begins e = cc
begins_end ops (op.Plain o) more begins e = cc
begins_end ops (op.Block t) more begins e = cc
begins_end ops (op.Loop t) more begins e = cc
begins_end ops (op.If t) more begins e = cc

begins_else : (ops : List Op) (o : Op) (more : List Op) → IsNoEnd o → o ∷ ops ≡ op.Else ∷ more → ⊥
begins_else ops op.Else more begins e = begins
begins_else ops op.End more begins e = cc
begins_else ops (op.Plain o) more begins e = cc
begins_else ops (op.Block t) more begins e = cc
begins_else ops (op.Loop t) more begins e = cc
begins_else ops (op.If t) more begins e = cc

no_end_begins : (context : Context) (kind : FrameKind) (start_types end_types : List ValType) (o : Op) (ops after : List Op) → IsNoEnd o
    → FrameEnd context kind start_types end_types (o ∷ ops) after → ⊥
no_end_begins context Function start_types end_types o ops after begins e = e
no_end_begins context Block start_types end_types o ops after begins e = begins_end ops o after begins e
no_end_begins context Loop start_types end_types o ops after begins e = begins_end ops o after begins e
no_end_begins context Else start_types end_types o ops after begins e = begins_end ops o after begins e
no_end_begins context If start_types end_types o ops after begins (inl (e, same)) = begins_end ops o after begins e
no_end_begins context If start_types end_types o ops after begins (inr (other, e, typed)) = begins_else ops o (writing other ++ (op.End ∷ after)) begins e

pub later_begins : (context : Context) (l : ControlFrame) (ls : List ControlFrame) (under : List OperandType) (later : List Op) (o : Op)
    (ops : List Op) → IsNoEnd o → AroundRest context l ls under later → o ∷ ops ≡ later → ⊥
later_begins context l [] under later o ops begins (kind, none, nothing) e = cc
later_begins context l (m ∷ ms) under later o ops begins (after, ended, lower, last, goes, around) e =
    no_end_begins (inside context (l ∷ m ∷ ms)) l.kind l.start_types.now l.end_types.now o ops after begins
    (subst (λ (z : List Op). FrameEnd (inside context (l ∷ m ∷ ms)) l.kind l.start_types.now l.end_types.now z after) (sym e) ended)

-- How an instruction that is next takes its operands.
pub record Next (context : Context) (o : PlainOp) (before after : List OperandType) (ops later : List Op) : Type 0 where
  pub operands : List OperandType
  pub results : List OperandType
  pub between : List OperandType
  pub rule : Rule context o operands results
  pub frame : TakesAndGives operands results before between
  pub rest : Body
  pub typed : HasType context rest between after
  pub written : ops ≡ writing rest ++ later

next_of : (context : Context) (o : PlainOp) (rest : Body) (before after : List OperandType) (ops later : List Op) → HasType context rest before after
    → op.Plain o ∷ ops ≡ writing rest ++ later → (op.Plain o ∷ ops ≡ later → ⊥) → Next context o before after ops later
next_of context o Empty before after ops later typed e bar = absurd (bar e)
next_of context o (Then other rest) before after ops later (operands, results, between, rule, frame, last) e bar =
    let same : other ≡ o = cc in
    let tails : ops ≡ writing rest ++ later = cc in
    record {
      operands = operands;
      results = results;
      between = between;
      rule = subst (λ (z : PlainOp). Rule context z operands results) same rule;
      frame = frame;
      rest = rest;
      typed = last;
      written = tails;
    }
next_of context o (Nested BlockKind t inner rest) before after ops later typed e bar = absurd cc
next_of context o (Nested LoopKind t inner rest) before after ops later typed e bar = absurd cc
next_of context o (Nested IfKind t inner rest) before after ops later typed e bar = absurd cc
next_of context o (IfElse t inner other rest) before after ops later typed e bar = absurd cc

around_stopped : (context : Context) (l : ControlFrame) (ls : List ControlFrame) (under : List OperandType) (later : List Op)
    → AroundRest context l ls under later → AroundRest context (unreachable_from_here l) ls under later
around_stopped context l [] under later around = around
around_stopped context l (m ∷ ms) under later around = around

module _ {context : Context} {l : ControlFrame} {ls : List ControlFrame} where
  pub plain_next : {operands : List OperandType} {o : PlainOp} {ops : List Op} (p : IsTypingOfRest context l ls operands (op.Plain o ∷ ops))
      → Next (inside context (l ∷ ls)) o p.here.theirs (known l.end_types.now) ops p.later
  plain_next {o = o} {ops = ops} p =
      next_of (inside context (l ∷ ls)) o p.here.rest p.here.theirs (known l.end_types.now) ops p.later
      (rw (append-nil p.here.theirs) at p.here.typed) p.here.written (later_begins context l ls p.under p.later (op.Plain o) ops tt p.around)

  -- Operands that are the topmost of those that the instruction takes are refused: it has no typing.
  pub plain_refused : {operands : List OperandType} {o : PlainOp} {ops : List Op} (below wanted : List OperandType)
      → Refuses l.unreachable l.height operands wanted → (p : IsTypingOfRest context l ls operands (op.Plain o ∷ ops))
      → AllFit (plain_next p).operands (below ++ wanted) → ⊥
  plain_refused below wanted refuses p fits =
      let n = plain_next p in
      let (front, back, parts, first, second) = AllFit-parts n.frame.given below wanted (AllFit-through n.frame.given n.operands (below ++ wanted) n.frame.fits fits) in
      refuses.at p.under p.here.own p.here.whole p.here.height p.here.theirs (n.frame.below ++ front) back p.here.covers
      (n.frame.before_is ∙ ap (λ (z : List OperandType). n.frame.below ++ z) parts ∙ sym (append_assoc n.frame.below front back)) second

  -- An instruction whose operands are taken, and whose results fit those of each typing that these fit, leaves possible what was.
  pub plain_goes : {operands given new : List OperandType} {o : PlainOp} {ops : List Op} (results : List OperandType)
      → Takes l.unreachable l.height operands given new → (p : IsTypingOfRest context l ls operands (op.Plain o ∷ ops))
      → length given ≡ length (plain_next p).operands → (AllFit given (plain_next p).operands → AllFit results (plain_next p).results) → IsTypingOfRest context l ls (new ++ results) ops
  plain_goes {given = given} results takes p long fits =
      let n = plain_next p in
      let (rest, left, taken) = takes.at p.under p.here.own p.here.whole p.here.height in
      let same = AllFit-length n.frame.given n.operands n.frame.fits in
      let (covers, fit) = Covers-taken l.unreachable p.here.own given rest p.here.theirs n.frame.below n.frame.given p.here.covers taken n.frame.before_is (same ∙ sym long) in
      record {
        under = p.under;
        later = p.later;
        around = p.around;
        here = record {
          own = rest ++ results;
          height = p.here.height;
          rest = n.rest;
          written = n.written;
          whole = ap (λ (z : List OperandType). z ++ results) left ∙ append_assoc p.under rest results;
          theirs = n.frame.below ++ n.results;
          covers = Covers-put l.unreachable rest n.frame.below results n.results covers (fits (AllFit-through given n.frame.given n.operands fit n.frame.fits));
          typed = rw (append-nil (n.frame.below ++ n.results)) (rw n.frame.after_is at n.typed);
        };
      }

  -- Nothing can be reached after it: any operands cover those of each typing.
  pub plain_stops : {operands given new : List OperandType} {o : PlainOp} {ops : List Op} → Takes l.unreachable l.height operands given new
      → (p : IsTypingOfRest context l ls operands (op.Plain o ∷ ops)) → IsTypingOfRest context (unreachable_from_here l) ls (take l.height new) ops
  plain_stops takes p =
      let n = plain_next p in
      let (rest, left, taken) = takes.at p.under p.here.own p.here.whole p.here.height in
      record {
        under = p.under;
        later = p.later;
        around = around_stopped context l ls p.under p.later p.around;
        here = record {
          own = [];
          height = p.here.height;
          rest = n.rest;
          written = n.written;
          whole = ap (λ (z : List OperandType). take l.height z) left ∙ take_at p.under rest l.height p.here.height ∙ sym (append-nil p.under);
          theirs = n.between;
          covers = record { others = n.between; top = []; parts = sym (append-nil n.between); fits = tt; alone = λ alive. absurd (let e : true ≡ false = alive in cc) };
          typed = rw (append-nil n.between) n.typed;
        };
      }
