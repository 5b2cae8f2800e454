-- Typings of the rest where a body begins.
use Rattle.std.proofs.Common.{Some, None, ◌≡◌, List, [], ◌∷◌, ◌++◌, length, refl, reverse, sym, ap, ◌∙◌, subst, inl, inr, append_assoc}
use Rattle.std.proofs.lemmas.List.{append-nil}
use Rattle.core_types.specs.declared.op.BlockType.{BlockType}
use Rattle.core_types.specs.declared.op.Op.TheVariants as op
use Rattle.core_types.specs.declared.op.Op.{Op}
use Rattle.core_types.specs.declared.types.FuncType.{FuncType}
use Rattle.core_types.specs.declared.types.OperandType.{OperandType}
use Rattle.core_types.specs.declared.types.ValType.{ValType}
use Rattle.meaning.proofs.lemmas.Typing.{AllFit-same}
use Rattle.meaning.specs.structure.Bodies.{Body, Empty, Then, Nested, IfElse, BlockKind, LoopKind, IfKind, writing}
use Rattle.meaning.specs.validation.Context.{Context, with_label}
use Rattle.meaning.specs.validation.Instructions.{AllFit, TakesAndGives, HasType, known}
use Rattle.meaning.specs.validation.Types.{block_type}
use Rattle.validator.specs.declared.context.BodyContext.{BodyContext}
use Rattle.validator.specs.declared.control_frames.ControlFrame.{ControlFrame}
use Rattle.validator.specs.declared.control_frames.FrameKind.TheVariants.{Function, Block, Loop, If, Else}
use Rattle.validator.specs.declared.control_frames.FrameKind.{FrameKind}
use Rattle.validator.specs.declared.control_frames.Stacks.{Stacks}
use Rattle.validator.specs.Completeness.{FrameEnd, IsTypingOfRest}
use Rattle.validator.specs.ControlFrames.{condition_by, inside, IsMark, label_by, signature_of}
use Rattle.validator.specs.Contexts.{Describes}
use Rattle.validator.specs.Operands.{Refuses, Takes}
use Rattle.validator.specs.Steps.{CannotBeNext, KeepsRest}
use Rattle.validator.proofs.completeness.Covers.{AllFit-length, Covers-taken}
use Rattle.validator.proofs.completeness.Instructions.{IsTypingOfRest-parts}
use Rattle.validator.proofs.completeness.RestBodies.{IsNoEnd, later_begins}

-- How the instruction of the next mark is typed, up to the body that begins with it.
pub record BlockStart (context : Context) (kind : FrameKind) (t : BlockType) (before after : List OperandType) (ops later : List Op) : Type 0 where
  pub s : FuncType
  pub between : List OperandType
  pub is : (block_type context.types t ≡ Some s)
  pub inner : Body
  pub typed : HasType (with_label context (label_by kind s.params s.results)) inner (known s.params) (known s.results)
  pub frame : TakesAndGives (known (s.params ++ condition_by kind)) (known s.results) before between
  pub rest : Body
  pub last : HasType context rest between after
  pub ending : List Op
  pub ended : FrameEnd (with_label context (label_by kind s.params s.results)) kind s.params s.results ending (writing rest ++ later)
  pub written : ops ≡ writing inner ++ ending

mark_begins : (kind : FrameKind) (t : BlockType) (o : Op) → IsMark kind t o → IsNoEnd o
mark_begins Function t o mark = absurd mark
mark_begins Block t o mark = rw mark tt
mark_begins Loop t o mark = rw mark tt
mark_begins If t o mark = rw mark tt
mark_begins Else t o mark = absurd mark

-- What follows the body of an instruction with one body, or with two.
one_body : (ops inner rest later : List Op) → ops ≡ (inner ++ (op.End ∷ rest)) ++ later → ops ≡ inner ++ (op.End ∷ (rest ++ later))
one_body ops inner rest later e = e ∙ append_assoc inner (op.End ∷ rest) later

two_bodies : (ops inner other rest later : List Op) → ops ≡ (inner ++ (op.Else ∷ (other ++ (op.End ∷ rest)))) ++ later → ops ≡ inner ++ (op.Else ∷ (other ++ (op.End ∷ (rest ++ later))))
two_bodies ops inner other rest later e = e ∙ simp append_assoc

block_start_of : (context : Context) (kind : FrameKind) (t : BlockType) (o : Op) (rest : Body) (before after : List OperandType) (ops later : List Op)
    → IsMark kind t o → HasType context rest before after → o ∷ ops ≡ writing rest ++ later → (o ∷ ops ≡ later → ⊥)
    → BlockStart context kind t before after ops later
block_start_of context kind t o Empty before after ops later mark typed e bar = absurd (bar e)
block_start_of context Function t o rest before after ops later mark typed e bar = absurd mark
block_start_of context Else t o rest before after ops later mark typed e bar = absurd mark
block_start_of context Block t o (Then other rest) before after ops later mark typed e bar = absurd (let f : op.Block t ≡ op.Plain other = sym mark ∙ cc in cc)
block_start_of context Loop t o (Then other rest) before after ops later mark typed e bar = absurd (let f : op.Loop t ≡ op.Plain other = sym mark ∙ cc in cc)
block_start_of context If t o (Then other rest) before after ops later mark typed e bar = absurd (let f : op.If t ≡ op.Plain other = sym mark ∙ cc in cc)
block_start_of context Block t o (Nested BlockKind type inner rest) before after ops later mark (s, between, is, inside_typed, alone, frame, last) e bar =
    let first : op.Block t ≡ op.Block type = sym mark ∙ cc in
    let same : type ≡ t = cc in
    let tails : ops ≡ (writing inner ++ (op.End ∷ writing rest)) ++ later = cc in
    record {
      s = s;
      between = between;
      is = subst (λ (z : BlockType). (block_type context.types z ≡ Some s)) same is;
      inner = inner;
      typed = inside_typed;
      frame = frame;
      rest = rest;
      last = last;
      ending = op.End ∷ (writing rest ++ later);
      ended = refl;
      written = one_body ops (writing inner) (writing rest) later tails;
    }
block_start_of context Block t o (Nested LoopKind type inner rest) before after ops later mark typed e bar = absurd (let f : op.Block t ≡ op.Loop type = sym mark ∙ cc in cc)
block_start_of context Block t o (Nested IfKind type inner rest) before after ops later mark typed e bar = absurd (let f : op.Block t ≡ op.If type = sym mark ∙ cc in cc)
block_start_of context Block t o (IfElse type inner other rest) before after ops later mark typed e bar = absurd (let f : op.Block t ≡ op.If type = sym mark ∙ cc in cc)
block_start_of context Loop t o (Nested BlockKind type inner rest) before after ops later mark typed e bar = absurd (let f : op.Loop t ≡ op.Block type = sym mark ∙ cc in cc)
block_start_of context Loop t o (Nested LoopKind type inner rest) before after ops later mark (s, between, is, inside_typed, alone, frame, last) e bar =
    let first : op.Loop t ≡ op.Loop type = sym mark ∙ cc in
    let same : type ≡ t = cc in
    let tails : ops ≡ (writing inner ++ (op.End ∷ writing rest)) ++ later = cc in
    record {
      s = s;
      between = between;
      is = subst (λ (z : BlockType). (block_type context.types z ≡ Some s)) same is;
      inner = inner;
      typed = inside_typed;
      frame = frame;
      rest = rest;
      last = last;
      ending = op.End ∷ (writing rest ++ later);
      ended = refl;
      written = one_body ops (writing inner) (writing rest) later tails;
    }
block_start_of context Loop t o (Nested IfKind type inner rest) before after ops later mark typed e bar = absurd (let f : op.Loop t ≡ op.If type = sym mark ∙ cc in cc)
block_start_of context Loop t o (IfElse type inner other rest) before after ops later mark typed e bar = absurd (let f : op.Loop t ≡ op.If type = sym mark ∙ cc in cc)
block_start_of context If t o (Nested BlockKind type inner rest) before after ops later mark typed e bar = absurd (let f : op.If t ≡ op.Block type = sym mark ∙ cc in cc)
block_start_of context If t o (Nested LoopKind type inner rest) before after ops later mark typed e bar = absurd (let f : op.If t ≡ op.Loop type = sym mark ∙ cc in cc)
block_start_of context If t o (Nested IfKind type inner rest) before after ops later mark (s, between, is, inside_typed, alone, frame, last) e bar =
    let first : op.If t ≡ op.If type = sym mark ∙ cc in
    let same : type ≡ t = cc in
    let tails : ops ≡ (writing inner ++ (op.End ∷ writing rest)) ++ later = cc in
    record {
      s = s;
      between = between;
      is = subst (λ (z : BlockType). (block_type context.types z ≡ Some s)) same is;
      inner = inner;
      typed = inside_typed;
      frame = frame;
      rest = rest;
      last = last;
      ending = op.End ∷ (writing rest ++ later);
      ended = inl (refl, alone);
      written = one_body ops (writing inner) (writing rest) later tails;
    }
block_start_of context If t o (IfElse type inner other rest) before after ops later mark (s, between, is, inside_typed, other_typed, frame, last) e bar =
    let first : op.If t ≡ op.If type = sym mark ∙ cc in
    let same : type ≡ t = cc in
    let tails : ops ≡ (writing inner ++ (op.Else ∷ (writing other ++ (op.End ∷ writing rest)))) ++ later = cc in
    record {
      s = s;
      between = between;
      is = subst (λ (z : BlockType). (block_type context.types z ≡ Some s)) same is;
      inner = inner;
      typed = inside_typed;
      frame = frame;
      rest = rest;
      last = last;
      ending = op.Else ∷ (writing other ++ (op.End ∷ (writing rest ++ later)));
      ended = inr (other, refl, other_typed);
      written = two_bodies ops (writing inner) (writing other) (writing rest) later tails;
    }

module _ {context : Context} {l : ControlFrame} {ls : List ControlFrame} {operands : List OperandType} {ops : List Op} (kind : FrameKind) (t : BlockType) (o : Op) (mark : IsMark kind t o) where
  pub block_start : (p : IsTypingOfRest context l ls operands (o ∷ ops)) → BlockStart (inside context (l ∷ ls)) kind t p.here.theirs (known l.end_types.now) ops p.later
  block_start p =
      block_start_of (inside context (l ∷ ls)) kind t o p.here.rest p.here.theirs (known l.end_types.now) ops p.later mark (rw (append-nil p.here.theirs) at p.here.typed) p.here.written
      (later_begins context l ls p.under p.later o ops (mark_begins kind t o mark) p.around)

  pub begin_refused : (wanted : List OperandType) → Refuses l.unreachable l.height operands wanted
      → (p : IsTypingOfRest context l ls operands (o ∷ ops)) → known ((block_start p).s.params ++ condition_by kind) ≡ wanted → ⊥
  begin_refused wanted refuses p same =
      let b = block_start p in
      refuses.at p.under p.here.own p.here.whole p.here.height p.here.theirs b.frame.below b.frame.given p.here.covers b.frame.before_is
      (subst (λ (z : List OperandType). AllFit b.frame.given z) same b.frame.fits)

-- A block begins: its body and what follows it continue as they would.
pub begin_goes : {context : Context} {l : ControlFrame} {ls : List ControlFrame} {operands given left : List OperandType} {ops : List Op}
    (new : ControlFrame) (t : BlockType) (o : Op) (mark : IsMark new.kind t o) → Takes l.unreachable l.height operands given left
    → AllFit given (known (new.start_types.now ++ condition_by new.kind)) → new.height ≡ length left
    → (p : IsTypingOfRest context l ls operands (o ∷ ops)) → (block_start new.kind t o mark p).s ≡ signature_of new
    → IsTypingOfRest context new (l ∷ ls) (left ++ known new.start_types.now) ops
begin_goes {context} {l} {ls} {given = given} {left = left} new t o mark takes fits height p same =
    let b = block_start new.kind t o mark p in
    let (rest, parts, taken) = takes.at p.under p.here.own p.here.whole p.here.height in
    let wanted = known (new.start_types.now ++ condition_by new.kind) in
    let framed : AllFit b.frame.given wanted = subst (λ (s : FuncType). AllFit b.frame.given (known (s.params ++ condition_by new.kind))) same b.frame.fits in
    let long = AllFit-length b.frame.given wanted framed ∙ sym (AllFit-length given wanted fits) in
    let (covers, fit) = Covers-taken l.unreachable p.here.own given rest p.here.theirs b.frame.below b.frame.given p.here.covers taken b.frame.before_is long in
    let typed = subst (λ (s : FuncType). HasType (with_label (inside context (l ∷ ls)) (label_by new.kind s.params s.results)) b.inner (known s.params) (known s.results)) same b.typed in
    let ended = subst (λ (s : FuncType).
    FrameEnd (with_label (inside context (l ∷ ls)) (label_by new.kind s.params s.results)) new.kind s.params s.results b.ending
    (writing b.rest ++ p.later)) same b.ended in
    let results = ap (λ (s : FuncType). known s.results) same in
    record {
      under = left;
      later = b.ending;
      around = (
        writing b.rest ++ p.later,
        ended,
        p.under,
        p.later,
        record {
          own = rest;
          whole = parts;
          height = p.here.height;
          theirs = b.frame.below;
          covers = covers;
          rest = b.rest;
          typed = subst (λ (z : List OperandType). HasType (inside context (l ∷ ls)) b.rest z (known l.end_types.now))
              (b.frame.after_is ∙ ap (λ (z : List OperandType). b.frame.below ++ z) results) b.last;
          written = refl;
        },
        p.around,
      );
      here = record {
        own = known new.start_types.now;
        whole = refl;
        height = sym height;
        theirs = known new.start_types.now;
        covers = record { others = []; top = known new.start_types.now; parts = refl; fits = AllFit-same (known new.start_types.now); alone = λ alive. refl };
        rest = b.inner;
        typed = rw (append-nil (known new.start_types.now)) typed;
        written = b.written;
      };
    }

-- There is one type of a block, in each context.
block_same : {lent : BodyContext} {context : Context} (t : BlockType) (found other : FuncType) → Describes lent context
    → block_type lent.types.now t ≡ Some found → block_type context.types t ≡ Some other → other ≡ found
block_same t found other described is other_is =
    let both : Some other ≡ Some found = sym other_is ∙ ap (λ (types : List FuncType). block_type types t) described.types ∙ is in
    cc

module _ {lent : BodyContext} {old : Stacks} (kind : FrameKind) (t : BlockType) (o : Op) (mark : IsMark kind t o) where
  pub no_block_type : block_type lent.types.now t ≡ None → CannotBeNext lent old o
  no_block_type none = record {
    at = λ context described ops p.
        let b = block_start kind t o mark p in
        let both : None ≡ Some b.s = sym none ∙ ap (λ (types : List FuncType). block_type types t) (sym described.types) ∙ b.is in
        cc;
  }

  pub begin_refused_next : (found : FuncType) (wanted : List ValType) → block_type lent.types.now t ≡ Some found → wanted ≡ found.params ++ condition_by kind
      → Refuses old.innermost.unreachable old.innermost.height old.operands (known wanted) → CannotBeNext lent old o
  begin_refused_next found wanted type same refuses = record {
    at = λ context described ops p.
        let b = block_start kind t o mark p in
        let alike = block_same t found b.s described type b.is in
        begin_refused kind t o mark (known wanted) refuses p (ap (λ (z : FuncType). known (z.params ++ condition_by kind)) alike ∙ ap known (sym same));
  }

pub begin_complete : {lent : BodyContext} {old new : Stacks} {given left : List OperandType} (frame : ControlFrame) (t : BlockType) (o : Op)
    → IsMark frame.kind t o → block_type lent.types.now t ≡ Some (signature_of frame)
    → Takes old.innermost.unreachable old.innermost.height old.operands given left
    → AllFit given (known (frame.start_types.now ++ condition_by frame.kind)) → frame.height ≡ length left → new.innermost ≡ frame
    → reverse new.outer.items ≡ old.innermost ∷ reverse old.outer.items → new.operands ≡ left ++ known frame.start_types.now → KeepsRest lent old new o
begin_complete {old = old} {new} {left = left} frame t o mark type takes fits height innermost outer operands = record {
  on = λ context described ops p.
      let b = block_start frame.kind t o mark p in
      IsTypingOfRest-parts context new.innermost frame (reverse new.outer.items) (old.innermost ∷ reverse old.outer.items) new.operands
      (left ++ known frame.start_types.now) ops innermost outer operands
      (begin_goes frame t o mark takes fits height p (block_same t (signature_of frame) b.s described type b.is));
}
