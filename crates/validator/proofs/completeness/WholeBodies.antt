-- The first and the last operation of a body: what is still possible.
use Rattle.std.proofs.Common.{◌≡◌, ◌<◌, ◌∷◌, [], List, ap, arith, length, refl, reverse, subst, sym, ◌∙◌}
use Rattle.std.proofs.lemmas.List.{append-nil, length-reverse}
use Rattle.core_types.specs.declared.op.Op.{Op}
use Rattle.core_types.specs.declared.types.ValType.{ValType}
use Rattle.meaning.specs.structure.Bodies.{Body, writing}
use Rattle.meaning.specs.validation.Context.{Context, with_label}
use Rattle.meaning.specs.validation.Instructions.{HasType, known}
use Rattle.validator.specs.declared.context.BodyContext.{BodyContext}
use Rattle.validator.specs.declared.control_frames.ControlFrame.{ControlFrame}
use Rattle.validator.specs.declared.control_frames.FrameKind.TheVariants.{Function}
use Rattle.validator.specs.declared.control_frames.Stacks.{Stacks}
use Rattle.validator.specs.Completeness.{IsTypingOfRest, IsUntyped, IsRestTyped}
use Rattle.validator.specs.Contexts.{IsBodyOf}
use Rattle.validator.specs.ControlFrames.{label_by, label_of}
use Rattle.validator.specs.Steps.{CannotBeNext, KeepsRest, NeverCloses}
use Rattle.validator.proofs.completeness.BlockEnds.{nothing_left}
use Rattle.validator.proofs.completeness.Instructions.{IsTypingOfRest-parts}

first_possible : {context : Context} {l : ControlFrame} {results : List ValType} {ops : List Op} (body : Body) → l.kind ≡ Function → l.end_types.now
    ≡ results → context.labels ≡ [] → l.height ≡ 0 → ops ≡ writing body
    → IsBodyOf context results body → IsTypingOfRest context l [] [] ops
first_possible {context} {l} {results} body kind end_types bare height written typed =
    let label : results ∷ context.labels
    ≡ label_of l ∷ [] = ap (λ (z : List (List ValType)). results ∷ z) bare ∙ ap (λ (t : List ValType). t ∷ []) (sym end_types) ∙ ap
    (λ k. label_by k l.start_types.now l.end_types.now ∷ []) (sym kind) in
    let same = subst (λ (z : List ValType). HasType (with_label context results) body [] (known z)) (sym end_types) typed in
    record {
      under = [];
      later = [];
      around = (kind, refl, refl);
      here = record {
        own = [];
        whole = refl;
        height = sym height;
        theirs = [];
        covers = record { others = []; top = []; parts = refl; fits = tt; alone = λ alive. refl };
        rest = body;
        typed = subst (λ (z : List (List ValType)). HasType (record context { labels = z }) body [] (known l.end_types.now)) label same;
        written = written ∙ sym (append-nil (writing body));
      };
    }

-- Before anything is read.
pub first_goes : (s : BodyContext) (ops : List Op) (stacks : Stacks) → stacks.innermost.kind ≡ Function → stacks.innermost.end_types.now
    ≡ s.results.now → stacks.innermost.height ≡ 0 → stacks.outer.items ≡ [] → stacks.operands ≡ [] → IsRestTyped s ops stacks ops
first_goes s ops stacks kind end_types height alone nothing = record {
  in_context = λ context is body written typed.
      IsTypingOfRest-parts context stacks.innermost stacks.innermost (reverse stacks.outer.items) [] stacks.operands [] ops refl (ap (λ (z : List ControlFrame). reverse z) alone) nothing
      (first_possible body kind end_types is.labels height written typed);
}

-- One more operation.
pub next_goes : (s : BodyContext) (ops : List Op) (old new : Stacks) (o : Op) (rest : List Op) → IsRestTyped s ops old (o ∷ rest) → KeepsRest s old new o → IsRestTyped s ops new rest
next_goes s ops old new o rest goes leads = record { in_context = λ context is body written typed. leads.on context is rest (goes.in_context context is body written typed) }

-- An operation with which nothing is possible.
pub next_refused : (s : BodyContext) (ops : List Op) (old : Stacks) (o : Op) (rest : List Op) → IsRestTyped s ops old (o ∷ rest) → CannotBeNext s old o → IsUntyped s ops
next_refused s ops old o rest goes bars = record { in_context = λ context is body written typed. bars.at context is rest (goes.in_context context is body written typed) }

module _ (s : BodyContext) (ops : List Op) (stacks : Stacks) (goes : IsRestTyped s ops stacks []) where
  -- All operations were read, and a frame is within the function's own.
  pub still_open : 0 < length stacks.outer.items → IsUntyped s ops
  still_open more = record {
    in_context = λ context is body written typed.
        let alone = (nothing_left (goes.in_context context is body written typed)).0 in
        omega (arith, more, length-reverse stacks.outer.items, ap length alone);
  }

  -- All operations were read, and the function's own frame cannot end.
  pub never_whole : NeverCloses stacks → IsUntyped s ops
  never_whole never = record {
    in_context = λ context is body written typed.
        let p = goes.in_context context is body written typed in
        let left = (nothing_left p).1 in
        never.at p.under left.own p.here.theirs left.whole left.height left.covers left.fits;
  }
