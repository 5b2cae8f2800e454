-- The first and the last operation of a body: what was read.
use Rattle.std.proofs.Common.{◌≡◌, ◌++◌, ◌∷◌, [], List, ap, false, refl, reverse, subst, sym, ◌∙◌}
use Rattle.std.specs.Prelude.{Some}
use Rattle.core_types.specs.declared.op.Op.{Op}
use Rattle.core_types.specs.declared.types.OperandType.{OperandType}
use Rattle.core_types.specs.declared.types.ValType.{ValType}
use Rattle.meaning.specs.structure.Bodies.{writing}
use Rattle.meaning.specs.validation.Context.{with_label}
use Rattle.meaning.specs.validation.Instructions.{HasType, known}
use Rattle.validator.specs.declared.context.BodyContext.{BodyContext}
use Rattle.validator.specs.declared.control_frames.ControlFrame.{ControlFrame}
use Rattle.validator.specs.declared.control_frames.FrameKind.TheVariants.{Function}
use Rattle.validator.specs.declared.control_frames.Stacks.{Stacks}
use Rattle.validator.specs.ControlFrames.{label_by, label_of}
use Rattle.validator.specs.Soundness.{IsReadTyped, IsTypingOfRead, IsTyped}
use Rattle.validator.specs.Steps.{Closes, KeepsRead}
use Rattle.validator.proofs.soundness.Instructions.{IsTypingOfRead-parts}
use Rattle.validator.proofs.soundness.ReadBodies.{whole_body, nothing_open, took_open}

-- Before anything is read.
pub first_read : (s : BodyContext) (stacks : Stacks) → stacks.innermost.kind ≡ Function → stacks.innermost.start_types.now ≡ []
    → stacks.innermost.end_types.now ≡ s.results.now → stacks.innermost.height ≡ 0 → stacks.innermost.unreachable ≡ false → stacks.outer.items ≡ []
    → stacks.operands ≡ [] → IsReadTyped s stacks []
first_read s stacks kind start_types end_types height alive alone nothing = record {
  in_context = λ context described.
      IsTypingOfRead-parts context stacks.innermost stacks.innermost (reverse stacks.outer.items) [] stacks.operands [] [] refl
      (ap (λ (z : List ControlFrame). reverse z) alone) nothing
      (nothing_open stacks.innermost kind start_types (described.results ∙ ap Some (sym end_types)) height alive);
}

-- One more operation.
pub next_read : (s : BodyContext) (old new : Stacks) (read : List Op) (o : Op) → IsReadTyped s old read → KeepsRead s old new o → IsReadTyped s new (read ++ o ∷ [])
next_read s old new read o before reads = record { in_context = λ context described. reads.keeps context described read (before.in_context context described) }

-- All operations were read, and the body of the function's own frame is whole.
pub all_read : (s : BodyContext) (stacks : Stacks) (left : List OperandType) (read : List Op) → IsReadTyped s stacks read → stacks.outer.items ≡ [] → Closes stacks left → IsTyped s read
all_read s stacks left read before alone closes = record {
  in_context = λ context described.
      let opened = subst (λ (z : List ControlFrame). IsTypingOfRead context stacks.innermost (reverse z) stacks.operands [] read) alone (before.in_context context described) in
      let whole = took_open (known stacks.innermost.end_types.now) opened closes.takes closes.fits in
      let (kind, start_types, ends, under, nothing) = whole.around in
      let end_types : stacks.innermost.end_types.now ≡ s.results.now = cc in
      let label : label_of stacks.innermost ∷ []
      ≡ s.results.now ∷ context.labels = ap (λ k. label_by k stacks.innermost.start_types.now stacks.innermost.end_types.now ∷ []) kind ∙ ap
      (λ (t : List ValType). t ∷ []) end_types ∙ ap (λ (z : List (List ValType)). s.results.now ∷ z) (sym described.labels) in
      let typed = subst (λ (z : List (List ValType)).
      HasType (record context { labels = z }) whole.here.body (known stacks.innermost.start_types.now) (known stacks.innermost.end_types.now))
      label (whole_body whole closes.dry) in (
        whole.here.body,
        whole.here.written ∙ ap (λ (z : List Op). z ++ writing whole.here.body) nothing,
        subst (λ (z : List ValType). HasType (with_label context s.results.now) whole.here.body [] (known z)) end_types
            (subst (λ (z : List ValType). HasType (with_label context s.results.now) whole.here.body (known z) (known stacks.innermost.end_types.now)) start_types typed),
      );
}
