-- Reading a body up to a place in it.
use Rattle.std.proofs.Common.{Bool, List, [], ap, append_assoc, false, inl, inr, refl, sym, true, ℕ, ◌++◌, ◌∙◌, ◌∷◌, ◌≡◌, ◌||◌}
use Rattle.std.specs.List.{list_any}
use Rattle.std.specs.Prelude.{None, Option, Some, option_map}
use Rattle.std.proofs.lemmas.List.{append-nil}
use Rattle.std.proofs.lemmas.List.Folds.{list_any-append}
use Rattle.core_types.specs.declared.op.Op.{Op}
use Rattle.core_types.specs.reading.Bodies.{operations_in, operations_of, or_stray_else, stray_else}
use Rattle.meaning.specs.binary.Modules.{names_data}
use Rattle.binary.specs.Bodies.{Passes, Place}
use Rattle.meaning.proofs.lemmas.Writings.{never_stray}
use Rattle.validator.specs.Completeness.{IsRestTyped, IsUntyped}
use Rattle.validator.specs.Steps.{CannotBeNext, IsRefusedNext}
use Rattle.validator.specs.declared.context.BodyContext.{BodyContext}
use Rattle.validator.specs.declared.control_frames.Stacks.{Stacks}
use Rattle.validator.proofs.completeness.WholeBodies.{next_refused}

-- These operations of the body were read, and the others are left.
pub record ReadsBody (body read : List Op) (here : Place) : Type 0 where
  pub bytes : List ℕ
  pub whole : operations_of bytes ≡ body
  pub parts : operations_in bytes ≡ option_map (λ (ops : List Op). read ++ ops) (operations_in here.0)
  pub named : here.1 ≡ list_any names_data read

or_none : (b : Bool) → (b || false) ≡ b
or_none true = refl
or_none false = refl

nothing_before : (found : Option (List Op)) → found ≡ option_map (λ (ops : List Op). ops) found
nothing_before None = refl
nothing_before (Some ops) = refl

pub reads_nothing : (body : List Op) (here : Place) → operations_of here.0 ≡ body → here.1 ≡ false → ReadsBody body [] here
reads_nothing body here whole none = record { bytes = here.0; whole = whole; parts = nothing_before (operations_in here.0); named = none }

module _ {body read : List Op} {here : Place} (reads : ReadsBody body read here) where
  pub reads_next : {behind : Place} (op : Op) → Passes here op behind → ReadsBody body (read ++ op ∷ []) behind
  reads_next {behind} op passes = record {
    bytes = reads.bytes;
    whole = reads.whole;
    parts = reads.parts ∙ ap (option_map (λ (ops : List Op). read ++ ops)) passes.operations ∙ moved (operations_in behind.0);
    named =
        passes.names_data ∙ ap (λ (b : Bool). b || names_data op) reads.named
        ∙ sym (list_any-append names_data read (op ∷ []) ∙ ap (λ (b : Bool). list_any names_data read || b) (or_none (names_data op)));
  }
    where
      moved : (others : Option (List Op))
          → option_map (λ (ops : List Op). read ++ ops) (option_map (λ (ops : List Op). op ∷ ops) others) ≡ option_map (λ (ops : List Op). (read ++ op ∷ []) ++ ops) others
      moved None = refl
      moved (Some ops) = ap (λ (z : List Op). Some z) (sym (append_assoc read (op ∷ []) ops))

  whole_is : (ops : List Op) → operations_in here.0 ≡ Some ops → body ≡ read ++ ops
  unfolding operations_of
  whole_is ops left =
      sym reads.whole ∙ ap or_stray_else (reads.parts ∙ ap (option_map (λ (ops : List Op). read ++ ops)) left)

  pub reads_all : operations_in here.0 ≡ Some [] → (body ≡ read) × (here.1 ≡ list_any names_data body)
  reads_all none =
      let same = whole_is [] none ∙ append-nil read in
      (same, reads.named ∙ ap (list_any names_data) (sym same))

  stray : operations_in here.0 ≡ None → stray_else ≡ body
  unfolding operations_of
  stray none = sym (ap or_stray_else (reads.parts ∙ ap (option_map (λ (ops : List Op). read ++ ops)) none)) ∙ reads.whole

  -- What comes next is refused, and so is the body.
  pub reads_refused : (s : BodyContext) (stacks : Stacks) → ((ops : List Op) → body ≡ read ++ ops → IsRestTyped s body stacks ops)
      → IsRefusedNext s stacks here → IsUntyped s body
  reads_refused s stacks goes refused = elim refused [ inl none ↦ none_untyped none | inr first ↦ next_untyped first.0 (operations_in first.1.0) first.2.operations first.3 ]
    where
      none_untyped : operations_in here.0 ≡ None → IsUntyped s body
      none_untyped none = record { in_context = λ context is tree written typed. never_stray tree (stray none ∙ written) }

      first_untyped : (o : Op) (others : List Op) → operations_in here.0 ≡ Some (o ∷ others) → CannotBeNext s stacks o → IsUntyped s body
      first_untyped o others left never = next_refused s body stacks o others (goes (o ∷ others) (whole_is (o ∷ others) left)) never

      next_untyped : (o : Op) (found : Option (List Op)) → operations_in here.0 ≡ option_map (λ (ops : List Op). o ∷ ops) found → CannotBeNext s stacks o
          → IsUntyped s body
      next_untyped o None left never = none_untyped left
      next_untyped o (Some others) left never = first_untyped o others left never
