-- A call of code: the callee's machine, whose locals begin with the arguments in their cells.
use Rattle.std.proofs.Common.{◌≡◌, ℕ, ◌+◌, ◌-◌, ◌≤◌, List, [], ◌++◌, length, map, reverse, take, drop, replicate, refl, ap, sym, ◌∙◌, arith, length-append}
use Rattle.std.specs.Prelude.{Some}
use Rattle.std.proofs.lemmas.List.{append-nil, length-map, length-reverse, length-take-le, map-append, reverse-reverse, take-append-le}
use Rattle.core_types.specs.declared.outcome.Val.{Val}
use Rattle.core_types.specs.declared.types.FuncType.{FuncType}
use Rattle.core_types.specs.declared.types.ValType.{ValType}
use Rattle.meaning.specs.execution.Instructions.{topmost}
use Rattle.meaning.specs.execution.Store.{Code, InCode}
use Rattle.meaning.specs.execution.Values.{default_of}
use Rattle.meaning.specs.soundness.Values.{ValuesHaveTypes}
use Rattle.soundness.specs.Places.{context_at, inside_frame}
use Rattle.soundness.specs.Stores.{ImplementationIsValid, StoreIsValid, body_place}
use Rattle.soundness.proofs.Calls.{empty-runs}
use Rattle.soundness.proofs.Values.{defaults-typed, values-joined, values-parts, values-reversed}
use Rattle.sidetable.specs.Counts.{Signatures}
use Rattle.sidetable.specs.Flat.{FlatOp}
use Rattle.cells.specs.Cells.{cell_of}
use Rattle.simulation.specs.Entries.{callee}
use Rattle.simulation.specs.Laws.{BeginsAt}
use Rattle.simulation.specs.Runs.{Ghost, Holds, IsTyped, Runs}
use Rattle.simulation.specs.Standing.{values_under}
use Rattle.simulation.proofs.Cells.{argument-cells, first-cells}
use Rattle.simulation.proofs.Frames.{functions-entered}
use Rattle.simulation.proofs.Typed.{all-length}

module _ (g : Ghost) (cells : List ℕ) (top : ℕ) (valid : StoreIsValid g.store) (h : Holds g cells top) (inside : top ≤ length cells) (s : Signatures)
    (ops : List FlatOp) (at : ℕ) (t : FuncType) (instance : ℕ) (code : Code)
    (good : ImplementationIsValid g.store t (InCode instance code)) (below : List ValType)
    (typed : ValuesHaveTypes g.store g.values (reverse t.params ++ below)) (enough : length t.params ≤ length g.values)
    (types : (context_at g.store (body_place t instance code)).types ≡ s.types) (functions : (context_at g.store (body_place t instance code)).functions ≡ s.functions)
    (begins : BeginsAt s ops (length t.params + length code.locals) (length t.results) at code.body) where
  abbrev new : Ghost
  new = callee g s ops at t instance code g.values

  arguments : ValuesHaveTypes g.store (topmost t.params g.values) t.params
  arguments =
      let parts = rw (length-reverse t.params) at (values-parts g.store g.values (reverse t.params) below typed) in
      rw (reverse-reverse t.params) at (values-reversed g.store (take (length t.params) g.values) (reverse t.params) parts.0)

  callee-typed : IsTyped new
  callee-typed = record {
    valid = valid;
    own = values-joined g.store (topmost t.params g.values) (map default_of code.locals) t.params code.locals arguments (defaults-typed g.store code.locals);
    typed = (
      [],
      t.results,
      t.results,
      refl,
      tt,
      ([], tt, good.1),
      empty-runs g.store (inside_frame (Some instance) (t.params ++ code.locals) t.results) t.results,
      empty-runs g.store (inside_frame (Some instance) (t.params ++ code.locals) t.results) t.results,
    );
    types = types;
    functions = functions;
  }

  -- The callee's frame begins with the arguments, and its other locals are zero.
  pub call-enters : (cells' : List ℕ) → take (length t.params + length code.locals) cells' ≡ take (length t.params) (drop (top - length t.params) cells) ++ replicate (length code.locals) 0
      → new.code.greatest ≤ length cells' → Runs new cells' at (length t.params + length code.locals)
  call-enters cells' filled room = record {
    stands = functions-entered (context_at g.store (body_place t instance code)) s types functions t code.body good.1 ops (length t.params + length code.locals) at begins;
    holds = record {
      held = filled ∙ ap (λ (z : List ℕ). z ++ replicate (length code.locals) 0) lies ∙ ap (λ (z : List ℕ). map cell_of (topmost t.params g.values) ++ z) (sym (first-cells code.locals))
          ∙ sym (map-append cell_of (topmost t.params g.values) (map default_of code.locals)) ∙ sym (append-nil (map cell_of (topmost t.params g.values ++ map default_of code.locals)));
      top_is = omega (arith, locals_size);
      count = locals_size;
      room = room;
    };
    typed = callee-typed;
  }
    where
      locals_size : length (topmost t.params g.values ++ map default_of code.locals) ≡ length t.params + length code.locals
      locals_size =
          length-append (topmost t.params g.values) (map default_of code.locals)
          ∙ (let one : length (topmost t.params g.values) ≡ length t.params = length-reverse (take (length t.params) g.values) ∙ length-take-le (length t.params) g.values enough in
          let two = length-map code.locals default_of in omega arith)

      lies : take (length t.params) (drop (top - length t.params) cells) ≡ map cell_of (topmost t.params g.values)
      lies =
          argument-cells cells (map cell_of g.locals) top t.params (g.values ++ values_under g.labels) h.held
          (omega (arith, enough, length-append g.values (values_under g.labels)))
          (omega (arith, h.top_is, length-map g.locals cell_of, all-length g.values g.labels)) inside
          ∙ ap (λ (vs : List Val). map cell_of (reverse vs)) (take-append-le (length t.params) g.values (values_under g.labels) enough)
