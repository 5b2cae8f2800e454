-- Branches, on values and on their cells.
use Rattle.std.proofs.Common.{◌≡◌, ℕ, zero, suc, ◌+◌, ◌-◌, ◌≤◌, List, [], ◌∷◌, ◌++◌, length, map, reverse, take, get_or, slice_get, refl, ap, sym, subst, ◌∙◌, arith, append_assoc, length-append}
use Rattle.std.proofs.lemmas.List.{length-map, length-reverse, length-take-le, reverse-append}
use Rattle.std.specs.Prelude.{Option, Some, unwrap_or}
use Rattle.core_types.specs.declared.op.ControlOp.TheVariants as control
use Rattle.core_types.specs.declared.op.PlainOp.TheVariants as plain
use Rattle.core_types.specs.declared.outcome.Val.{Val}
use Rattle.core_types.specs.declared.outcome.Val.TheVariants.{I32}
use Rattle.core_types.specs.declared.types.ValType.{ValType}
use Rattle.core_types.specs.declared.types.ValType.TheVariants as ty
use Rattle.meaning.specs.structure.Bodies.{Body, Then}
use Rattle.meaning.specs.execution.Configurations.{Configuration, Frame, InLabel, Label, Running, continue_with}
use Rattle.meaning.specs.execution.Instructions.{Branches, Goes, NotReady, branch_if, next, step_in_label}
use Rattle.meaning.specs.execution.Store.{Store}
use Rattle.meaning.specs.validation.Types.{function_type}
use Rattle.meaning.proofs.lemmas.Layers.{if-at-most}
use Rattle.soundness.proofs.Control.{types-on-top}
use Rattle.soundness.proofs.Operands.{operands-on-top}
use Rattle.soundness.proofs.Values.{values-length}
use Rattle.sidetable.specs.Counts.{counts}
use Rattle.sidetable.specs.Flat.{Br, BrIf, entry_at}
use Rattle.sidetable.specs.declared.operations.Entry.{Entry}
use Rattle.cells.specs.Cells.{cell_of}
use Rattle.simulation.specs.Piles.{cells_of}
use Rattle.simulation.specs.Operations.{IsLanded}
use Rattle.simulation.specs.Runs.{Ghost, IsBefore, Runs, config_of, frame_of}
use Rattle.simulation.specs.Settling.{LeavesTo, in_frame, inside_labels}
use Rattle.simulation.specs.Standing.{StandsIn, under, values_under}
use Rattle.simulation.proofs.Cells.{pile-land}
use Rattle.simulation.proofs.Control.{Charged, dear, moved}
use Rattle.simulation.proofs.Ifs.{Conditioned, conditioned, positive}
use Rattle.simulation.proofs.Plain.{at-body-in, top-within}
use Rattle.simulation.proofs.Settling.{begins, labels-go}
use Rattle.simulation.proofs.Steps.{Reaches, advanced, landed, reaches}
use Rattle.simulation.proofs.Typed.{Arities, Inner, Settled, all-length, inner, on, settled}

-- ---- labels

-- The label of a number carries as many values as its arity.
arity-at : (labels : List Label) (carried : List (List ValType)) → Arities labels carried → (l : ℕ) (types : List ValType) → slice_get carried l
    ≡ Some types → (suc l ≤ length labels)
    × ((inner : List Label) (label : Label) (outer : List Label) → labels ≡ inner ++ (label ∷ outer) → length inner ≡ l → label.arity ≡ length types)
arity-at [] [] arities l types is = absurd cc
arity-at [] (c ∷ cs) arities l types is = absurd arities
arity-at (label ∷ labels) [] arities l types is = absurd arities
arity-at (label ∷ labels) (c ∷ cs) arities zero types is = (omega arith, by)
  where
    by : (inner : List Label) (m : Label) (outer : List Label) → label ∷ labels ≡ inner ++ (m ∷ outer) → length inner ≡ 0 → m.arity ≡ length types
    by [] m outer e count = let same : label ≡ m = cc in let types_are : c ≡ types = cc in ap (λ (x : Label). x.arity) (sym same) ∙ arities.0 ∙ ap length types_are
    by (i ∷ inner) m outer e count = absurd (omega (arith, count))
arity-at (label ∷ labels) (c ∷ cs) arities (suc l) types is =
    let (inside, same) = arity-at labels cs arities.1 l types is in (omega (arith, inside), by same)
  where
    by : ((inner : List Label) (m : Label) (outer : List Label) → labels ≡ inner ++ (m ∷ outer) → length inner ≡ l → m.arity ≡ length types)
        → (inner : List Label) (m : Label) (outer : List Label) → label ∷ labels ≡ inner ++ (m ∷ outer) → length inner ≡ suc l → m.arity ≡ length types
    by same [] m outer e count = absurd (omega (arith, count))
    by same (i ∷ inner) m outer e count = let rest : labels ≡ inner ++ (m ∷ outer) = cc in same inner m outer rest (omega (arith, count))

under-joined : (inner outer : List Label) → values_under (inner ++ outer) ≡ values_under inner ++ values_under outer
under-joined [] outer = refl
under-joined (label ∷ inner) outer = ap (λ (vs : List Val). label.values ++ vs) (under-joined inner outer) ∙ sym (append_assoc label.values (values_under inner) (values_under outer))

sum-joined : (inner outer : List Label) → under (inner ++ outer) ≡ under inner + under outer
sum-joined [] outer = omega arith
sum-joined (label ∷ inner) outer = let further = sum-joined inner outer in omega arith

module _ (store : Store) (frame : Frame) (kept : List Val) (label : Label) (outer : List Label) (le : label.arity ≤ length kept) where
  -- A branch leaves the labels within its target, and lands.
  branch-through : (inner : List Label) (x : Configuration) → next store frame x ≡ Branches (length inner) kept
      → next store frame (inside_labels (inner ++ (label ∷ outer)) x) ≡ Goes 1 store frame (in_frame (take label.arity kept ++ label.values) outer (continue_with label.continuation label.rest))
  branch-through [] x e = labels-go store frame outer 1 store frame (InLabel label x) _ (ap (step_in_label store frame label) e ∙ if-at-most label.arity (length kept) _ NotReady le)
  branch-through (i ∷ inner) x e = branch-through inner (InLabel i x) (ap (step_in_label store frame i) e)

-- ---- landing

module _ (g : Ghost) (cells : List ℕ) (at top : ℕ) where
  -- Where a branch with this entry leads, with the cells up to a height, after the kept values were moved.
  abbrev pub LandsBy : (above : ℕ) → Entry → Type 0
  LandsBy = IsLanded g cells at top

  pub lands : (values₀ : List Val) (labels : List Label) (rest₀ : Body) (r : Runs (on g g.locals values₀ labels rest₀) cells at top)
      (leaves : LeavesTo g.store (frame_of g) (config_of g) (in_frame values₀ labels rest₀))
      → (values : List Val) (above : ℕ) → take above cells ≡ map cell_of g.locals ++ cells_of (values ++ values_under labels) → above
      ≡ length g.locals + (length values + under labels) → above ≤ length cells
      → (l : ℕ) → next g.store (frame_of g) (Running values₀ rest₀) ≡ Branches l values
      → (carried : List (List ValType)) → Arities labels carried → (types : List ValType) → slice_get carried l ≡ Some types → length types ≤ length values
      → LandsBy above (entry_at g.code.outermost r.stands.entries l)
  lands values₀ labels rest₀ r leaves values above held above_is le l branches carried arities types is enough =
      let (inside, arity) = arity-at labels carried arities l types is in
      let to : Reaches g.code l labels r.stands.entries = reaches g.code l labels r.stands.entries r.stands.end r.stands.last r.stands.around inside in
      let of_types : to.label.arity ≡ length types = arity to.inner to.label to.outer to.labels_are to.count in
      let kept = to.kept in
      let height = to.height in
      let count = r.holds.count in
      let few : to.entry.kept ≤ length values = omega arith in
      let entry_is : entry_at g.code.outermost r.stands.entries l ≡ to.entry = ap (λ (o : Option Entry). unwrap_or o g.code.outermost) to.entry_is in
      let through : next g.store (frame_of g) (in_frame values₀ (to.inner ++ (to.label ∷ to.outer)) rest₀)
      ≡ Goes 1 g.store (frame_of g) (in_frame (take to.label.arity values ++ to.label.values) to.outer
      (continue_with to.label.continuation to.label.rest)) =
      branch-through g.store (frame_of g) values to.label to.outer (omega arith) to.inner (Running values₀ rest₀) (branches ∙ ap (λ (n : ℕ). Branches n values) (sym to.count)) in
      let goes : next g.store (frame_of g) (in_frame values₀ labels rest₀)
      ≡ Goes 1 g.store (frame_of g) (in_frame (take to.label.arity values ++ to.label.values) to.outer
      (continue_with to.label.continuation to.label.rest)) =
      ap (λ (ls : List Label). next g.store (frame_of g) (in_frame values₀ ls rest₀)) to.labels_are ∙ through in
      let size : length (map cell_of g.locals) ≡ length g.locals = length-map g.locals cell_of in
      let lower : List Val = to.label.values ++ values_under to.outer in
      let whole_under : values_under labels ≡ values_under to.inner ++ lower = ap values_under to.labels_are ∙ under-joined to.inner (to.label ∷ to.outer) in
      let sums : under labels ≡ under to.inner + (length to.label.values + under to.outer) = ap under to.labels_are ∙ sum-joined to.inner (to.label ∷ to.outer) in
      let lower_size = all-length to.label.values to.outer in
      let gone_size : length (values_under to.inner) ≡ under to.inner = all-length [] to.inner ∙ omega arith in
      let pile : take above cells ≡ map cell_of g.locals ++ cells_of (values ++ (values_under to.inner ++ lower)) = rw whole_under at held in
      let taken : length (take to.label.arity values) ≡ to.label.arity = length-take-le to.label.arity values (omega arith) in
      let joined = length-append (take to.label.arity values) to.label.values in
      rw entry_is (
        omega (arith, above_is, sums, few, height, count),
        le,
        λ cells' fuel left put same_size enough_fuel left_is.
            moved g cells at top values₀ labels rest₀ r leaves 1 (take to.label.arity values ++ to.label.values) to.outer (continue_with to.label.continuation to.label.rest) goes
            cells' to.entry.target (to.entry.height + to.entry.kept) fuel left (landed g.code l labels r.stands.entries to values few) same_size
            (pile-land cells (map cell_of g.locals) above to.entry.kept values (values_under to.inner) lower pile few (omega arith) le to.entry.height (omega arith) cells' put
            ∙ ap (λ (vs : List Val). map cell_of g.locals ++ cells_of vs)
            (ap (λ (n : ℕ). take n values ++ lower) kept ∙ sym (append_assoc (take to.label.arity values) to.label.values (values_under to.outer))))
            (omega arith) enough_fuel left_is,
        λ fuel few_fuel. dear g cells at top values₀ labels rest₀ r leaves 1 _ _ goes fuel few_fuel,
        omega (arith, height),
      )

  -- br
  pub branches-on : (e : Entry) → IsBefore (Br e) g cells at top → LandsBy top e
  branches-on e b =
      let s : Settled g cells at top = settled g cells at top b.runs in
      let (l, rest, is, entry) = begins g.code at (Br e) b.more b.there s.values s.labels s.rest s.runs.stands s.settled in
      let (r, leaves, same_entries) = at-body-in g cells at top s (Then (plain.Control (control.Br l)) rest) is in
      let f : Inner (on g g.locals s.values s.labels (Then (plain.Control (control.Br l)) rest)) = inner _ r.typed in
      let (operands, results, between, (below, types, label, operands_are), frames, runs) = f.runs in
      let (others, stack_is) = types-on-top f.stack operands results between frames below types operands_are in
      let many = values-length g.store s.values f.stack f.values in
      let parts : length f.stack ≡ length types + length others = ap length stack_is ∙ simp (length-append, length-reverse) in
      subst (λ (x : Entry). LandsBy top x) (ap (λ (es : List Entry). entry_at g.code.outermost es l) same_entries ∙ sym entry)
      (lands s.values s.labels (Then (plain.Control (control.Br l)) rest) r leaves s.values top r.holds.held r.holds.top_is
      (top-within _ cells at top r) l refl f.carried f.arities types label (omega arith))

  -- br_if: the cell exists, and what zero and another number lead to.
  pub branches-if : (e : Entry) → IsBefore (BrIf e) g cells at top
      → (1 ≤ top) × (top ≤ length cells) × (get_or cells (top - 1) 0 ≡ 0 → Charged g cells at top (suc at) (top - 1)) × ((get_or cells (top - 1) 0 ≡ 0 → ⊥) → LandsBy (top - 1) e)
  branches-if e b =
      let s : Settled g cells at top = settled g cells at top b.runs in
      let (l, rest, is, entry) = begins g.code at (BrIf e) b.more b.there s.values s.labels s.rest s.runs.stands s.settled in
      by s l rest is entry (at-body-in g cells at top s (Then (plain.Control (control.BrIf l)) rest) is)
    where
      by : (s : Settled g cells at top) (l : ℕ) (rest : Body) → s.rest ≡ Then (plain.Control (control.BrIf l)) rest → e ≡ entry_at g.code.outermost s.runs.stands.entries l
          → (r : Runs (on g g.locals s.values s.labels (Then (plain.Control (control.BrIf l)) rest)) cells at top)
          × LeavesTo g.store (frame_of g) (config_of g) (in_frame s.values s.labels (Then (plain.Control (control.BrIf l)) rest))
          × (r.stands.entries ≡ s.runs.stands.entries)
          → (1 ≤ top) × (top ≤ length cells) × (get_or cells (top - 1) 0 ≡ 0 → Charged g cells at top (suc at) (top - 1)) × ((get_or cells (top - 1) 0 ≡ 0 → ⊥) → LandsBy (top - 1) e)
      by s l rest is entry (r, leaves, same_entries) =
          let op = plain.Control (control.BrIf l) in
          let f : Inner (on g g.locals s.values s.labels (Then (plain.Control (control.BrIf l)) rest)) = inner _ r.typed in
          let (operands, results, between, (types, label, type), frames, runs) = f.runs in
          let (below, stack_is, between_is) = operands-on-top f.stack (function_type (types ++ ty.I32 ∷ []) types) operands results between type frames in
          let stack_now : f.stack ≡ ty.I32 ∷ (reverse types ++ below) = stack_is ∙ ap (λ (ts : List ValType). ts ++ below) (reverse-append types (ty.I32 ∷ [])) in
          let c : Conditioned g cells at top s.values s.labels = conditioned g cells at top s.values s.labels _ r (reverse types ++ below) (rw stack_now at f.values) in
          let many = values-length g.store s.values f.stack f.values in
          let lengths : length s.values ≡ suc (length c.values) = ap length c.values_are in
          let parts : length f.stack ≡ suc (length types + length below) = ap length stack_now ∙ simp (length-append, length-reverse) in
          let chosen : (n : ℕ) → n ≡ c.n → next g.store (frame_of g) (Running s.values (Then (plain.Control (control.BrIf l)) rest)) ≡ branch_if g.store (frame_of g) l (I32 n ∷ c.values) rest =
          λ n same. ap (λ (vs : List Val). branch_if g.store (frame_of g) l vs rest) (c.values_are ∙ ap (λ (m : ℕ). I32 m ∷ c.values) (sym same)) in (
            c.some,
            top-within _ cells at top r,
            λ is_zero.
                let goes = labels-go g.store (frame_of g) s.labels 1 g.store (frame_of g)
                (Running s.values (Then (plain.Control (control.BrIf l)) rest)) (Running c.values rest) (chosen 0 (sym is_zero ∙ c.read)) in
                let next_height : g.code.locals + (length s.values + under s.labels) - 1 + 0 ≡ g.code.locals + (length c.values + under s.labels) = omega arith in
                let stands : StandsIn g.code (suc at) c.values s.labels rest = record {
                  entries = r.stands.entries;
                  end = r.stands.end;
                  last = r.stands.last;
                  here = rw next_height at (advanced g.code r.stands.entries _ at op rest r.stands.end r.stands.last (counts 1 0) refl r.stands.here);
                  around = r.stands.around;
                } in (
                  λ fuel left enough_fuel left_is.
                      moved g cells at top s.values s.labels _ r leaves 1 c.values s.labels rest goes cells (suc at) (top - 1) fuel left stands refl
                      c.held c.top_is enough_fuel left_is,
                  λ fuel few. dear g cells at top s.values s.labels _ r leaves 1 _ _ goes fuel few,
                ),
            λ not_zero.
                let (m, more) = positive c.n (λ z. not_zero (c.read ∙ z)) in
                let le = top-within _ cells at top r in
                subst (λ (x : Entry). LandsBy (top - 1) x) (ap (λ (es : List Entry). entry_at g.code.outermost es l) same_entries ∙ sym entry)
                (lands s.values s.labels _ r leaves c.values (top - 1) c.held c.top_is (omega (arith, le)) l (chosen (suc m) (sym more)) f.carried f.arities types label (omega arith)),
          )
