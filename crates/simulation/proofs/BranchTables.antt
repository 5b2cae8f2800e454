-- br_table, on values and on their cells.
use Rattle.std.proofs.Common.{◌≡◌, ℕ, suc, ◌+◌, ◌-◌, ◌≤◌, List, [], ◌∷◌, ◌++◌, length, map, reverse, get_or, refl, ap, sym, subst, ◌∙◌, arith, length-append, inl, inr}
use Rattle.std.proofs.lemmas.List.{get_or_past, length-reverse, map-append, reverse-append}
use Rattle.std.proofs.lemmas.Option.{slice_get_cases}
use Rattle.std.proofs.Math.ListN.{get_or-map}
use Rattle.std.specs.List.{All}
use Rattle.core_types.specs.declared.op.BranchTable.{BranchTable}
use Rattle.core_types.specs.declared.op.PlainOp.TheVariants as plain
use Rattle.core_types.specs.declared.types.OperandType.{OperandType}
use Rattle.core_types.specs.declared.types.OperandType.TheVariants.{Known}
use Rattle.core_types.specs.declared.types.ValType.{ValType}
use Rattle.core_types.specs.declared.types.ValType.TheVariants as ty
use Rattle.meaning.specs.structure.Bodies.{Body, Then}
use Rattle.meaning.specs.execution.Configurations.{Running}
use Rattle.meaning.specs.execution.Instructions.{Branches, branch_by_table, next}
use Rattle.meaning.specs.validation.Context.{Context}
use Rattle.meaning.specs.validation.Instructions.{AllFit, FitsLabel, known}
use Rattle.soundness.specs.Places.{context_at}
use Rattle.soundness.proofs.Control.{carried-known, types-on-top}
use Rattle.soundness.proofs.Operands.{known-fits, known-same}
use Rattle.soundness.proofs.Values.{values-length}
use Rattle.sidetable.specs.Flat.{BrTable, entry_at}
use Rattle.sidetable.specs.declared.operations.Entry.{Entry}
use Rattle.simulation.specs.Runs.{Ghost, IsBefore, Runs, config_of, frame_of, place_of}
use Rattle.simulation.specs.Settling.{LeavesTo, in_frame}
use Rattle.simulation.proofs.Branches.{LandsBy, lands}
use Rattle.simulation.proofs.Ifs.{Conditioned, conditioned}
use Rattle.simulation.proofs.Plain.{at-body-in, top-within}
use Rattle.simulation.proofs.Settling.{begins}
use Rattle.simulation.proofs.Typed.{Inner, Settled, inner, on, settled, with_labels}

fits-same : (given : List OperandType) (types others : List ValType) → given ≡ known types → AllFit given (known others) → others ≡ types
fits-same given types others is fits = known-same others types (known-fits types (known others) (rw is at fits))

-- The selected label fits.
chosen-fits : (context : Context) (given : List OperandType) (t : BranchTable) (n : ℕ) → All (FitsLabel context given) t.labels
    → FitsLabel context given t.default → FitsLabel context given (get_or t.labels n t.default)
chosen-fits context given t n all last = elim (slice_get_cases t.labels n).1 [
  | inl w ↦ all n t.default w.1
  | inr w ↦ rw (get_or_past t.labels n t.default w.0) last
]

module _ (g : Ghost) (cells : List ℕ) (at top : ℕ) where
  pub branches-table : (es : List Entry) (e : Entry) → IsBefore (BrTable es e) g cells at top
      → (1 ≤ top) × (top ≤ length cells) × LandsBy g cells at top (top - 1) (get_or es (get_or cells (top - 1) 0) e)
  branches-table es e b =
      let s : Settled g cells at top = settled g cells at top b.runs in
      let (t, rest, is, entries, last) = begins g.code at (BrTable es e) b.more b.there s.values s.labels s.rest s.runs.stands s.settled in
      by s t rest is entries last (at-body-in g cells at top s (Then (plain.BrTable t) rest) is)
    where
      by : (s : Settled g cells at top) (t : BranchTable) (rest : Body) → s.rest ≡ Then (plain.BrTable t) rest → es
          ≡ map (entry_at g.code.outermost s.runs.stands.entries) t.labels → e ≡ entry_at g.code.outermost s.runs.stands.entries t.default
          → (r : Runs (on g g.locals s.values s.labels (Then (plain.BrTable t) rest)) cells at top)
          × LeavesTo g.store (frame_of g) (config_of g) (in_frame s.values s.labels (Then (plain.BrTable t) rest))
          × (r.stands.entries ≡ s.runs.stands.entries)
          → (1 ≤ top) × (top ≤ length cells) × LandsBy g cells at top (top - 1) (get_or es (get_or cells (top - 1) 0) e)
      by s t rest is entries last (r, leaves, same_entries) =
          let f : Inner (on g g.locals s.values s.labels (Then (plain.BrTable t) rest)) = inner _ r.typed in
          let (operands, results, between, (below, given, operands_are, all, default_fits), frames, runs) = f.runs in
          let (types, given_are) = carried-known f.stack operands results between frames below given operands_are in
          let operands_now : operands ≡ below ++ known (types ++ ty.I32 ∷ []) = operands_are ∙ ap
          (λ (z : List OperandType). below ++ (z ++ Known ty.I32 ∷ [])) given_are ∙ ap (λ (z : List OperandType). below ++ z)
          (sym (map-append Known types (ty.I32 ∷ []))) in
          let (others, stack_is) = types-on-top f.stack operands results between frames below (types ++ ty.I32 ∷ []) operands_now in
          let stack_now : f.stack ≡ ty.I32 ∷ (reverse types ++ others) = stack_is ∙ ap (λ (ts : List ValType). ts ++ others) (reverse-append types (ty.I32 ∷ [])) in
          let c : Conditioned g cells at top s.values s.labels = conditioned g cells at top s.values s.labels _ r (reverse types ++ others) (rw stack_now at f.values) in
          let many = values-length g.store s.values f.stack f.values in
          let lengths : length s.values ≡ suc (length c.values) = ap length c.values_are in
          let parts : length f.stack ≡ suc (length types + length others) = ap length stack_now ∙ simp (length-append, length-reverse) in
          let (carried_types, label, fits) = chosen-fits (context_at g.store (with_labels (place_of g) f.carried)) given t c.n all default_fits in
          let same : carried_types ≡ types = fits-same given types carried_types given_are fits in
          let few : length carried_types ≤ length c.values = let size = ap (λ (ts : List ValType). length ts) same in omega arith in
          let chosen : next g.store (frame_of g) (Running s.values (Then (plain.BrTable t) rest)) ≡ Branches (get_or t.labels c.n t.default) c.values = ap (branch_by_table t) c.values_are in
          let le = top-within _ cells at top r in
          let entry_is : entry_at g.code.outermost r.stands.entries (get_or t.labels c.n t.default) ≡ get_or es (get_or cells (top - 1) 0) e =
          ap (λ (en : List Entry). entry_at g.code.outermost en (get_or t.labels c.n t.default)) same_entries
          ∙ sym (get_or-map (entry_at g.code.outermost s.runs.stands.entries) t.labels c.n t.default)
          ∙ rw (entries, last, c.read) refl in (
            c.some,
            le,
            subst (λ (x : Entry). LandsBy g cells at top (top - 1) x) entry_is
                (lands g cells at top s.values s.labels _ r leaves c.values (top - 1) c.held c.top_is (omega (arith, le))
                (get_or t.labels c.n t.default) chosen f.carried f.arities carried_types label few),
          )
