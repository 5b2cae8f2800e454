-- Labels that are left where the code is, and what is there then.
use Rattle.std.proofs.Common.{◌≡◌, ℕ, ◌<◌, List, [], ◌∷◌, ◌++◌, length, drop, refl, ap, sym, subst, ◌∙◌, arith, append_assoc, inl, inr}
use Rattle.core_types.specs.declared.op.ControlOp.{ControlOp}
use Rattle.core_types.specs.declared.op.ControlOp.TheVariants as control
use Rattle.core_types.specs.declared.op.MemoryOp.TheVariants as memory
use Rattle.core_types.specs.declared.op.PlainOp.{PlainOp}
use Rattle.core_types.specs.declared.op.PlainOp.TheVariants as plain
use Rattle.core_types.specs.declared.outcome.Val.{Val}
use Rattle.meaning.specs.structure.Bodies.{Body, BlockKind, LoopKind, IfKind, Empty, Then, Nested, IfElse}
use Rattle.meaning.specs.execution.Configurations.{Configuration, Frame, InLabel, Label, Running}
use Rattle.meaning.specs.execution.Instructions.{Goes, Grows, next, step_in_label}
use Rattle.meaning.specs.execution.Store.{Store}
use Rattle.sidetable.specs.Flat.{FlatOp, Jump, Leave, entry_of, flat_op, without_annotations}
use Rattle.sidetable.specs.declared.operations.Entry.{Entry}
use Rattle.simulation.specs.Runs.{NextContinues}
use Rattle.simulation.specs.Standing.{FrameCode, GoesOnAt, IsAtEnd, StandsIn, values_under}
use Rattle.simulation.specs.Settling.{BeginsWith, HasNoAnnotations, IsSettled, leave, stay, Settles, in_frame, inside_labels}
use Rattle.simulation.proofs.Steps.{left}

module _ (store : Store) (frame : Frame) where
  pub labels-go : (labels : List Label) (cost : ℕ) (store' : Store) (frame' : Frame) (x y : Configuration) → next store frame x
      ≡ Goes cost store' frame' y → next store frame (inside_labels labels x) ≡ Goes cost store' frame' (inside_labels labels y)
  labels-go [] cost store' frame' x y e = e
  labels-go (label ∷ labels) cost store' frame' x y e = labels-go labels cost store' frame' (InLabel label x) (InLabel label y) (ap (step_in_label store frame label) e)

  pub labels-grow : (labels : List Label) (cost : ℕ) (store' : Store) (frame' : Frame) (x y : Configuration) → next store frame x
      ≡ Grows cost store' frame' y → next store frame (inside_labels labels x) ≡ Grows cost store' frame' (inside_labels labels y)
  labels-grow [] cost store' frame' x y e = e
  labels-grow (label ∷ labels) cost store' frame' x y e = labels-grow labels cost store' frame' (InLabel label x) (InLabel label y) (ap (step_in_label store frame label) e)

  pub labels-go-on : (labels : List Label) (cost : ℕ) (store' : Store) (frame' : Frame) (x y : Configuration)
      → NextContinues (next store frame x) cost store' frame' y → NextContinues (next store frame (inside_labels labels x)) cost store' frame' (inside_labels labels y)
  labels-go-on labels cost store' frame' x y (inl e) = inl (labels-go labels cost store' frame' x y e)
  labels-go-on labels cost store' frame' x y (inr e) = inr (labels-grow labels cost store' frame' x y e)

  -- The inside is over.
  left-goes : (values : List Val) (label : Label) (labels : List Label) → next store frame (in_frame values (label ∷ labels) Empty)
      ≡ Goes 0 store frame (in_frame (values ++ label.values) labels label.rest)
  left-goes values label labels = labels-go labels 0 store frame (InLabel label (Running values Empty)) (Running (values ++ label.values) label.rest) refl

  pub settles : (f : FrameCode) (at : ℕ) (labels : List Label) (values : List Val) (rest : Body) → StandsIn f at values labels rest → Settles store frame f at values labels rest
  settles f at labels values (Then op rest) s = record { values' = values; labels' = labels; rest' = Then op rest; leaves = stay; stands = s; same = refl; settled = tt }
  settles f at labels values (Nested kind type inner rest) s = record { values' = values; labels' = labels; rest' = Nested kind type inner rest; leaves = stay; stands = s; same = refl; settled = tt }
  settles f at labels values (IfElse type inner other rest) s =
      record { values' = values; labels' = labels; rest' = IfElse type inner other rest; leaves = stay; stands = s; same = refl; settled = tt }
  settles f at [] values Empty s = record { values' = values; labels' = []; rest' = Empty; leaves = stay; stands = s; same = refl; settled = tt }
  settles f at (label ∷ labels) values Empty s =
      let (onward, goes_on, stands) = left f at values label labels s in
      by onward goes_on stands (λ here. settles f at labels (values ++ label.values) label.rest here)
    where
      by : (onward : ℕ) → GoesOnAt f at onward → StandsIn f onward (values ++ label.values) labels label.rest
          → (StandsIn f at (values ++ label.values) labels label.rest → Settles store frame f at (values ++ label.values) labels label.rest)
          → Settles store frame f at values (label ∷ labels) Empty
      by onward (inl same) stands further =
          let then : Settles store frame f at (values ++ label.values) labels label.rest = further (subst (λ (n : ℕ). StandsIn f n (values ++ label.values) labels label.rest) same stands) in record {
            values' = then.values';
            labels' = then.labels';
            rest' = then.rest';
            leaves = leave (left-goes values label labels) then.leaves;
            stands = then.stands;
            same = then.same ∙ append_assoc values label.values (values_under labels);
            settled = then.settled;
          }
      by onward (inr (later, kept, height, more, placed)) stands further = record {
        values' = values;
        labels' = label ∷ labels;
        rest' = Empty;
        leaves = stay;
        stands = s;
        same = refl;
        settled = record { onward = onward; later = later; kept = kept; height = height; more = more; placed = placed; stands = stands };
      }

-- ---- what is there

module _ (outermost : Entry) (entries : List Entry) (at : ℕ) (rest : Body) where
  of-control : (op : ControlOp) → BeginsWith outermost entries at (flat_op outermost entries (plain.Control op)) (Then (plain.Control op) rest)
  of-control control.Unreachable = (_, rest, refl, refl)
  of-control control.Nop = (_, rest, refl, refl)
  of-control (control.Br label) = (label, rest, refl, refl)
  of-control (control.BrIf label) = (label, rest, refl, refl)
  of-control control.Return = (rest, refl, refl)
  of-control (control.Call x) = (_, rest, refl, refl)
  of-control (control.CallIndirect y x) = (_, rest, refl, refl)
  of-control (control.ReturnCall x) = (_, rest, refl, refl)
  of-control (control.ReturnCallIndirect y x) = (_, rest, refl, refl)

  of-op : (op : PlainOp) → BeginsWith outermost entries at (flat_op outermost entries op) (Then op rest)
  of-op (plain.Control op) = of-control op
  of-op (plain.BrTable t) = (t, rest, refl, refl, refl)
  of-op (plain.Reference op) = (plain.Reference op, rest, refl, refl)
  of-op (plain.Parametric op) = (plain.Parametric op, rest, refl, refl)
  of-op (plain.SelectTyped types) = (plain.SelectTyped types, rest, refl, refl)
  of-op (plain.Variable op) = (plain.Variable op, rest, refl, refl)
  of-op (plain.Table op) = (plain.Table op, rest, refl, refl)
  of-op (plain.Memory op) = (plain.Memory op, rest, refl, refl)
  of-op (plain.Numeric op) = (plain.Numeric op, rest, refl, refl)
  of-op (plain.I32Const n) = (plain.I32Const n, rest, refl, refl)
  of-op (plain.I64Const n) = (plain.I64Const n, rest, refl, refl)

-- An instruction without annotations is written as itself.
pub written-so : (op written : PlainOp) → op ≡ without_annotations written → HasNoAnnotations op → written ≡ op
written-so op (plain.Control o) is h = sym is
written-so op (plain.BrTable t) is h = sym is
written-so op (plain.Reference o) is h = sym is
written-so op (plain.Parametric o) is h = sym is
written-so op (plain.SelectTyped types) is h = absurd (subst HasNoAnnotations is h)
written-so op (plain.Variable o) is h = sym is
written-so op (plain.Table o) is h = sym is
written-so op (plain.Memory (memory.Load l argument)) is h = absurd (subst HasNoAnnotations is h)
written-so op (plain.Memory (memory.Store st argument)) is h = absurd (subst HasNoAnnotations is h)
written-so op (plain.Memory memory.Size) is h = sym is
written-so op (plain.Memory memory.Grow) is h = sym is
written-so op (plain.Memory memory.Fill) is h = sym is
written-so op (plain.Memory memory.Copy) is h = sym is
written-so op (plain.Memory (memory.Init x)) is h = sym is
written-so op (plain.Memory (memory.DataDrop x)) is h = sym is
written-so op (plain.Numeric o) is h = sym is
written-so op (plain.I32Const n) is h = sym is
written-so op (plain.I64Const n) is h = sym is

-- The first of two lists that are the same.
firsts : (x y : FlatOp) (xs ys : List FlatOp) → x ∷ xs ≡ y ∷ ys → x ≡ y
firsts x y xs ys e = cc

-- If no label and nothing of the body is left.
pub at-leave : (f : FrameCode) (at : ℕ) (values : List Val) (s : StandsIn f at values [] Empty) → IsAtEnd f at
at-leave f at values s =
    let end = s.here.ends in
    let same : s.end ≡ at = omega (arith, end) in
    subst (IsAtEnd f) same s.around.0

module _ (f : FrameCode) (at : ℕ) (o : FlatOp) (os : List FlatOp) (there : drop at f.operations ≡ o ∷ os) where
  same-head : (entries : List Entry) (body : Body) (p : FlatOp) (ps : List FlatOp) → drop at f.operations ≡ p ∷ ps → BeginsWith f.outermost entries at p body → BeginsWith f.outermost entries at o body
  same-head entries body p ps placed begins = subst (λ (q : FlatOp). BeginsWith f.outermost entries at q body) (firsts p o ps os (sym placed ∙ there)) begins

  pub begins : (values : List Val) (labels : List Label) (rest : Body) (s : StandsIn f at values labels rest) → IsSettled f at values labels rest → BeginsWith f.outermost s.entries at o rest
  begins values labels (Then op rest) s settled = same-head s.entries (Then op rest) _ _ s.here.placed (of-op f.outermost s.entries at rest op)
  begins values labels (Nested BlockKind type inner rest) s settled = same-head s.entries _ _ _ s.here.placed (type, inner, rest, inl refl)
  begins values labels (Nested LoopKind type inner rest) s settled = same-head s.entries _ _ _ s.here.placed (type, inner, rest, inr refl)
  begins values labels (Nested IfKind type inner rest) s settled = same-head s.entries _ _ _ s.here.placed (type, inner, rest, inl (refl, refl))
  begins values labels (IfElse type inner other rest) s settled = same-head s.entries _ _ _ s.here.placed (type, inner, rest, inr (other, refl, refl))
  begins values [] Empty s settled = let (more, placed) = at-leave f at values s in same-head s.entries Empty (Leave f.outermost.kept) more placed refl
  begins values (label ∷ labels) Empty s settled = same-head s.entries Empty _ _ settled.placed refl

  -- At a jump.
  pub jumps : (kept onward height : ℕ) → o ≡ Jump (entry_of onward kept height)
      → (values : List Val) (labels : List Label) (rest : Body) (s : StandsIn f at values labels rest) → IsSettled f at values labels rest
      → (label : Label) × (outer : List Label) × (labels ≡ label ∷ outer) × (rest ≡ Empty) × StandsIn f onward (values ++ label.values) outer label.rest × (at < onward)
  jumps kept onward height is values labels (Then op rest) s settled = absurd
      (no-jump s.entries op rest (subst (λ (q : FlatOp). BeginsWith f.outermost s.entries at q (Then op rest)) is
      (begins values labels (Then op rest) s settled)))
    where
      no-jump : (entries : List Entry) (op : PlainOp) (rest : Body) → Then op rest ≡ Empty → ⊥
      no-jump entries op rest e = cc
  jumps kept onward height is values labels (Nested kind type inner rest) s settled = absurd
      (let wrong : Nested kind type inner rest
      ≡ Empty = subst (λ (q : FlatOp). BeginsWith f.outermost s.entries at q (Nested kind type inner rest)) is
      (begins values labels (Nested kind type inner rest) s settled) in cc)
  jumps kept onward height is values labels (IfElse type inner other rest) s settled = absurd
      (let wrong : IfElse type inner other rest
      ≡ Empty = subst (λ (q : FlatOp). BeginsWith f.outermost s.entries at q (IfElse type inner other rest)) is
      (begins values labels (IfElse type inner other rest) s settled) in cc)
  jumps kept onward height is values [] Empty s settled =
      let (more, placed) = at-leave f at values s in
      absurd (let wrong : Leave f.outermost.kept ≡ Jump (entry_of onward kept height) = firsts _ _ more os (sym placed ∙ there) ∙ is in cc)
  jumps kept onward height is values (label ∷ labels) Empty s settled =
      let same : Jump (entry_of settled.onward settled.kept settled.height) ≡ Jump (entry_of onward kept height) = firsts _ _ settled.more os (sym settled.placed ∙ there) ∙ is in
      let entries : entry_of settled.onward settled.kept settled.height ≡ entry_of onward kept height = cc in
      let targets : settled.onward ≡ onward = ap (λ (e : Entry). e.target) entries in
      (label, labels, refl, refl, subst (λ (n : ℕ). StandsIn f n (values ++ label.values) labels label.rest) targets settled.stands, rw targets at settled.later)

-- At the end of the code.
module _ (f : FrameCode) (at results : ℕ) (more : List FlatOp) (there : drop at f.operations ≡ Leave results ∷ more) where
  pub at-end : (values : List Val) (labels : List Label) (rest : Body) → StandsIn f at values labels rest → IsSettled f at values labels rest
      → (labels ≡ []) × (rest ≡ Empty) × (length values ≡ f.outermost.kept) × (results ≡ f.outermost.kept)
  at-end values labels (Then op rest) s settled = absurd (let wrong : Then op rest ≡ Empty = begins f at (Leave results) more there values labels (Then op rest) s settled in cc)
  at-end values labels (Nested kind type inner rest) s settled = absurd
      (let wrong : Nested kind type inner rest ≡ Empty = begins f at (Leave results) more there values labels (Nested kind type inner rest) s settled in cc)
  at-end values labels (IfElse type inner other rest) s settled = absurd
      (let wrong : IfElse type inner other rest ≡ Empty = begins f at (Leave results) more there values labels (IfElse type inner other rest) s settled in cc)
  at-end values [] Empty s settled =
      let reached = s.here.lasts in
      let (others, placed) = at-leave f at values s in
      let same : Leave results ≡ Leave f.outermost.kept = firsts _ _ more others (sym there ∙ placed) in
      let as_many : results ≡ f.outermost.kept = cc in
      (refl, refl, omega (arith, reached, s.around.1), as_many)
  at-end values (label ∷ labels) Empty s settled =
      absurd (let wrong : Leave results ≡ Jump (entry_of settled.onward settled.kept settled.height) = firsts _ _ more settled.more (sym there ∙ settled.placed) in cc)
