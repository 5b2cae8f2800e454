-- Steps of the whole that lead to code of any instance.
use Rattle.std.proofs.Common.{◌≡◌, ℕ, suc, ◌+◌, ◌<◌, ◌≤◌, List, [], ◌∷◌, length, take, refl, ap, sym, subst, ◌∙◌, arith}
use Rattle.core_types.specs.declared.outcome.Val.{Val}
use Rattle.meaning.specs.structure.Bodies.{Body}
use Rattle.meaning.specs.execution.Configurations.{Frame as Activated, InLabel, Label, Configuration, depth, no_frame}
use Rattle.meaning.specs.execution.Layers.{Layer, count_frames, plug}
use Rattle.meaning.specs.execution.Runs.{NoHosts, Steps}
use Rattle.meaning.specs.execution.Store.{Store}
use Rattle.meaning.proofs.lemmas.Layers.{plugged-depth}
use Rattle.soundness.specs.Configurations.{ConfigurationHasType}
use Rattle.soundness.specs.Places.{outermost}
use Rattle.soundness.specs.Stores.{StoreIsValid}
use Rattle.simulation.specs.Calls.{around}
use Rattle.simulation.specs.Settling.{in_frame, inside_labels}
use Rattle.store.specs.Contents.{Contents}
use Rattle.interpreter.specs.Callers.{Caller, CallersStand, layers_around}
use Rattle.interpreter.specs.Calling.{ContinuesAnywhere, IsCrossed}
use Rattle.interpreter.specs.Crossing.{ContinuesOrStops}
use Rattle.interpreter.specs.Looping.{loop_at}
use Rattle.interpreter.specs.Running.{RunsAt}
use Rattle.interpreter.specs.Whole.{IsSeenFrom, Loop, LoopReaches, RunsSomeWhole, RunsWhole, Whole, left_to_do, whole}
use Rattle.interpreter.specs.Worlds.{World, store_in}
use Rattle.interpreter.specs.declared.machine.Crossing.{Crossing}
use Rattle.interpreter.specs.declared.machine.Crossing.TheVariants.{Goes, Stops, Switches}
use Rattle.interpreter.specs.declared.machine.Frame.{Frame}
use Rattle.interpreter.specs.declared.machine.Position.{Position}
use Rattle.interpreter.specs.declared.machine.Stop.{Stop}
use Rattle.interpreter.proofs.Lifting.{steps-typed}

-- ---- how many frames are open

labels-count : (labels : List Label) (layers : List Layer) → count_frames (around labels layers) ≡ count_frames layers
labels-count [] layers = refl
labels-count (label ∷ labels) layers = labels-count labels layers

layers-count : (cs : List Caller) (arity : ℕ) → count_frames (layers_around cs arity) ≡ suc (length cs)
layers-count [] arity = refl
layers-count (c ∷ cs) arity = ap suc (labels-count c.labels (layers_around cs c.code.outermost.kept) ∙ layers-count cs c.code.outermost.kept)

inside-depth : (labels : List Label) (x : Configuration) → depth (inside_labels labels x) ≡ depth x
inside-depth [] x = refl
inside-depth (label ∷ labels) x = inside-depth labels (InLabel label x)

pub whole-depth : (cs : List Caller) (arity : ℕ) (f : Activated) (values : List Val) (labels : List Label) (rest : Body)
    → depth (plug (layers_around cs arity) f (in_frame values labels rest)) ≡ suc (length cs)
whole-depth cs arity f values labels rest =
    let two = layers-count cs arity in
    let three = inside-depth labels _ in
    plugged-depth (layers_around cs arity) f (in_frame values labels rest)
    ∙ ap (λ (n : ℕ). n + depth (in_frame values labels rest)) two ∙ ap (λ (n : ℕ). suc (length cs) + n) three ∙ omega arith

-- The number of waiting frames is that of the loop.
pub callers-count : (code : Contents) (size : ℕ) (frames : List Frame) (cs : List Caller) (arity : ℕ) (below : List ℕ) → CallersStand code size frames cs arity below → length frames ≡ length cs
callers-count code size [] [] arity below stand = refl
callers-count code size [] (c ∷ cs) arity below stand = absurd stand
callers-count code size (frame ∷ frames) [] arity below stand = absurd stand
callers-count code size (frame ∷ frames) (c ∷ cs) arity below (stands, further) = ap suc (callers-count code size frames cs c.code.outermost.kept (take frame.base below) further)

-- ---- where the loop continues

-- Steps that keep the store lead to a frame, in the world of its instance.
pub switched : (bound : ℕ) (l l' : Loop) (u new : Whole) (other : World) → IsSeenFrom l'.number l.world other → RunsWhole bound l u → new.results ≡ u.results
    → Steps NoHosts bound no_frame (record { store = store_in l.world; hosts = []; fuel = l.fuel }) (whole u) (record { store = store_in l.world; hosts = []; fuel = l'.fuel }) (whole new)
    → RunsAt other l'.machine new.ghost → CallersStand l.world.code (length l'.machine.cells) l'.callers new.callers new.ghost.code.outermost.kept (take l'.machine.base l'.machine.cells)
    → new.ghost.code.outermost.kept ≡ length new.ghost.results → suc (length l'.callers) ≤ bound → LoopReaches bound l u (record l' { world = other })
switched bound l l' u new other seen r results steps runs callers arity deep =
    let (valid, typed) = steps-typed bound u.results (subst StoreIsValid r.runs.store r.runs.runs.typed.valid, r.typed) steps in
    record {
      new = new;
      results = results;
      steps = subst (λ (s : Store). Steps NoHosts bound no_frame (record { store = store_in l.world; hosts = []; fuel = l.fuel }) (whole u)
          (record { store = s; hosts = []; fuel = l'.fuel }) (whole new)) (sym seen.store) steps;
      runs = record {
        runs = runs;
        number = sym seen.seen_from;
        callers = subst (λ (c : Contents).
            CallersStand c (length l'.machine.cells) l'.callers new.callers new.ghost.code.outermost.kept (take l'.machine.base l'.machine.cells))
            (sym seen.code) callers;
        arity = arity;
        deep = deep;
        typed = subst (λ (s : Store). ConfigurationHasType s outermost (whole new) new.results) (sym seen.store)
            (subst (λ (ts : _). ConfigurationHasType (store_in l.world) outermost (whole new) ts) (sym results) typed);
      };
    }

-- The loop continues with code of the same instance, or code of another one is next.
pub crosses : (bound : ℕ) (l : Loop) (cells' : List ℕ) (callers' : List Frame) (result : Crossing) (to : Position) → RunsSomeWhole bound l → IsCrossed l.world.number result to.instance
    → ContinuesAnywhere bound l (loop_at l.world cells' callers' to) → left_to_do (loop_at l.world cells' callers' to) < left_to_do l
    → (why : Stop) → ContinuesOrStops bound l result why cells' callers' to
crosses bound l cells' callers' Goes to (u, r) number goes less why = (
  record { from = λ v s. (goes v s).1 l.world (record { store = refl; code = refl; seen_from = sym number; instance = s.runs.instance }); falls = omega (arith, less) },
  number ∙ sym r.number,
  less,
)
crosses bound l cells' callers' Switches to some is goes less why = (goes, less)
crosses bound l cells' callers' Stops to some is goes less why = absurd is
