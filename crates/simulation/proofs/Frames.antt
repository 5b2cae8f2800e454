-- Frames: how their code is entered, and what steps in them mean for the whole.
use Rattle.std.proofs.Common.{◌≡◌, ℕ, suc, ◌+◌, ◌-◌, ◌≤◌, List, [], ◌∷◌, ◌++◌, length, drop, refl, subst, ◌∙◌, arith, append_assoc, length-append, inl, inr}
use Rattle.std.proofs.lemmas.List.{length-map}
use Rattle.std.specs.Prelude.{Option, Some}
use Rattle.core_types.specs.declared.op.PlainOp.{PlainOp}
use Rattle.core_types.specs.declared.outcome.Val.{Val}
use Rattle.core_types.specs.declared.types.FuncType.{FuncType}
use Rattle.meaning.specs.structure.Bodies.{Body, Empty, Then}
use Rattle.meaning.specs.execution.Configurations.{Configuration, Frame, Label, no_frame}
use Rattle.meaning.specs.execution.Instructions.{Goes, Grows, next}
use Rattle.meaning.specs.execution.Layers.{Layer, outermost, plug}
use Rattle.meaning.specs.execution.Runs.{Answer, IsStep, NoHosts, State, Steps, goes, grows, none, one_more}
use Rattle.meaning.specs.execution.Store.{Store}
use Rattle.meaning.specs.validation.Context.{Context}
use Rattle.meaning.specs.validation.Instructions.{HasType, known}
use Rattle.meaning.proofs.lemmas.Layers.{plugged-goes, plugged-grows}
use Rattle.meaning.proofs.lemmas.Runs.{Steps-join}
use Rattle.sidetable.specs.Counts.{Signatures, counts, counts_of}
use Rattle.sidetable.specs.Flat.{FlatOp, Leave, flat, function_entry, size}
use Rattle.sidetable.specs.declared.operations.Entry.{Entry}
use Rattle.simulation.specs.Laws.{BeginsAt, code_at, function_label}
use Rattle.simulation.specs.Runs.{NextContinues, StepsIn, none as none-in, then}
use Rattle.simulation.specs.Standing.{EndsAt, FrameCode, StandsAt, StandsIn, last_height, under}
use Rattle.simulation.proofs.Heights.{last-typed}
use Rattle.simulation.proofs.Places.{past-flat}
use Rattle.simulation.proofs.Steps.{advanced, entered}

-- The code of a function is entered within its label, after which its frame is left.
pub functions-entered : (context : Context) (s : Signatures) → context.types ≡ s.types → context.functions ≡ s.functions → (t : FuncType) (body : Body)
    → HasType context body [] (known t.results) → (ops : List FlatOp) (locals at : ℕ) → BeginsAt s ops locals (length t.results) at body
    → StandsIn (code_at s ops locals (length t.results) at body) at [] (function_label (length t.results) ∷ []) body
functions-entered context s types functions t body typed ops locals at (more, placed) =
    entered f e (function_label n) [] [] at (at + size body) (at + size body) (locals + n) (at + size body) (locals + n) [] body refl (omega arith) (inl refl)
    end end ((more, leaves), refl) (subst (λ (h : ℕ). StandsAt f (e ∷ []) h at body (at + size body) (locals + n)) none_above here)
  where
    n : ℕ
    n = length t.results

    e : Entry
    e = function_entry locals n at body

    f : FrameCode
    f = code_at s ops locals n at body

    behind : drop at ops ≡ flat s e (e ∷ []) (Some locals) at body ++ (Leave n ∷ more)
    behind = placed ∙ append_assoc (flat s e (e ∷ []) (Some locals) at body) (Leave n ∷ []) more

    leaves : drop (at + size body) ops ≡ Leave n ∷ more
    leaves = past-flat s e body (e ∷ []) (Some locals) at ops (Leave n ∷ more) behind

    none_above : locals ≡ locals + (0 + (0 + 0))
    none_above = omega arith

    results : locals + length (known t.results) ≡ locals + n
    results = simp length-map

    lasts : EndsAt (last_height s (Some locals) body) (locals + n)
    lasts = rw results at (last-typed context s types functions locals body [] (known t.results) typed locals (omega arith))

    end : StandsAt f [] (locals + n) (at + size body) Empty (at + size body) (locals + n)
    end = record { more = Leave n ∷ more; placed = leaves; ends = omega arith; lasts = refl; room = omega arith }

    here : StandsAt f (e ∷ []) locals at body (at + size body) (locals + n)
    here = record { more = Leave n ∷ more; placed = behind; ends = refl; lasts = lasts; room = omega arith }

-- With any host functions.
module _ {H : Type 0} (HostStep : List H → ℕ → Option ℕ → List Val → Store → Answer → Store → List H → Type 0) (hosts : List H) (bound : ℕ)
    (layers : List Layer) (outside : (f : Frame) → outermost layers f ≡ no_frame) where
  abbrev state : Store → (fuel : ℕ) → State H
  state store fuel = record { store = store; hosts = hosts; fuel = fuel }

  pub steps-lifted-over : (store store' : Store) (frame frame' : Frame) (c d : Configuration) (fuel left : ℕ) → StepsIn store frame c fuel store' frame' d left
      → Steps HostStep bound no_frame (record { store = store; hosts = hosts; fuel = fuel }) (plug layers frame c) (record { store = store'; hosts = hosts; fuel = left }) (plug layers frame' d)
  steps-lifted-over store store' frame frame' c d fuel left none-in = none
  steps-lifted-over store store' frame frame' c d fuel left (then {store' = between} {frame' = middle} {d = e} {cost = cost} is enough further) =
      Steps-join HostStep bound no_frame (one_more none (by is)) (steps-lifted-over between store' middle frame' e d (fuel - cost) left further)
    where
      by : NextContinues (next store frame c) cost between middle e → IsStep HostStep bound no_frame (state store fuel) (plug layers frame c) (state between (fuel - cost)) (plug layers middle e)
      by (inl is) =
          let whole : next store no_frame (plug layers frame c)
          ≡ Goes cost between no_frame (plug layers middle e) = rw (outside frame, outside middle) at
          (plugged-goes store layers frame middle between cost c e is) in
          goes whole enough refl refl
      by (inr is) =
          let whole : next store no_frame (plug layers frame c)
          ≡ Grows cost between no_frame (plug layers middle e) = rw (outside frame, outside middle) at
          (plugged-grows store layers frame middle between cost c e is) in
          grows whole enough refl refl

pub steps-lifted : (store store' : Store) (bound : ℕ) (layers : List Layer) (outside : (f : Frame) → outermost layers f ≡ no_frame)
    (frame frame' : Frame) (c d : Configuration) (fuel left : ℕ) → StepsIn store frame c fuel store' frame' d left
    → Steps NoHosts bound no_frame (record { store = store; hosts = []; fuel = fuel }) (plug layers frame c) (record { store = store'; hosts = []; fuel = left }) (plug layers frame' d)
steps-lifted store store' bound layers outside = steps-lifted-over NoHosts [] bound layers outside store store'

pub callers-on : (f : FrameCode) (at : ℕ) (values rest_values results : List Val) (labels : List Label) (op : PlainOp) (rest : Body) (takes gives : ℕ)
    → counts_of f.signatures op ≡ Some (counts takes gives) → takes ≤ length values → length rest_values ≡ length values - takes → length results ≡ gives
    → StandsIn f at values labels (Then op rest) → StandsIn f (suc at) (results ++ rest_values) labels rest
callers-on f at values rest_values results labels op rest takes gives is enough few many s =
    let same : f.locals + (length values + under labels) - takes + gives
    ≡ f.locals + (length (results ++ rest_values) + under labels) = omega (arith, length-append results rest_values, enough, few, many) in
    record {
      entries = s.entries;
      end = s.end;
      last = s.last;
      here = rw same at (advanced f s.entries (f.locals + (length values + under labels)) at op rest s.end s.last (counts takes gives) is s.here);
      around = s.around;
    }
