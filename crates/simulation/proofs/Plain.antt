-- Where an instruction without a body is, and its step: on values, and on their cells.
use Rattle.std.proofs.Common.{◌≡◌, ℕ, suc, ◌+◌, ◌-◌, ◌<◌, ◌≤◌, List, [], ◌∷◌, ◌++◌, length, map, take, refl, ap, subst, ◌∙◌, arith}
use Rattle.std.proofs.lemmas.List.{length-map}
use Rattle.std.specs.Prelude.{Some}
use Rattle.core_types.specs.declared.op.PlainOp.{PlainOp}
use Rattle.core_types.specs.declared.outcome.Trap.{Trap}
use Rattle.core_types.specs.declared.outcome.Val.{Val}
use Rattle.meaning.specs.structure.Bodies.{Body, Then}
use Rattle.meaning.specs.execution.Configurations.{Configuration, Frame, InLabel, Label, Running}
use Rattle.meaning.specs.execution.Instructions.{CallsHost, Goes, Grows, Next, Opens, Traps, next, step_in_label, step_instruction}
use Rattle.meaning.specs.execution.Runs.{price}
use Rattle.meaning.specs.execution.Store.{Store}
use Rattle.sidetable.specs.Counts.{counts_of}
use Rattle.sidetable.specs.declared.counts.Counts.{Counts}
use Rattle.sidetable.specs.Flat.{Plain, without_annotations}
use Rattle.cells.specs.Cells.{cell_of}
use Rattle.simulation.specs.Piles.{cells_of}
use Rattle.simulation.specs.Instructions.{IsTrapped}
use Rattle.simulation.specs.Operations.{IsDear}
use Rattle.simulation.specs.Runs.{AsksToGrow, Ghost, NextContinues, IsBefore, Lacks, FrameReaches, Runs, StepsIn, config_of, frame_of}
use Rattle.simulation.specs.Settling.{HasNoAnnotations, LeavesTo, in_frame, inside_labels}
use Rattle.simulation.specs.Standing.{under, values_under}
use Rattle.simulation.proofs.Settling.{begins, labels-go-on, labels-grow, written-so}
use Rattle.simulation.proofs.Steps.{advanced, within}
use Rattle.simulation.proofs.Typed.{Inner, Settled, all-length, inner, leads-then, on, leaves-steps, settled, typed-then}

-- ---- what a step costs

-- The step continues, calls or traps for that many units of fuel.
abbrev pub Costs : (units : ℕ) → Next → Type 0
Costs units (Goes cost store frame c) = cost ≡ units
Costs units (Grows cost store frame c) = cost ≡ units
Costs units (Opens cost store c) = cost ≡ units
Costs units (CallsHost cost number lent arguments c) = cost ≡ units
Costs units (Traps cost trap) = cost ≡ units
Costs units other = ⊥

-- The same for one unit.
abbrev pub CostsOne : Next → Type 0
CostsOne = Costs 1

module _ (units : ℕ) where
  price-of : (n : Next) → Costs units n → price n ≡ units
  price-of (Goes cost store frame c) costs = costs
  price-of (Grows cost store frame c) costs = costs
  price-of (Opens cost store c) costs = costs
  price-of (CallsHost cost number lent arguments c) costs = costs
  price-of (Traps cost trap) costs = costs
  price-of other costs = absurd costs

  label-costs : (store : Store) (frame : Frame) (label : Label) (n : Next) → Costs units n → Costs units (step_in_label store frame label n)
  label-costs store frame label (Goes cost store' frame' c) costs = costs
  label-costs store frame label (Grows cost store' frame' c) costs = costs
  label-costs store frame label (Opens cost store' c) costs = costs
  label-costs store frame label (CallsHost cost number lent arguments c) costs = costs
  label-costs store frame label (Traps cost trap) costs = costs
  label-costs store frame label other costs = absurd costs

  pub labels-cost : (store : Store) (frame : Frame) (labels : List Label) (x : Configuration) → Costs units (next store frame x) → Costs units (next store frame (inside_labels labels x))
  labels-cost store frame [] x costs = costs
  labels-cost store frame (label ∷ labels) x costs = labels-cost store frame labels (InLabel label x) (label-costs store frame label (next store frame x) costs)

-- A trap leaves labels.
labels-trap : (store : Store) (frame : Frame) (trap : Trap) (labels : List Label) (x : Configuration) → next store frame x ≡ Traps 1 trap → next store frame (inside_labels labels x) ≡ Traps 1 trap
labels-trap store frame trap [] x e = e
labels-trap store frame trap (label ∷ labels) x e = labels-trap store frame trap labels (InLabel label x) (ap (step_in_label store frame label) e)

-- ---- where an instruction is

-- The machine at an instruction, after labels were left.
pub record AtPlain (op : PlainOp) (g : Ghost) (cells : List ℕ) (at top : ℕ) : Type 0 where
  pub values : List Val
  pub labels : List Label
  pub rest : Body
  pub runs : Runs (on g g.locals values labels (Then op rest)) cells at top
  pub leaves : LeavesTo g.store (frame_of g) (config_of g) (in_frame values labels (Then op rest))

-- The body, which is this one.
pub at-body : (g : Ghost) (cells : List ℕ) (at top : ℕ) (s : Settled g cells at top) (body : Body) → s.rest ≡ body
    → (Runs (on g g.locals s.values s.labels body) cells at top) × LeavesTo g.store (frame_of g) (config_of g) (in_frame s.values s.labels body)
at-body g cells at top s body is = (
  subst (λ (b : Body). Runs (on g g.locals s.values s.labels b) cells at top) is s.runs,
  subst (λ (b : Body). LeavesTo g.store (frame_of g) (config_of g) (in_frame s.values s.labels b)) is s.leaves,
)

-- The same, with the entries of the labels around.
pub at-body-in : (g : Ghost) (cells : List ℕ) (at top : ℕ) (s : Settled g cells at top) (body : Body) → s.rest ≡ body
    → (r : Runs (on g g.locals s.values s.labels body) cells at top) × LeavesTo g.store (frame_of g) (config_of g) (in_frame s.values s.labels body) × (r.stands.entries ≡ s.runs.stands.entries)
at-body-in g cells at top s body is =
    subst (λ (b : Body). (r : Runs (on g g.locals s.values s.labels b) cells at top)
    × LeavesTo g.store (frame_of g) (config_of g) (in_frame s.values s.labels b) × (r.stands.entries ≡ s.runs.stands.entries)) is (s.runs, s.leaves, refl)

-- The instruction that was written where this one is.
pub at-written : (op : PlainOp) (g : Ghost) (cells : List ℕ) (at top : ℕ) → IsBefore (Plain op) g cells at top → (written : PlainOp)
    × (op ≡ without_annotations written) × AtPlain written g cells at top
at-written op g cells at top b =
    let s : Settled g cells at top = settled g cells at top b.runs in
    let (written, rest, is, op_is) = begins g.code at (Plain op) b.more b.there s.values s.labels s.rest s.runs.stands s.settled in
    let (runs, leaves) = at-body g cells at top s (Then written rest) is in
    (written, op_is, record { values = s.values; labels = s.labels; rest = rest; runs = runs; leaves = leaves })

pub at-plain : (op : PlainOp) → HasNoAnnotations op → (g : Ghost) (cells : List ℕ) (at top : ℕ) → IsBefore (Plain op) g cells at top → AtPlain op g cells at top
at-plain op bare g cells at top b =
    let (written, op_is, p) = at-written op g cells at top b in
    subst (λ (o : PlainOp). AtPlain o g cells at top) (written-so op written op_is bare) p

-- ---- the room of a frame

module _ (g : Ghost) (cells : List ℕ) (at top : ℕ) (r : Runs g cells at top) where
  pub high : g.code.locals + (length g.values + under g.labels) ≤ g.code.greatest
  high = within g.code r.stands.entries (g.code.locals + (length g.values + under g.labels)) at g.rest r.stands.end r.stands.last r.stands.here

  pub top-within : top ≤ length cells
  top-within = omega (arith, high, r.holds.top_is, r.holds.count, r.holds.room)

  pub base-length : length (map cell_of g.locals) ≡ length g.locals
  base-length = length-map g.locals cell_of

  pub pile-high : top ≡ length (map cell_of g.locals) + length (g.values ++ values_under g.labels)
  pile-high = omega (arith, r.holds.top_is, base-length, all-length g.values g.labels)

-- ---- a step

module _ (op : PlainOp) (g : Ghost) (cells : List ℕ) (at top : ℕ) (p : AtPlain op g cells at top) where
  -- The machine before the instruction, and what is typed there.
  abbrev pub here : Ghost
  here = on g g.locals p.values p.labels (Then op p.rest)

  pub found : Inner here
  found = inner here p.runs.typed

  module _ (cost : ℕ) (store' : Store) (locals values : List Val)
      (goes : NextContinues (step_instruction g.store (frame_of g) op p.values p.rest) cost store' (record { instance = Some g.instance; locals = locals })
      (Running values p.rest)) where
    goes_here : NextContinues (next g.store (frame_of g) (in_frame p.values p.labels (Then op p.rest))) cost store'
        (record { instance = Some g.instance; locals = locals }) (in_frame values p.labels p.rest)
    goes_here = labels-go-on g.store (frame_of g) p.labels cost store' (record { instance = Some g.instance; locals = locals }) (Running p.values (Then op p.rest)) (Running values p.rest) goes

    pub advance : store'.instances ≡ g.store.instances → (c : Counts) → counts_of g.code.signatures op ≡ Some c
        → g.code.locals + (length values + under p.labels) ≡ g.code.locals + (length p.values + under p.labels) - c.takes + c.gives → length locals
        ≡ length g.locals
        → (cells' : List ℕ) (at' top' fuel left : ℕ) → length cells' ≡ length cells → at' ≡ suc at → top'
        ≡ length locals + (length values + under p.labels) → take top' cells' ≡ map cell_of locals ++ cells_of (values ++ values_under p.labels)
        → cost ≤ fuel → left ≡ fuel - cost → FrameReaches g fuel store' cells' at' top' left
    advance instances c is many same cells' at' top' fuel left size at_is top_is held enough left_is =
        leads-then g store' locals values p.labels p.rest (in_frame p.values p.labels (Then op p.rest)) (in_frame values p.labels p.rest) cost fuel
        left cells' at' top' p.leaves goes_here refl enough left_is
        (record {
          stands = rw at_is (record {
            entries = p.runs.stands.entries;
            end = p.runs.stands.end;
            last = p.runs.stands.last;
            here = rw many (advanced g.code p.runs.stands.entries _ at op p.rest p.runs.stands.end p.runs.stands.last c is p.runs.stands.here);
            around = p.runs.stands.around;
          });
          holds = record { held = held; top_is = top_is; count = same ∙ p.runs.holds.count; room = omega (arith, p.runs.holds.room, size) };
          typed = typed-then here p.runs.typed cost store' locals values p.labels p.rest instances goes_here;
        })

  -- The height after it is within the room.
  pub high-then : (c : Counts) → counts_of g.code.signatures op ≡ Some c → g.code.locals + (length p.values + under p.labels) - c.takes + c.gives ≤ g.code.greatest
  high-then c is = within g.code p.runs.stands.entries _ (suc at) p.rest p.runs.stands.end p.runs.stands.last
      (advanced g.code p.runs.stands.entries _ at op p.rest p.runs.stands.end p.runs.stands.last c is p.runs.stands.here)

  -- The machine arrives there at no cost.
  abbrev leads-here : (fuel : ℕ) → FrameReaches g fuel g.store cells at top fuel
  leads-here fuel = record {
    new = here;
    same = record { code = refl; instance = refl; types = refl; results = refl };
    store = refl;
    steps = leaves-steps g.store (frame_of g) (config_of g) (config_of here) fuel p.leaves;
    runs = p.runs;
  }

  -- Without fuel for the step.
  pub lacks-here : (units : ℕ) → Costs units (step_instruction g.store (frame_of g) op p.values p.rest) → (fuel : ℕ) → fuel < units → Lacks g fuel cells at top fuel
  lacks-here units costs fuel few = record {
    leads = leads-here fuel;
    dear = let price_is = price-of units _ (labels-cost units g.store (frame_of g) p.labels (Running p.values (Then op p.rest)) costs) in omega (arith, price_is, few);
  }

  pub dear-here : CostsOne (step_instruction g.store (frame_of g) op p.values p.rest) → IsDear g cells at top
  dear-here = lacks-here 1

  -- If a table or a memory grows.
  pub asks-here : (cost : ℕ) (store' : Store) (frame' : Frame) (y : Configuration) → step_instruction g.store (frame_of g) op p.values p.rest
      ≡ Grows cost store' frame' y → (fuel : ℕ) → AsksToGrow g fuel cells at top cost
  asks-here cost store' frame' y grows fuel = record {
    leads = leads-here fuel;
    grown = store';
    frame = frame';
    behind = inside_labels p.labels y;
    grows = labels-grow g.store (frame_of g) p.labels cost store' frame' (Running p.values (Then op p.rest)) y grows;
  }

  -- If it traps.
  pub fails-here : (trap : Trap) → step_instruction g.store (frame_of g) op p.values p.rest ≡ Traps 1 trap → IsTrapped g cells at top trap
  fails-here trap traps fuel left enough left_is =
      let same : fuel ≡ left + 1 = omega arith in record {
        leads = record {
          new = here;
          same = record { code = refl; instance = refl; types = refl; results = refl };
          store = refl;
          steps = subst (λ (n : ℕ). StepsIn g.store (frame_of g) (config_of g) fuel g.store (frame_of g) (config_of here) n) same
              (leaves-steps g.store (frame_of g) (config_of g) (config_of here) fuel p.leaves);
          runs = p.runs;
        };
        traps = labels-trap g.store (frame_of g) trap p.labels (Running p.values (Then op p.rest)) traps;
      }
