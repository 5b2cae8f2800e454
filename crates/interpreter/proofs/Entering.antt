-- The frame of a function of a module, which begins with its arguments. It is opened above another, or replaces it.
use Rattle.std.proofs.Common.{◌≡◌, ℕ, ◌+◌, ◌-◌, ◌<◌, ◌≤◌, List, ◌++◌, length, take, drop, replicate, slice_get, ap, sym, subst, ◌∙◌, arith}
use Rattle.core_types.specs.declared.op.PlainOp.{PlainOp}
use Rattle.meaning.specs.execution.Modules.{code_of}
use Rattle.meaning.specs.execution.Store.{Store}
use Rattle.soundness.specs.Places.{context_at}
use Rattle.soundness.specs.Stores.{body_place}
use Rattle.sidetable.specs.Counts.{Signatures}
use Rattle.sidetable.specs.Flat.{FlatOp}
use Rattle.sidetable.specs.FlatModules.{operations_of}
use Rattle.simulation.specs.Entries.{callee}
use Rattle.simulation.specs.Runs.{Ghost, Runs}
use Rattle.store.specs.Contents.{signatures_of_instance}
use Rattle.store.specs.declared.instances.ModuleFunction.{ModuleFunction}
use Rattle.interpreter.specs.Calling.{declared_locals}
use Rattle.interpreter.specs.Layout.{put_back}
use Rattle.interpreter.specs.Running.{Machine, RunsAt}
use Rattle.interpreter.specs.Whole.{IsSeenFrom}
use Rattle.interpreter.specs.Worlds.{World}
use Rattle.interpreter.proofs.Finding.{IsAtAddress}
use Rattle.interpreter.proofs.Opening.{ArgumentsLie, arguments-fit, callee-runs}
use Rattle.interpreter.proofs.Worlds.{flat-seen}

-- The machine at the first place of a function, in a frame that begins there.
abbrev pub machine_entered : ModuleFunction → (cells : List ℕ) → (base top : ℕ) → Machine
machine_entered f cells base top =
    record { base = base; cells = cells; place = f.flat.now.place; top = top; operand = 0 }

module _ (w : World) (m : Machine) (h : Ghost) (r : RunsAt w m h) (op : PlainOp) (top operand address : ℕ) (f : ModuleFunction) (found : IsAtAddress w.code address f)
    (b : ArgumentsLie op m h top operand f.ty.now f.instance (code_of f.func.now)) where
  abbrev n : ℕ
  n = length f.ty.now.params

  abbrev k : ℕ
  k = length f.func.now.locals

  abbrev s : Signatures
  s = signatures_of_instance (slice_get w.code.instances f.instance)

  abbrev ops : List FlatOp
  ops = operations_of found.instance.loaded.value.flat

  abbrev new : Ghost
  new = callee h s ops f.flat.now.place f.ty.now f.instance (code_of f.func.now) b.values

  pub fits : m.base + f.flat.now.params ≤ top
  fits = let fit = arguments-fit w m h r op top operand f.ty.now f.instance (code_of f.func.now) b in omega (arith, fit, found.flat.params)

  pub declared : f.flat.now.params ≤ f.flat.now.locals
  declared = omega (arith, found.flat.params, found.flat.locals)

  pub high : f.flat.now.locals ≤ f.flat.now.greatest
  high = omega (arith, found.flat.greatest, found.flat.locals)

  pub declared-is : declared_locals f ≡ k
  declared-is = omega (arith, found.flat.params, found.flat.locals)

  types : (context_at h.store (body_place f.ty.now f.instance (code_of f.func.now))).types ≡ s.types
  types = subst (λ (z : Store). (context_at z (body_place f.ty.now f.instance (code_of f.func.now))).types ≡ s.types) (sym r.store) found.types.types

  functions : (context_at h.store (body_place f.ty.now f.instance (code_of f.func.now))).functions ≡ s.functions
  functions = subst (λ (z : Store). (context_at z (body_place f.ty.now f.instance (code_of f.func.now))).functions ≡ s.functions) (sym r.store) found.types.functions

  -- In a frame that begins with the arguments, followed by cleared cells.
  module _ (cells' : List ℕ) (base' : ℕ) (own : take (n + k) (drop base' cells') ≡ take n (drop (b.height - n) (put_back h.code.locals m.base m.cells top operand)) ++ replicate k 0)
      (room : base' + f.flat.now.greatest < length cells') where
    runs : Runs new (put_back (n + k) base' cells' (base' + (n + k)) 0) f.flat.now.place (n + k)
    runs = callee-runs w m h r op top operand f.ty.now f.instance (code_of f.func.now) b cells' base' own s ops f.flat.now.place types functions
        found.flat.begins (omega (arith, room, found.flat.greatest))

    pub entered-runs : (other : World) → IsSeenFrom f.instance w other → RunsAt other (machine_entered f cells' base' (base' + f.flat.now.locals)) new
    entered-runs other seen =
        let top_is : base' + (n + k) ≡ base' + f.flat.now.locals = omega (arith, found.flat.locals) in
        let height : n + k ≡ base' + f.flat.now.locals - base' = omega (arith, found.flat.locals) in record {
          runs = subst (λ (q : ℕ). Runs new (put_back (n + k) base' cells' (base' + f.flat.now.locals) 0) f.flat.now.place q) height
              (subst (λ (q : ℕ). Runs new (put_back (n + k) base' cells' q 0) f.flat.now.place (n + k)) top_is runs);
          low = omega (arith, found.flat.locals);
          scrap = omega (arith, room, high, found.flat.locals);
          operations = ap operations_of (sym (flat-seen w.code f.instance found.instance found.loaded other seen.code seen.seen_from seen.instance));
          store = r.store ∙ sym seen.store;
          number = sym seen.seen_from;
          instance = seen.instance;
        }
