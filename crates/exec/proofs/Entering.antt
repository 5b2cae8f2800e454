-- The outermost frame of a call from outside.
use Rattle.std.proofs.Common.{◌≡◌, ℕ, ◌+◌, ◌-◌, ◌<◌, ◌≤◌, List, [], ◌++◌, length, map, drop, replicate, refl, ap, sym, subst, arith}
use Rattle.std.specs.Global.{Vec}
use Rattle.core_types.specs.declared.outcome.Val.{Val}
use Rattle.meaning.specs.execution.Store.{Store}
use Rattle.soundness.specs.Configurations.{ConfigurationHasType}
use Rattle.soundness.specs.Places.{outermost}
use Rattle.cells.specs.Cells.{cell_of}
use Rattle.sidetable.specs.FlatModules.{operations_of}
use Rattle.simulation.specs.Runs.{Ghost, Runs}
use Rattle.store.specs.declared.instances.ModuleFunction.{ModuleFunction}
use Rattle.interpreter.specs.Layout.{put_back}
use Rattle.interpreter.specs.Looping.{loop_at, machine_at}
use Rattle.interpreter.specs.Running.{RunsAt}
use Rattle.exec.specs.Starting.{Begins, FunctionAddress, Takes}
use Rattle.interpreter.specs.Whole.{RunsWhole, whole}
use Rattle.interpreter.specs.Worlds.{Sees, World}
use Rattle.interpreter.specs.declared.machine.Frame.{Frame}
use Rattle.interpreter.specs.declared.machine.Position.{Position}
use Rattle.exec.proofs.Beginning.{at-address, begun, entered, entered-runs, first-size, k, n, starts-typed, steps, store}
use Rattle.interpreter.proofs.Lifting.{steps-typed}
use Rattle.interpreter.proofs.Worlds.{flat-seen}
use Rattle.exec.proofs.Seeing.{seen-from}

-- The first place of a function.
abbrev first_position : ModuleFunction → (fuel : ℕ) → Position
first_position f fuel = record {
  instance = f.instance;
  base = 0;
  place = f.flat.now.place;
  top = f.flat.now.locals;
  operand = 0;
  fuel = fuel;
}

module _ (a : FunctionAddress) (f : ModuleFunction) (arguments : List Val) (takes : Takes a f arguments) where
  abbrev g : Ghost
  g = entered a f arguments takes

  abbrev count : ℕ
  count = n a f arguments takes + k a f arguments takes

  locals-are : count ≡ f.flat.now.locals
  locals-are = sym (at-address a f arguments takes).flat.locals

  abbrev size : ℕ
  size = f.flat.now.greatest + 1

  enough : g.code.greatest < size
  enough = let greatest = (at-address a f arguments takes).flat.greatest in omega (arith, greatest)

  abbrev cells : List ℕ
  cells = map cell_of arguments ++ drop (length arguments) (replicate size 0)

  runs : Runs g (put_back count 0 cells f.flat.now.locals 0) f.flat.now.place (f.flat.now.locals - 0)
  runs =
      let sum : 0 + count ≡ f.flat.now.locals = omega (arith, locals-are) in
      let height : count ≡ f.flat.now.locals - 0 = omega (arith, locals-are) in
      subst (λ (q : ℕ). Runs g (put_back count 0 cells q 0) f.flat.now.place (f.flat.now.locals - 0)) sum
      (subst (λ (q : ℕ). Runs g (put_back count 0 cells (0 + count) 0) f.flat.now.place q) height (entered-runs a f arguments takes size enough))

  runs-at : (fuel : ℕ) (w : World) → Sees a.code (store a f arguments takes) f.instance w → RunsAt w (machine_at cells (first_position f fuel)) g
  runs-at fuel w sees =
      let held = first-size a f arguments takes size enough in record {
        runs = runs;
        low = omega (arith, locals-are);
        scrap = omega (arith, held, enough);
        operations = ap operations_of (sym (flat-seen a.code f.instance takes.flat.0 takes.flat.1 w sees.code sees.seen_from sees.instance));
        store = sym sees.store;
        number = sym sees.seen_from;
        instance = sees.instance;
      }

  runs-whole : (bound : ℕ) → 1 ≤ bound → (fuel : ℕ) (w : World) → Sees a.code (store a f arguments takes) f.instance w
      → RunsWhole bound (loop_at w cells [] (first_position f fuel)) (begun a f arguments takes)
  runs-whole bound some fuel w sees =
      let (valid, typed) = steps-typed bound f.ty.now.results (takes.valid, starts-typed a f arguments takes) (steps a f arguments takes bound fuel some) in record {
        runs = runs-at fuel w sees;
        number = sym sees.seen_from;
        callers = tt;
        arity = refl;
        deep = omega (arith, some);
        typed = subst (λ (s : Store). ConfigurationHasType s outermost (whole (begun a f arguments takes)) f.ty.now.results) (sym sees.store) typed;
      }

  -- The function runs at the first place of its code.
  pub begins : (bound : ℕ) → 1 ≤ bound → (fuel : ℕ) (v : Vec ℕ) → v.items ≡ cells → (callers : List Frame) → callers ≡ []
      → Begins bound a f arguments fuel (record { cells = v; callers = callers; position = first_position f fuel })
  begins bound some fuel v v_is callers callers_are =
      let (w, sees) = seen-from a.code a.state f.instance (takes.flat.0, takes.flat.1) in record {
        new = begun a f arguments takes;
        results = refl;
        left = refl;
        steps = steps a f arguments takes bound fuel some;
        rests = record {
          world = w;
          sees = sees;
          runs = subst (λ (z : List ℕ). RunsWhole bound (loop_at w z callers (first_position f fuel)) (begun a f arguments takes)) (sym v_is)
              (subst (λ (fs : List Frame). RunsWhole bound (loop_at w cells fs (first_position f fuel)) (begun a f arguments takes)) (sym callers_are) (runs-whole bound some fuel w sees));
        };
      }
