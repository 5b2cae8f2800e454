-- Where operations that can cross frames stop or continue.
use Rattle.std.proofs.Common.{◌≡◌, ℕ, suc, ◌+◌, ◌-◌, ◌^◌, ◌<◌, ◌≤◌, List, ◌∷◌, ◌++◌, length, take, set, replicate, ap, sym, subst, arith}
use Rattle.store.specs.declared.instances.ModuleFunction.{ModuleFunction}
use Rattle.interpreter.specs.Calling.{AreReplaced, CallsModule, IsCrossed, Leaves, ReplacesModule, declared_locals, frame_waiting, position_opened, position_replaced, position_resumed}
use Rattle.interpreter.specs.Crossing.{ContinuesOrStops}
use Rattle.interpreter.specs.Layout.{AreMoved}
use Rattle.interpreter.specs.Looping.{loop_at}
use Rattle.interpreter.specs.Whole.{RunsSomeWhole}
use Rattle.interpreter.specs.Worlds.{World}
use Rattle.interpreter.specs.declared.machine.Crossing.{Crossing}
use Rattle.interpreter.specs.declared.machine.Frame.{Frame}
use Rattle.interpreter.specs.declared.machine.Position.{Position}
use Rattle.interpreter.specs.declared.machine.Stop.{Stop}
use Rattle.interpreter.proofs.Switching.{crosses}

module _ (bound : ℕ) (w : World) (cells : List ℕ) (callers : List Frame) (at : Position) (next : at.place + 1 < 2 ^ 32) where
  -- A frame was opened.
  pub crosses-in : (from : Position) (f : ModuleFunction) → RunsSomeWhole bound (loop_at w cells callers at) → CallsModule bound w cells callers at from f → 1 ≤ at.fuel → suc (length callers) < bound
      → from.top + 1 - f.flat.now.params + f.flat.now.greatest < length cells → (cells' : List ℕ) → take (from.top + 1 + declared_locals f) cells'
      ≡ take (from.top + 1) (set cells from.top from.operand) ++ replicate (declared_locals f) 0
      → length cells' ≡ length cells → (callers' : List Frame) → callers' ≡ frame_waiting at ∷ callers → (result : Crossing) → IsCrossed w.number result f.instance
      → (why : Stop) → ContinuesOrStops bound (loop_at w cells callers at) result why cells' callers' (position_opened at from.top f)
  crosses-in from f some c paid shallow room cells' filled size callers' callers_are result is why =
      subst (λ (fs : List Frame). ContinuesOrStops bound (loop_at w cells callers at) result why cells' fs (position_opened at from.top f)) (sym callers_are)
      (crosses bound (loop_at w cells callers at) cells' (frame_waiting at ∷ callers) result (position_opened at from.top f) some is
      (c.opens paid shallow room cells' filled size) (omega (arith, paid, next)) why)

  -- A frame replaced the frame.
  pub crosses-over : (from : Position) (f : ModuleFunction) → RunsSomeWhole bound (loop_at w cells callers at) → ReplacesModule bound w cells callers at from f → 1 ≤ at.fuel
      → at.base + f.flat.now.greatest < length cells → (cells' : List ℕ) → AreReplaced cells at.base from f cells'
      → (result : Crossing) → IsCrossed w.number result f.instance → (why : Stop) → ContinuesOrStops bound (loop_at w cells callers at) result why cells' callers (position_replaced at f)
  crosses-over from f some c paid room cells' replaced result is why =
      crosses bound (loop_at w cells callers at) cells' callers result (position_replaced at f) some is (c.replaces paid room cells' replaced) (omega (arith, paid, next)) why

  -- A frame was left.
  module _ (fuel results : ℕ) (leaves : Leaves bound w cells callers at fuel results) where
    pub crosses-out : (frame : Frame) (others : List Frame) → callers ≡ frame ∷ others → (cells' : List ℕ) (operand' : ℕ)
        → AreMoved (set cells at.top at.operand) at.top (at.base - 1) results cells' operand'
        → (result : Crossing) → IsCrossed w.number result frame.instance → (why : Stop)
        → ContinuesOrStops bound (loop_at w cells callers (record at { fuel = fuel })) result why cells' others (position_resumed at frame results operand')
    crosses-out frame others are cells' operand' moved result is why =
        let count = ap length are in
        crosses bound (loop_at w cells callers (record at { fuel = fuel })) cells' others result (position_resumed at frame results operand')
        leaves.some is (leaves.back frame others are cells' operand' moved) (omega (arith, leaves.paid, next, count)) why
