-- Transfers in a frame, whatever runs.
use Rattle.std.proofs.Common.{◌≡◌, ℕ, ◌+◌, ◌-◌, ◌^◌, ◌<◌, ◌≤◌, List, set, get_or, refl, sym, subst, arith}
use Rattle.core_types.specs.declared.outcome.Trap.TheVariants.{Unreachable}
use Rattle.sidetable.specs.Packing.{branch_entries}
use Rattle.sidetable.specs.SideTables.{branch_range_of, entry_of_number}
use Rattle.sidetable.specs.declared.operations.Entry.{Entry}
use Rattle.sidetable.specs.declared.operations.PackedOp.TheVariants as op
use Rattle.sidetable.specs.declared.operations.TransferInstruction.{TransferInstruction}
use Rattle.sidetable.specs.declared.operations.TransferInstruction.TheVariants as transfer
use Rattle.simulation.specs.Runs.{Ghost}
use Rattle.interpreter.specs.Calling.{Leaves, position_landed}
use Rattle.interpreter.specs.Crossing.{ContinuesInInstance}
use Rattle.interpreter.specs.Layout.{AreMoved}
use Rattle.interpreter.specs.Looping.{loop_at, machine_at}
use Rattle.interpreter.specs.Running.{MachineReaches, IsDear, Machine, RunsAt}
use Rattle.interpreter.specs.Operations.{IsReadyFor, Executes}
use Rattle.interpreter.specs.Whole.{Loop, RunsSomeWhole, StopsAt}
use Rattle.interpreter.specs.Worlds.{World}
use Rattle.interpreter.specs.declared.machine.Frame.{Frame}
use Rattle.interpreter.specs.declared.machine.Position.{Position}
use Rattle.interpreter.specs.declared.machine.Stop.{Stop}
use Rattle.interpreter.specs.declared.machine.Stop.TheVariants as stop
use Rattle.interpreter.proofs.Lifting.{ran-turned, stops-failing, stops-lacking}
use Rattle.interpreter.proofs.Returning.{return-lacks, return-leaves}

module _ (bound : ℕ) (w : World) (cells : List ℕ) (callers : List Frame) (at : Position) (kind : TransferInstruction) (n : ℕ) (executes : Executes w (machine_at cells at) (op.Transfer kind n)) where
  abbrev m : Machine
  m = machine_at cells at

  abbrev l : Loop
  l = loop_at w cells callers at

  abbrev e : Entry
  e = entry_of_number w.flat.tables n

  executes-at : (k : TransferInstruction) → kind ≡ k → Executes w m (op.Transfer k n)
  executes-at k is = subst (λ (q : TransferInstruction). Executes w m (op.Transfer q n)) is executes

  -- ---- stops

  lacks : (s : Stop) → (s ≡ stop.NoFuel) × (at.fuel ≡ 0) → ((g : Ghost) → RunsAt w m g → IsDear g m) → StopsAt bound l s l
  lacks s (is, none) dear = subst (λ (q : Stop). StopsAt bound l q l) (sym is) (stops-lacking bound l (λ g r. dear g r at.fuel (omega (arith, none))))

  pub unreachable-lacks : kind ≡ transfer.Unreachable → (s : Stop) → (s ≡ stop.NoFuel) × (at.fuel ≡ 0) → StopsAt bound l s l
  unreachable-lacks is s none = lacks s none (λ g r. (executes-at transfer.Unreachable is g r).1)

  pub br-lacks : kind ≡ transfer.Br → (s : Stop) → (s ≡ stop.NoFuel) × (at.fuel ≡ 0) → StopsAt bound l s l
  br-lacks is s none = lacks s none (λ g r. (executes-at transfer.Br is g r).1)

  pub br-table-lacks : kind ≡ transfer.BrTable → (s : Stop) → (s ≡ stop.NoFuel) × (at.fuel ≡ 0) → StopsAt bound l s l
  br-table-lacks is s none = lacks s none (λ g r. (executes-at transfer.BrTable is g r).1)

  pub back-lacks : kind ≡ transfer.Return → (s : Stop) → (s ≡ stop.NoFuel) × (at.fuel ≡ 0) → StopsAt bound l s l
  back-lacks is s (is_none, none) = subst (λ (q : Stop). StopsAt bound l q l) (sym is_none) (return-lacks bound w cells callers at n (executes-at transfer.Return is) none)

  -- ---- for one unit of fuel

  module _ (left : ℕ) (both : (1 ≤ at.fuel) × (left ≡ at.fuel - 1)) where
    pub unreachable-traps : kind ≡ transfer.Unreachable → StopsAt bound l (stop.Traps Unreachable) (loop_at w cells callers (record at { fuel = left }))
    unreachable-traps is = stops-failing bound l left Unreachable (λ g r. (executes-at transfer.Unreachable is g r).0 at.fuel left both.0 both.1)

    pub back-leaves : kind ≡ transfer.Return → RunsSomeWhole bound l → (x : Entry) → x ≡ e → Leaves bound w cells callers (record at { fuel = left }) at.fuel x.kept
    back-leaves is some x x_is = subst (λ (y : Entry). Leaves bound w cells callers (record at { fuel = left }) at.fuel y.kept) (sym x_is)
        (return-leaves bound w cells callers at n (executes-at transfer.Return is) some left both.0 both.1)

    -- To another place of the frame.
    goes : (cells' : List ℕ) (place top operand : ℕ) → ((g : Ghost) → RunsAt w m g → MachineReaches g m at.fuel w (record m { cells = cells'; place = place; top = top; operand = operand }) left)
        → ContinuesInInstance bound l cells' callers (record at { place = place; top = top; operand = operand; fuel = left })
    goes cells' place top operand step = (ran-turned bound l w.state w.bytes cells' place top operand left step (omega (arith, both)), refl, omega (arith, both))

    -- To where a branch landed.
    lands : (held : List ℕ) (top : ℕ) (x : Entry) → ((g : Ghost) → RunsAt w m g → (cells' : List ℕ) (operand' : ℕ) → AreMoved held top (at.base + x.height) x.kept cells' operand'
        → MachineReaches g m at.fuel w (record m { cells = cells'; place = x.target; top = at.base + x.height + x.kept; operand = operand' }) left)
        → (cells' : List ℕ) (to : Position) → AreMoved held top (at.base + x.height) x.kept cells' to.operand → to ≡ position_landed (record at { fuel = left }) x to.operand
        → ContinuesInInstance bound l cells' callers to
    lands held top x step cells' to moved to_is =
        subst (λ (p : Position). ContinuesInInstance bound l cells' callers p) (sym to_is)
        (goes cells' x.target (at.base + x.height + x.kept) to.operand (λ g r. step g r cells' to.operand moved))

    pub br-lands : kind ≡ transfer.Br → (x : Entry) → x ≡ e → (cells' : List ℕ) (to : Position) → AreMoved (set cells at.top at.operand) at.top (at.base + x.height) x.kept cells' to.operand
        → to ≡ position_landed (record at { fuel = left }) x to.operand → ContinuesInInstance bound l cells' callers to
    br-lands is x x_is cells' to moved to_is =
        lands (set cells at.top at.operand) at.top x
        (λ g r held' operand' there. subst
        (λ (y : Entry). AreMoved (set cells at.top at.operand) at.top (at.base + y.height) y.kept held' operand'
        → MachineReaches g m at.fuel w (record m { cells = held'; place = y.target; top = at.base + y.height + y.kept; operand = operand' }) left)
        (sym x_is) (λ landed. (executes-at transfer.Br is g r).0 held' operand' landed at.fuel left both.0 both.1) there)
        cells' to moved to_is

    abbrev chosen_entry : Entry
    chosen_entry = get_or (branch_entries w.flat.tables (branch_range_of w.flat.tables n)) at.operand (entry_of_number w.flat.tables (branch_range_of w.flat.tables n).default)

    pub br-table-lands : kind ≡ transfer.BrTable → (x : Entry) → x ≡ chosen_entry → (cells' : List ℕ) (to : Position) (operand : ℕ)
        → AreMoved cells (at.top - 1) (at.base + x.height) x.kept cells' to.operand
        → to ≡ position_landed (record at { top = at.top - 1; operand = operand; fuel = left }) x to.operand → ContinuesInInstance bound l cells' callers to
    br-table-lands is x x_is cells' to operand moved to_is =
        lands cells (at.top - 1) x
        (λ g r held' operand' there. subst
        (λ (y : Entry). AreMoved cells (at.top - 1) (at.base + y.height) y.kept held' operand'
        → MachineReaches g m at.fuel w (record m { cells = held'; place = y.target; top = at.base + y.height + y.kept; operand = operand' }) left)
        (sym x_is) (λ landed. (executes-at transfer.BrTable is g r).0 held' operand' landed at.fuel left both.0 both.1) there)
        cells' to moved to_is

  -- ---- at no cost

  pub jumps : kind ≡ transfer.Jump → at.place + 1 < 2 ^ 32 → IsReadyFor w m (op.Transfer kind n) → (x : Entry) → x ≡ e → ContinuesInInstance bound l cells callers (record at { place = x.target })
  jumps is next fits x x_is =
      let later : at.place < e.target = (subst (λ (k : TransferInstruction). IsReadyFor w m (op.Transfer k n)) is fits).1 in
      subst (λ (y : Entry). ContinuesInInstance bound l cells callers (record at { place = y.target })) (sym x_is)
      (ran-turned bound l w.state w.bytes cells e.target at.top at.operand at.fuel (λ g r. executes-at transfer.Jump is g r at.fuel) (omega (arith, later)), refl, omega (arith, later, next))
