-- What an operation leads to that may continue in another frame.
use Rattle.std.specs.Prelude.{◌≡◌, ℕ, ◌<◌, List}
use Rattle.interpreter.specs.Looping.{loop_at}
use Rattle.interpreter.specs.Whole.{Loop, Ran, RunsWhole, StopsAt, SwitchesTo, Whole, left_to_do}
use Rattle.interpreter.specs.declared.machine.Crossing.{Crossing}
use Rattle.interpreter.specs.declared.machine.Crossing.TheVariants.{Goes, Stops, Switches}
use Rattle.interpreter.specs.declared.machine.Frame.{Frame}
use Rattle.interpreter.specs.declared.machine.Position.{Position}
use Rattle.interpreter.specs.declared.machine.Stop.{Stop}

-- The loop continues in a frame of code of the same instance.
abbrev pub ContinuesInInstance : (bound : ℕ) → Loop → (cells' : List ℕ) → (callers' : List Frame)
    → (to : Position) → Type 0
ContinuesInInstance bound l cells' callers' to =
    Ran bound l (loop_at l.world cells' callers' to) × (to.instance ≡ l.number)
    × (left_to_do (loop_at l.world cells' callers' to) < left_to_do l)

-- Where the loop continues, or why it stops, with the cells, the callers and the position afterwards.
abbrev pub ContinuesOrStops : (bound : ℕ) → Loop → Crossing → (why : Stop) → (cells' : List ℕ)
    → (callers' : List Frame) → (to : Position) → Type 0
ContinuesOrStops bound l Goes why cells' callers' to =
    ContinuesInInstance bound l cells' callers' to
ContinuesOrStops bound l Switches why cells' callers' to =
    ((w : Whole) → RunsWhole bound l w → SwitchesTo bound l w (loop_at l.world cells' callers' to))
    × (left_to_do (loop_at l.world cells' callers' to) < left_to_do l)
ContinuesOrStops bound l Stops why cells' callers' to =
    StopsAt bound l why (loop_at l.world cells' callers' to)
