-- How operands are taken from those of a control frame.
use Rattle.std.specs.Prelude.{◌≡◌, ℕ, Bool, true, List, [], ◌∷◌, ◌++◌, replicate, ◌⊎◌, length, ◌≤◌, ◌<◌, ◌-◌, take, drop, false}
use Rattle.core_types.specs.declared.types.OperandType.TheVariants.{Known, Unknown}
use Rattle.core_types.specs.declared.types.OperandType.{OperandType}
use Rattle.core_types.specs.declared.types.ValType.{ValType}
use Rattle.meaning.specs.validation.Instructions.{AllFit, Fits, IsNumeric, known}
use Rattle.validator.specs.declared.control_frames.ControlFrame.{ControlFrame}
use Rattle.validator.specs.declared.control_frames.Stacks.{Stacks}
use Rattle.core_types.specs.declared.types.RefType.{RefType}
use Rattle.meaning.specs.validation.Types.{reference_type}

-- The operands are taken from the top of the frame's own, and the rest is left. If the frame is unreachable, unknown ones are taken after
-- its own.
abbrev pub TakenFrom : Bool → List OperandType → List OperandType → List OperandType → Type 0
TakenFrom unreachable own taken rest =
    (own ≡ rest ++ taken)
    ⊎ ((unreachable ≡ true) × (rest ≡ []) × ((n : ℕ) × (taken ≡ replicate n Unknown ++ own)))

-- The same in the whole stack. The operands below the height are left alone.
pub record Takes (unreachable : Bool) (height : ℕ) (old taken new : List OperandType) : Type 0 where
  pub at : (under own : List OperandType) → old ≡ under ++ own → length under ≡ height
      → (rest : List OperandType) × (new ≡ under ++ rest) × TakenFrom unreachable own taken rest

-- The frame has no operand, and is reachable.
abbrev pub IsDry : Bool → ℕ → List OperandType → Type 0
IsDry unreachable height old = (unreachable ≡ false) × (length old ≤ height)

-- If an operand of the frame is known, that of the typing is equal to it. If the frame is unreachable, the typing may have others below.
pub record Covers (unreachable : Bool) (own theirs : List OperandType) : Type 0 where
  pub others : List OperandType
  pub top : List OperandType
  pub parts : theirs ≡ others ++ top
  pub fits : AllFit own top
  pub alone : unreachable ≡ false → others ≡ []

-- No typing has operands on top that fit the wanted ones.
pub record Refuses (unreachable : Bool) (height : ℕ) (old wanted : List OperandType) : Type 0 where
  pub at : (under own : List OperandType) → old ≡ under ++ own → length under ≡ height
      → (theirs below top : List OperandType) → Covers unreachable own theirs
      → theirs ≡ below ++ top → AllFit top wanted → ⊥

-- No typing has this number of operands.
pub record RefusesCount (unreachable : Bool) (height : ℕ) (old : List OperandType) (count : ℕ)
    : Type 0 where
  pub at : (wanted : List OperandType) → length wanted ≡ count
      → Refuses unreachable height old wanted

-- ---- pops of a control frame

-- These operands are taken from the frame's own.
abbrev pub TakesOff : ControlFrame → List OperandType → List OperandType → List OperandType → Type 0
TakesOff frame old taken new = Takes frame.unreachable frame.height old taken new

-- No typing has this number of operands.
abbrev pub RefusesCountOf : ControlFrame → List OperandType → ℕ → Type 0
RefusesCountOf frame old count = RefusesCount frame.unreachable frame.height old count

-- The result of a pop: operands are taken that fit the wanted ones, or no typing has such operands.
abbrev pub Pops : ControlFrame → List OperandType → List OperandType → List OperandType → Bool
    → Type 0
Pops frame old wanted new true =
    (given : List OperandType) × TakesOff frame old given new × AllFit given wanted
Pops frame old wanted new false = Refuses frame.unreachable frame.height old wanted

-- The same for one operand.
abbrev pub PopsOne : ControlFrame → List OperandType → OperandType → List OperandType → Bool
    → Type 0
PopsOne frame old wanted new true =
    (t : OperandType) × TakesOff frame old (t ∷ []) new × Fits t wanted
PopsOne frame old wanted new false = Refuses frame.unreachable frame.height old (wanted ∷ [])

-- Operands of the wanted types are taken, and operands of the result types are pushed.
abbrev pub Replaces : ControlFrame → List OperandType → (wanted results : List ValType)
    → List OperandType → Type 0
Replaces frame old wanted results new = (rest : List OperandType)
    × TakesOff frame old (known wanted) rest × (new ≡ rest ++ known results)

-- The result of a pop from the stacks, whose frames stay.
abbrev pub PopsFrom : Stacks → List OperandType → Stacks → Bool → Type 0
PopsFrom old wanted new answer =
    Pops old.innermost old.operands wanted new.operands answer

pub record SameFrames (old new : Stacks) : Type 0 where
  pub innermost : new.innermost ≡ old.innermost
  pub outer : new.outer ≡ old.outer

-- The operand fits this reference type.
abbrev pub FitsReference : OperandType → RefType → Type 0
FitsReference t wanted = Fits t (Known (reference_type wanted))

-- Two operands fit one numeric type, or the unknown type.
abbrev pub AreBothNumeric : OperandType → OperandType → OperandType → Type 0
AreBothNumeric first second t = IsNumeric t × Fits first t × Fits second t

-- Operands of these types, which were on top and above a height, are removed.
abbrev pub DropsTop : (height : ℕ) → List OperandType → List ValType → List OperandType → Type 0
DropsTop height old wanted new = (old ≡ new ++ known wanted) × (height ≤ length new)

-- Operands of these types, which were on top and above a height, are replaced.
abbrev pub ReplacesTop : (height : ℕ) → List OperandType → List ValType → ValType → List OperandType
    → Type 0
ReplacesTop height old wanted given new = (rest : List OperandType) × (old ≡ rest ++ known wanted)
    × (height ≤ length rest) × (new ≡ rest ++ Known given ∷ [])

-- Operands are taken that fit the types from a place on, up to another one.
abbrev pub PopsPart : ControlFrame → List OperandType → List ValType → (left next : ℕ)
    → List OperandType → Type 0
PopsPart frame old wanted left next new = (next < left) × ((given : List OperandType)
    × TakesOff frame old given new × AllFit given (known (take (left - next) (drop next wanted))))
