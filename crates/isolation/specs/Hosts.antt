-- Host functions of any kind: each object has a type, and a test states how it may answer.
use Rattle.std.specs.Prelude.{◌≡◌, ℕ, List, Option, Bool, true}
use Rattle.core_types.specs.declared.outcome.Val.{Val}
use Rattle.core_types.specs.declared.types.FuncType.{FuncType}
use Rattle.meaning.specs.execution.Hosts.{IsHostStep}
use Rattle.meaning.specs.execution.Runs.{Answer}
use Rattle.meaning.specs.execution.Store.{Store}

-- The type of each object, and whether an object that is called with these arguments and borrows these bytes may give this
-- answer, and leave these bytes and this object.
pub record Behaviour (H : Type 0) : Type 0 where
  pub type : H → FuncType
  pub may : H → List Val → List ℕ → Answer → List ℕ → H → Bool

module _ {H : Type 0} (hosts : Behaviour H) where
  -- The relation of a host function.
  abbrev pub AnswersBy : H → List Val → List ℕ → Answer → List ℕ → H → Type 0
  AnswersBy host arguments bytes answer bytes' host' =
      hosts.may host arguments bytes answer bytes' host' ≡ true

  -- Host functions by these relations.
  abbrev pub HostStepBy : List H → ℕ → Option ℕ → List Val → Store → Answer → Store → List H
      → Type 0
  HostStepBy = IsHostStep hosts.type AnswersBy
