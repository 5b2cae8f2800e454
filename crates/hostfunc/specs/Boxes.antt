-- Host functions in boxes: `I` names the kinds of objects, and `F` has the type of each kind.
use Rattle.std.specs.Prelude.{◌≡◌, ℕ, List, Option}
use Rattle.std.specs.Global.{Global}
use Rattle.std.specs.List.{All}
use Rattle.std.specs.declared.dyn_box.DynBox.{DynBox}
use Rattle.core_types.specs.declared.outcome.Val.{Val}
use Rattle.core_types.specs.declared.types.FuncType.{FuncType}
use Rattle.meaning.specs.execution.Hosts.{HasType, IsHostCall, IsHostStep}
use Rattle.meaning.specs.execution.Runs.{Answer, HostTrap}
use Rattle.meaning.specs.execution.Store.{Store}
use Rattle.soundness.specs.Hosts.{AreReady}
use Rattle.hostfunc.specs.declared.host_function.HostFn.{Ghosts}
use Rattle.hostfunc.specs.declared.host_object.HostObject.{HostObject}

module _ {I : Type 0} {F : I → Type 0} where
  -- The type that a host function was defined with.
  abbrev pub type_of_host : HostObject I F → FuncType
  type_of_host h = h.ty

  -- A host function has this number and this type.
  abbrev pub IsHost : List (HostObject I F) → (number : ℕ) → FuncType → Type 0
  IsHost hosts number t = HasType type_of_host hosts number t

  -- Each host function of the store exists and has its type, and none returns references to functions.
  abbrev pub HaveHosts : Store → List (HostObject I F) → Type 0
  HaveHosts store hosts = AreReady type_of_host store hosts

module _ {I : Type 0} {F : I → Type 0} (members : (i : I) → Ghosts (F i)) where
  -- The type that the object in a box declares.
  abbrev pub declared_type : DynBox I Global F → FuncType
  declared_type o = (members o.vtable).declared o.value

  -- Its object declares the type that it was defined with.
  abbrev pub KeepsItsType : HostObject I F → Type 0
  KeepsItsType h = declared_type h.object ≡ h.ty

  -- If each host function declares the type that it was defined with, then this holds, and each still does.
  abbrev pub IfHostsKeep : (old new : List (HostObject I F)) → Type 0 → Type 0
  IfHostsKeep old new P = All KeepsItsType old → P × All KeepsItsType new

  -- The relation of the object alone. The object after the call is of the same kind.
  abbrev pub OwnAnswers : HostObject I F → List Val → List ℕ → Answer → List ℕ → HostObject I F
      → Type 0
  OwnAnswers h arguments bytes answer bytes' h' =
      (w : F h.object.vtable) × (h'.object ≡ record h.object { value = w }) ×
      (members h.object.vtable).Answers h.object.value arguments bytes answer bytes' w

  -- The relation of a host function: that of its object, whose declared type stays. A function that declares another type than it was
  -- defined with would trap and change nothing. No function that keeps its contract does this.
  pub record HostAnswers (h : HostObject I F) (arguments : List Val) (bytes : List ℕ)
      (answer : Answer) (bytes' : List ℕ) (h' : HostObject I F) : Type 0 where
    pub same_declared : declared_type h'.object ≡ declared_type h.object
    pub answers : KeepsItsType h → OwnAnswers h arguments bytes answer bytes' h'
    pub traps : (KeepsItsType h → ⊥) → (answer ≡ HostTrap 0) × (bytes' ≡ bytes) × (h' ≡ h)

  -- The host function of a number gives this answer.
  abbrev pub HostCall : List (HostObject I F) → (number : ℕ) → List Val → List ℕ → Answer → List ℕ
      → List (HostObject I F) → Type 0
  HostCall hosts number arguments bytes answer bytes' hosts' =
      IsHostCall type_of_host HostAnswers hosts number arguments bytes answer bytes' hosts'

  -- A step of a host function.
  abbrev pub HostStep : List (HostObject I F) → (number : ℕ) → (lent : Option ℕ) → List Val → Store
      → Answer → Store → List (HostObject I F) → Type 0
  HostStep hosts number lent arguments store answer store' hosts' =
      IsHostStep type_of_host HostAnswers hosts number lent arguments store answer store' hosts'

  -- A step of a host function by the relation of its object alone.
  abbrev pub OwnHostStep : List (HostObject I F) → (number : ℕ) → (lent : Option ℕ) → List Val
      → Store → Answer → Store → List (HostObject I F) → Type 0
  OwnHostStep hosts number lent arguments store answer store' hosts' =
      IsHostStep type_of_host OwnAnswers hosts number lent arguments store answer store' hosts'
