-- Host functions that keep their types (Appendix, Soundness, Host Functions).
use Rattle.std.specs.Prelude.{◌≡◌, List, false}
use Rattle.std.specs.List.{All}
use Rattle.core_types.specs.declared.types.FuncType.{FuncType}
use Rattle.meaning.specs.embedding.Creation.{has_funcref}
use Rattle.meaning.specs.execution.Hosts.{HostsHaveTypes}
use Rattle.meaning.specs.execution.Store.{Store}

module _ {H : Type 0} (host_type : H → FuncType) where
  abbrev pub GivesNoFuncref : H → Type 0
  GivesNoFuncref h = has_funcref (host_type h).results ≡ false

  -- Each host function of the store exists and has its type, and none returns references to functions.
  pub record AreReady (store : Store) (hosts : List H) : Type 0 where
    pub typed : HostsHaveTypes host_type store hosts
    pub no_funcrefs : All GivesNoFuncref hosts
