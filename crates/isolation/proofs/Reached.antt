-- Regions that are apart, and what is reached from which places.
use Rattle.std.proofs.Common.{◌≡◌, ℕ, inl, inr, length, Some, ap, sym, ◌∙◌}
use Rattle.core_types.specs.declared.outcome.Extern.TheVariants as value
use Rattle.meaning.specs.embedding.Commands.{Command, Load, Link, Register, Call, GetGlobal, SetFuel}
use Rattle.meaning.specs.execution.Store.{FunctionInstance, InCode, InHost, Store}
use Rattle.isolation.specs.Apart.{IsOfHost}
use Rattle.isolation.specs.Reach.{Data, Element, Function, Global, Host, Instance, IsIn}
use Rattle.isolation.specs.Reach.{IsReached, Leads, Memory, Place, Table, onward, reach}
use Rattle.isolation.specs.Reach.{start}
use Rattle.isolation.specs.Regions.{AreApart, Has, IsThere, Region, with_new}
use Rattle.isolation.proofs.Commands.{not-from}
use Rattle.isolation.proofs.Larger.{both}

-- ---- regions

pub apart-other : (mine theirs : Region) → AreApart mine theirs → AreApart theirs mine
apart-other mine theirs apart = record {
  tables = λ address has too. apart.tables address too has;
  memories = λ address has too. apart.memories address too has;
  globals = λ address has too. apart.globals address too has;
  elements = λ address has too. apart.elements address too has;
  datas = λ address has too. apart.datas address too has;
}

-- Parts of two regions that are apart are apart.
pub apart-less : (mine theirs less less' : Region) → AreApart mine theirs → ((place : Place) → IsIn less place → IsIn mine place)
    → ((place : Place) → IsIn less' place → IsIn theirs place) → AreApart less less'
apart-less mine theirs less less' apart first second = record {
  tables = λ address has too. apart.tables address (first (Table address) has) (second (Table address) too);
  memories = λ address has too. apart.memories address (first (Memory address) has) (second (Memory address) too);
  globals = λ address has too. apart.globals address (first (Global address) has) (second (Global address) too);
  elements = λ address has too. apart.elements address (first (Element address) has) (second (Element address) too);
  datas = λ address has too. apart.datas address (first (Data address) has) (second (Data address) too);
}

pub apart-both : (mine first second : Region) → AreApart mine first → AreApart mine second → AreApart mine (both first second)
apart-both mine first second one other = record {
  tables = λ address has too. elim too [ inl a ↦ one.tables address has a | inr b ↦ other.tables address has b ];
  memories = λ address has too. elim too [ inl a ↦ one.memories address has a | inr b ↦ other.memories address has b ];
  globals = λ address has too. elim too [ inl a ↦ one.globals address has a | inr b ↦ other.globals address has b ];
  elements = λ address has too. elim too [ inl a ↦ one.elements address has a | inr b ↦ other.elements address has b ];
  datas = λ address has too. elim too [ inl a ↦ one.datas address has a | inr b ↦ other.datas address has b ];
}

-- What exists is apart from what is new.
apart-new : (mine theirs : Region) (store : Store) → IsThere mine store → AreApart mine theirs → AreApart mine (with_new theirs store)
apart-new mine theirs store there apart = record {
  tables = λ address has. not-from theirs.tables (length store.tables) address (apart.tables address has) (there.tables address has);
  memories = λ address has. not-from theirs.memories (length store.memories) address (apart.memories address has) (there.memories address has);
  globals = λ address has. not-from theirs.globals (length store.globals) address (apart.globals address has) (there.globals address has);
  elements = λ address has. not-from theirs.elements (length store.elements) address (apart.elements address has) (there.elements address has);
  datas = λ address has. not-from theirs.datas (length store.datas) address (apart.datas address has) (there.datas address has);
}

-- The region, with the new addresses if a command links.
abbrev pub grown : Region → Store → Command → Region
grown region store (Load bytes) = region
grown region store (Link number) = with_new region store
grown region store (Register number name) = region
grown region store (Call number name arguments) = region
grown region store (GetGlobal number name) = region
grown region store (SetFuel fuel) = region

pub apart-grown : (mine theirs : Region) (store : Store) → IsThere mine store → AreApart mine theirs → (command : Command) → AreApart mine (grown theirs store command)
apart-grown mine theirs store there apart (Load bytes) = apart
apart-grown mine theirs store there apart (Link number) = apart-new mine theirs store there apart
apart-grown mine theirs store there apart (Register number name) = apart
apart-grown mine theirs store there apart (Call number name arguments) = apart
apart-grown mine theirs store there apart (GetGlobal number name) = apart
apart-grown mine theirs store there apart (SetFuel fuel) = apart

pub instance-grown : (region : Region) (store : Store) (instance : ℕ) → Has region.instances instance → (command : Command) → IsIn (grown region store command) (Instance instance)
instance-grown region store instance has (Load bytes) = has
instance-grown region store instance has (Link number) = inl has
instance-grown region store instance has (Register number name) = has
instance-grown region store instance has (Call number name arguments) = has
instance-grown region store instance has (GetGlobal number name) = has
instance-grown region store instance has (SetFuel fuel) = has

-- ---- what is reached from which places

module _ (store : Store) where
  -- What is reached from fewer places is reached from more.
  from-more : (Starts More : Place → Type 0) → ((place : Place) → Starts place → IsReached store More place) → (place : Place) → IsReached store Starts place → IsReached store More place
  from-more Starts More each place (start starts) = each place starts
  from-more Starts More each place (onward {from = before} reached leads) = onward (from-more Starts More each before reached) leads

  pub reached-in : (Starts : Place → Type 0) (place : Place) → IsIn (reach store Starts) place → IsReached store Starts place
  reached-in Starts (Function a) has = has
  reached-in Starts (Instance a) has = has
  reached-in Starts (Table a) has = has
  reached-in Starts (Memory a) has = has
  reached-in Starts (Global a) has = has
  reached-in Starts (Element a) has = has
  reached-in Starts (Data a) has = has
  reached-in Starts (Host n) has = has

  in-reached : (Starts : Place → Type 0) (place : Place) → IsReached store Starts place → IsIn (reach store Starts) place
  in-reached Starts (Function a) has = has
  in-reached Starts (Instance a) has = has
  in-reached Starts (Table a) has = has
  in-reached Starts (Memory a) has = has
  in-reached Starts (Global a) has = has
  in-reached Starts (Element a) has = has
  in-reached Starts (Data a) has = has
  in-reached Starts (Host n) has = has

  pub part-of-reach : (Starts More : Place → Type 0) → ((place : Place) → Starts place → IsReached store More place) → (place : Place) → IsIn (reach store Starts) place → IsIn (reach store More) place
  part-of-reach Starts More each place has = in-reached More place (from-more Starts More each place (reached-in Starts place has))

  nothing-reached : (Starts : Place → Type 0) → ((place : Place) → Starts place → ⊥) → (place : Place) → IsReached store Starts place → ⊥
  nothing-reached Starts nowhere place (start starts) = nowhere place starts
  nothing-reached Starts nowhere place (onward {from = before} reached leads) = nothing-reached Starts nowhere before reached

  pub apart-from-nothing : (mine : Region) (Starts : Place → Type 0) → ((place : Place) → Starts place → ⊥) → AreApart mine (reach store Starts)
  apart-from-nothing mine Starts nowhere = record {
    tables = λ address has too. nothing-reached Starts nowhere (Table address) too;
    memories = λ address has too. nothing-reached Starts nowhere (Memory address) too;
    globals = λ address has too. nothing-reached Starts nowhere (Global address) too;
    elements = λ address has too. nothing-reached Starts nowhere (Element address) too;
    datas = λ address has too. nothing-reached Starts nowhere (Data address) too;
  }

  -- From host functions only host functions are reached.
  abbrev pub IsHostPlace : Place → Type 0
  IsHostPlace (Function a) = IsOfHost store (value.Func a)
  IsHostPlace (Instance a) = ⊥
  IsHostPlace (Table a) = ⊥
  IsHostPlace (Memory a) = ⊥
  IsHostPlace (Global a) = ⊥
  IsHostPlace (Element a) = ⊥
  IsHostPlace (Data a) = ⊥
  IsHostPlace (Host n) = Unit {0}

  host-leads : (from to : Place) → Leads store from to → IsHostPlace from → IsHostPlace to
  host-leads (Function a) (Instance b) (f, code, is, in_code) (g, n, is', in_host) =
      let same : g ≡ f = (let both : Some g ≡ Some f = sym is' ∙ is in cc) in
      let wrong : InHost n ≡ InCode b code = sym in_host ∙ ap (λ (h : FunctionInstance). h.implementation) same ∙ in_code in
      absurd cc
  host-leads (Function a) (Host b) leads of_host = tt
  host-leads (Instance a) to leads of_host = absurd of_host
  host-leads (Table a) to leads of_host = absurd of_host
  host-leads (Global a) to leads of_host = absurd of_host
  host-leads (Element a) to leads of_host = absurd of_host
  host-leads from to leads of_host = absurd leads

  hosts-reached : (Starts : Place → Type 0) → ((place : Place) → Starts place → IsHostPlace place) → (place : Place) → IsReached store Starts place → IsHostPlace place
  hosts-reached Starts each place (start starts) = each place starts
  hosts-reached Starts each place (onward {from = before} reached leads) = host-leads before place leads (hosts-reached Starts each before reached)

  pub apart-from-hosts : (mine : Region) (Starts : Place → Type 0) → ((place : Place) → Starts place → IsHostPlace place) → AreApart mine (reach store Starts)
  apart-from-hosts mine Starts each = record {
    tables = λ address has too. hosts-reached Starts each (Table address) too;
    memories = λ address has too. hosts-reached Starts each (Memory address) too;
    globals = λ address has too. hosts-reached Starts each (Global address) too;
    elements = λ address has too. hosts-reached Starts each (Element address) too;
    datas = λ address has too. hosts-reached Starts each (Data address) too;
  }
