-- What is within a region is within each larger one, and two closed regions make one.
use Rattle.std.proofs.Common.{ℕ, ◌⊎◌, inl, inr, List, [], ◌∷◌, Some, None}
use Rattle.core_types.specs.declared.outcome.Extern.{Extern}
use Rattle.core_types.specs.declared.outcome.Extern.TheVariants as value
use Rattle.core_types.specs.declared.outcome.Val.{Val}
use Rattle.core_types.specs.declared.outcome.Val.TheVariants.{I32, I64, FuncRef, ExternRef}
use Rattle.meaning.specs.execution.Store.{FunctionInstance, Implementation, InCode, InHost, ModuleInstance, Store}
use Rattle.isolation.specs.Regions.{EachLeads, ExternIsWithin, ExternsAreWithin, FunctionIsWithin, Has, ImplementationIsWithin, InstanceIsWithin, IsClosed, Region, ValueIsWithin, ValuesAreWithin}

pub record IsPartOf (region larger : Region) : Type 0 where
  pub functions : (address : ℕ) → Has region.functions address → Has larger.functions address
  pub instances : (address : ℕ) → Has region.instances address → Has larger.instances address
  pub tables : (address : ℕ) → Has region.tables address → Has larger.tables address
  pub memories : (address : ℕ) → Has region.memories address → Has larger.memories address
  pub globals : (address : ℕ) → Has region.globals address → Has larger.globals address
  pub elements : (address : ℕ) → Has region.elements address → Has larger.elements address
  pub datas : (address : ℕ) → Has region.datas address → Has larger.datas address
  pub hosts : (number : ℕ) → Has region.hosts number → Has larger.hosts number

module _ (region larger : Region) (part : IsPartOf region larger) where
  pub value-larger : (v : Val) → ValueIsWithin region v → ValueIsWithin larger v
  value-larger (I32 n) within = tt
  value-larger (I64 n) within = tt
  value-larger (FuncRef None) within = tt
  value-larger (FuncRef (Some address)) within = part.functions address within
  value-larger (ExternRef x) within = tt

  pub values-larger : (vs : List Val) → ValuesAreWithin region vs → ValuesAreWithin larger vs
  values-larger [] within = tt
  values-larger (v ∷ vs) within = (value-larger v within.0, values-larger vs within.1)

  extern-larger : (e : Extern) → ExternIsWithin region e → ExternIsWithin larger e
  extern-larger (value.Func address) within = part.functions address within
  extern-larger (value.Table address) within = part.tables address within
  extern-larger (value.Memory address) within = part.memories address within
  extern-larger (value.Global address) within = part.globals address within

  pub externs-larger : (given : List Extern) → ExternsAreWithin region given → ExternsAreWithin larger given
  externs-larger [] within = tt
  externs-larger (e ∷ given) within = (extern-larger e within.0, externs-larger given within.1)

  implementation-larger : (i : Implementation) → ImplementationIsWithin region i → ImplementationIsWithin larger i
  implementation-larger (InCode instance code) within = part.instances instance within
  implementation-larger (InHost number) within = part.hosts number within

  pub function-larger : (f : FunctionInstance) → FunctionIsWithin region f → FunctionIsWithin larger f
  function-larger f within = implementation-larger f.implementation within

  pub instance-larger : (i : ModuleInstance) → InstanceIsWithin region i → InstanceIsWithin larger i
  instance-larger i within = record {
    functions = λ k d inside. part.functions _ (within.functions k d inside);
    tables = λ k d inside. part.tables _ (within.tables k d inside);
    memories = λ k d inside. part.memories _ (within.memories k d inside);
    globals = λ k d inside. part.globals _ (within.globals k d inside);
    elements = λ k d inside. part.elements _ (within.elements k d inside);
    datas = λ k d inside. part.datas _ (within.datas k d inside);
  }

-- ---- two regions

abbrev pub both : (first second : Region) → Region
both first second = record {
  functions = λ address. first.functions address ⊎ second.functions address;
  instances = λ address. first.instances address ⊎ second.instances address;
  tables = λ address. first.tables address ⊎ second.tables address;
  memories = λ address. first.memories address ⊎ second.memories address;
  globals = λ address. first.globals address ⊎ second.globals address;
  elements = λ address. first.elements address ⊎ second.elements address;
  datas = λ address. first.datas address ⊎ second.datas address;
  hosts = λ number. first.hosts number ⊎ second.hosts number;
}

module _ (first second : Region) where
  pub first-part : IsPartOf first (both first second)
  first-part = record {
    functions = λ address has. inl has;
    instances = λ address has. inl has;
    tables = λ address has. inl has;
    memories = λ address has. inl has;
    globals = λ address has. inl has;
    elements = λ address has. inl has;
    datas = λ address has. inl has;
    hosts = λ number has. inl has;
  }

  pub second-part : IsPartOf second (both first second)
  second-part = record {
    functions = λ address has. inr has;
    instances = λ address has. inr has;
    tables = λ address has. inr has;
    memories = λ address has. inr has;
    globals = λ address has. inr has;
    elements = λ address has. inr has;
    datas = λ address has. inr has;
    hosts = λ number has. inr has;
  }

  -- What each of two regions leads to is in both.
  either-leads : {X : Type 0} (xs : List X) (a b : ℕ → Type 0) (P Q R : X → Type 0) → ((x : X) → P x → R x) → ((x : X) → Q x → R x) → EachLeads first a xs P → EachLeads second b xs Q
      → EachLeads (both first second) (λ (k : ℕ). a k ⊎ b k) xs R
  either-leads xs a b P Q R p q leads leads' k x has is = elim has [
    | inl one ↦ p x (leads k x one is)
    | inr other ↦ q x (leads' k x other is)
  ]

  pub closed-both : (store : Store) → IsClosed first store → IsClosed second store → IsClosed (both first second) store
  closed-both store closed closed' = record {
    functions = either-leads store.functions first.functions second.functions _ _ _ (function-larger first (both first second) first-part)
        (function-larger second (both first second) second-part) closed.functions closed'.functions;
    instances = either-leads store.instances first.instances second.instances _ _ _ (instance-larger first (both first second) first-part)
        (instance-larger second (both first second) second-part) closed.instances closed'.instances;
    tables = either-leads store.tables first.tables second.tables _ _ _ (λ t. values-larger first (both first second) first-part t.entries)
        (λ t. values-larger second (both first second) second-part t.entries) closed.tables closed'.tables;
    globals = either-leads store.globals first.globals second.globals _ _ _ (λ g. value-larger first (both first second) first-part g.value)
        (λ g. value-larger second (both first second) second-part g.value) closed.globals closed'.globals;
    elements = either-leads store.elements first.elements second.elements _ _ _ (λ e. values-larger first (both first second) first-part e.references)
        (λ e. values-larger second (both first second) second-part e.references) closed.elements closed'.elements;
  }
