-- A region with the addresses that a store has not given yet.
use Rattle.std.proofs.Common.{◌≡◌, ℕ, zero, suc, ◌<◌, ◌≤◌, ◌⊎◌, inl, inr, List, [], ◌∷◌, ◌++◌, length, Some, refl, sym, ◌∙◌, arith, slice_get}
use Rattle.std.proofs.lemmas.Bool.{cases_lt}
use Rattle.std.proofs.lemmas.Option.{slice_get_past, slice_get_within}
use Rattle.meaning.specs.execution.Store.{Store}
use Rattle.soundness.proofs.Appends.{same-below}
use Rattle.isolation.proofs.Larger.{IsPartOf, function-larger, instance-larger, value-larger, values-larger}
use Rattle.isolation.specs.Regions.{AgreeWithin, EachLeads, ElementIsWithin, FunctionIsWithin, GlobalIsWithin, Has, HasNot, HaveSameCounts, InstanceIsWithin}
use Rattle.isolation.specs.Regions.{IsClosed, IsSameWithin, Region, StaysOutside, TableIsWithin, and_from, with_new}

module _ (addresses : ℕ → Type 0) (first address : ℕ) where
  pub had : Has addresses address → Has (and_from addresses first) address
  had has = inl has

  pub came : first ≤ address → Has (and_from addresses first) address
  came past = inr past

  pub which : Has (and_from addresses first) address → Has addresses address ⊎ (first ≤ address)
  which has = has

  pub neither : HasNot (and_from addresses first) address → HasNot addresses address × (address < first)
  neither not = (λ has. not (inl has), elim (cases_lt address first) [ inl less ↦ less | inr past ↦ absurd (not (inr past)) ])

module _ {X : Type 0} where
  -- What is found in two joined lists is found in one of them.
  pub append-which : (xs ys : List X) (k : ℕ) (x : X) → slice_get (xs ++ ys) k ≡ Some x → (slice_get xs k ≡ Some x) ⊎ ((j : ℕ) × (slice_get ys j ≡ Some x))
  append-which [] ys k x is = inr (k, is)
  append-which (z ∷ xs) ys zero x is = inl is
  append-which (z ∷ xs) ys (suc k) x is = append-which xs ys k x is

  pub append-same : (xs ys zs : List X) (k : ℕ) → length ys ≡ length xs → slice_get ys k ≡ slice_get xs k → slice_get (ys ++ zs) k ≡ slice_get (xs ++ zs) k
  append-same [] [] zs k long same = refl
  append-same [] (y ∷ ys) zs k long same = absurd (let wrong : ⊥ = omega (arith, long) in wrong)
  append-same (x ∷ xs) [] zs k long same = absurd (let wrong : ⊥ = omega (arith, long) in wrong)
  append-same (x ∷ xs) (y ∷ ys) zs zero long same = same
  append-same (x ∷ xs) (y ∷ ys) zs (suc k) long same = append-same xs ys zs k (omega (arith, long)) same

  module _ (region : Region) (addresses : ℕ → Type 0) where
    pub still-leads : (xs : List X) (P Q : X → Type 0) → ((x : X) → P x → Q x) → EachLeads region addresses xs P → EachLeads region (and_from addresses (length xs)) xs Q
    still-leads xs P Q more leads k x has is = elim (which addresses (length xs) k has) [
      | inl old ↦ more x (leads k x old is)
      | inr past ↦ let inside = slice_get_within xs k x is in absurd (let wrong : ⊥ = omega (arith, inside, past) in wrong)
    ]

    pub append-leads : (xs ys : List X) (P Q : X → Type 0) → ((x : X) → P x → Q x) → EachLeads region addresses xs P
        → ((k : ℕ) (y : X) → slice_get ys k ≡ Some y → Q y) → EachLeads region (and_from addresses (length xs)) (xs ++ ys) Q
    append-leads xs ys P Q more leads others k x has is = elim (append-which xs ys k x is) [
      | inl before ↦ still-leads xs P Q more leads k x has before
      | inr behind ↦ others behind.0 x behind.1
    ]

    pub still-agrees : (xs ys : List X) → length ys ≡ length xs → IsSameWithin region addresses xs ys → IsSameWithin region (and_from addresses (length xs)) xs ys
    still-agrees xs ys long same k has = elim (which addresses (length xs) k has) [
      | inl old ↦ same k old
      | inr past ↦ slice_get_past ys k (omega (arith, long, past)) ∙ sym (slice_get_past xs k past)
    ]

    pub append-agrees : (xs ys zs : List X) → length ys ≡ length xs → IsSameWithin region addresses xs ys → IsSameWithin region (and_from addresses (length xs)) (xs ++ zs) (ys ++ zs)
    append-agrees xs ys zs long same k has = append-same xs ys zs k long (still-agrees xs ys long same k has)

    pub append-outside : (xs ys : List X) → StaysOutside region (and_from addresses (length xs)) xs (xs ++ ys)
    append-outside xs ys k not = same-below xs ys k (neither addresses (length xs) k not).1

-- ---- a larger region

module _ (region : Region) (store : Store) where
  abbrev more : Region
  more = with_new region store

  pub part-of-more : IsPartOf region more
  part-of-more = record {
    functions = λ address has. inl has;
    instances = λ address has. inl has;
    tables = λ address has. inl has;
    memories = λ address has. inl has;
    globals = λ address has. inl has;
    elements = λ address has. inl has;
    datas = λ address has. inl has;
    hosts = λ number has. has;
  }

  pub closed-more : IsClosed region store → IsClosed more store
  closed-more closed = record {
    functions = still-leads region region.functions store.functions (FunctionIsWithin region) (FunctionIsWithin more) (function-larger region more part-of-more) closed.functions;
    instances = still-leads region region.instances store.instances (InstanceIsWithin region) (InstanceIsWithin more) (instance-larger region more part-of-more) closed.instances;
    tables = still-leads region region.tables store.tables (TableIsWithin region) (TableIsWithin more) (λ t. values-larger region more part-of-more t.entries) closed.tables;
    globals = still-leads region region.globals store.globals (GlobalIsWithin region) (GlobalIsWithin more) (λ g. value-larger region more part-of-more g.value) closed.globals;
    elements = still-leads region region.elements store.elements (ElementIsWithin region) (ElementIsWithin more) (λ e. values-larger region more part-of-more e.references) closed.elements;
  }

  pub agree-more : (other : Store) → HaveSameCounts store other → AgreeWithin region store other → AgreeWithin more store other
  agree-more other counts agree = record {
    functions = still-agrees region region.functions store.functions other.functions counts.functions agree.functions;
    instances = still-agrees region region.instances store.instances other.instances counts.instances agree.instances;
    tables = still-agrees region region.tables store.tables other.tables counts.tables agree.tables;
    memories = still-agrees region region.memories store.memories other.memories counts.memories agree.memories;
    globals = still-agrees region region.globals store.globals other.globals counts.globals agree.globals;
    elements = still-agrees region region.elements store.elements other.elements counts.elements agree.elements;
    datas = still-agrees region region.datas store.datas other.datas counts.datas agree.datas;
    pages = agree.pages;
    entries = agree.entries;
  }
