use Rattle.std.proofs.Common.{◌≡◌, ℕ, zero, suc, ◌<◌, List, [], ◌∷◌, length, sym, arith}
use Rattle.std.specs.Prelude.{None, slice_get}
use Rattle.soundness.proofs.Embedding.{global-there}
use Rattle.store.specs.Contents.{store_of}
use Rattle.embed.specs.Contents.{embedding_of}
use Rattle.embed.proofs.lemmas.Steps.{get-value}
use Rattle.embed.proofs.embedding.Embedding.read_global.Goals as goal

pub returns-clause-gets : goal.returns-clause-gets
returns-clause-gets g c =
    let there = rw c.state.ensures.same at (sym c.in-Some.ensures) in
    get-value (embedding_of c.args.self.now) _ c.in_ok-address.address c.in-Some.variable.now c.value.result c.in_ok-address.ensures there c.value.ensures

-- There is an item at each place within the list.
missing : {X : Type 0} (items : List X) (k : ℕ) → k < length items → slice_get items k ≡ None → ⊥
missing [] k inside is = omega (arith, inside)
missing (x ∷ items) zero inside is = cc
missing (x ∷ items) (suc k) inside is = missing items k (omega (arith, inside)) is

pub unreachable-requires : goal.unreachable-requires
unreachable-requires g c =
    let store = store_of c.args.self.now.store in
    let inside = global-there store c.state.ensures.valid c.args.name.now (slice_get c.args.self.now.instances.items c.args.number) c.in_ok-address.address (sym c.in_ok-address.ensures) in
    missing store.globals c.in_ok-address.address inside (rw c.state.ensures.same at (sym c.in_default.ensures))
