use Rattle.std.proofs.Common.{◌++◌, ◌∙◌, sym}
use Rattle.meaning.specs.execution.Modules.{given_addresses}
use Rattle.instantiate.specs.Addresses.{address_as}
use Rattle.instantiate.proofs.lemmas.Addresses.{found-end, found-none, found-some}
use Rattle.instantiate.proofs.addresses.push_given.Goals as goal
use Rattle.instantiate.proofs.addresses.push_given.Goals.{in-Some+in_ok-push, in_default}

pub loop-k-preserved : goal.loop-k-preserved
loop-k-preserved c =
    let whole = c.args.addresses.now.items ++ given_addresses (address_as c.args.kind) c.args.given.now in
    elim c.match-address_of.branch [
      | in-Some+in_ok-push w ↦
          rw (w.addresses-is, w.in_ok-push.ensures.items)
          (found-some (address_as c.args.kind) c.args.given.now whole c.loop-k.k _ c.loop-k.addresses.items w.in-Some.address c.loop-k-test.true
          c.loop-k.invariant (sym c.address_of.ensures ∙ w.in-Some.is))
      | in_default w ↦
          rw w.addresses-is (found-none (address_as c.args.kind) c.args.given.now whole c.loop-k.k _ c.loop-k.addresses.items c.loop-k-test.true
          c.loop-k.invariant (sym c.address_of.ensures ∙ w.in_default.is))
    ]

pub returns : goal.returns
returns c =
    found-end (address_as c.args.kind) c.args.given.now (c.args.addresses.now.items ++ given_addresses (address_as c.args.kind) c.args.given.now)
    c.loop-k.k c.loop-k.addresses.items c.loop-k-test.false c.loop-k.invariant
