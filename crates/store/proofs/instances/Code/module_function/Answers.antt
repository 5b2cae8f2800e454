use Rattle.std.proofs.Common.{◌<◌, arith, length, refl}
use Rattle.std.proofs.lemmas.Option.{slice_get_read}
use Rattle.store.specs.Contents.{HasModuleTypes, contents_of, functions_in}
use Rattle.store.proofs.lemmas.ContextTypes.{context-types}
use Rattle.store.proofs.lemmas.Lookups.{instance-within}
use Rattle.store.proofs.lemmas.Positions.{holds-at}
use Rattle.store.proofs.instances.Code.module_function.Goals as goal

pub returns-clause-flat : goal.returns-clause-flat
returns-clause-flat c =
    let inside = c.self.inside in
    let is = inside.instances.items in
    let within : c.args.instance < length is = instance-within is c.args.instance c.args.index (rw (← c.self.view_is) at c.requires) in
    let there = slice_get_read is (length is) c.args.instance c.index.result.now refl within c.index.ensures in
    rw (← c.self.view_is) (
      c.index.result.now,
      record {
        there = there;
        flat = rw c.as_ref.ensures at c.function-found.ensures.whole;
        types = holds-at (HasModuleTypes (functions_in (contents_of inside.functions.items is inside.hosts.items))) is c.args.instance c.index.result.now c.self.invariant.types there;
        own = c.self.invariant.own c.args.instance c.index.result.now there;
      },
      rw there (rw c.as_ref.ensures at c.function-found.ensures.flat),
    )

pub returns-clause-declared : goal.returns-clause-declared
returns-clause-declared c =
    let is = c.self.inside.instances.items in
    let within : c.args.instance < length is = instance-within is c.args.instance c.args.index (rw (← c.self.view_is) at c.requires) in
    let there = slice_get_read is (length is) c.args.instance c.index.result.now refl within c.index.ensures in
    rw (← c.self.view_is) (rw there (rw c.as_ref.ensures at c.function-found.ensures.ty, c.function-found.ensures.body))

pub returns-clause-types : goal.returns-clause-types
returns-clause-types c =
    let inside = c.self.inside in
    let is = inside.instances.items in
    let within : c.args.instance < length is = instance-within is c.args.instance c.args.index (rw (← c.self.view_is) at c.requires) in
    let there = slice_get_read is (length is) c.args.instance c.index.result.now refl within c.index.ensures in
    rw (← c.self.view_is) (context-types (contents_of inside.functions.items is inside.hosts.items) c.args.instance c.index.result.now there
    (holds-at (HasModuleTypes (functions_in (contents_of inside.functions.items is inside.hosts.items))) is c.args.instance c.index.result.now c.self.invariant.types there))

pub index-requires : goal.index-requires
index-requires c =
    let within : c.args.instance < length c.self.inside.instances.items = instance-within c.self.inside.instances.items c.args.instance c.args.index (rw (← c.self.view_is) at c.requires) in
    omega (arith, within)
