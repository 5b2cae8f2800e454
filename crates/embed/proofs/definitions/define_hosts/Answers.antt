use Rattle.std.proofs.Common.{◌≡◌, ℕ, ◌+◌, ◌<◌, List, ◌∷◌, [], ◌++◌, get_or, take, drop, length, map, ap, sym, ◌∙◌, arith, take-append-drop, rules}
use Rattle.std.proofs.lemmas.Iterator.Adapters.{YieldsList-from_vec}
use Rattle.std.proofs.lemmas.Iterator.Consumers.{YieldsList-end, YieldsList-so_far, YieldsList-turn}
use Rattle.std.proofs.lemmas.List.{drop_more, length-append, length-map, map-id}
use Rattle.std.proofs.lemmas.Result.{err_from_is_err_and}
use Rattle.meaning.specs.execution.Store.{Store}
use Rattle.soundness.proofs.Creation.{fresh-ready}
use Rattle.hostfunc.specs.Boxes.{type_of_host}
use Rattle.hostfunc.specs.Tables.{hosts_in}
use Rattle.store.specs.Contents.{store_of}
use Rattle.embed.specs.Definitions.{definition_of}
use Rattle.embed.proofs.lemmas.Definitions.{fault-first, faultless-taken, length-functions, names-taken, objects-taken, store-taken}
use Rattle.embed.proofs.definitions.define_hosts.Goals as goal

-- A list in which this is the item after those that were taken.
split : {A : Type 0} (all taken : List A) (x : A) → map (λ y. y) taken ≡ take (length taken) all → length taken < length all → x
    ≡ get_or all (length taken) x → all ≡ taken ++ x ∷ drop (length taken + 1) all
split all taken x front inside is =
    sym (take-append-drop (length taken) all)
    ∙ ap (λ ys. ys ++ drop (length taken) all) (sym front ∙ map-id taken)
    ∙ ap (λ ys. taken ++ ys) (drop_more all (length taken) x inside ∙ ap (λ y. y ∷ drop (length taken + 1) all) (sym is))

pub define_host-requires-clause-functions : goal.define_host-requires-clause-functions
define_host-requires-clause-functions g c =
    let len : c.into_iter-definition-iterator.result.rest.len ≡ length c.args.definitions.items = search rules in
    let turn = YieldsList-turn (YieldsList-from_vec {s = c.into_iter-definition-iterator.result} c.args.definitions.items
    c.into_iter-definition-iterator.ensures.into_iter_gives.0 len) c.loop-definition.yielded c.loop-definition.definition-iterator
    c.loop-definition.yielded_by c.next.result c.next.new.self c.in-Some.definition c.in-Some.is c.next.ensures.steps in
    let inside = turn.0 in
    let defs = map (definition_of (λ vtable. (g.dyn-1.0.entry vtable).1)) c.loop-definition.yielded in
    let count = ap (λ (s : Store). length s.functions) c.loop-definition.invariant.taken.store ∙ length-functions type_of_host 0 defs ∙ length-map
    c.loop-definition.yielded (definition_of (λ vtable. (g.dyn-1.0.entry vtable).1)) in
    let few = c.requires in
    omega (arith, inside, count, few)

pub define_host-requires-clause-objects : goal.define_host-requires-clause-objects
define_host-requires-clause-objects g c =
    let len : c.into_iter-definition-iterator.result.rest.len ≡ length c.args.definitions.items = search rules in
    let turn = YieldsList-turn (YieldsList-from_vec {s = c.into_iter-definition-iterator.result} c.args.definitions.items
    c.into_iter-definition-iterator.ensures.into_iter_gives.0 len) c.loop-definition.yielded c.loop-definition.definition-iterator
    c.loop-definition.yielded_by c.next.result c.next.new.self c.in-Some.definition c.in-Some.is c.next.ensures.steps in
    let inside = turn.0 in
    let defs = map (definition_of (λ vtable. (g.dyn-1.0.entry vtable).1)) c.loop-definition.yielded in
    let count = ap length c.loop-definition.invariant.taken.objects ∙ length-map defs (λ d. d.host) ∙ length-map c.loop-definition.yielded (definition_of (λ vtable. (g.dyn-1.0.entry vtable).1)) in
    let few = c.requires in
    omega (arith, inside, count, few)

pub loop-definition-preserved : goal.loop-definition-preserved
loop-definition-preserved g c =
    let taken = c.loop-definition.yielded in
    let next = c.in-Some.definition in
    let defs = map (definition_of (λ vtable. (g.dyn-1.0.entry vtable).1)) taken in
    let size : length defs ≡ length taken = length-map taken (definition_of (λ vtable. (g.dyn-1.0.entry vtable).1)) in
    let counted = c.loop-definition.invariant.counted in
    let inv = c.loop-definition.invariant.taken in
    let done = c.in_ok-define_host.ensures.defined in
    let named = done.named in
    let address = ap (λ (s : Store). length s.functions) inv.store ∙ length-functions type_of_host 0 defs in
    record {
      taken = record {
        names = names-taken (λ vtable. (g.dyn-1.0.entry vtable).1) taken next c.loop-definition.defined.names inv.names
            c.define_host.new.defined.names (length (store_of c.loop-definition.defined.store).functions) address named.name;
        faultless = faultless-taken (λ vtable. (g.dyn-1.0.entry vtable).1) taken next c.loop-definition.defined.names inv.names inv.faultless named.faultless;
        store = store-taken (λ vtable. (g.dyn-1.0.entry vtable).1) taken next c.args.config.now.pages c.args.config.now.entries
            (length c.loop-definition.defined.store.code.hosts) (store_of c.loop-definition.defined.store) (store_of c.define_host.new.defined.store)
            inv.store (counted ∙ sym size) named.function;
        objects = objects-taken (λ vtable. (g.dyn-1.0.entry vtable).1) taken next (hosts_in c.loop-definition.defined.hosts) (hosts_in c.define_host.new.defined.hosts) inv.objects done.object;
      };
      counted = named.counted ∙ ap (λ (n : ℕ). n + 1) counted ∙ sym (length-append taken (next ∷ []));
    }

pub returns-in_err-define_host-clause-refused : goal.returns-in_err-define_host-clause-refused
returns-in_err-define_host-clause-refused g c =
    let len : c.into_iter-definition-iterator.result.rest.len ≡ length c.args.definitions.items = search rules in
    let list = YieldsList-from_vec {s = c.into_iter-definition-iterator.result} c.args.definitions.items c.into_iter-definition-iterator.ensures.into_iter_gives.0 len in
    let taken = c.loop-definition.yielded in
    let turn = YieldsList-turn list taken c.loop-definition.definition-iterator c.loop-definition.yielded_by c.next.result c.next.new.self c.in-Some.definition c.in-Some.is c.next.ensures.steps in
    let front = YieldsList-so_far list taken c.loop-definition.definition-iterator c.loop-definition.yielded_by in
    let all = split c.args.definitions.items taken c.in-Some.definition front turn.0 turn.1 in
    let inv = c.loop-definition.invariant.taken in
    let passed = err_from_is_err_and c.from_residual.result c.from_residual.ensures.1 in
    rw (passed.1, passed.2, all) (fault-first (λ vtable. (g.dyn-1.0.entry vtable).1) taken c.in-Some.definition c.loop-definition.defined.names
    inv.names inv.faultless _ (drop (length taken + 1) c.args.definitions.items) c.in_err-define_host.ensures.refused)

pub returns-clause-defined : goal.returns-clause-defined
returns-clause-defined g c =
    let len : c.into_iter-definition-iterator.result.rest.len ≡ length c.args.definitions.items = search rules in
    let end = YieldsList-end (YieldsList-from_vec {s = c.into_iter-definition-iterator.result} c.args.definitions.items
    c.into_iter-definition-iterator.ensures.into_iter_gives.0 len) c.loop-definition.yielded c.loop-definition.definition-iterator
    c.loop-definition.yielded_by c.next.result c.next.new.self c.in-None.is c.next.ensures.steps in
    let same : c.loop-definition.yielded ≡ c.args.definitions.items = sym (map-id c.loop-definition.yielded) ∙ end.0 in
    rw (← same) c.loop-definition.invariant.taken

pub returns-clause-typed : goal.returns-clause-typed
returns-clause-typed g c =
    let inv = c.loop-definition.invariant.taken in
    let definitions = map (definition_of (λ vtable. (g.dyn-1.0.entry vtable).1)) c.loop-definition.yielded in
    rw (inv.store, inv.objects) (fresh-ready type_of_host c.args.config.now.pages c.args.config.now.entries definitions inv.faultless)
