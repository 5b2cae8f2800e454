use Rattle.std.proofs.Common.{◌≡◌, length, rules}
use Rattle.store.proofs.lemmas.ContextTypes.{all-stay}
use Rattle.store.proofs.lemmas.Instantiation.{AllFound-hosted, functions-hosted}
use Rattle.store.proofs.lemmas.OwnFunctions.{all-own-stay}
use Rattle.store.proofs.instances.Code.append_host.Goals as goal

pub invariant_of-self-2 : goal.invariant_of-self-2
invariant_of-self-2 c =
    let number : c.len-number.result ≡ length c.self.inside.hosts.items = search rules in
    rw (c.push-2.ensures.items, c.unwrap.ensures, c.in_ok-try_reserve.ensures.items, c.in_ok-push.ensures.items, number)
    (record {
      found = AllFound-hosted c.self.inside.hosts.items c.self.inside.instances.items c.args.ty c.self.inside.functions.items c.self.invariant.found;
      types = rw (functions-hosted c.self.inside.hosts.items c.self.inside.instances.items c.args.ty c.self.inside.functions.items c.self.invariant.found)
          (all-stay _ _ c.self.inside.instances.items c.self.invariant.types);
      own = all-own-stay c.self.inside.functions.items _ c.self.inside.instances.items c.self.invariant.own;
    })

pub returns-clause-functions : goal.returns-clause-functions
returns-clause-functions c =
    let number : c.len-number.result ≡ length c.self.inside.hosts.items = search rules in
    rw (c.push-2.ensures.items, c.unwrap.ensures, c.in_ok-try_reserve.ensures.items, c.in_ok-push.ensures.items, number, ← c.self.view_is)
    (functions-hosted c.self.inside.hosts.items c.self.inside.instances.items c.args.ty c.self.inside.functions.items c.self.invariant.found)
