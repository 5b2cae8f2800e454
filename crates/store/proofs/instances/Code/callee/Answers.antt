use Rattle.std.proofs.Common.{◌<◌, length, refl, ap, ◌∙◌, rules}
use Rattle.std.specs.Prelude.{Some}
use Rattle.std.proofs.lemmas.Option.{slice_get_read}
use Rattle.store.specs.declared.instances.FunctionInstance.{FunctionInstance}
use Rattle.store.specs.Contents.{contents_of}
use Rattle.store.proofs.lemmas.Lookups.{entry-found, function-there, host-found, host-within}
use Rattle.store.proofs.instances.Code.callee.Goals as goal

pub module_function-requires : goal.module_function-requires
module_function-requires c =
    let inside = c.self.inside in
    let kept = contents_of inside.functions.items inside.instances.items inside.hosts.items in
    let within : c.args.address < length inside.functions.items = rw (← c.self.view_is) at c.requires in
    let there = slice_get_read inside.functions.items (length inside.functions.items) c.args.address c.index.result.now refl within c.index.ensures ∙
    ap (λ (f : FunctionInstance). Some f) c.in-InModule.is in
    rw (← c.self.view_is) (entry-found kept c.args.address _ there c.self.invariant.found)

pub index-requires-in-InHost : goal.index-requires-in-InHost
index-requires-in-InHost c =
    let inside = c.self.inside in
    let kept = contents_of inside.functions.items inside.instances.items inside.hosts.items in
    let within : c.args.address < length inside.functions.items = rw (← c.self.view_is) at c.requires in
    let there = slice_get_read inside.functions.items (length inside.functions.items) c.args.address c.index.result.now refl within c.index.ensures ∙
    ap (λ (f : FunctionInstance). Some f) c.in-InHost.is in
    let within_hosts = host-within kept.hosts c.in-InHost.number (entry-found kept c.args.address _ there c.self.invariant.found) in
    search (rules, within_hosts)

pub returns-in-InModule : goal.returns-in-InModule
returns-in-InModule c =
    let inside = c.self.inside in
    let kept = contents_of inside.functions.items inside.instances.items inside.hosts.items in
    let within : c.args.address < length inside.functions.items = rw (← c.self.view_is) at c.requires in
    let there = slice_get_read inside.functions.items (length inside.functions.items) c.args.address c.index.result.now refl within c.index.ensures ∙
    ap (λ (f : FunctionInstance). Some f) c.in-InModule.is in
    let found = rw (← c.self.view_is) at c.module_function.ensures.found in
    record {
      there = rw (← c.self.view_is) (function-there kept c.args.address _ there _ found);
      flat = c.module_function.ensures.flat;
      declared = c.module_function.ensures.declared;
      types = c.module_function.ensures.types;
    }

pub returns-in-InHost : goal.returns-in-InHost
returns-in-InHost c =
    let inside = c.self.inside in
    let kept = contents_of inside.functions.items inside.instances.items inside.hosts.items in
    let within : c.args.address < length inside.functions.items = rw (← c.self.view_is) at c.requires in
    let there = slice_get_read inside.functions.items (length inside.functions.items) c.args.address c.index.result.now refl within c.index.ensures ∙
    ap (λ (f : FunctionInstance). Some f) c.in-InHost.is in
    let inside_hosts = host-within kept.hosts c.in-InHost.number (entry-found kept c.args.address _ there c.self.invariant.found) in
    let host = slice_get_read inside.hosts.items (length inside.hosts.items) c.in-InHost.number c.index-in-InHost.result.now refl inside_hosts c.index-in-InHost.ensures in
    record {
      there = rw (← c.self.view_is) (function-there kept c.args.address _ there _ (host-found kept.hosts c.in-InHost.number _ host));
      flat = tt;
      declared = tt;
      types = tt;
    }
