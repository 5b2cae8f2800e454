use Rattle.std.proofs.Common.{◌≡◌, ◌∙◌, length, refl, rules}
use Rattle.std.proofs.Math.Seq.{take-append_seam}
use Rattle.meaning.specs.validation.Modules.{IsValid}
use Rattle.store.proofs.lemmas.ContextTypes.{all-stay, all-with}
use Rattle.store.proofs.lemmas.Instantiation.{AllFound-added, functions-added}
use Rattle.store.proofs.lemmas.OwnFunctions.{all-own-stay, all-own-with, own-added}
use Rattle.store.proofs.instances.Code.append_instance.Goals as goal

pub invariant_of-self-in-Ok : goal.invariant_of-self-in-Ok
invariant_of-self-in-Ok c =
    let number : c.len-number.result ≡ length c.self.inside.instances.items = search rules in
    let count : c.len-count.result ≡ length c.args.instance.loaded.value.source.funcs = search rules in
    let valid : IsValid c.args.instance.loaded.value.source = rw c.as_ref.ensures at c.module.ensures.valid in
    let added = rw (number, count) at c.in_ok-push_entries.ensures.pushed in
    let inside = c.self.inside in
    let functions = functions-added inside.hosts.items inside.instances.items c.args.instance valid inside.functions.items c.push_entries.new.functions.items c.self.invariant.found added in
    rw c.in-Ok.ensures.pushed (record {
      found = AllFound-added inside.hosts.items inside.instances.items c.args.instance valid inside.functions.items c.push_entries.new.functions.items c.self.invariant.found added;
      types = rw functions (all-with _ inside.instances.items c.args.instance (all-stay _ _ inside.instances.items c.self.invariant.types) (rw (← c.self.view_is) at c.requires.types));
      own = rw added (all-own-with _ inside.instances.items c.args.instance (all-own-stay inside.functions.items _ inside.instances.items c.self.invariant.own)
          (own-added inside.functions.items (length inside.instances.items) c.args.instance (rw (← c.self.view_is) at c.requires.own)));
    })

pub returns-in-Ok-clause-functions : goal.returns-in-Ok-clause-functions
returns-in-Ok-clause-functions c =
    let number : c.len-number.result ≡ length c.self.inside.instances.items = search rules in
    let count : c.len-count.result ≡ length c.args.instance.loaded.value.source.funcs = search rules in
    let valid : IsValid c.args.instance.loaded.value.source = rw c.as_ref.ensures at c.module.ensures.valid in
    let added = rw (number, count) at c.in_ok-push_entries.ensures.pushed in
    rw (c.in-Ok.ensures.pushed, ← c.self.view_is)
    (functions-added c.self.inside.hosts.items c.self.inside.instances.items c.args.instance valid c.self.inside.functions.items c.push_entries.new.functions.items c.self.invariant.found added)

-- What was appended is removed again, so the functions are unchanged.
functions-stay : (c : goal.After-truncate) → c.truncate.new.self.items ≡ c.self.inside.functions.items
functions-stay c =
    let first : c.len-first.result ≡ length c.self.inside.functions.items = search rules in
    c.truncate.ensures.items ∙ rw (first, c.in_ok-push_entries.ensures.pushed) (take-append_seam c.self.inside.functions.items _)

pub invariant_of-self-in-Err : goal.invariant_of-self-in-Err
invariant_of-self-in-Err c = rw (functions-stay c, c.in-Err.ensures.unchanged) c.self.invariant

pub returns-in-Err-clause-unchanged : goal.returns-in-Err-clause-unchanged
returns-in-Err-clause-unchanged c = rw (← c.self.view_is, functions-stay c, c.in-Err.ensures.unchanged) refl
