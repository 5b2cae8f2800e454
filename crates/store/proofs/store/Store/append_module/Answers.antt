use Rattle.std.proofs.Common.{◌≡◌, ℕ, ◌-◌, length, ap, ap₂, ◌∙◌, arith, rules}
use Rattle.std.specs.Prelude.{Err, Ok, OnErr, Result}
use Rattle.meaning.specs.execution.Modules.{with_module}
use Rattle.store.specs.Contents.{Contents, lists_of, module_instance, store_with}
use Rattle.store.proofs.lemmas.ContextTypes.{allocated}
use Rattle.store.proofs.lemmas.OwnFunctions.{adds-functions, own-within}
use Rattle.store.proofs.lemmas.Validity.{allocation-grows, grows-same, module-appended, equal-stores}
use Rattle.store.proofs.store.Store.append_module.Goals as goal

-- A fact also holds as a clause on an error.
on_err : {T E : Type 0} (P : Type 0) (r : Result T E) → P → OnErr r P
on_err P (Ok v) holds = tt
on_err P (Err e) holds = holds

pub returns-in_err-reserve_all-clause-extends : goal.returns-in_err-reserve_all-clause-extends
returns-in_err-reserve_all-clause-extends c =
    rw (← c.self.view_is) (grows-same _ _ c.self.invariant (equal-stores c.self.inside.code c.self.inside.state c.reserve_all.new.self c.reserve_all.ensures.contents c.reserve_all.ensures.bounds)).0

pub returns-in_err-append_instance-clause-extends : goal.returns-in_err-append_instance-clause-extends
returns-in_err-append_instance-clause-extends c =
    rw (← c.self.view_is) (grows-same _ _ c.self.invariant
    (ap (λ (code : Contents). store_with code c.reserve_all.new.self) c.in_err-append_instance.ensures.unchanged ∙ equal-stores c.self.inside.code
    c.self.inside.state c.reserve_all.new.self c.reserve_all.ensures.contents c.reserve_all.ensures.bounds)).0

pub append_instance-requires-clause-types : goal.append_instance-requires-clause-types
append_instance-requires-clause-types c =
    allocated c.writing_is_read.ensures.whole (store_with c.self.inside.code c.self.inside.state) _ c.args.objects c.self.invariant (rw (← c.self.view_is) at c.requires.linkable)

-- The module's functions and objects and its instance follow what was there.
appended : (c : goal.After-append_all) → store_with c.append_instance.new.self c.append_all.new.self
    ≡ with_module (store_with c.self.inside.code c.self.inside.state) (module_instance (lists_of c.args.addresses) c.args.loaded.value.source)
    c.args.loaded.value.source c.args.objects
appended c =
    module-appended c.self.inside.code c.append_instance.new.self c.self.inside.state c.reserve_all.new.self c.append_all.new.self
    c.args.loaded.value.source (lists_of c.args.addresses) c.args.objects c.in_ok-append_instance.ensures.functions
    c.in_ok-append_instance.ensures.instances c.reserve_all.ensures.contents c.reserve_all.ensures.bounds c.append_all.ensures.contents
    c.append_all.ensures.bounds

pub returns-clause-appended : goal.returns-clause-appended
returns-clause-appended c = rw (← c.self.view_is) (appended c)

pub invariant_of-self-2 : goal.invariant_of-self-2
invariant_of-self-2 c =
    rw (appended c)
    (allocation-grows c.writing_is_read.ensures.whole _ _ _ _ c.self.invariant (rw (← c.self.view_is) at c.requires.linkable)).1

pub returns-clause-extends : goal.returns-clause-extends
returns-clause-extends c =
    rw (← c.self.view_is, appended c)
    (allocation-grows c.writing_is_read.ensures.whole _ _ _ _ c.self.invariant (rw (← c.self.view_is) at c.requires.linkable)).0

pub overflow_sub-imported : goal.overflow_sub-imported
overflow_sub-imported c =
    let own : c.len-2.result ≡ length c.args.loaded.value.source.funcs = search rules in
    let within = own-within c.self.inside.code c.self.inside.state (record { loaded = c.args.loaded; addresses = c.args.addresses; imported = 0 })
    c.args.objects (rw (← c.self.view_is) at c.requires.linkable) in
    omega (arith, own, within, c.len.ensures)

pub append_instance-requires-clause-own : goal.append_instance-requires-clause-own
append_instance-requires-clause-own c =
    let all : c.len.result ≡ length c.args.addresses.functions.items = search rules in
    let own : c.len-2.result ≡ length c.args.loaded.value.source.funcs = search rules in
    adds-functions c.self.inside.code c.self.inside.state
    (record { loaded = c.args.loaded; addresses = c.args.addresses; imported = c.len.result - c.len-2.result }) c.args.objects
    (rw (← c.self.view_is) at c.requires.linkable)
    (ap₂ (λ (n k : ℕ). n - k) all own)

pub invariant_of-self : goal.invariant_of-self
invariant_of-self c = rw (equal-stores c.self.inside.code c.self.inside.state c.reserve_all.new.self c.reserve_all.ensures.contents c.reserve_all.ensures.bounds) c.self.invariant

pub returns-in_err-reserve_all-clause-unchanged : goal.returns-in_err-reserve_all-clause-unchanged
returns-in_err-reserve_all-clause-unchanged c =
    on_err _ c.from_residual.result (rw (← c.self.view_is) (equal-stores c.self.inside.code c.self.inside.state c.reserve_all.new.self c.reserve_all.ensures.contents c.reserve_all.ensures.bounds))

pub invariant_of-self-in_err-append_instance : goal.invariant_of-self-in_err-append_instance
invariant_of-self-in_err-append_instance c =
    rw (
      c.in_err-append_instance.ensures.unchanged,
      equal-stores c.self.inside.code c.self.inside.state c.reserve_all.new.self c.reserve_all.ensures.contents c.reserve_all.ensures.bounds,
    ) c.self.invariant

pub returns-in_err-append_instance-clause-unchanged : goal.returns-in_err-append_instance-clause-unchanged
returns-in_err-append_instance-clause-unchanged c =
    on_err _ c.from_residual-in_err-append_instance.result
    (rw (← c.self.view_is, c.in_err-append_instance.ensures.unchanged)
    (equal-stores c.self.inside.code c.self.inside.state c.reserve_all.new.self c.reserve_all.ensures.contents c.reserve_all.ensures.bounds))

pub append_all-requires-clause-within : goal.append_all-requires-clause-within
append_all-requires-clause-within c = rw c.reserve_all.ensures.bounds (rw (← c.self.view_is) at c.requires.within)
