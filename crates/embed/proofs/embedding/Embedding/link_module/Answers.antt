use Rattle.exec.specs.Endings.{run_state}
use Rattle.store.specs.Contents.{store_of}
use Rattle.embed.specs.Contents.{embedding_of}
use Rattle.embed.specs.Replies.{link_outcome_reply}
use Rattle.embed.proofs.lemmas.Steps.{link-ended, link-linked, link-refused, mismatched-at-fault, module-of, unresolved-at-fault}
use Rattle.hostfunc.specs.Tables.{hosts_in}
use Rattle.embed.proofs.embedding.Embedding.link_module.Goals as goal

pub returns-in-Ok-clause-links : goal.returns-in-Ok-clause-links
returns-in-Ok-clause-links g c =
    let old = embedding_of c.args.self.now in
    let there = module-of c.args.self.now.modules.items c.args.number c.in-Some.loaded.now (rw c.deref.ensures.value at c.in-Some.ensures) in
    let resolved = rw (c.as_slice-imports.ensures, c.module.ensures.same, c.as_ref.ensures) at c.in_ok-externs.ensures.found in
    let state = run_state (store_of c.instantiate.new.store) (hosts_in c.instantiate.new.hosts) c.instantiate.new.meter.left in
    rw (there, c.next_number-count.ensures, c.deref-in-Ok.ensures.value, c.append.ensures.appended, c.in_ok-try_reserve.ensures.items)
    (link-linked _ old state c.args.self.now.meter.bound c.in-Some.loaded.now.value.source c.in_ok-externs.externs.items resolved
    c.args.self.now.bound c.in-Ok.address (rw c.deref-2.ensures.value at c.in-Ok.ensures.linked))

pub returns-in-Err-Refused-clause-links : goal.returns-in-Err-Refused-clause-links
returns-in-Err-Refused-clause-links g c =
    let old = embedding_of c.args.self.now in
    let there = module-of c.args.self.now.modules.items c.args.number c.in-Some.loaded.now (rw c.deref.ensures.value at c.in-Some.ensures) in
    let resolved = rw (c.as_slice-imports.ensures, c.module.ensures.same, c.as_ref.ensures) at c.in_ok-externs.ensures.found in
    let refused = rw (c.deref-2.ensures.value, c.in-Err-Refused.field-0-is) at c.in-Err-Refused.ensures.linked in
    let state = run_state (store_of c.instantiate.new.store) (hosts_in c.instantiate.new.hosts) c.instantiate.new.meter.left in
    rw (there, c.from.ensures, c.in-Err-Refused.refusal-is, c.in_ok-try_reserve.ensures.items)
    (link-refused _ old state c.args.self.now.meter.bound c.in-Some.loaded.now.value.source c.in_ok-externs.externs.items resolved c.in-Err-Refused.refusal refused)

pub returns-clause-links : goal.returns-clause-links
returns-clause-links g c =
    let old = embedding_of c.args.self.now in
    let there = module-of c.args.self.now.modules.items c.args.number c.in-Some.loaded.now (rw c.deref.ensures.value at c.in-Some.ensures) in
    let resolved = rw (c.as_slice-imports.ensures, c.module.ensures.same, c.as_ref.ensures) at c.in_ok-externs.ensures.found in
    let state = run_state (store_of c.instantiate.new.store) (hosts_in c.instantiate.new.hosts) c.instantiate.new.meter.left in
    rw (there, c.in_ok-try_reserve.ensures.items)
    (link-ended _ old state c.args.self.now.meter.bound c.in-Some.loaded.now.value.source c.in_ok-externs.externs.items resolved c.args.self.now.bound
    c.in-Err-Ended.outcome (link_outcome_reply c.without_instance.result)
    (rw (c.deref-2.ensures.value, c.in-Err-Ended.field-0-is) at c.in-Err-Ended.ensures.linked) (rw c.in-Err-Ended.outcome-is at c.without_instance.ensures))

pub without_instance-requires : goal.without_instance-requires
without_instance-requires g c = rw c.in-Err-Ended.outcome-is (rw c.in-Err-Ended.field-0-is at c.in-Err-Ended.ensures.linked).no_values

pub returns-in-Err-Refused-clause-first_at_fault : goal.returns-in-Err-Refused-clause-first_at_fault
returns-in-Err-Refused-clause-first_at_fault g c =
    let old = embedding_of c.args.self.now in
    let there = module-of c.args.self.now.modules.items c.args.number c.in-Some.loaded.now (rw c.deref.ensures.value at c.in-Some.ensures) in
    let resolved = rw (c.as_slice-imports.ensures, c.module.ensures.same, c.as_ref.ensures) at c.in_ok-externs.ensures.found in
    let refused = rw (c.deref-2.ensures.value, c.in-Err-Refused.field-0-is) at c.in-Err-Refused.ensures.linked in
    rw (c.from.ensures, c.in-Err-Refused.refusal-is)
    (mismatched-at-fault old c.args.number c.in-Some.loaded.now.value.source there c.in_ok-externs.externs.items resolved c.in-Err-Refused.refusal refused.cause)
