use Rattle.std.proofs.Common.{List, ℕ, refl, ap, subst, ◌-◌, ◌∙◌, arith, length, map}
use Rattle.std.proofs.lemmas.List.{length-set}
use Rattle.std.proofs.lemmas.Result.{IfErr-weaker, IfOk-weaker}
use Rattle.core_types.specs.declared.outcome.Val.{Val}
use Rattle.core_types.specs.declared.types.ValType.{ValType}
use Rattle.meaning.specs.execution.Runs.{HostTrap, Results}
use Rattle.meaning.specs.execution.Values.{type_of}
use Rattle.soundness.proofs.Hosts.{ready-kept}
use Rattle.hostfunc.specs.Boxes.{type_of_host}
use Rattle.hostfunc.specs.Tables.{hosts_in}
use Rattle.store.specs.Contents.{code_store, host_function, store_with}
use Rattle.exec.specs.Endings.{first_memory}
use Rattle.interpreter.specs.Calling.{frame_waiting}
use Rattle.interpreter.specs.declared.machine.CallKind.{CallKind}
use Rattle.interpreter.specs.declared.machine.Frame.{Frame}
use Rattle.interpreter.proofs.Forms.{inside}
use Rattle.interpreter.proofs.Executing.{place-fits}
use Rattle.exec.specs.Hosting.{WaitsForHost, position_answered, with_results}
use Rattle.exec.specs.Resting.{at_rest, machine_of}
use Rattle.hostfunc.specs.Boxes.{HostStep}
use Rattle.exec.proofs.Answering.{comes-or-ends, arguments-fit-there, behind-there, cells_held, comes-back-there, comes-behind, ends-there, out-of-memory}
use Rattle.exec.proofs.Answering.{room-back-there, room-behind, traps-there, types-there}
use Rattle.exec.proofs.hosts.call_host.Goals as goal

pub read_arguments-requires-clause-enough : goal.read_arguments-requires-clause-enough
read_arguments-requires-clause-enough g c =
    let (w, wait) = c.requires.waits in
    let r = at_rest c.args.code.now c.args.state.now c.args.call.now in
    let f = c.in-Some-InHost.host in
    let is = rw c.in-Some-InHost.field-0-is at c.in-Some-InHost.ensures.found in
    rw c.as_slice-types.ensures (behind-there c.args.bound r w c.args.wanted.kind c.args.wanted.address c.args.wanted.behind wait f.number f.ty.now is).0

pub read_arguments-requires-clause-inside : goal.read_arguments-requires-clause-inside
read_arguments-requires-clause-inside g c =
    let (w, wait) = c.requires.waits in
    let r = at_rest c.args.code.now c.args.state.now c.args.call.now in
    let f = c.in-Some-InHost.host in
    let is = rw c.in-Some-InHost.field-0-is at c.in-Some-InHost.ensures.found in
    let inside_cells = (behind-there c.args.bound r w c.args.wanted.kind c.args.wanted.address c.args.wanted.behind wait f.number f.ty.now is).1 in
    let size = length-set c.args.call.now.cells.items c.args.call.now.position.top c.args.call.now.position.operand in
    rw c.deref.ensures.value (omega (arith, inside_cells, size))

pub read_arguments-requires-clause-fit : goal.read_arguments-requires-clause-fit
read_arguments-requires-clause-fit g c =
    let (w, wait) = c.requires.waits in
    let r = at_rest c.args.code.now c.args.state.now c.args.call.now in
    let f = c.in-Some-InHost.host in
    let is = rw c.in-Some-InHost.field-0-is at c.in-Some-InHost.ensures.found in
    rw (c.as_slice-types.ensures, c.deref.ensures.value) (arguments-fit-there c.args.bound r w c.args.wanted.kind c.args.wanted.address c.args.wanted.behind wait f.number f.ty.now is)

pub returns-in_default-read_arguments-clause-came : goal.returns-in_default-read_arguments-clause-came
returns-in_default-read_arguments-clause-came g c = λ w wait. (
    let r = at_rest c.args.code.now c.args.state.now c.args.call.now in
    let f = c.in-Some-InHost.host in
    let is = rw c.in-Some-InHost.field-0-is at c.in-Some-InHost.ensures.found in
    out-of-memory c.args.bound r w c.args.wanted.address c.args.wanted.behind f.number f.ty.now is type_of_host _ (hosts_in c.args.hosts.now) (hosts_in c.args.hosts.now) c.args.wanted.kind wait)

pub call_lent-requires : goal.call_lent-requires
call_lent-requires g c =
    let (w, wait) = c.requires.waits in
    let r = at_rest c.args.code.now c.args.state.now c.args.call.now in
    let f = c.in-Some-InHost.host in
    let is = rw c.in-Some-InHost.field-0-is at c.in-Some-InHost.ensures.found in
    let passed = c.deref-2.ensures.value ∙ (rw (c.as_slice-types.ensures, c.deref.ensures.value) at c.in-Ok.ensures) in
    record {
      there = (
        f.ty.now,
        c.requires.hosts.typed c.args.wanted.address f.number (host_function f.number f.ty.now) is refl,
        ap (map type_of) passed ∙ types-there c.args.bound r w c.args.wanted.kind c.args.wanted.address c.args.wanted.behind wait f.number f.ty.now is,
      );
    }

pub returns-in-Ok-call_lent-clause-hosts : goal.returns-in-Ok-call_lent-clause-hosts
returns-in-Ok-call_lent-clause-hosts g c =
    ready-kept type_of_host _ (hosts_in c.args.hosts.now) (hosts_in c.call_lent.new.hosts) c.in-Some-InHost.host.number
    (first_memory (code_store c.args.code.now) c.args.call.now.position.instance) c.deref-2.result.now
    (store_with c.args.code.now c.args.state.now) (store_with c.args.code.now c.call_lent.new.state) (Results c.in-Ok-call_lent.values.items)
    c.in-Ok-call_lent.ensures.answered c.requires.hosts

pub returns-in-Err-Trap-clause-came : goal.returns-in-Err-Trap-clause-came
returns-in-Err-Trap-clause-came g c = λ w wait. (
    let r = at_rest c.args.code.now c.args.state.now c.args.call.now in
    let f = c.in-Some-InHost.host in
    let is = rw c.in-Some-InHost.field-0-is at c.in-Some-InHost.ensures.found in
    let passed = c.deref-2.ensures.value ∙ (rw (c.as_slice-types.ensures, c.deref.ensures.value) at c.in-Ok.ensures) in
    rw c.in-Err-Trap.why-is (traps-there c.args.bound r w c.args.wanted.address c.args.wanted.behind f.number f.ty.now is type_of_host _
    (hosts_in c.args.hosts.now) (hosts_in c.call_lent.new.hosts) c.args.wanted.kind wait (store_with c.args.code.now c.call_lent.new.state)
    c.in-Err-Trap.why (rw (passed, c.in-Err-Trap.field-0-is) at c.in-Err-Trap.ensures.answered)))

pub returns-in-Err-Trap-clause-hosts : goal.returns-in-Err-Trap-clause-hosts
returns-in-Err-Trap-clause-hosts g c =
    ready-kept type_of_host _ (hosts_in c.args.hosts.now) (hosts_in c.call_lent.new.hosts) c.in-Some-InHost.host.number
    (first_memory (code_store c.args.code.now) c.args.call.now.position.instance) c.deref-2.result.now
    (store_with c.args.code.now c.args.state.now) (store_with c.args.code.now c.call_lent.new.state) (HostTrap c.in-Err-Trap.why)
    (rw c.in-Err-Trap.field-0-is at c.in-Err-Trap.ensures.answered) c.requires.hosts

pub returns-clause-came : goal.returns-clause-came
returns-clause-came g c = λ w wait. (
    let r = at_rest c.args.code.now c.args.state.now c.args.call.now in
    let f = c.in-Some-InHost.host in
    let is = rw c.in-Some-InHost.field-0-is at c.in-Some-InHost.ensures.found in
    let (hosts_same, store_same) = c.in-Err-Memory.ensures.unchanged (cc) in
    rw (hosts_same, store_same) (out-of-memory c.args.bound r w c.args.wanted.address c.args.wanted.behind f.number f.ty.now is type_of_host _
    (hosts_in c.args.hosts.now) (hosts_in c.args.hosts.now) c.args.wanted.kind wait))

pub index_mut-requires : goal.index_mut-requires
index_mut-requires g c =
    let (w, wait) = c.requires.waits in
    let within = inside wait.rests.world (machine_of (at_rest c.args.code.now c.args.state.now c.args.call.now)) w.ghost wait.rests.runs.runs in
    omega (arith, within, c.args.call.now.cells.ok)

pub frame_behind-frame-requires : goal.frame_behind-frame-requires
frame_behind-frame-requires g c = place-fits _ _ c.requires.waits.0.ghost c.requires.waits.1.rests.runs.runs

pub put_results-requires-clause-room : goal.put_results-requires-clause-room
put_results-requires-clause-room g c =
    let (w, wait) = c.requires.waits in
    let r = at_rest c.args.code.now c.args.state.now c.args.call.now in
    let f = c.in-Some-InHost.host in
    let is = rw c.in-Some-InHost.field-0-is at c.in-Some-InHost.ensures.found in
    let passed = c.deref-2.ensures.value ∙ (rw (c.as_slice-types.ensures, c.deref.ensures.value) at c.in-Ok.ensures) in
    let nested = subst (λ (kind : CallKind). WaitsForHost c.args.bound r w kind c.args.wanted.address c.args.wanted.behind) c.in-Nested.is wait in
    let fits = room-behind c.args.bound r w c.args.wanted.address c.args.wanted.behind f.number f.ty.now is type_of_host _ (hosts_in c.args.hosts.now)
    (hosts_in c.call_lent.new.hosts) c.requires.hosts c.call_lent.new.state c.in-Ok-call_lent.values.items
    (rw passed at c.in-Ok-call_lent.ensures.answered) nested in
    let params = ap (λ (ts : List ValType). length ts) c.as_slice-types.ensures in
    let many = ap (λ (vs : List Val). length vs) c.deref-in-Nested.ensures.value in
    let size = length-set c.args.call.now.cells.items c.args.call.now.position.top c.args.call.now.position.operand in
    omega (arith, fits, params, many, size)

pub returns-in-Nested-clause-came : goal.returns-in-Nested-clause-came
returns-in-Nested-clause-came g c = λ w wait. (
    let r = at_rest c.args.code.now c.args.state.now c.args.call.now in
    let f = c.in-Some-InHost.host in
    let is = rw c.in-Some-InHost.field-0-is at c.in-Some-InHost.ensures.found in
    let passed = c.deref-2.ensures.value ∙ (rw (c.as_slice-types.ensures, c.deref.ensures.value) at c.in-Ok.ensures) in
    let told = rw passed at c.in-Ok-call_lent.ensures.answered in
    let count = ap (λ (ts : List ValType). length ts) c.as_slice-types.ensures in
    let values = c.deref-in-Nested.ensures.value in
    let nested = subst (λ (kind : CallKind). WaitsForHost c.args.bound r w kind c.args.wanted.address c.args.wanted.behind) c.in-Nested.is wait in
    comes-behind c.args.bound r w c.args.wanted.address c.args.wanted.behind f.number f.ty.now is type_of_host _ (hosts_in c.args.hosts.now)
    (hosts_in c.call_lent.new.hosts) c.requires.hosts c.call_lent.new.state c.in-Ok-call_lent.values.items told nested c.put_results.new.call
    (c.put_results.ensures.cells ∙ ap (λ (n : ℕ). with_results (cells_held r) (c.args.wanted.behind - n) c.deref-in-Nested.result.now) count ∙ ap
    (with_results (cells_held r) (c.args.wanted.behind - length f.ty.now.params)) values)
    (c.put_results.ensures.position ∙ ap
    (λ (fr : Frame). position_answered fr c.args.call.now.position (c.args.wanted.behind - length c.as_slice-types.result.now)
    c.deref-in-Nested.result.now (cells_held r)) c.frame_behind-frame.ensures
    ∙ ap (λ (n : ℕ). position_answered (frame_waiting c.args.call.now.position) c.args.call.now.position (c.args.wanted.behind - n) c.deref-in-Nested.result.now (cells_held r)) count
    ∙ ap (λ (vs : List Val). position_answered (frame_waiting c.args.call.now.position) c.args.call.now.position (c.args.wanted.behind - length f.ty.now.params) vs (cells_held r)) values)
    c.put_results.ensures.callers)

pub returns-in-Nested-clause-hosts : goal.returns-in-Nested-clause-hosts
returns-in-Nested-clause-hosts g c =
    ready-kept type_of_host _ (hosts_in c.args.hosts.now) (hosts_in c.call_lent.new.hosts) c.in-Some-InHost.host.number
    (first_memory (code_store c.args.code.now) c.args.call.now.position.instance) c.deref-2.result.now
    (store_with c.args.code.now c.args.state.now) (store_with c.args.code.now c.call_lent.new.state) (Results c.in-Ok-call_lent.values.items)
    c.in-Ok-call_lent.ensures.answered c.requires.hosts

pub return_results-requires-clause-room : goal.return_results-requires-clause-room
return_results-requires-clause-room g c = λ frame others are. (
    let (w, wait) = c.requires.waits in
    let r = at_rest c.args.code.now c.args.state.now c.args.call.now in
    let f = c.in-Some-InHost.host in
    let is = rw c.in-Some-InHost.field-0-is at c.in-Some-InHost.ensures.found in
    let passed = c.deref-2.ensures.value ∙ (rw (c.as_slice-types.ensures, c.deref.ensures.value) at c.in-Ok.ensures) in
    let tail = subst (λ (kind : CallKind). WaitsForHost c.args.bound r w kind c.args.wanted.address c.args.wanted.behind) c.in-Tail.is wait in
    room-back-there c.args.bound r w c.args.wanted.address c.args.wanted.behind f.number f.ty.now is type_of_host _ (hosts_in c.args.hosts.now)
    (hosts_in c.call_lent.new.hosts) c.requires.hosts c.call_lent.new.state c.in-Ok-call_lent.values.items
    (rw passed at c.in-Ok-call_lent.ensures.answered) tail frame others are)

pub returns-in-Ok-call_lent-clause-came : goal.returns-in-Ok-call_lent-clause-came
returns-in-Ok-call_lent-clause-came g c = λ w wait. (
    let r = at_rest c.args.code.now c.args.state.now c.args.call.now in
    let f = c.in-Some-InHost.host in
    let is = rw c.in-Some-InHost.field-0-is at c.in-Some-InHost.ensures.found in
    let passed = c.deref-2.ensures.value ∙ (rw (c.as_slice-types.ensures, c.deref.ensures.value) at c.in-Ok.ensures) in
    let told = rw passed at c.in-Ok-call_lent.ensures.answered in
    let tail = subst (λ (kind : CallKind). WaitsForHost c.args.bound r w kind c.args.wanted.address c.args.wanted.behind) c.in-Tail.is wait in
    comes-or-ends (HostStep (λ vtable. (g.dyn-1.0.entry vtable).1)) c.args.bound r (hosts_in c.args.hosts.now) w _ _ c.return_results.result
    (IfOk-weaker c.return_results.result _ _ (λ done back. (
    let (frame, are, cells, position) = back in
    comes-back-there c.args.bound r w c.args.wanted.address c.args.wanted.behind f.number f.ty.now is type_of_host _ (hosts_in c.args.hosts.now)
    (hosts_in c.call_lent.new.hosts) c.requires.hosts c.call_lent.new.state c.in-Ok-call_lent.values.items told tail frame
    c.return_results.new.call.callers are c.return_results.new.call cells position refl)) c.return_results.ensures.back)
    (IfErr-weaker c.return_results.result _ _ (λ outcome over. (
    let (none, ending, left) = over in
    rw (ending, left) (ends-there c.args.bound r w c.args.wanted.address c.args.wanted.behind f.number f.ty.now is type_of_host _
    (hosts_in c.args.hosts.now) (hosts_in c.call_lent.new.hosts) c.requires.hosts c.call_lent.new.state c.in-Ok-call_lent.values.items told tail
    none))) c.return_results.ensures.over))
