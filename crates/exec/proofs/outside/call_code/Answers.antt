use Rattle.std.proofs.Common.{arith, sym, ◌∙◌}
use Rattle.hostfunc.specs.Boxes.{HostStep}
use Rattle.hostfunc.specs.Tables.{hosts_in}
use Rattle.exec.specs.Starting.{address_in}
use Rattle.exec.proofs.Invoking.{begun-runs, lacks-first, too-deep}
use Rattle.exec.proofs.outside.call_code.Goals as goal

pub returns-then-depth-eq0 : goal.returns-then-depth-eq0
returns-then-depth-eq0 g c = record {
  run = λ address takes.
      too-deep (HostStep (λ vtable. (g.dyn-1.0.entry vtable).1)) (hosts_in c.args.hosts.now) c.args.depth c.args.fuel.now
      (address_in c.args.code.now c.args.state.now address) c.args.function.now c.args.args.now takes (omega arith);
}

pub returns-in_default : goal.returns-in_default
returns-in_default g c = record {
  run = λ address takes.
      lacks-first (HostStep (λ vtable. (g.dyn-1.0.entry vtable).1)) (hosts_in c.args.hosts.now) c.args.depth c.args.fuel.now
      (address_in c.args.code.now c.args.state.now address) c.args.function.now c.args.args.now takes (omega arith);
}

pub returns-in_default-borrow : goal.returns-in_default-borrow
returns-in_default-borrow g c = rw c.borrow.ensures
    (record {
      run = λ address takes.
          lacks-first (HostStep (λ vtable. (g.dyn-1.0.entry vtable).1)) (hosts_in c.args.hosts.now) c.args.depth c.args.fuel.now
          (address_in c.args.code.now c.args.state.now address) c.args.function.now c.args.args.now takes (omega arith);
    })

pub returns-in_default-begin : goal.returns-in_default-begin
returns-in_default-begin g c = rw c.borrow.ensures
    (record {
      run = λ address takes.
          lacks-first (HostStep (λ vtable. (g.dyn-1.0.entry vtable).1)) (hosts_in c.args.hosts.now) c.args.depth c.args.fuel.now
          (address_in c.args.code.now c.args.state.now address) c.args.function.now c.args.args.now takes (omega arith);
    })

pub run_to_end-outcome-requires-clause-rests : goal.run_to_end-outcome-requires-clause-rests
run_to_end-outcome-requires-clause-rests g c =
    let (address, takes) = c.requires.takes in
    let b = c.in-Ok-begin.ensures.begins (address_in c.args.code.now c.args.state.now address) takes c.from-bound.result (omega arith) in
    rw c.borrow.ensures (b.new, (b.rests, b.results ∙ sym c.as_slice-types.ensures))

pub returns : goal.returns
returns g c = record {
  run = λ address takes. (
      let b = c.in-Ok-begin.ensures.begins (address_in c.args.code.now c.args.state.now address) takes c.from-bound.result (omega arith) in
      let ran = rw c.borrow.ensures at c.run_to_end-outcome.ensures.run in
      begun-runs (HostStep (λ vtable. (g.dyn-1.0.entry vtable).1)) (hosts_in c.args.hosts.now) c.args.depth c.args.fuel.now
      (address_in c.args.code.now c.args.state.now address) c.args.function.now c.args.args.now takes c.from-bound.result c.from-bound.ensures
      c.in-Ok-begin.call b _ _ (ran b.new (b.rests, b.results ∙ sym c.as_slice-types.ensures)));
}
