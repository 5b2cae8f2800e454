use Rattle.std.proofs.Common.{[]}
use Rattle.hostfunc.specs.Boxes.{type_of_host}
use Rattle.hostfunc.specs.Tables.{hosts_in}
use Rattle.exec.proofs.Invoking.{host-lacks, host-results, host-traps-alone}
use Rattle.exec.proofs.outside.call_host_alone.Goals as goal

pub returns-in-Ok : goal.returns-in-Ok
returns-in-Ok g c = record {
  run = λ store bound fuel address t is typed.
      rw c.from_vec.ensures (host-results type_of_host _ store (hosts_in c.args.hosts.now) (hosts_in c.call.new.self) c.args.number c.args.args.now
      c.call.new.memory bound fuel address t is typed c.in-Ok.values.items c.in-Ok.ensures.answered);
}

pub returns-in-Err-Trap : goal.returns-in-Err-Trap
returns-in-Err-Trap g c = record {
  run = λ store bound fuel address t is typed.
      host-traps-alone type_of_host _ store (hosts_in c.args.hosts.now) (hosts_in c.call.new.self) c.args.number c.args.args.now c.call.new.memory
      bound fuel address t is typed c.in-Err-Trap.why (rw c.in-Err-Trap.field-0-is at c.in-Err-Trap.ensures.answered);
}

pub returns-in-Err-Memory : goal.returns-in-Err-Memory
returns-in-Err-Memory g c = record {
  run = λ store bound fuel address t is typed. (
      let same = (c.in-Err-Memory.ensures.unchanged (cc)).0 in
      rw same (host-lacks type_of_host _ store (hosts_in c.args.hosts.now) (hosts_in c.args.hosts.now) c.args.number c.args.args.now [] bound fuel address t is typed));
}
