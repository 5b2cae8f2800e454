use Rattle.std.proofs.Common.{[]}
use Rattle.meaning.specs.execution.Configurations.{Invoking}
use Rattle.meaning.specs.execution.Runs.{none}
use Rattle.soundness.proofs.Runs.{waiting-stuck}
use Rattle.store.specs.Contents.{store_of}
use Rattle.instantiate.proofs.lemmas.Starts.{start-refused}
use Rattle.exec.specs.Endings.{run_state}
use Rattle.meaning.specs.execution.Configurations.{no_frame}
use Rattle.instantiate.proofs.lemmas.Tasks.{called}
use Rattle.hostfunc.specs.Tables.{hosts_in}
use Rattle.instantiate.proofs.tasks.call_start.Goals as goal

pub returns-then-not-accepts-clause-run : goal.returns-then-not-accepts-clause-run
returns-then-not-accepts-clause-run g c = record {
  ends = record {
    at = run_state (store_of c.args.store.now) (hosts_in c.args.hosts.now) c.args.meter.now.left;
    reached = Invoking [] c.args.address;
    steps = none;
    stuck = waiting-stuck (start-refused (store_of c.args.store.now) c.args.address (λ takes. absurd (let no = c.if-not-accepts.ensures.1 takes in cc)));
  };
  no_values = tt;
}

pub returns-clause-run : goal.returns-clause-run
returns-clause-run g c =
    called _ c.end_of.result c.invoke.result c.args.meter.now.bound no_frame
    (run_state (store_of c.args.store.now) (hosts_in c.args.hosts.now) c.args.meter.now.left)
    (run_state (store_of c.invoke.new.store) (hosts_in c.invoke.new.hosts) c.invoke.new.meter.left) (Invoking [] c.args.address) c.end_of.ensures
    c.invoke.ensures.run
