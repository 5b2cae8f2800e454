use Rattle.std.proofs.Common.{refl}
use Rattle.meaning.specs.embedding.Commands.{Ended}
use Rattle.exec.specs.Endings.{ending_of, run_state}
use Rattle.store.specs.Contents.{store_of}
use Rattle.embed.specs.Contents.{embedding_of}
use Rattle.embed.proofs.lemmas.Steps.{call-ended}
use Rattle.hostfunc.specs.Tables.{hosts_in}
use Rattle.embed.proofs.embedding.Embedding.call_function.Goals as goal

pub returns-clause-calls : goal.returns-clause-calls
returns-clause-calls g c =
    let state = run_state (store_of c.invoke.new.store) (hosts_in c.invoke.new.hosts) c.invoke.new.meter.left in
    call-ended _ (embedding_of c.args.self.now) state c.args.self.now.meter.bound c.in_ok-address.address c.args.args.now (ending_of c.invoke.result)
    (Ended (ending_of c.invoke.result)) _ c.in_ok-address.ensures c.args.self.now.bound (c.if-not-accepts.ensures.0 refl) c.invoke.ensures.run refl
