use Rattle.std.proofs.Common.{sym}
use Rattle.embed.specs.Contents.{embedding_of}
use Rattle.meaning.specs.scripts.Commands.{files_in}
use Rattle.scripts.specs.Conversations.{here}
use Rattle.scripts.specs.Runs.{files_view}
use Rattle.scripts.proofs.lemmas.Whole.{runs-broken, runs-held}
use Rattle.scripts.proofs.running.run_script.Goals as goal

pub returns-in_err-kept : goal.returns-in_err-kept
returns-in_err-kept g c =
    runs-broken _ c.args.script.now (files_in (files_view c.args.files.now)) c.from_residual.result (embedding_of c.args.embedding.now) (embedding_of c.args.embedding.now)
    c.from_residual.ensures.1 (λ fault is. is) here

pub returns : goal.returns
returns g c =
    let held = rw (c.commands-2.ensures, c.in_ok-kept.ensures, c.fuel-fuel.ensures, c.config.ensures) at c.run_commands.ensures in
    let none = rw (c.commands.ensures, c.in_ok-kept.ensures) at c.in_default.ensures in
    runs-held _ c.args.script.now (files_in (files_view c.args.files.now)) c.run_commands.result (embedding_of c.args.embedding.now) _ (sym none) held
