use Rattle.std.proofs.Common.{[], ◌∷◌, refl}
use Rattle.meaning.specs.embedding.Commands.{Call}
use Rattle.soundness.proofs.Objects.{All-first, All-none}
use Rattle.isolation.specs.Apart.{GivesNothing, RefersToNone}
use Rattle.isolation.specs.Commands.{Asks}
use Rattle.embed.specs.Isolation.{KeepsNothing}
use Rattle.examples.proofs.Further.{still-strangers}
use Rattle.examples.proofs.strangers.call_plugin.Goals as goal

pub returns-clause-strangers : goal.returns-clause-strangers
returns-clause-strangers g c = still-strangers (λ vtable. (g.dyn-1.0.entry vtable).1) (Call c.args.plugin.0 c.args.export.now []) _
    c.requires.strangers tt (All-none RefersToNone) c.call.ensures.applied

pub returns-clause-same : goal.returns-clause-same
returns-clause-same g c other fuel question replies differ inside =
    let were = c.requires.strangers in
    c.isolated.ensures.answers were.setup were.commands (Call other question [] ∷ []) were.replies replies _ _ other fuel
    (Call c.args.plugin.0 c.args.export.now []) _ (All-none (KeepsNothing (λ vtable. (g.dyn-1.0.entry vtable).1)))
    were.come were.nothing inside c.call.ensures.applied (All-none RefersToNone) differ
    (All-first (Asks other) (Call other question []) [] refl (All-none (Asks other)))
    (All-first GivesNothing (Call other question []) [] (All-none RefersToNone) (All-none GivesNothing))
