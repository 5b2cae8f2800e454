use Rattle.std.proofs.lemmas.Result.{IfOk-weaker}
use Rattle.subcommands.proofs.Paths.{cut, uncut}
use Rattle.subcommands.proofs.script_files.path_beside.Goals as goal

pub returns-in-Some : goal.returns-in-Some
returns-in-Some c =
    let parts = rw c.in-Some.is at c.rsplit_once.ensures.cases in
    IfOk-weaker c.format.result _ _ (λ beside is. cut c.args.path.now c.args.filename.now _ _ _ parts is) c.format.ensures.ok

pub returns-in-None : goal.returns-in-None
returns-in-None c =
    let none = rw c.in-None.is at c.rsplit_once.ensures.cases in
    IfOk-weaker c.from_str.result _ _ (λ beside is. uncut c.args.path.now c.args.filename.now _ none is) c.from_str.ensures.ok
