use Rattle.std.proofs.lemmas.Result.{IfOk-weaker}
use Rattle.scripts.specs.Runs.{files_view}
use Rattle.subcommands.proofs.performing.run_script_in_file.Goals as goal

pub returns : goal.returns
returns g c =
    IfOk-weaker c.run_over_files.result _ _ (λ report ran. record {
      script = c.in_ok-script.script;
      read = c.in_ok-script.ensures.read;
      files = files_view c.in_ok-named.named.items;
      named = rw c.in_ok-script.ensures.kept at c.in_ok-named.ensures.read;
      ran = ran;
    }) (rw c.as_slice.ensures.value at c.run_over_files.ensures)
