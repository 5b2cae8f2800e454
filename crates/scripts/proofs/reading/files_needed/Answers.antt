use Rattle.std.proofs.Common.{◌∙◌, ◌++◌, List, [], ap, map, string_bytes}
use Rattle.std.proofs.lemmas.List.{take_all}
use Rattle.meaning.specs.scripts.Commands.{command_file, filenames, with_name}
use Rattle.scripts.specs.Views.{command_view}
use Rattle.scripts.specs.declared.script.ScriptCommand.{ScriptCommand}
use Rattle.scripts.proofs.lemmas.Lists.{filenames-next}
use Rattle.scripts.proofs.reading.files_needed.Goals as goal

pub loop-command-preserved : goal.loop-command-preserved
loop-command-preserved c =
    let names = map string_bytes c.loop-command.names.items in
    c.in_ok-add_filename.ensures ∙ ap (λ (k : ScriptCommand). names ++ with_name (command_file (command_view k)) []) c.command-item.is
    ∙ filenames-next command_view c.args.commands.now c.loop-command.command-index c.command-item.result names c.loop-command-test.true c.loop-command.invariant

pub returns : goal.returns
returns c = c.loop-command.invariant ∙ ap (λ (all : List ScriptCommand). filenames (map command_view all)) (take_all _ _ c.loop-command-test.false)
