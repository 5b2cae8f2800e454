use Rattle.std.proofs.Common.{◌∙◌, ap, sym}
use Rattle.meaning.specs.scripts.Commands.{command_file, is_there}
use Rattle.scripts.specs.FileMaps.{files_kept}
use Rattle.scripts.specs.Views.{command_view}
use Rattle.scripts.specs.declared.script.ScriptCommand.{ScriptCommand}
use Rattle.scripts.proofs.lemmas.Lists.{missing-end, missing-here, missing-next}
use Rattle.scripts.proofs.file_maps.missing.Goals as goal

pub returns-then-not-has_its_file : goal.returns-then-not-has_its_file
returns-then-not-has_its_file c =
    let there = λ (k : ScriptCommand). is_there (files_kept c.args.files.now) (command_file (command_view k)) in
    sym (missing-here command_view c.args.commands.now (files_kept c.args.files.now) c.loop-k.k c.index-commands-k.result c.loop-k-test.true c.loop-k.invariant
    (ap there (sym c.index-commands-k.is) ∙ sym c.if-not-has_its_file.ensures))

pub loop-k-preserved : goal.loop-k-preserved
loop-k-preserved c =
    let there = λ (k : ScriptCommand). is_there (files_kept c.args.files.now) (command_file (command_view k)) in
    missing-next command_view c.args.commands.now (files_kept c.args.files.now) c.loop-k.k c.index-commands-k.result c.loop-k-test.true c.loop-k.invariant
    (ap there (sym c.index-commands-k.is) ∙ sym c.if-not-has_its_file.ensures)

pub returns : goal.returns
returns c = sym (missing-end command_view c.args.commands.now (files_kept c.args.files.now) c.loop-k.k c.loop-k-test.false c.loop-k.invariant)
