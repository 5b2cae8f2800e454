use Rattle.std.proofs.Common.{◌∙◌, ap}
use Rattle.std.proofs.lemmas.List.{take_all}
use Rattle.meaning.specs.scripts.Commands.{files_in}
use Rattle.scripts.specs.FileMaps.{with_file}
use Rattle.scripts.specs.Runs.{files_view}
use Rattle.scripts.proofs.lemmas.Names.{files-next}
use Rattle.scripts.proofs.file_maps.files_by_name.Goals as goal

pub loop-k-preserved : goal.loop-k-preserved
loop-k-preserved c =
    c.in_ok-add_file.ensures ∙ (λ j. with_file (c.loop-k.invariant j) (c.as_str.ensures.value j) (c.as_slice.ensures.value j))
    ∙ files-next c.args.files.now c.loop-k.k c.index-files-k.result c.loop-k-test.true c.index-files-k.is

pub returns : goal.returns
returns c = c.loop-k.invariant ∙ ap (λ files. files_in (files_view files)) (take_all _ _ c.loop-k-test.false)
