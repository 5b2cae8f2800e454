use Rattle.subcommands.specs.Files.{IsNamedFile}
use Rattle.subcommands.proofs.NamedFiles.{file-more}
use Rattle.subcommands.proofs.script_files.add_beside.Goals as goal

pub returns-clause-read : goal.returns-clause-read
returns-clause-read g c =
    λ all. rw c.in_ok-push.ensures.items
    (file-more (IsNamedFile (g.F.Files.contents c.args.files.now) c.args.path.now) c.args.read.now.items c.in_ok-name.name c.in_ok-bytes.bytes all
    (rw c.in_ok-name.ensures.ok c.in_ok-bytes.ensures.read))
