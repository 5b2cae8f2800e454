use Rattle.std.proofs.Common.{sym, ◌∙◌}
use Rattle.binary.proofs.loops.DataNames.{not_noted, nothing_noted, notes_nothing, unnoted}
use Rattle.binary.proofs.sections.data_count.fits_count.Goals as goal

pub returns-in-None : goal.returns-in-None
returns-in-None c = rw c.in-None.is (
  λ none. nothing_noted c.args.decoded.now.funcs (sym c.requires ∙ unnoted c.args.data_named none),
  λ all. not_noted c.args.data_named (c.requires ∙ notes_nothing c.args.decoded.now.funcs all),
)
