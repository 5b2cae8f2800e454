use Rattle.std.proofs.Common.{◌∙◌}
use Rattle.validator.proofs.completeness.BlockEnds.{NeverCloses-refused, NeverCloses-over}
use Rattle.validator.proofs.instructions.control.blocks.finish.Goals as goal

pub returns-then-not-pop_types-clause-operands : goal.returns-then-not-pop_types-clause-operands
returns-then-not-pop_types-clause-operands c = (tt, λ invalid. NeverCloses-refused {old = c.args.stacks.now} c.if-not-pop_types.ensures)

pub returns-then-len-stacks-clause-operands : goal.returns-then-len-stacks-clause-operands
returns-then-len-stacks-clause-operands c = (
  tt,
  λ invalid.
      let (given, takes, fits) = c.if-not-pop_types.ensures in
      NeverCloses-over {old = c.args.stacks.now} takes fits (λ e. c.if-len-stacks.true (c.len.ensures ∙ e)),
)
