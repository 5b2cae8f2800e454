use Rattle.core_types.specs.declared.types.ValType.TheVariants.{I32}
use Rattle.validator.proofs.Pops.{no_top, under_top}
use Rattle.validator.proofs.instructions.pop_under_i32.Goals as goal

pub returns-clause-operands : goal.returns-clause-operands
returns-clause-operands c =
    let (t, takes, fit) = c.if-not-pop_fitting.ensures in
    under_top c.args.stacks.now.innermost _ c.pop_types.result _ _ c.args.wanted.now I32 t takes fit c.pop_types.ensures

pub returns-then-not-pop_fitting-clause-operands : goal.returns-then-not-pop_fitting-clause-operands
returns-then-not-pop_fitting-clause-operands c = no_top c.args.stacks.now.innermost _ c.args.wanted.now I32 c.if-not-pop_fitting.ensures
