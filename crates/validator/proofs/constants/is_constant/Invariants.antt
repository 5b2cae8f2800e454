use Rattle.validator.proofs.Expressions.{IsJudgedFrom}
use Rattle.validator.proofs.constants.is_constant.Given as goal

abbrev pub invariant-loop-k : goal.invariant-loop-k
invariant-loop-k l = IsJudgedFrom l.context l.wanted l.ops l.height l.k
