use Rattle.std.proofs.Common.{[], ◌∷◌, refl}
use Rattle.core_types.specs.declared.types.OperandType.TheVariants.{Known}
use Rattle.meaning.proofs.lemmas.Typing.{AllFit-same}
use Rattle.validator.proofs.Steps.{type_steps}
use Rattle.validator.proofs.instructions.apply_unary.Goals as goal

pub returns-then-replace_one : goal.returns-then-replace_one
returns-then-replace_one c = λ lent o type.
    let (rest, takes, is) = c.if-replace_one.ensures.replaced in
    (type_steps o _ type refl refl takes (AllFit-same (Known c.args.takes ∷ [])) is, tt)

pub returns : goal.returns
returns c = λ lent o type. (rw c.if-replace_one.ensures.kept at c.apply_to_one.ensures) lent o type
