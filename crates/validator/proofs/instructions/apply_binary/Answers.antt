use Rattle.std.proofs.Common.{[], ◌∷◌, refl}
use Rattle.core_types.specs.declared.types.OperandType.TheVariants.{Known}
use Rattle.meaning.proofs.lemmas.Typing.{AllFit-same}
use Rattle.validator.proofs.Steps.{type_steps}
use Rattle.validator.proofs.instructions.apply_binary.Goals as goal

pub returns-then-replace_two : goal.returns-then-replace_two
returns-then-replace_two c = λ lent o type.
    let (rest, takes, is) = c.if-replace_two.ensures.replaced in
    (type_steps o _ type refl refl takes (AllFit-same (Known c.args.takes ∷ Known c.args.takes ∷ [])) is, tt)

pub returns : goal.returns
returns c = λ lent o type. (rw c.if-replace_two.ensures.kept at c.apply_to_two.ensures) lent o type
