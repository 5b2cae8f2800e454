use Rattle.std.proofs.Common.{◌∙◌, sym}
use Rattle.scripts.proofs.lemmas.Numbers.{parsed-below}
use Rattle.scripts.proofs.numbers.short_number.Goals as goal

pub returns : goal.returns
returns c = c.ok.ensures.value ∙ parsed-below 32 c.args.text.now c.parse.result (sym c.if-not-is_digits.ensures) c.parse.ensures.value.0
