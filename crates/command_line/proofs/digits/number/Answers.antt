use Rattle.std.proofs.Common.{◌∙◌, sym, true≢false, arith}
use Rattle.std.proofs.lemmas.Str.Pattern.{starts_char}
use Rattle.command_line.proofs.Numerals.{no_plus, parsed}
use Rattle.command_line.proofs.digits.number.Goals as goal

pub returns-then-starts_with : goal.returns-then-starts_with
returns-then-starts_with c =
    let plus = (starts_char 43 c.args.text.now c.starts_with.result c.starts_with.ensures.cases (omega arith) (omega arith)).0 c.if-starts_with.true in
    λ read. no_plus c.args.text.now plus read.0

pub returns : goal.returns
returns c =
    let plus = starts_char 43 c.args.text.now c.starts_with.result c.starts_with.ensures.cases (omega arith) (omega arith) in
    rw c.ok.ensures.value (parsed c.args.text.now c.parse.result (λ is. true≢false (sym (plus.1 is) ∙ c.if-starts_with.false)) c.parse.ensures.value.0)
