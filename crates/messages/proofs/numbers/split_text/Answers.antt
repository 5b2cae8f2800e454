use Rattle.std.proofs.Common.{◌++◌, length, refl, sym, ap, ◌∙◌, subst, arith, append_assoc, length-append, take}
use Rattle.std.proofs.Math.Seq.{take-append_seam}
use Rattle.std.specs.Prelude.{IsUtf8}
use Rattle.messages.specs.Numbers.{number_bytes}
use Rattle.messages.proofs.Spellings.{number_is_long, same_text}
use Rattle.messages.proofs.numbers.split_text.Goals as goal

pub returns-in_err-count-clause-none : goal.returns-in_err-count-clause-none
returns-in_err-count-clause-none c _ text rest utf8 fits e =
    let long = number_is_long (length text) (text ++ rest) _ (sym (append_assoc (number_bytes (length text)) text rest) ∙ e) in
    omega (arith, c.in_err-count.ensures.none refl)

pub returns-then-count-behind-clause-none : goal.returns-then-count-behind-clause-none
returns-then-count-behind-clause-none c _ text rest utf8 fits e =
    let same = same_text c.in_ok-count.count _ text rest _ c.in_ok-count.ensures.fits fits c.in_ok-count.ensures.found e in
    omega (arith, same.0, ap length same.1, length-append text rest)

pub returns-in-Err-clause-none : goal.returns-in-Err-clause-none
returns-in-Err-clause-none c _ text rest utf8 fits e =
    let same = same_text c.in_ok-count.count _ text rest _ c.in_ok-count.ensures.fits fits c.in_ok-count.ensures.found e in
    let front = c.split_at.ensures.front ∙ ap (λ k. take k c.in_ok-count.behind.now) same.0 ∙ ap (take (length text)) same.1 ∙ take-append_seam text rest in
    c.in-Err.ensures.cases.0 (subst IsUtf8 (sym front) utf8)
