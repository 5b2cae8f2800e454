use Rattle.std.proofs.Common.{◌++◌, ap, ◌∙◌, arith, append_assoc, length-append}
use Rattle.messages.specs.Numbers.{number_bytes}
use Rattle.messages.proofs.Spellings.{front_is_all, length-number_bytes}
use Rattle.messages.proofs.streams.head_of.Goals as goal

pub returns : goal.returns
returns c =
    let size = number_bytes c.in_ok-size.size in
    let kind = number_bytes c.in_ok-kind.kind in
    let whole = append_assoc size kind _ ∙ ap (λ rest. size ++ rest) c.in_ok-kind.ensures.found ∙ c.in_ok-size.ensures.found in
    front_is_all (size ++ kind) _ _ whole
    (omega (arith, length-append size kind, length-number_bytes c.in_ok-size.size, length-number_bytes c.in_ok-kind.kind))
