use Rattle.std.proofs.Common.{◌++◌, length, refl, sym, ◌∙◌, arith, append_assoc}
use Rattle.std.specs.Prelude.{flat_map}
use Rattle.core_types.specs.declared.types.ValType.{ValType}
use Rattle.messages.specs.Types.{number_of, type_bytes}
use Rattle.messages.proofs.Spellings.{length-number_bytes, next_item, number_is_long, same_number}
use Rattle.messages.proofs.types.split_types.Goals as goal

pub returns-in_default-clause-not_spelt : goal.returns-in_default-clause-not_spelt
returns-in_default-clause-not_spelt c _ types rest fits e =
    let long = number_is_long (length types) (flat_map type_bytes types ++ rest) _ (sym (append_assoc _ (flat_map type_bytes types) rest) ∙ e) in
    omega (arith, c.in_default.ensures.none refl)

pub returns-in_default-split_type-clause-not_spelt : goal.returns-in_default-split_type-clause-not_spelt
returns-in_default-split_type-clause-not_spelt c _ types rest fits e =
    let same = same_number c.in-Some.count (length types) _ (flat_map type_bytes types ++ rest) c.in-Some.ensures.fits fits
    (c.in-Some.ensures.found ∙ sym e ∙ append_assoc _ (flat_map type_bytes types) rest) in
    let next = next_item (λ (_ : ValType). Unit {0}) type_bytes 7 (λ ty. length-number_bytes (number_of ty)) c.loop-i.types.items types _ rest
    (λ _ _ _. tt) (omega (arith, same.0)) (c.loop-i.invariant.read ∙ same.1) in
    c.in_default-split_type.ensures.none refl next.0 next.1 next.3
