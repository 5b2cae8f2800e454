-- Faults that are passed on.
use Rattle.std.proofs.Common.{◌≡◌, Result, Err, sym, ◌∙◌}
use Rattle.messages.specs.declared.faults.ReadFault.{ReadFault}

-- A result has one fault.
pub same_fault : {T : Type 0} (r : Result T ReadFault) (f g : ReadFault) → r ≡ Err f → r ≡ Err g → f ≡ g
same_fault r f g p q = let e = sym p ∙ q in cc
