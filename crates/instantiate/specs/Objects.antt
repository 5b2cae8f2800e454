-- Why the objects of a module were not created.
use Rattle.std.specs.Prelude.{◌≡◌, Option, None, Result, Ok, Err}
use Rattle.instantiate.specs.declared.objects.ObjectFault.{ObjectFault}
use Rattle.instantiate.specs.declared.objects.ObjectFault.TheVariants.{NoValue, Memory}

-- If the cause is a missing value, then there is none.
abbrev pub OnNoValue : {T X : Type 0} → Result T ObjectFault → Option X → Type 0
OnNoValue (Ok found) wanted = Unit {0}
OnNoValue (Err NoValue) wanted = wanted ≡ None
OnNoValue (Err Memory) wanted = Unit {0}
