-- The result of reading a part of a command.
use Rattle.std.specs.Prelude.{◌≡◌, List, Option, Some, None, Result, Ok, Err, Vec}
use Rattle.std.specs.declared.alloc.Global.{Global}
use Rattle.scripts.specs.declared.unread.Unread.{Unread}
use Rattle.scripts.specs.declared.unread.Unread.TheVariants.{BadForm, OutOfMemory}

-- The part in the terms of the definitions. If it does not have its form, there is none.
abbrev pub Reads : {T V : Type 0} → (T → V) → Option V → Result T Unread → Type 0
Reads see there (Ok found) = there ≡ Some (see found)
Reads see there (Err BadForm) = there ≡ None
Reads see there (Err OutOfMemory) = Unit {0}

abbrev pub items_in : {T : Type 0} → Vec T Global → List T
items_in v = v.items
