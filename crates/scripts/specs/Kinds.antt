-- The types of commands.
use Rattle.std.specs.Prelude.{ℕ, List, Bool, true, false, Option, Some, None, bytes_eq, codes, if◌then◌else◌}
use Rattle.scripts.specs.declared.kinds.Kind.{Kind}
use Rattle.scripts.specs.declared.kinds.Kind.TheVariants.{Module, Register, Action, AssertReturn, AssertTrap, AssertExhaustion, AssertInvalid, AssertMalformed, AssertUnlinkable, AssertUninstantiable}

-- The type of an assertion of this name.
abbrev pub assertion_named : (name : List ℕ) → Option Kind
assertion_named name =
    if bytes_eq name (codes "assert_return") then Some AssertReturn
    else (if bytes_eq name (codes "assert_trap") then Some AssertTrap
    else (if bytes_eq name (codes "assert_exhaustion") then Some AssertExhaustion
    else (if bytes_eq name (codes "assert_invalid") then Some AssertInvalid
    else (if bytes_eq name (codes "assert_malformed") then Some AssertMalformed
    else (if bytes_eq name (codes "assert_unlinkable") then Some AssertUnlinkable
    else (if bytes_eq name (codes "assert_uninstantiable") then Some AssertUninstantiable
    else None))))))

-- The type of this name.
abbrev pub kind_named : (name : List ℕ) → Option Kind
kind_named name =
    if bytes_eq name (codes "module") then Some Module
    else (if bytes_eq name (codes "register") then Some Register
    else (if bytes_eq name (codes "action") then Some Action
    else assertion_named name))

-- Commands of this type have an action.
abbrev pub has_action : Kind → Bool
has_action Action = true
has_action AssertReturn = true
has_action AssertTrap = true
has_action AssertExhaustion = true
has_action Module = false
has_action Register = false
has_action AssertInvalid = false
has_action AssertMalformed = false
has_action AssertUnlinkable = false
has_action AssertUninstantiable = false

-- Commands of this type have expected values.
abbrev pub has_expected : Kind → Bool
has_expected AssertReturn = true
has_expected Action = false
has_expected AssertTrap = false
has_expected AssertExhaustion = false
has_expected Module = false
has_expected Register = false
has_expected AssertInvalid = false
has_expected AssertMalformed = false
has_expected AssertUnlinkable = false
has_expected AssertUninstantiable = false
