-- What a table of host functions holds.
use Rattle.std.specs.Prelude.{List}
use Rattle.hostfunc.specs.declared.host_object.HostObject.{HostObject}
use Rattle.hostfunc.specs.declared.host_table.HostTable.{HostTable}

-- Its host functions, in the order of their numbers.
abbrev pub hosts_in : {I : Type 0} {F : I → Type 0} → HostTable I F → List (HostObject I F)
hosts_in table = table.objects.items
