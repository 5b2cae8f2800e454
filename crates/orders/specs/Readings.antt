-- What is read, as an order.
use Rattle.meaning.specs.embedding.Commands as command
use Rattle.orders.specs.Orders as order
use Rattle.orders.specs.declared.order.Order.{Order}
use Rattle.orders.specs.declared.order.Order.TheVariants.{End, Load, Link, Register, Call, GetGlobal, SetFuel, FuelLeft, Exports, File, RunScript, Define, Begin, NamedExport, Quota, QuotaLeft, ModuleImports, ModuleExports, Explain}

abbrev pub order_of : Order → order.Order
order_of End = order.End
order_of (Load bytes) = order.Apply (command.Load bytes.now)
order_of (Link number) = order.Apply (command.Link number)
order_of (Register number name) = order.Apply (command.Register number name.now)
order_of (Call number name arguments) =
    order.Apply (command.Call number name.now arguments.items)
order_of (GetGlobal number name) = order.Apply (command.GetGlobal number name.now)
order_of (SetFuel fuel) = order.Apply (command.SetFuel fuel)
order_of FuelLeft = order.FuelLeft
order_of (Exports instance) = order.Exports instance
order_of (File name bytes) = order.File name.now bytes.now
order_of (RunScript text) = order.RunScript text.now
order_of (Define first second signature) = order.Define first.now second.now signature
order_of (Begin fuel depth pages entries) = order.Begin (record {
  fuel = fuel;
  depth = depth;
  pages = pages;
  entries = entries;
})
order_of (NamedExport instance name) = order.NamedExport instance name.now
order_of (Quota bytes) = order.Quota bytes
order_of QuotaLeft = order.QuotaLeft
order_of (ModuleImports number) = order.ModuleImports number
order_of (ModuleExports number) = order.ModuleExports number
order_of Explain = order.Explain
