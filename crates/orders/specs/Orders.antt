-- Orders to a server of an embedding, and how messages encode them. The encoding is specific to this project.
use Rattle.std.specs.Prelude.{◌≡◌, ◌⊎◌, ℕ, List, [], ◌++◌, ◌<◌, ◌^◌, length, IsUtf8, All}
use Rattle.core_types.specs.declared.types.FuncType.{FuncType}
use Rattle.meaning.specs.embedding.Commands.{Command, Load, Link, Register, Call, GetGlobal, SetFuel}
use Rattle.meaning.specs.embedding.Machine.{Setup}
use Rattle.messages.specs.Numbers.{number_bytes, text_bytes}
use Rattle.messages.specs.Types.{types_bytes}
use Rattle.messages.specs.Values.{HasItsWidth, values_bytes}

pub data Order : Type 0 where
  End : Order
  -- a command to the embedding
  Apply : (command : Command) → Order
  FuelLeft : Order
  Exports : (instance : ℕ) → Order
  -- to add a file to those of the next script
  File : (name bytes : List ℕ) → Order
  RunScript : (text : List ℕ) → Order
  -- to define a host function under the name of a module and a name in it
  Define : (first second : List ℕ) (signature : FuncType) → Order
  -- to create the embedding
  Begin : (setup : Setup) → Order
  -- to return the type of one export
  NamedExport : (instance : ℕ) (name : List ℕ) → Order
  -- to give the embedding that is created next a quota of that many bytes
  Quota : (bytes : ℕ) → Order
  QuotaLeft : Order
  ModuleImports : (number : ℕ) → Order
  ModuleExports : (number : ℕ) → Order
  -- to explain why the order before was refused
  Explain : Order

-- The kind of an order's message.
abbrev pub kind_of : Order → ℕ
kind_of End = 0
kind_of (Apply (Load bytes)) = 1
kind_of (Apply (Link number)) = 2
kind_of (Apply (Register number name)) = 3
kind_of (Apply (Call number name arguments)) = 4
kind_of (Apply (GetGlobal number name)) = 5
kind_of (Apply (SetFuel fuel)) = 6
kind_of FuelLeft = 7
kind_of (Exports instance) = 8
kind_of (File name bytes) = 9
kind_of (RunScript text) = 10
kind_of (Define first second signature) = 11
kind_of (Begin setup) = 12
kind_of (NamedExport instance name) = 13
kind_of (Quota bytes) = 14
kind_of QuotaLeft = 15
kind_of (ModuleImports number) = 16
kind_of (ModuleExports number) = 17
kind_of Explain = 18

-- The fields of an order's message.
abbrev pub fields_of : Order → List ℕ
fields_of End = []
fields_of (Apply (Load bytes)) = bytes
fields_of (Apply (Link number)) = number_bytes number
fields_of (Apply (Register number name)) = number_bytes number ++ name
fields_of (Apply (Call number name arguments)) =
    number_bytes number ++ (text_bytes name ++ values_bytes arguments)
fields_of (Apply (GetGlobal number name)) = number_bytes number ++ name
fields_of (Apply (SetFuel fuel)) = number_bytes fuel
fields_of FuelLeft = []
fields_of (Exports instance) = number_bytes instance
fields_of (File name bytes) = text_bytes name ++ bytes
fields_of (RunScript text) = text
fields_of (Define first second signature) =
    text_bytes first ++ (text_bytes second
    ++ (types_bytes signature.params ++ types_bytes signature.results))
fields_of (Begin setup) =
    number_bytes setup.fuel ++ (number_bytes setup.depth
    ++ (number_bytes setup.pages ++ number_bytes setup.entries))
fields_of (NamedExport instance name) = number_bytes instance ++ name
fields_of (Quota bytes) = number_bytes bytes
fields_of QuotaLeft = []
fields_of (ModuleImports number) = number_bytes number
fields_of (ModuleExports number) = number_bytes number
fields_of Explain = []

-- A call has values, and a definition has types. All other orders are read in place.
abbrev pub HasLists : (kind : ℕ) → Type 0
HasLists kind = (kind ≡ 4) ⊎ (kind ≡ 11)

-- A name is in UTF-8, and its length is a number of 64 bits.
abbrev pub IsName : List ℕ → Type 0
IsName name = IsUtf8 name × (length name < 2 ^ 64)

abbrev pub IsEncodableCommand : Command → Type 0
IsEncodableCommand (Load bytes) = Unit {0}
IsEncodableCommand (Link number) = number < 2 ^ 64
IsEncodableCommand (Register number name) = (number < 2 ^ 64) × IsUtf8 name
IsEncodableCommand (Call number name arguments) =
    (number < 2 ^ 64) × IsName name × All HasItsWidth arguments
IsEncodableCommand (GetGlobal number name) = (number < 2 ^ 64) × IsUtf8 name
IsEncodableCommand (SetFuel fuel) = fuel < 2 ^ 64

-- Its names are in UTF-8, its values have the widths of their types, and its numbers have 64 bits.
abbrev pub IsEncodable : Order → Type 0
IsEncodable End = Unit {0}
IsEncodable (Apply command) = IsEncodableCommand command
IsEncodable FuelLeft = Unit {0}
IsEncodable (Exports instance) = instance < 2 ^ 64
IsEncodable (File name bytes) = IsName name
IsEncodable (RunScript text) = Unit {0}
IsEncodable (Define first second signature) = IsName first × IsName second
    × (length signature.params < 2 ^ 64) × (length signature.results < 2 ^ 64)
IsEncodable (Begin setup) = (setup.fuel < 2 ^ 64) × (setup.depth < 2 ^ 64) × (setup.pages < 2 ^ 64)
    × (setup.entries < 2 ^ 64)
IsEncodable (NamedExport instance name) = (instance < 2 ^ 64) × IsUtf8 name
IsEncodable (Quota bytes) = bytes < 2 ^ 64
IsEncodable QuotaLeft = Unit {0}
IsEncodable (ModuleImports number) = number < 2 ^ 64
IsEncodable (ModuleExports number) = number < 2 ^ 64
IsEncodable Explain = Unit {0}
