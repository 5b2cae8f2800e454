-- The region of all addresses, in which everything is.
use Rattle.std.proofs.Common.{List, [], ◌∷◌, Some, None}
use Rattle.core_types.specs.declared.outcome.Extern.{Extern}
use Rattle.core_types.specs.declared.outcome.Extern.TheVariants as value
use Rattle.core_types.specs.declared.outcome.Val.{Val}
use Rattle.core_types.specs.declared.outcome.Val.TheVariants.{I32, I64, FuncRef, ExternRef}
use Rattle.meaning.specs.execution.Store.{Implementation, InCode, InHost, Store}
use Rattle.isolation.specs.Regions.{ExternIsWithin, ExternsAreWithin, ImplementationIsWithin}
use Rattle.isolation.specs.Regions.{IsClosed, Region, ValueIsWithin, ValuesAreWithin}

abbrev pub everything : Region
everything = record {
  functions = λ address. Unit {0};
  instances = λ address. Unit {0};
  tables = λ address. Unit {0};
  memories = λ address. Unit {0};
  globals = λ address. Unit {0};
  elements = λ address. Unit {0};
  datas = λ address. Unit {0};
  hosts = λ number. Unit {0};
}

pub any-value : (v : Val) → ValueIsWithin everything v
any-value (I32 n) = tt
any-value (I64 n) = tt
any-value (FuncRef None) = tt
any-value (FuncRef (Some address)) = tt
any-value (ExternRef x) = tt

pub any-values : (vs : List Val) → ValuesAreWithin everything vs
any-values [] = tt
any-values (v ∷ vs) = (any-value v, any-values vs)

pub any-implementation : (i : Implementation) → ImplementationIsWithin everything i
any-implementation (InCode instance code) = tt
any-implementation (InHost number) = tt

pub any-extern : (e : Extern) → ExternIsWithin everything e
any-extern (value.Func x) = tt
any-extern (value.Table x) = tt
any-extern (value.Memory x) = tt
any-extern (value.Global x) = tt

pub any-externs : (given : List Extern) → ExternsAreWithin everything given
any-externs [] = tt
any-externs (e ∷ given) = (any-extern e, any-externs given)

pub any-store : (store : Store) → IsClosed everything store
any-store store = record {
  functions = λ address f has is. any-implementation f.implementation;
  instances = λ address i has is. record {
    functions = λ k d inside. tt;
    tables = λ k d inside. tt;
    memories = λ k d inside. tt;
    globals = λ k d inside. tt;
    elements = λ k d inside. tt;
    datas = λ k d inside. tt;
  };
  tables = λ address t has is. any-values t.entries;
  globals = λ address g has is. any-value g.value;
  elements = λ address e has is. any-values e.references;
}
