use Rattle.std.proofs.Common.{◌≡◌, take}
use Rattle.std.specs.Prelude.{Some}
use Rattle.core_types.specs.declared.module.Import.{Import}
use Rattle.meaning.specs.embedding.Machine.{resolve_imports}
use Rattle.meaning.specs.embedding.Names.{resolve_name}
use Rattle.store.specs.Contents.{store_of}
use Rattle.meaning.proofs.lemmas.Lists.{SoFar}
use Rattle.embed.proofs.imports.resolve_imports.Given as goal

abbrev pub invariant-loop-k : goal.invariant-loop-k
invariant-loop-k l = record {
  so_far : SoFar (λ (i : Import). resolve_name (store_of l.store) l.names i.module_name i.name) l.imports l.k l.externs.items;
  before : resolve_imports (store_of l.store) l.names (take l.k l.imports) ≡ Some l.externs.items;
}
