-- The function of a module that a store finds, and its flat code.
use Rattle.std.proofs.Common.{◌≡◌, ℕ, ◌+◌, List, [], ◌++◌, length, Option, Some, slice_get, ap, ap₂, ◌∙◌}
use Rattle.std.specs.Prelude.{unwrap_or}
use Rattle.core_types.specs.declared.types.FuncType.{FuncType}
use Rattle.meaning.specs.structure.Bodies.{writing}
use Rattle.meaning.specs.execution.Modules.{code_of}
use Rattle.meaning.specs.validation.Modules.{type_at}
use Rattle.meaning.specs.validation.Types.{function_type}
use Rattle.sidetable.specs.Counts.{Signatures}
use Rattle.sidetable.specs.Flat.{FlatOp, function_greatest, function_operations}
use Rattle.sidetable.specs.FlatModules.{IsFlat, operations_of}
use Rattle.simulation.specs.Laws.{BeginsAt}
use Rattle.store.specs.Contents.{Contents, HasContextTypes, IsLoaded, callee_function, functions_in, signatures_of_instance}
use Rattle.store.specs.declared.instances.Callee.TheVariants as callee
use Rattle.store.specs.declared.instances.Instance.{Instance}
use Rattle.store.specs.declared.instances.ModuleFunction.{ModuleFunction}

-- The flat code is that of the body, by its type.
pub record HasFlatBody (s : Signatures) (ops : List FlatOp) (f : ModuleFunction) : Type 0 where
  pub begins : BeginsAt s ops (length f.ty.now.params + length f.func.now.locals) (length f.ty.now.results) f.flat.now.place (code_of f.func.now).body
  pub greatest : f.flat.now.greatest ≡ function_greatest s (length f.ty.now.params + length f.func.now.locals) (length f.ty.now.results) (code_of f.func.now).body
  pub params : f.flat.now.params ≡ length f.ty.now.params
  pub locals : f.flat.now.locals ≡ length f.ty.now.params + length f.func.now.locals

pub flat-body : (s : Signatures) (ops : List FlatOp) (f : ModuleFunction) → IsFlat s ops f.func.now f.flat.now → slice_get s.types f.func.now.ty
    ≡ Some f.ty.now → f.func.now.body ≡ writing (code_of f.func.now).body → HasFlatBody s ops f
flat-body s ops f is declared written =
    let type_is : type_at s.types f.func.now.ty ≡ f.ty.now = ap (λ (o : Option FuncType). unwrap_or o (function_type [] [])) declared in
    let b = is.flat (code_of f.func.now).body written in
    let locals : f.flat.now.locals ≡ length f.ty.now.params + length f.func.now.locals = is.locals ∙ ap (λ (t : FuncType). length t.params + length f.func.now.locals) type_is in
    let results : f.flat.now.results ≡ length f.ty.now.results = is.results ∙ ap (λ (t : FuncType). length t.results) type_is in record {
      begins = (b.more, b.placed ∙ ap₂ (λ (n k : ℕ). function_operations s n k f.flat.now.place (code_of f.func.now).body ++ b.more) locals results);
      greatest = b.greatest ∙ ap₂ (λ (n k : ℕ). function_greatest s n k (code_of f.func.now).body) locals results;
      params = is.params ∙ ap (λ (t : FuncType). length t.params) type_is;
      locals = locals;
    }

-- The function is at an address, in an instance whose module has this flat code.
pub record IsAtAddress (code : Contents) (address : ℕ) (f : ModuleFunction) : Type 0 where
  pub found : slice_get (functions_in code) address ≡ Some (callee_function (callee.InModule f))
  pub instance : Instance
  pub loaded : IsLoaded code f.instance instance
  pub flat : HasFlatBody (signatures_of_instance (slice_get code.instances f.instance)) (operations_of instance.loaded.value.flat) f
  pub types : HasContextTypes code (callee.InModule f)
