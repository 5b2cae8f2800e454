use Rattle.std.proofs.Common.{◌≡◌, ◌++◌, map, take}
use Rattle.core_types.specs.declared.module.Func.{Func}
use Rattle.sidetable.proofs.module_types.push_declared.Given as goal

abbrev pub invariant-loop-func : goal.invariant-loop-func
invariant-loop-func l =
    l.functions.items ≡ l.initial.functions.items ++ map (λ (f : Func). f.ty) (take l.func-index l.funcs)
