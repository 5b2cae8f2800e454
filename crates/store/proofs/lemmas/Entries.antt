-- The entries of an instance's functions, one by one.
use Rattle.std.proofs.Common.{◌≡◌, ℕ, ◌+◌, List, [], ◌∷◌, ◌++◌, ap, sym, ◌∙◌, append_assoc, arith}
use Rattle.std.proofs.lemmas.List.{map-append}
use Rattle.store.specs.declared.instances.FunctionInstance.{FunctionInstance}
use Rattle.store.specs.declared.instances.FunctionInstance.TheVariants.{InModule}
use Rattle.meaning.specs.execution.Modules.{consecutive}
use Rattle.store.specs.Contents.{entries_of}
use Rattle.store.proofs.lemmas.Positions.{consecutive-next}

pub entries-next : (instance k : ℕ) (before so_far after : List FunctionInstance) → so_far ≡ before ++ entries_of instance (consecutive 0 k) → after
    ≡ so_far ++ InModule instance k ∷ [] → after ≡ before ++ entries_of instance (consecutive 0 (k + 1))
entries-next instance k before so_far after had pushed =
    let entry : ℕ → FunctionInstance = λ n. InModule instance n in
    let start : 0 + k ≡ k = omega arith in
    let all : entries_of instance (consecutive 0 (k + 1))
    ≡ entries_of instance (consecutive 0 k) ++ entry k ∷ [] = ap (entries_of instance) (sym (consecutive-next 0 k)) ∙ map-append entry
    (consecutive 0 k) ((0 + k) ∷ []) ∙ ap (λ (n : ℕ). entries_of instance (consecutive 0 k) ++ entry n ∷ []) start in
    pushed ∙ ap (λ (fs : List FunctionInstance). fs ++ entry k ∷ []) had ∙ append_assoc before (entries_of instance (consecutive 0 k)) (entry k ∷ [])
    ∙ ap (λ (fs : List FunctionInstance). before ++ fs) (sym all)
