-- What is noted of operations and functions that name data segments.
use Rattle.std.proofs.Common.{Bool, IsTrue, List, [], arith, false, not, refl, suc, true, zero, ◌++◌, ◌∷◌, ◌≡◌, ◌||◌, ◌∙◌}
use Rattle.std.specs.List.{All, list_any}
use Rattle.std.proofs.lemmas.Bool.{or_parts}
use Rattle.std.proofs.lemmas.List.Folds.{list_any-append, list_any_none}
use Rattle.core_types.specs.declared.module.Func.{Func}
use Rattle.core_types.specs.declared.op.Op.{Op}
use Rattle.meaning.specs.binary.Modules.{names_data}
use Rattle.binary.specs.Sections.{name_data}

-- Nothing more is noted.
pub or_none : (b : Bool) → (b || false) ≡ b
or_none true = refl
or_none false = refl

or_assoc : (a b c : Bool) → (a || b || c) ≡ (a || (b || c))
or_assoc true b c = refl
or_assoc false b c = refl

-- One more is noted.
pub noted_last : {X : Type 0} (p : X → Bool) (before noted now : Bool) (xs : List X) (x : X) → noted ≡ (before || list_any p xs) → now ≡ (noted || p x)
    → now ≡ (before || list_any p (xs ++ x ∷ []))
noted_last p before noted now xs x others last =
    last ∙ rw (others, list_any-append p xs (x ∷ []), or_none (p x)) (or_assoc before (list_any p xs) (p x))

all_false : {X : Type 0} (p : X → Bool) (xs : List X) → list_any p xs ≡ false → All (λ x. p x ≡ false) xs
all_false p [] none k d less = absurd (omega (arith, less))
all_false p (x ∷ xs) none zero d less = (or_parts (p x) (list_any p xs) none).0
all_false p (x ∷ xs) none (suc k) d less = all_false p xs (or_parts (p x) (list_any p xs) none).1 k d (omega (arith, less))

-- Nothing is noted if no function names a data segment, and only then.
pub nothing_noted : (funcs : List Func) → name_data funcs ≡ false → All (λ (f : Func). All (λ (op : Op). names_data op ≡ false) f.body) funcs
nothing_noted funcs none k d less = all_false names_data _ (all_false (λ (f : Func). list_any names_data f.body) funcs none k d less)

pub notes_nothing : (funcs : List Func) → All (λ (f : Func). All (λ (op : Op). names_data op ≡ false) f.body) funcs → name_data funcs ≡ false
notes_nothing funcs all = list_any_none (λ (f : Func). list_any names_data f.body) funcs (λ k d less. list_any_none names_data _ (all k d less))

pub unnoted : (noted : Bool) → IsTrue (not noted) → noted ≡ false
unnoted true is = absurd cc
unnoted false is = refl

pub not_noted : (noted : Bool) → noted ≡ false → IsTrue (not noted)
not_noted noted none = rw none refl
