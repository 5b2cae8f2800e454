-- The functions of a module: their types, and their flat code in order.
use Rattle.std.proofs.Common.{◌≡◌, ℕ, ◌+◌, ◌-◌, ◌<◌, ◌≤◌, List, [], ◌∷◌, ◌++◌, length, drop, get_or, refl, ap, sym, arith, length-append, length-drop, append_assoc, subst, ◌∙◌}
use Rattle.std.proofs.Math.Seq.{drop-append_seam}
use Rattle.std.proofs.lemmas.List.{append-nil, drop-append-le, length-map, map-append}
use Rattle.std.proofs.lemmas.List.Elements.{All-append, All-cons, All-nil}
use Rattle.std.specs.List.{All}
use Rattle.std.specs.Prelude.{Some}
use Rattle.std.proofs.lemmas.Option.{slice_get-get_or}
use Rattle.core_types.specs.declared.module.Func.{Func}
use Rattle.core_types.specs.declared.types.FuncType.{FuncType}
use Rattle.core_types.specs.declared.module.Import.{Import}
use Rattle.core_types.specs.declared.module.ImportDesc.{ImportDesc}
use Rattle.core_types.specs.declared.module.ImportDesc.TheVariants as import
use Rattle.meaning.specs.structure.Bodies.{Body}
use Rattle.meaning.specs.validation.Modules.{imported_functions, type_at}
use Rattle.sidetable.specs.Counts.{Signatures}
use Rattle.sidetable.specs.Flat.{FlatOp, Leave, flat, function_entry, function_operations}
use Rattle.sidetable.specs.FlatModules.{AreFlat, AreWithin, IsFlat, IsFlatBody, operations_of}
use Rattle.sidetable.specs.Flattening.{ArePushed, IsMade, IsPushed}
use Rattle.sidetable.specs.Packing.{IsWithin, made, unpacked}
use Rattle.sidetable.specs.SideTables.{Continues, SideTables}
use Rattle.sidetable.specs.declared.flat_module.FlatModule.{FlatModule}
use Rattle.sidetable.specs.declared.flat_module.PackedFunction.{PackedFunction}
use Rattle.sidetable.specs.declared.flattening.Flattening.{Flattening}
use Rattle.sidetable.specs.declared.operations.PackedOp.{PackedOp}
use Rattle.sidetable.specs.declared.operations.PackedOp.TheVariants as packed

-- The functions of some imports, followed by those of others.
pub imported-append : (is js : List Import) → imported_functions (is ++ js) ≡ imported_functions is ++ imported_functions js
imported-append [] js = refl
imported-append (i ∷ is) js = first i.desc (imported_functions (is ++ js)) (imported_functions is) (imported_functions js) (imported-append is js)
  where
    first : (d : ImportDesc) (xs ys zs : List ℕ) → xs ≡ ys ++ zs
        → elim d [ import.Func x ↦ x ∷ xs | import.Table t ↦ xs | import.Memory l ↦ xs | import.Global g ↦ xs ]
        ≡ (elim d [ import.Func x ↦ x ∷ ys | import.Table t ↦ ys | import.Memory l ↦ ys | import.Global g ↦ ys ]) ++ zs
    first (import.Func x) xs ys zs e = ap (λ (l : List ℕ). x ∷ l) e
    first (import.Table t) xs ys zs e = e
    first (import.Memory l) xs ys zs e = e
    first (import.Global g) xs ys zs e = e

-- ---- operations after others

inside : (n : ℕ) (xs front more : List FlatOp) (o : FlatOp) → drop n xs ≡ (front ++ (o ∷ [])) ++ more → n ≤ length xs
inside n xs front more o e =
    let sizes : length xs - n ≡ length (front ++ (o ∷ [])) + length more = sym (length-drop n xs) ∙ ap length e ∙ length-append (front ++ (o ∷ [])) more in
    omega (arith, sizes, length-append front (o ∷ []))

module _ (s : Signatures) (old new : List FlatOp) (continues : Continues old new) where
  -- What begins at a place begins there even if more operations follow.
  flat-continued : (f : Func) (p : PackedFunction) → IsFlat s old f p → IsFlat s new f p
  flat-continued f p is = record {
    flat = λ body e.
        let b = is.flat body e in record {
          more = b.more ++ continues.0;
          placed = ap (drop p.place) continues.1 ∙ drop-append-le p.place old continues.0 (inside p.place old _ b.more _ b.placed) ∙ ap
              (λ (os : List FlatOp). os ++ continues.0) b.placed ∙ append_assoc _ b.more continues.0;
          greatest = b.greatest;
        };
    params = is.params;
    locals = is.locals;
    results = is.results;
  }

  pub all-continued : (fs : List Func) (ps : List PackedFunction) → AreFlat s old fs ps → AreFlat s new fs ps
  all-continued [] [] are = tt {0}
  all-continued [] (p ∷ ps) are = absurd are
  all-continued (f ∷ fs) [] are = absurd are
  all-continued (f ∷ fs) (p ∷ ps) are = (flat-continued f p are.0, all-continued fs ps are.1)

-- One more function.
pub flat-more : (s : Signatures) (ops : List FlatOp) (fs : List Func) (ps : List PackedFunction) (f : Func) (p : PackedFunction) → AreFlat s ops fs ps
    → IsFlat s ops f p → AreFlat s ops (fs ++ (f ∷ [])) (ps ++ (p ∷ []))
flat-more s ops [] [] f p are is = (is, tt {0})
flat-more s ops [] (q ∷ ps) f p are is = absurd are
flat-more s ops (g ∷ fs) [] f p are is = absurd are
flat-more s ops (g ∷ fs) (q ∷ ps) f p are is = (are.0, flat-more s ops fs ps f p are.1 is)

pub all-more : (s : Signatures) (fs : List Func) (old new : FlatModule) (f : Func) → ArePushed s fs old → IsPushed s old f new → ArePushed s (fs ++ (f ∷ [])) new
all-more s fs old new f all one = record {
  within = one.within;
  few = one.few;
  functions = subst (AreFlat s (operations_of new) (fs ++ (f ∷ []))) (sym one.functions)
      (flat-more s (operations_of new) fs old.functions.items f one.packed (all-continued s (operations_of old) (operations_of new) one.operations fs old.functions.items all.functions) one.flat);
}

-- ---- a function that was flattened

-- Its operations begin where those before end.
pub placed-behind : (s : Signatures) (before : List PackedOp) (tables : SideTables) (p : PackedFunction) (body : Body) (b : Flattening)
    (m : FlatModule) → IsMade s before tables p.locals p.results body b p.greatest → p.place ≡ length before
    → m.operations.items ≡ b.operations.items ++ (packed.Leave p.results ∷ []) → m.tables ≡ b.tables
    → (operations_of m ≡ made tables before ++ function_operations s p.locals p.results p.place body) × IsFlatBody s (operations_of m) p body
placed-behind s before tables p body b m made_so place_is ops_are tables_are = (whole, record { more = []; placed = there; greatest = made_so.height })
  where
    code : List FlatOp
    code = flat s (function_entry p.locals p.results p.place body) (function_entry p.locals p.results p.place body ∷ []) (Some p.locals) p.place body

    made_is : made b.tables b.operations.items ≡ made tables before ++ code
    made_is = rw place_is made_so.operations

    whole : operations_of m ≡ made tables before ++ function_operations s p.locals p.results p.place body
    whole = rw (ops_are, tables_are)
        (map-append (unpacked b.tables) b.operations.items (packed.Leave p.results ∷ []) ∙ ap (λ (os : List FlatOp). os ++ (Leave p.results ∷ []))
        made_is ∙ append_assoc (made tables before) code (Leave p.results ∷ []))

    at : p.place ≡ length (made tables before)
    at = place_is ∙ sym (length-map before (unpacked tables))

    there : drop p.place (operations_of m) ≡ function_operations s p.locals p.results p.place body ++ []
    there = ap (drop p.place) whole ∙ ap (λ (n : ℕ). drop n (made tables before ++ function_operations s p.locals p.results p.place body)) at ∙
        drop-append_seam (made tables before) (function_operations s p.locals p.results p.place body)
        ∙ sym (append-nil (function_operations s p.locals p.results p.place body))

-- What it names by number exists.
pub within-behind : (m : FlatModule) (b : Flattening) (results : ℕ) → All (IsWithin b.tables) b.operations.items → m.operations.items
    ≡ b.operations.items ++ (packed.Leave results ∷ []) → m.tables ≡ b.tables → AreWithin m
within-behind m b results within ops_are tables_are =
    rw (ops_are, tables_are) (All-append (IsWithin b.tables) b.operations.items (packed.Leave results ∷ []) within
    (All-cons (IsWithin b.tables) (packed.Leave results) [] (tt {0}) (All-nil (IsWithin b.tables))))

-- ---- types

-- The type that is read at an index.
pub type-found : (types : List FuncType) (x : ℕ) (t : FuncType) → x < length types → t ≡ get_or types x t → type_at types x ≡ t
type-found types x t inside is = rw (slice_get-get_or types x t inside) (sym is)
