-- Functions are read as they are encoded.
use Rattle.std.proofs.Common.{List, [], ap, append_assoc, arith, cond, eqb, length, length-append, ltb, map, refl, replicate, subst, suc, sym, zero, ℕ, ◌++◌, ◌+◌, ◌<◌, ◌^◌, ◌∙◌, ◌∷◌, ◌≡◌}
use Rattle.std.specs.Prelude.{None, Some}
use Rattle.std.proofs.lemmas.Bool.{eq-eqb, eqb-true, lt-ltb, ltb-true}
use Rattle.std.proofs.lemmas.List.{append-nil, length-map, length-replicate}
use Rattle.core_types.specs.declared.module.Func.{Func}
use Rattle.core_types.specs.declared.op.Op.{Op}
use Rattle.core_types.specs.declared.types.ValType.{ValType}
use Rattle.meaning.specs.binary.Conventions.{Reads, SpellsEach}
use Rattle.meaning.specs.binary.Modules.{SpellsCode, SpellsFunctionContent, SpellsLocalGroup, SpellsLocals, types_of}
use Rattle.meaning.specs.binary.Values.{SpellsSized, SpellsUnsigned, SpellsVector}
use Rattle.core_types.specs.reading.Conventions.{◌>>=◌}
use Rattle.binary.specs.Expressions.{expression_at}
use Rattle.binary.specs.Sections.{code_at, codes_at, function_content_at, functions_at, groups_at, local_group_at, locals_at}
use Rattle.core_types.specs.reading.Values.{unsigned_at}
use Rattle.binary.proofs.exactness.Expressions.{expression_reader}
use Rattle.binary.proofs.exactness.Integers.{unsigned_reader}
use Rattle.binary.proofs.exactness.Readers.{IsReader, bind_some, both_complete, both_sound, found, found-injective, if_found, reads_as, whole_reader}
use Rattle.binary.proofs.exactness.Types.{val_type_reader}
use Rattle.binary.proofs.exactness.Values.{sized_reader}

-- ---- locals

abbrev group_of : ℕ → ValType → ℕ × ValType
group_of count ty = (count, ty)

local_group_reader : IsReader SpellsLocalGroup local_group_at
unfolding local_group_at
local_group_reader = record {
  sound = λ bytes rest group e.
      let (count, ty, reads, same) =
      both_sound group_of (unsigned_reader 32) val_type_reader bytes rest group e in
      rw (← same) (reads_as reads (λ text spelt. spelt));
  complete =
      λ text rest group spelt. both_complete group_of (unsigned_reader 32) val_type_reader text rest group.0 group.1 spelt;
}

-- what is read after other locals
record ReadsGroups (front : List ValType) (bytes : List ℕ) (locals : List ValType) (count : ℕ) (rest : List ℕ)
    : Type 0 where
  groups : List (ℕ × ValType)
  reads : Reads (SpellsEach SpellsLocalGroup) bytes groups rest
  all : locals ≡ front ++ types_of groups
  counted : length groups ≡ count
  few : length locals < 2 ^ 32

groups_sound : (count : ℕ) (front locals : List ValType) (bytes rest : List ℕ) → length front < 2 ^ 32
    → groups_at count front bytes ≡ Some (locals, rest) → ReadsGroups front bytes locals count rest
unfolding groups_at
groups_sound zero front locals bytes rest few e =
    let same = found-injective front locals bytes rest e in
    record {
      groups = [];
      reads = record { text = []; spelt = refl; parts = same.1 };
      all = sym same.0 ∙ sym (append-nil front);
      counted = refl;
      few = omega (arith, ap length same.0);
    }
groups_sound (suc count) front locals bytes rest few e =
    let group =
    bind_some (local_group_at bytes)
    (λ group. cond (ltb (length front + group.0.0) (2 ^ 32)) (groups_at count (front ++ replicate group.0.0 group.0.1) group.1) None)
    (locals, rest) e in
    let fits =
    if_found (ltb (length front + group.0.0.0) (2 ^ 32))
    (groups_at count (front ++ replicate group.0.0.0 group.0.0.1) group.0.1) (locals, rest) group.2 in
    let head = local_group_reader.sound bytes group.0.1 group.0.0 group.1 in
    let below : length (front ++ replicate group.0.0.0 group.0.0.1) < 2 ^ 32 =
    omega
    (arith, ltb-true _ _ fits.0, length-append front (replicate group.0.0.0 group.0.0.1), length-replicate group.0.0.0 group.0.0.1) in
    let others = groups_sound count (front ++ replicate group.0.0.0 group.0.0.1) locals group.0.1 rest below fits.1 in record {
      groups = group.0.0 ∷ others.groups;
      reads = record {
        text = head.text ++ others.reads.text;
        spelt = (head.text, others.reads.text, refl, head.spelt, others.reads.spelt);
        parts =
            head.parts ∙ ap (λ (z : List ℕ). head.text ++ z) others.reads.parts
            ∙ sym (append_assoc head.text others.reads.text rest);
      };
      all = others.all ∙ append_assoc front (replicate group.0.0.0 group.0.0.1) (types_of others.groups);
      counted = ap suc others.counted;
      few = others.few;
    }

groups_complete : (text rest : List ℕ) (front : List ValType) (groups : List (ℕ × ValType))
    → SpellsEach SpellsLocalGroup text groups → length (front ++ types_of groups) < 2 ^ 32
    → groups_at (length groups) front (text ++ rest) ≡ Some (front ++ types_of groups, rest)
unfolding groups_at
groups_complete text rest front [] e few =
    rw e (ap (λ (locals : List ValType). found locals rest) (sym (append-nil front)))
groups_complete text rest front (group ∷ groups) (first, others, parts, spelt, more) few =
    let regrouped : text ++ rest ≡ first ++ (others ++ rest) =
    ap (λ (z : List ℕ). z ++ rest) parts ∙ append_assoc first others rest in
    let joined = append_assoc front (replicate group.0 group.1) (types_of groups) in
    let fewer : length ((front ++ replicate group.0 group.1) ++ types_of groups) < 2 ^ 32 =
    omega (arith, ap length joined) in
    let below : length front + group.0 < 2 ^ 32 =
    omega (
      arith,
      fewer,
      length-append (front ++ replicate group.0 group.1) (types_of groups),
      length-append front (replicate group.0 group.1),
      length-replicate group.0 group.1,
    ) in
    ap (groups_at (suc (length groups)) front) regrouped
    ∙ rw (local_group_reader.complete first (others ++ rest) group spelt, lt-ltb _ _ below)
    (groups_complete others rest (front ++ replicate group.0 group.1) groups more fewer)
    ∙ ap (λ (locals : List ValType). found locals rest) joined

locals_reader : IsReader SpellsLocals locals_at
unfolding locals_at
locals_reader = record {
  sound = λ bytes rest locals e.
      let count = bind_some (unsigned_at 32 bytes) (λ count. groups_at count.0 [] count.1) (locals, rest) e in
      let first = (unsigned_reader 32).sound bytes count.0.1 count.0.0 count.1 in
      let others = groups_sound count.0.0 [] locals count.0.1 rest (omega arith) count.2 in record {
        text = first.text ++ others.reads.text;
        spelt = (
          others.groups,
          (first.text, others.reads.text, refl, subst (λ (n : ℕ). SpellsUnsigned 32 first.text n) (sym others.counted) first.spelt, others.reads.spelt),
          others.all,
          others.few,
        );
        parts =
            first.parts ∙ ap (λ (z : List ℕ). first.text ++ z) others.reads.parts
            ∙ sym (append_assoc first.text others.reads.text rest);
      };
  complete = λ text rest locals (groups, (size, content, parts, spelt, each), all, few).
      let regrouped : text ++ rest ≡ size ++ (content ++ rest) =
      ap (λ (z : List ℕ). z ++ rest) parts ∙ append_assoc size content rest in
      let fewer : length (types_of groups) < 2 ^ 32 = omega (arith, few, ap length all) in
      ap (λ (z : List ℕ). unsigned_at 32 z >>= λ count. groups_at count.0 [] count.1) regrouped
      ∙ rw ((unsigned_reader 32).complete size (content ++ rest) (length groups) spelt)
      (groups_complete content rest [] groups each fewer)
      ∙ ap (λ (ts : List ValType). found ts rest) (sym all);
}

-- ---- one function

-- The content of a function whose type has the index.
abbrev SpellsContentOf : ℕ → List ℕ → Func → Type 0
SpellsContentOf ty bytes f = SpellsFunctionContent bytes f × (f.ty ≡ ty)

abbrev func_of : ℕ → List ValType → List Op → Func
func_of ty locals body = record { ty = ty; locals = locals; body = body }

function_content_reader : (ty : ℕ) → IsReader (SpellsContentOf ty) (function_content_at expression_at ty)
unfolding function_content_at
function_content_reader ty = record {
  sound = λ bytes rest f e.
      let (locals, body, reads, same) =
      both_sound (func_of ty) locals_reader expression_reader bytes rest f e in
      rw (← same) (reads_as reads (λ text spelt. (spelt, refl)));
  complete = λ text rest f (spelt, same).
      both_complete (func_of ty) locals_reader expression_reader text rest f.locals f.body spelt
      ∙ ap (λ (index : ℕ). found (func_of index f.locals f.body) rest) (sym same);
}

code_reader : (ty : ℕ) → IsReader (SpellsSized (SpellsContentOf ty)) (code_at expression_at ty)
unfolding code_at
code_reader ty =
    sized_reader (SpellsContentOf ty) (function_content_at expression_at ty)
    (whole_reader (SpellsContentOf ty) (function_content_at expression_at ty) (function_content_reader ty))

-- ---- one function for each index

abbrev pub type_indices : List Func → List ℕ
type_indices funcs = map (λ (f : Func). f.ty) funcs

-- what is read after other functions
record ReadsCodes (front : List Func) (bytes : List ℕ) (funcs : List Func) (types : List ℕ) (rest : List ℕ) : Type 0 where
  more : List Func
  reads : Reads (SpellsEach SpellsCode) bytes more rest
  all : funcs ≡ front ++ more
  indices : type_indices more ≡ types

codes_sound : (types : List ℕ) (front funcs : List Func) (bytes rest : List ℕ)
    → codes_at expression_at types front bytes ≡ Some (funcs, rest) → ReadsCodes front bytes funcs types rest
unfolding codes_at
codes_sound [] front funcs bytes rest e =
    let same = found-injective front funcs bytes rest e in
    record {
      more = [];
      reads = record { text = []; spelt = refl; parts = same.1 };
      all = sym same.0 ∙ sym (append-nil front);
      indices = refl;
    }
codes_sound (ty ∷ types) front funcs bytes rest e =
    let first = bind_some (code_at expression_at ty bytes) (λ f. codes_at expression_at types (front ++ f.0 ∷ []) f.1) (funcs, rest) e in
    let head = (code_reader ty).sound bytes first.0.1 first.0.0 first.1 in
    let (size, content, parts, counted, (spelt, index)) = head.spelt in
    let others = codes_sound types (front ++ first.0.0 ∷ []) funcs first.0.1 rest first.2 in record {
      more = first.0.0 ∷ others.more;
      reads = record {
        text = head.text ++ others.reads.text;
        spelt =
            (head.text, others.reads.text, refl, (size, content, parts, counted, spelt), others.reads.spelt);
        parts =
            head.parts ∙ ap (λ (z : List ℕ). head.text ++ z) others.reads.parts
            ∙ sym (append_assoc head.text others.reads.text rest);
      };
      all = others.all ∙ append_assoc front (first.0.0 ∷ []) others.more;
      indices =
          ap (λ (i : ℕ). i ∷ type_indices others.more) index ∙ ap (λ (is : List ℕ). ty ∷ is) others.indices;
    }

codes_complete : (text rest : List ℕ) (front funcs : List Func) → SpellsEach SpellsCode text funcs
    → codes_at expression_at (type_indices funcs) front (text ++ rest) ≡ Some (front ++ funcs, rest)
unfolding codes_at
codes_complete text rest front [] e =
    rw e (ap (λ (funcs : List Func). found funcs rest) (sym (append-nil front)))
codes_complete text rest front (f ∷ funcs) (first, others, parts, (size, content, within, counted, spelt), more) =
    let regrouped : text ++ rest ≡ first ++ (others ++ rest) =
    ap (λ (z : List ℕ). z ++ rest) parts ∙ append_assoc first others rest in
    ap (codes_at expression_at (type_indices (f ∷ funcs)) front) regrouped
    ∙ rw ((code_reader f.ty).complete first (others ++ rest) f (size, content, within, counted, (spelt, refl)))
    (codes_complete others rest (front ++ f ∷ []) funcs more)
    ∙ ap (λ (all : List Func). found all rest) (append_assoc front (f ∷ []) funcs)

-- One function for each index of a type.
abbrev pub SpellsFunctionsOf : List ℕ → List ℕ → List Func → Type 0
SpellsFunctionsOf types bytes funcs = SpellsVector SpellsCode bytes funcs × (type_indices funcs ≡ types)

pub functions_reader : (types : List ℕ) → IsReader (SpellsFunctionsOf types) (functions_at expression_at types)
unfolding functions_at
functions_reader types = record {
  sound = λ bytes rest funcs e.
      let count =
      bind_some (unsigned_at 32 bytes)
      (λ count. cond (eqb count.0 (length types)) (codes_at expression_at types [] count.1) None) (funcs, rest) e in
      let equal = if_found (eqb count.0.0 (length types)) (codes_at expression_at types [] count.0.1) (funcs, rest) count.2 in
      let first = (unsigned_reader 32).sound bytes count.0.1 count.0.0 count.1 in
      let others = codes_sound types [] funcs count.0.1 rest equal.1 in
      let indices : type_indices funcs ≡ types = ap type_indices others.all ∙ others.indices in
      let counted : count.0.0 ≡ length funcs =
      eqb-true _ _ equal.0 ∙ ap length (sym indices) ∙ length-map funcs (λ (f : Func). f.ty) in
      let size = subst (λ (n : ℕ). SpellsUnsigned 32 first.text n) counted first.spelt in
      let each = subst (λ (fs : List Func). SpellsEach SpellsCode others.reads.text fs) (sym others.all) others.reads.spelt in record {
        text = first.text ++ others.reads.text;
        spelt =
            ((first.text, others.reads.text, refl, size, each), indices);
        parts =
            first.parts ∙ ap (λ (z : List ℕ). first.text ++ z) others.reads.parts
            ∙ sym (append_assoc first.text others.reads.text rest);
      };
  complete = λ text rest funcs ((size, content, parts, spelt, each), indices).
      let regrouped : text ++ rest ≡ size ++ (content ++ rest) =
      ap (λ (z : List ℕ). z ++ rest) parts ∙ append_assoc size content rest in
      let counted : length funcs ≡ length types =
      sym (length-map funcs (λ (f : Func). f.ty)) ∙ ap length indices in
      ap
      (λ (z : List ℕ). unsigned_at 32 z >>= λ count. cond (eqb count.0 (length types)) (codes_at expression_at types [] count.1) None) regrouped
      ∙ rw
      ((unsigned_reader 32).complete size (content ++ rest) (length funcs) spelt, eq-eqb _ _ counted, ← indices)
      (codes_complete content rest [] funcs each);
}
