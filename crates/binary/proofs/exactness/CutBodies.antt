-- A module whose bodies were cut out is the one that the bytes encode, if its bodies are expressions.
use Rattle.std.proofs.Common.{Bool, List, [], ap, append_assoc, arith, cond, drop, eqb, false, get_or, length, length-append, refl, subst, suc, sym, take, true, zero, ℕ, ◌++◌, ◌+◌, ◌-◌, ◌<◌, ◌∙◌, ◌∷◌, ◌≡◌}
use Rattle.std.specs.Prelude.{None, Option, Some}
use Rattle.std.proofs.lemmas.Bool.{eqb-true}
use Rattle.std.proofs.lemmas.List.{append-nil, drop_all, drop_more, get_or_at, take-append-drop}
use Rattle.core_types.specs.declared.module.Func.{Func}
use Rattle.core_types.specs.declared.module.Module.{Module}
use Rattle.core_types.specs.declared.op.Op.{Op}
use Rattle.core_types.specs.declared.types.ValType.{ValType}
use Rattle.core_types.specs.reading.Bodies.{each_op_at, operations_in, operations_of, or_stray_else}
use Rattle.core_types.specs.reading.Conventions.{Reading, mapped_at, ◌>>=◌}
use Rattle.core_types.specs.reading.Instructions.{op_at}
use Rattle.core_types.specs.reading.Values.{begins_with, expected_at, unsigned_at}
use Rattle.meaning.proofs.lemmas.Writings.{never_stray}
use Rattle.meaning.specs.structure.Bodies.{Body, writing}
use Rattle.binary.specs.Bodies.{HaveBodies}
use Rattle.binary.specs.Expressions.{expression_at}
use Rattle.binary.specs.Modules.{contents_at, contents_of, count_of, definitions_at, definitions_of, header, module_at, module_of, sections_at, then_at}
use Rattle.binary.specs.Sections.{after_customs, code_at, code_section_at, codes_at, cut_body_at, element_at, export_at, function_content_at, functions_at, global_at, import_at, locals_at, section_at, value_section_at, vector_section_at}
use Rattle.binary.specs.Types.{func_type_at, limits_at, table_type_at}
use Rattle.binary.specs.Values.{part_at, sized_at}
use Rattle.binary.proofs.exactness.Expressions.{SpellsOps, body_of_ops, expression_reader}
use Rattle.binary.proofs.exactness.Readers.{bind_some, found, found-injective, if_found, if_some}
use Rattle.binary.proofs.exactness.instructions.Operations.{op_reader}

-- ---- one body

no_ops : (ops : List Op) → Some [] ≡ Some ops → SpellsOps [] ops
no_ops [] e = refl
no_ops (op ∷ ops) e = absurd cc

-- What is read, operation by operation, is encoded.
each_sound : (steps : ℕ) (bytes : List ℕ) (ops : List Op) → each_op_at steps bytes ≡ Some ops → SpellsOps bytes ops
unfolding each_op_at
each_sound zero [] ops e = no_ops ops e
each_sound (suc steps) [] ops e = no_ops ops e
each_sound zero (byte ∷ bytes) ops e = absurd cc
each_sound (suc steps) (byte ∷ bytes) ops e =
    let first = bind_some (op_at (byte ∷ bytes)) (λ (op : Op × List ℕ). each_op_at steps op.1 >>= λ (rest : List Op). Some (op.0 ∷ rest)) ops e in
    let others = bind_some (each_op_at steps first.0.1) (λ (rest : List Op). Some (first.0.0 ∷ rest)) ops first.2 in
    let reads = op_reader.sound (byte ∷ bytes) first.0.1 first.0.0 first.1 in
    let spelt : SpellsOps (byte ∷ bytes) (first.0.0 ∷ others.0) = (reads.text, first.0.1, reads.parts, reads.spelt, each_sound steps first.0.1 others.0 others.1) in
    let same : (first.0.0 ∷ others.0) ≡ ops = cc in
    subst (λ (z : List Op). SpellsOps (byte ∷ bytes) z) same spelt

operations_sound : (bytes : List ℕ) (ops : List Op) → operations_in bytes ≡ Some ops → SpellsOps bytes ops
unfolding operations_in
operations_sound bytes ops e = each_sound (length bytes) bytes ops e

-- Bytes that are seen as a body encode it.
encodes_body : (bytes : List ℕ) (ops : List Op) (body : Body) → operations_of bytes ≡ ops → ops ≡ writing body → operations_in bytes ≡ Some ops
unfolding operations_of
encodes_body bytes ops body is written = by_case (operations_in bytes) refl is
  where
    by_case : (there : Option (List Op)) → operations_in bytes ≡ there → or_stray_else there ≡ ops → operations_in bytes ≡ Some ops
    by_case None e stray = absurd (never_stray body (stray ∙ written))
    by_case (Some there) e same = e ∙ ap (λ (z : List Op). Some z) same

before_last : (bytes : List ℕ) → get_or bytes (length bytes - 1) 0 ≡ 0x0B → bytes ≡ take (length bytes - 1) bytes ++ 0x0B ∷ []
before_last [] e = absurd cc
before_last (byte ∷ bytes) e =
    let all : List ℕ = byte ∷ bytes in
    let last : drop (length all - 1) all ≡ 0x0B ∷ [] =
    drop_more all (length all - 1) 0 (omega arith) ∙ (λ i. e i ∷ drop_all (length all - 1 + 1) all (omega arith) i) in
    sym (take-append-drop (length all - 1) all) ∙ ap (λ (z : List ℕ). take (length all - 1) all ++ z) last

abbrev IsBody : List Op → Type 0
IsBody ops = (body : Body) × (ops ≡ writing body)

-- For these values, whatever is read in one way is read in the other, too.
abbrev Agree : {V : Type 0} → (V → Type 0) → Reading V → Reading V → Type 0
Agree {V} Fine read other = (bytes rest : List ℕ) (v : V) → Fine v → read bytes ≡ Some (v, rest) → other bytes ≡ Some (v, rest)

cut_agrees : Agree IsBody cut_body_at expression_at
unfolding cut_body_at
cut_agrees bytes rest ops (body, written) e =
    let text = take (length bytes - 1) bytes in
    let cut = if_some (eqb (get_or bytes (length bytes - 1) 0) 0x0B) (operations_of text, []) (ops, rest) e in
    let is : operations_of text ≡ ops = ap (λ (p : List Op × List ℕ). p.0) cut.1 in
    let none : [] ≡ rest = ap (λ (p : List Op × List ℕ). p.1) cut.1 in
    let parts = before_last bytes (eqb-true _ _ cut.0) in
    let spelt = body_of_ops body text (subst (λ (z : List Op). SpellsOps text z) written (operations_sound text ops (encodes_body text ops body is written))) in
    ap expression_at (parts ∙ sym (append-nil (text ++ 0x0B ∷ [])))
    ∙ expression_reader.complete (text ++ 0x0B ∷ []) [] ops (body, (text, refl, spelt), written)
    ∙ ap (λ (z : List ℕ). found ops z) none

-- ---- ways to combine readings

mapped_agree : {A B : Type 0} (Fine : B → Type 0) (into : A → B) (read other : Reading A) → Agree (λ (a : A). Fine (into a)) read other
    → Agree Fine (mapped_at into read) (mapped_at into other)
mapped_agree Fine into read other agree bytes rest v fine e =
    let value = bind_some (read bytes) (λ a. found (into a.0) a.1) (v, rest) e in
    let same = found-injective (into value.0.0) v value.0.1 rest value.2 in
    rw (agree bytes value.0.1 value.0.0 (subst Fine (sym same.0) fine) value.1) value.2

module _ {A B : Type 0} (Fine : A × B → Type 0) where
  second_agree : (read : Reading A) (next other : A → Reading B) → ((a : A) → Agree (λ (b : B). Fine (a, b)) (next a) (other a))
      → Agree Fine (then_at read next) (then_at read other)
  second_agree read next other agree bytes rest v fine e =
      let first = bind_some (read bytes) (λ a. next a.0 a.1 >>= λ b. found (a.0, b.0) b.1) (v, rest) e in
      let second = bind_some (next first.0.0 first.0.1) (λ b. found (first.0.0, b.0) b.1) (v, rest) first.2 in
      let same = found-injective (first.0.0, second.0.0) v second.0.1 rest second.2 in
      rw (first.1, agree first.0.0 first.0.1 second.0.1 second.0.0 (subst Fine (sym same.0) fine) second.1) second.2

  first_agree : (FineFirst : A → Type 0) (read other : Reading A) (next : A → Reading B) → ((v : A × B) → Fine v → FineFirst v.0)
      → Agree FineFirst read other → Agree Fine (then_at read next) (then_at other next)
  first_agree FineFirst read other next first_fine agree bytes rest v fine e =
      let first = bind_some (read bytes) (λ a. next a.0 a.1 >>= λ b. found (a.0, b.0) b.1) (v, rest) e in
      let second = bind_some (next first.0.0 first.0.1) (λ b. found (first.0.0, b.0) b.1) (v, rest) first.2 in
      let same = found-injective (first.0.0, second.0.0) v second.0.1 rest second.2 in
      rw (agree bytes first.0.1 first.0.0 (first_fine (first.0.0, second.0.0) (subst Fine (sym same.0) fine)) first.1) first.2

module _ {V : Type 0} (Fine : V → Type 0) (read other : Reading V) (agree : Agree Fine read other) where
  sized_agree : Agree Fine (sized_at read) (sized_at other)
  unfolding sized_at
  sized_agree bytes rest v fine e =
      let part = bind_some (part_at bytes) (λ part. read part.0 >>= λ content. cond (eqb (length content.1) 0) (found content.0 part.1) None) (v, rest) e in
      let content = bind_some (read part.0.0) (λ content. cond (eqb (length content.1) 0) (found content.0 part.0.1) None) (v, rest) part.2 in
      let whole = if_some (eqb (length content.0.1) 0) (content.0.0, part.0.1) (v, rest) content.2 in
      let same : content.0.0 ≡ v = ap (λ (p : V × List ℕ). p.0) whole.1 in
      rw (part.1, agree part.0.0 content.0.1 content.0.0 (subst Fine (sym same) fine) content.1) content.2

  section_agree : (id : ℕ) (absent : Option V) → Agree Fine (section_at id read absent) (section_at id other absent)
  unfolding section_at
  section_agree id absent bytes rest v fine e =
      let customs =
      bind_some (after_customs bytes)
      (λ customs. cond (begins_with id customs.1) (sized_at read (drop 1 customs.1)) (absent >>= λ v. found v customs.1)) (v, rest) e in
      rw customs.1 (by_case (begins_with id customs.0.1) (absent >>= λ v. found v customs.0.1) (drop 1 customs.0.1) customs.2)
    where
      by_case : (begins : Bool) (none : Option (V × List ℕ)) (behind : List ℕ) → cond begins (sized_at read behind) none ≡ found v rest
          → cond begins (sized_at other behind) none ≡ found v rest
      by_case true none behind is = sized_agree behind rest v fine is
      by_case false none behind is = is

-- ---- functions

abbrev func_of : ℕ → List ValType → List Op → Func
func_of ty locals body = record { ty = ty; locals = locals; body = body }

content_agree : (ty : ℕ) → Agree (λ (f : Func). IsBody f.body) (function_content_at cut_body_at ty) (function_content_at expression_at ty)
unfolding function_content_at
content_agree ty bytes rest f fine e =
    let locals = bind_some (locals_at bytes) (λ locals. cut_body_at locals.1 >>= λ body. found (func_of ty locals.0 body.0) body.1) (f, rest) e in
    let body = bind_some (cut_body_at locals.0.1) (λ body. found (func_of ty locals.0.0 body.0) body.1) (f, rest) locals.2 in
    let same = found-injective (func_of ty locals.0.0 body.0.0) f body.0.1 rest body.2 in
    let is = cut_agrees locals.0.1 body.0.1 body.0.0 (subst (λ (g : Func). IsBody g.body) (sym same.0) fine) body.1 in
    rw (locals.1, is) body.2

code_agree : (ty : ℕ) → Agree (λ (f : Func). IsBody f.body) (code_at cut_body_at ty) (code_at expression_at ty)
unfolding code_at
code_agree ty = sized_agree (λ (f : Func). IsBody f.body) (function_content_at cut_body_at ty) (function_content_at expression_at ty) (content_agree ty)

-- Functions that were read before stay in front.
codes_append : (types : List ℕ) (front funcs : List Func) (bytes rest : List ℕ) → codes_at cut_body_at types front bytes ≡ Some (funcs, rest)
    → (more : List Func) × (funcs ≡ front ++ more)
unfolding codes_at
codes_append [] front funcs bytes rest e = ([], sym (found-injective front funcs bytes rest e).0 ∙ sym (append-nil front))
codes_append (ty ∷ types) front funcs bytes rest e =
    let first = bind_some (code_at cut_body_at ty bytes) (λ f. codes_at cut_body_at types (front ++ f.0 ∷ []) f.1) (funcs, rest) e in
    let (more, all) = codes_append types (front ++ first.0.0 ∷ []) funcs first.0.1 rest first.2 in
    (first.0.0 ∷ more, all ∙ append_assoc front (first.0.0 ∷ []) more)

codes_agree : (types : List ℕ) (front : List Func) → Agree HaveBodies (codes_at cut_body_at types front) (codes_at expression_at types front)
unfolding codes_at
codes_agree [] front bytes rest funcs fine e = e
codes_agree (ty ∷ types) front bytes rest funcs fine e =
    let first = bind_some (code_at cut_body_at ty bytes) (λ f. codes_at cut_body_at types (front ++ f.0 ∷ []) f.1) (funcs, rest) e in
    let f = first.0.0 in
    let (more, all) = codes_append types (front ++ f ∷ []) funcs first.0.1 rest first.2 in
    let there : funcs ≡ front ++ f ∷ more = all ∙ append_assoc front (f ∷ []) more in
    let here : get_or funcs (length front) f ≡ f = ap (λ (z : List Func). get_or z (length front) f) there ∙ get_or_at front f more f (length front) refl in
    let inside : length front < length funcs = omega (arith, ap length there, length-append front (f ∷ more)) in
    let is = code_agree ty bytes first.0.1 f (subst (λ (g : Func). IsBody g.body) here (fine (length front) f inside)) first.1 in
    rw is (codes_agree types (front ++ f ∷ []) first.0.1 rest funcs fine first.2)

functions_agree : (types : List ℕ) → Agree HaveBodies (functions_at cut_body_at types) (functions_at expression_at types)
unfolding functions_at
functions_agree types bytes rest funcs fine e =
    let count = bind_some (unsigned_at 32 bytes) (λ count. cond (eqb count.0 (length types)) (codes_at cut_body_at types [] count.1) None) (funcs, rest) e in
    let equal = if_found (eqb count.0.0 (length types)) (codes_at cut_body_at types [] count.0.1) (funcs, rest) count.2 in
    rw (count.1, equal.0) (codes_agree types [] count.0.1 rest funcs fine equal.1)

-- ---- modules

contents_agree : (indices : List ℕ) → Agree (λ c. HaveBodies c.funcs) (contents_at cut_body_at indices) (contents_at expression_at indices)
unfolding contents_at
contents_agree indices =
    let code = section_agree HaveBodies (functions_at cut_body_at indices) (functions_at expression_at indices) (functions_agree indices) 10 (cond (eqb (length indices) 0) (Some []) None) in
    mapped_agree (λ c. HaveBodies c.funcs) contents_of _ _
    (second_agree (λ w. HaveBodies w.1.1.1.0) (value_section_at 8 (unsigned_at 32)) _ _ (λ start.
    second_agree (λ w. HaveBodies w.1.1.0) (vector_section_at 9 element_at) _ _ (λ elements.
    second_agree (λ w. HaveBodies w.1.0) (value_section_at 12 (unsigned_at 32)) _ _ (λ count.
    first_agree (λ w. HaveBodies w.0) HaveBodies (code_section_at cut_body_at indices) (code_section_at expression_at indices) _ (λ w fine. fine) code))))

definitions_agree : (indices : List ℕ) → Agree (λ d. HaveBodies d.contents.funcs) (definitions_at cut_body_at indices) (definitions_at expression_at indices)
unfolding definitions_at
definitions_agree indices =
    mapped_agree (λ d. HaveBodies d.contents.funcs) definitions_of _ _
    (second_agree (λ w. HaveBodies w.1.1.1.1.funcs) (vector_section_at 4 table_type_at) _ _ (λ tables.
    second_agree (λ w. HaveBodies w.1.1.1.funcs) (vector_section_at 5 limits_at) _ _ (λ memories.
    second_agree (λ w. HaveBodies w.1.1.funcs) (vector_section_at 6 global_at) _ _ (λ globals.
    second_agree (λ w. HaveBodies w.1.funcs) (vector_section_at 7 export_at) _ _ (λ exports. contents_agree indices)))))

sections_agree : Agree (λ w. HaveBodies w.1.1.1.contents.funcs) (sections_at cut_body_at) (sections_at expression_at)
unfolding sections_at
sections_agree =
    second_agree (λ w. HaveBodies w.1.1.1.contents.funcs) (vector_section_at 1 func_type_at) _ _ (λ types.
    second_agree (λ w. HaveBodies w.1.1.contents.funcs) (vector_section_at 2 import_at) _ _ (λ imports.
    second_agree (λ w. HaveBodies w.1.contents.funcs) (vector_section_at 3 (unsigned_at 32)) _ _ (λ indices. definitions_agree indices)))

pub module_agrees : (bytes rest : List ℕ) (m : Module) (count : Option ℕ) → HaveBodies m.funcs → module_at cut_body_at bytes ≡ Some ((m, count), rest)
    → module_at expression_at bytes ≡ Some ((m, count), rest)
unfolding module_at
module_agrees bytes rest m count fine e =
    let start =
    bind_some (expected_at header bytes)
    (λ start. sections_at cut_body_at start.1 >>= λ w. found (module_of w.0, count_of w.0) w.1) ((m, count), rest) e in
    let read =
    bind_some (sections_at cut_body_at start.0.1) (λ w. found (module_of w.0, count_of w.0) w.1) ((m, count), rest) start.2 in
    let same = found-injective (module_of read.0.0, count_of read.0.0) (m, count) read.0.1 rest read.2 in
    let is = sections_agree start.0.1 read.0.1 read.0.0 (subst (λ (p : Module × Option ℕ). HaveBodies p.0.funcs) (sym same.0) fine) read.1 in
    rw (start.1, is) read.2
