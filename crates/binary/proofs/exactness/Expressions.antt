-- Expressions are read as they are encoded.
use Rattle.std.proofs.Common.{List, [], ap, append_assoc, arith, length, length-append, refl, subst, suc, sym, zero, ℕ, ◌++◌, ◌<◌, ◌∙◌, ◌∷◌, ◌≡◌}
use Rattle.std.specs.Prelude.{Some}
use Rattle.std.proofs.lemmas.List.{append-nil}
use Rattle.core_types.specs.declared.op.BlockType.{BlockType}
use Rattle.core_types.specs.declared.op.Op.{Op}
use Rattle.core_types.specs.declared.op.Op.TheVariants.{Block, Else, End, If, Loop, Plain}
use Rattle.meaning.specs.binary.Conventions.{Reads, SpellsEach, SpellsTagged}
use Rattle.meaning.specs.binary.Instructions.{SpellsBody, SpellsFlat, opcode_of}
use Rattle.meaning.specs.binary.Types.{SpellsBlockType}
use Rattle.meaning.specs.structure.Bodies.{BlockKind, Body, Empty, IfElse, IfKind, Kind, LoopKind, Nested, Then, mark_of, writing}
use Rattle.binary.specs.Expressions.{expression_at, next_bodies, on_next, ops_at}
use Rattle.core_types.specs.reading.Instructions.{op_at}
use Rattle.binary.specs.declared.expressions.Flow.{Flow}
use Rattle.binary.specs.declared.expressions.Flow.TheVariants.{Ended, Misplaced, Continues}
use Rattle.binary.specs.declared.expressions.OpenBody.{OpenBody}
use Rattle.binary.specs.declared.expressions.OpenBody.TheVariants.{InBlock, InIf}
use Rattle.binary.proofs.exactness.Nesting.{ClosesBodies, closes_tree, writing_closes}
use Rattle.binary.proofs.exactness.Readers.{IsReader, bind_some, found, found-injective}
use Rattle.binary.proofs.exactness.instructions.Operations.{SpellsOp, op_has_bytes, op_reader}

-- ---- a tree is encoded as its writing is, operation by operation

abbrev pub SpellsOps : List ℕ → List Op → Type 0
SpellsOps bytes ops = SpellsEach SpellsOp bytes ops

joined : (bytes others : List ℕ) (ops more : List Op) → SpellsOps bytes ops → SpellsOps others more
    → SpellsOps (bytes ++ others) (ops ++ more)
joined bytes others [] more e spelt = subst (λ (z : List ℕ). SpellsOps (z ++ others) more) (sym e) spelt
joined bytes others (op ∷ ops) more (first, behind, parts, here, rest) spelt =
    (first, behind ++ others, ap (λ (z : List ℕ). z ++ others) parts ∙ append_assoc first behind others, here, joined behind others ops more rest spelt)

record Split (bytes : List ℕ) (ops more : List Op) : Type 0 where
  front : List ℕ
  back : List ℕ
  parts : bytes ≡ front ++ back
  first : SpellsOps front ops
  second : SpellsOps back more

split : (bytes : List ℕ) (ops more : List Op) → SpellsOps bytes (ops ++ more) → Split bytes ops more
split bytes [] more spelt = record { front = []; back = bytes; parts = refl; first = refl; second = spelt }
split bytes (op ∷ ops) more (first, behind, parts, here, rest) =
    let s = split behind ops more rest in
    record {
      front = first ++ s.front;
      back = s.back;
      parts = parts ∙ ap (λ (z : List ℕ). first ++ z) s.parts ∙ sym (append_assoc first s.front s.back);
      first = (first, s.front, refl, here, s.first);
      second = s.second;
    }

-- a mark of one byte, and what follows it
marked : (byte : ℕ) (mark : Op) (bytes : List ℕ) (ops : List Op) → SpellsOp (byte ∷ []) mark
    → SpellsOps bytes ops → SpellsOps (byte ∷ bytes) (mark ∷ ops)
marked byte mark bytes ops here rest = (byte ∷ [], bytes, refl, here, rest)

begin_of : (kind : Kind) (t : BlockType) (bytes : List ℕ)
    → SpellsTagged (opcode_of kind) SpellsBlockType bytes t → SpellsOp bytes (mark_of kind t)
begin_of BlockKind t bytes spelt = spelt
begin_of LoopKind t bytes spelt = spelt
begin_of IfKind t bytes spelt = spelt

type_of : (kind : Kind) (t : BlockType) (bytes : List ℕ) → SpellsOp bytes (mark_of kind t)
    → SpellsTagged (opcode_of kind) SpellsBlockType bytes t
type_of BlockKind t bytes spelt = spelt
type_of LoopKind t bytes spelt = spelt
type_of IfKind t bytes spelt = spelt

ops_of_body : (tree : Body) (bytes : List ℕ) → SpellsBody bytes tree → SpellsOps bytes (writing tree)
ops_of_body Empty bytes e = e
ops_of_body (Then op rest) bytes (first, others, parts, here, more) =
    (first, others, parts, here, ops_of_body rest others more)
ops_of_body (Nested kind t inner rest) bytes (begin, inside, others, parts, here, body, more) =
    let last = marked 0x0B End others (writing rest) refl (ops_of_body rest others more) in
    let whole = joined inside (0x0B ∷ others) (writing inner) (End ∷ writing rest) (ops_of_body inner inside body) last in
    (begin, inside ++ (0x0B ∷ others), parts, begin_of kind t begin here, whole)
ops_of_body (IfElse t inner other rest) bytes (begin, inside, second, others, parts, here, body, else_body, more) =
    let last = marked 0x0B End others (writing rest) refl (ops_of_body rest others more) in
    let middle =
    marked 0x05 Else (second ++ (0x0B ∷ others)) (writing other ++ (End ∷ writing rest)) refl
    (joined second (0x0B ∷ others) (writing other) (End ∷ writing rest) (ops_of_body other second else_body) last) in
    let behind : List ℕ = 0x05 ∷ (second ++ (0x0B ∷ others)) in
    let whole =
    joined inside behind (writing inner) (Else ∷ (writing other ++ (End ∷ writing rest))) (ops_of_body inner inside body) middle in
    (begin, inside ++ behind, parts, here, whole)

pub body_of_ops : (tree : Body) (bytes : List ℕ) → SpellsOps bytes (writing tree) → SpellsBody bytes tree
body_of_ops Empty bytes e = e
body_of_ops (Then op rest) bytes (first, others, parts, here, more) =
    (first, others, parts, here, body_of_ops rest others more)
body_of_ops (Nested kind t inner rest) bytes (begin, behind, parts, here, spelt) =
    let s = split behind (writing inner) (End ∷ writing rest) spelt in
    let (mark, others, end_parts, end, more) = s.second in
    let ended : s.back ≡ 0x0B ∷ others = end_parts ∙ ap (λ (z : List ℕ). z ++ others) end in
    let whole : bytes ≡ begin ++ (s.front ++ (0x0B ∷ others)) =
    parts ∙ ap (λ (z : List ℕ). begin ++ z) (s.parts ∙ ap (λ (z : List ℕ). s.front ++ z) ended) in
    (begin, s.front, others, whole, type_of kind t begin here, body_of_ops inner s.front s.first, body_of_ops rest others more)
body_of_ops (IfElse t inner other rest) bytes (begin, behind, parts, here, spelt) =
    let s = split behind (writing inner) (Else ∷ (writing other ++ (End ∷ writing rest))) spelt in
    let (mark, after, else_parts, else_mark, second) = s.second in
    let o = split after (writing other) (End ∷ writing rest) second in
    let (end_mark, others, end_parts, end, more) = o.second in
    let last : after ≡ o.front ++ (0x0B ∷ others) =
    o.parts ∙ ap (λ (z : List ℕ). o.front ++ z) (end_parts ∙ ap (λ (z : List ℕ). z ++ others) end) in
    let middle : s.back ≡ 0x05 ∷ (o.front ++ (0x0B ∷ others)) =
    else_parts ∙ ap (λ (z : List ℕ). z ++ after) else_mark ∙ ap (λ (z : List ℕ). 0x05 ∷ z) last in
    let whole : bytes ≡ begin ++ (s.front ++ (0x05 ∷ (o.front ++ (0x0B ∷ others)))) =
    parts ∙ ap (λ (z : List ℕ). begin ++ z) (s.parts ∙ ap (λ (z : List ℕ). s.front ++ z) middle) in
    (begin, s.front, o.front, others, whole, here, body_of_ops inner s.front s.first, body_of_ops other o.front o.first, body_of_ops rest others more)

-- ---- the loop over the operations

-- what is read after other operations
pub record ReadsOps (open_bodies : List OpenBody) (front : List Op) (bytes : List ℕ) (ops : List Op) (rest : List ℕ)
    : Type 0 where
  pub more : List Op
  pub text : List ℕ
  pub spelt : SpellsOps text more
  pub parts : bytes ≡ text ++ (0x0B ∷ rest)
  pub all : ops ≡ front ++ more
  pub closes : ClosesBodies open_bodies more

-- Only an end ends an expression.
pub ended_end : (open_bodies : List OpenBody) (op : Op) → (next_bodies open_bodies op).0 ≡ Ended
    → (op ≡ End) × (open_bodies ≡ [])
ended_end open_bodies (Plain op) e = absurd cc
ended_end open_bodies (Block t) e = absurd cc
ended_end open_bodies (Loop t) e = absurd cc
ended_end open_bodies (If t) e = absurd cc
ended_end [] Else e = absurd cc
ended_end (InBlock ∷ open_bodies) Else e = absurd cc
ended_end (InIf ∷ open_bodies) Else e = absurd cc
ended_end [] End e = (refl, refl)
ended_end (open_body ∷ open_bodies) End e = absurd cc

pub ops_sound : (steps : ℕ) (open_bodies : List OpenBody) (front ops : List Op) (bytes rest : List ℕ)
    → ops_at steps open_bodies front bytes ≡ Some (ops, rest) → ReadsOps open_bodies front bytes ops rest
unfolding ops_at
ops_sound zero open_bodies front ops bytes rest e = absurd cc
ops_sound (suc steps) open_bodies front ops bytes rest e =
    let op =
    bind_some (op_at bytes)
    (λ op. on_next (next_bodies open_bodies op.0).0 (ops_at steps (next_bodies open_bodies op.0).1 (front ++ op.0 ∷ []) op.1) (found front op.1))
    (ops, rest) e in
    by_case op.0.0 op.0.1 (next_bodies open_bodies op.0.0).0 refl (op_reader.sound bytes op.0.1 op.0.0 op.1) op.2
    (ops_sound steps (next_bodies open_bodies op.0.0).1 (front ++ op.0.0 ∷ []) ops op.0.1 rest)
  where
    by_case : (op : Op) (after : List ℕ) (next : Flow) → (next_bodies open_bodies op).0 ≡ next
        → Reads SpellsOp bytes op after
        → on_next next (ops_at steps (next_bodies open_bodies op).1 (front ++ op ∷ []) after) (found front after) ≡ Some (ops, rest)
        → (ops_at steps (next_bodies open_bodies op).1 (front ++ op ∷ []) after ≡ Some (ops, rest) → ReadsOps (next_bodies open_bodies op).1 (front ++ op ∷ []) after ops rest)
        → ReadsOps open_bodies front bytes ops rest
    by_case op after Continues on reads h others =
        let o = others h in record {
          more = op ∷ o.more;
          text = reads.text ++ o.text;
          spelt = (reads.text, o.text, refl, reads.spelt, o.spelt);
          parts =
              reads.parts ∙ ap (λ (z : List ℕ). reads.text ++ z) o.parts
              ∙ sym (append_assoc reads.text o.text (0x0B ∷ rest));
          all = o.all ∙ append_assoc front (op ∷ []) o.more;
          closes = (on, o.closes);
        }
    by_case op after Ended on reads h others =
        let same = found-injective front ops after rest h in
        let end = ended_end open_bodies op on in
        let spelt : reads.text ≡ 0x0B ∷ [] = subst (λ (o : Op). SpellsOp reads.text o) end.0 reads.spelt in record {
          more = [];
          text = [];
          spelt = refl;
          parts = reads.parts ∙ ap (λ (z : List ℕ). z ++ after) spelt ∙ ap (λ (z : List ℕ). 0x0B ∷ z) same.1;
          all = sym same.0 ∙ sym (append-nil front);
          closes = subst (λ (ls : List OpenBody). ClosesBodies ls []) (sym end.1) tt;
        }
    by_case op after Misplaced on reads h others = absurd cc

ops_complete : (steps : ℕ) (open_bodies : List OpenBody) (front more : List Op) (text rest : List ℕ)
    → SpellsOps text more → ClosesBodies open_bodies more → length text < steps
    → ops_at steps open_bodies front (text ++ (0x0B ∷ rest)) ≡ Some (front ++ more, rest)
unfolding ops_at
ops_complete zero open_bodies front more text rest spelt closes enough = absurd (omega arith)
ops_complete (suc steps) [] front [] text rest e closes enough =
    rw (e, op_reader.complete (0x0B ∷ []) rest End refl)
    (ap (λ (ops : List Op). found ops rest) (sym (append-nil front)))
ops_complete (suc steps) (open_body ∷ open_bodies) front [] text rest e closes enough = absurd closes
ops_complete (suc steps) open_bodies front (op ∷ more) text rest (first, others, parts, here, spelt) (on, closes) enough =
    let regrouped : text ++ (0x0B ∷ rest) ≡ first ++ (others ++ (0x0B ∷ rest)) =
    ap (λ (z : List ℕ). z ++ (0x0B ∷ rest)) parts ∙ append_assoc first others (0x0B ∷ rest) in
    let less : length others < steps =
    omega (arith, op_has_bytes first op here, ap length parts, length-append first others) in
    ap (ops_at (suc steps) open_bodies front) regrouped
    ∙ rw (op_reader.complete first (others ++ (0x0B ∷ rest)) op here, on)
    (ops_complete steps (next_bodies open_bodies op).1 (front ++ op ∷ []) more others rest spelt closes less)
    ∙ ap (λ (ops : List Op). found ops rest) (append_assoc front (op ∷ []) more)

pub expression_reader : IsReader SpellsFlat expression_at
unfolding expression_at
expression_reader = record {
  sound = λ bytes rest ops e.
      let read = ops_sound (length bytes) [] [] ops bytes rest e in
      let (tree, written) = closes_tree read.more read.closes in
      let body : SpellsBody read.text tree =
      body_of_ops tree read.text (subst (λ (z : List Op). SpellsOps read.text z) written read.spelt) in
      record {
        text = read.text ++ (0x0B ∷ []);
        spelt = (tree, (read.text, refl, body), read.all ∙ written);
        parts = read.parts ∙ sym (append_assoc read.text (0x0B ∷ []) rest);
      };
  complete = λ text rest ops (tree, (body, parts, spelt), all).
      let regrouped : text ++ rest ≡ body ++ (0x0B ∷ rest) =
      ap (λ (z : List ℕ). z ++ rest) parts ∙ append_assoc body (0x0B ∷ []) rest in
      let enough : length body < length (body ++ (0x0B ∷ rest)) =
      omega (arith, length-append body (0x0B ∷ rest)) in
      let closes : ClosesBodies [] (writing tree) =
      subst (λ (z : List Op). ClosesBodies [] z) (append-nil (writing tree)) (writing_closes tree [] [] tt) in
      ap (λ (z : List ℕ). ops_at (length z) [] [] z) regrouped
      ∙ ops_complete (length (body ++ (0x0B ∷ rest))) [] [] (writing tree) body rest (ops_of_body tree body spelt) closes enough
      ∙ ap (λ (o : List Op). found o rest) (sym all);
}
