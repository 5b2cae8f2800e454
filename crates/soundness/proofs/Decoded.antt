-- A valid module that bytes encode can be linked: its numbers have their widths.
use Rattle.std.proofs.Common.{◌≡◌, ℕ, suc, ◌+◌, ◌-◌, ◌*◌, ◌<◌, ◌≤◌, ◌^◌, List, [], ◌∷◌, ◌++◌, refl, ap, sym, subst, ◌∙◌, arith, inl, inr}
use Rattle.std.proofs.lemmas.Nat.{pow-add}
use Rattle.std.specs.List.{All}
use Rattle.std.specs.Prelude.{Option, Some, None}
use Rattle.core_types.specs.declared.module.DataSegment.{DataSegment}
use Rattle.core_types.specs.declared.module.Module.{Module}
use Rattle.core_types.specs.declared.types.TableType.{TableType}
use Rattle.meaning.specs.binary.Conventions.{SpellsEach}
use Rattle.meaning.specs.binary.Modules.{HasVector, SpellsBytes, SpellsData, data_0, data_1, data_2, ◌▷◌}
use Rattle.meaning.specs.binary.Types.{SpellsBounds, SpellsTableType}
use Rattle.meaning.specs.binary.Values.{SpellsByte, SpellsUnsigned, SpellsVector}
use Rattle.meaning.specs.embedding.Machine.{IsDecoded}
use Rattle.meaning.specs.execution.Storage.{AreBytes}
use Rattle.meaning.specs.execution.Tables.{most_entries}
use Rattle.meaning.specs.validation.Modules.{IsValid}
use Rattle.soundness.specs.Links.{IsSoundModule}
use Rattle.soundness.proofs.Objects.{All-first, All-none}

-- ---- lists that are joined

module _ {X : Type 0} (P : X → Type 0) where
  pub All-behind : (xs ys : List X) → All P (xs ++ ys) → All P ys
  All-behind [] ys all = all
  All-behind (x ∷ xs) ys all = All-behind xs ys (λ k d inside. all (suc k) d (omega (arith, inside)))

  pub All-before : (xs ys : List X) → All P (xs ++ ys) → All P xs
  All-before [] ys all = All-none P
  All-before (x ∷ xs) ys all = All-first P x xs (all 0 x (omega (arith))) (All-before xs ys (λ k d inside. all (suc k) d (omega (arith, inside))))

-- Parts of bytes are bytes.
behind-are-bytes : {bytes : List ℕ} (first second : List ℕ) → bytes ≡ first ++ second → AreBytes bytes → AreBytes second
behind-are-bytes first second is are = All-behind (λ (b : ℕ). b < 2 ^ 8) first second (subst AreBytes is are)

before-are-bytes : {bytes : List ℕ} (first second : List ℕ) → bytes ≡ first ++ second → AreBytes bytes → AreBytes first
before-are-bytes first second is are = All-before (λ (b : ℕ). b < 2 ^ 8) first second (subst AreBytes is are)

-- ---- numbers

-- A number that is encoded fits in its bits.
unsigned-below : (bits : ℕ) (bytes : List ℕ) (n : ℕ) → AreBytes bytes → SpellsUnsigned bits bytes n → n < 2 ^ bits
unsigned-below bits [] n are spelt = absurd spelt
unsigned-below bits (b ∷ []) n are (last, within, is) = omega (arith, within, is)
unsigned-below bits (b ∷ next ∷ bytes) n are (more, wide, (rest, spelt, value)) =
    let below = unsigned-below (bits - 7) (next ∷ bytes) rest (behind-are-bytes (b ∷ []) (next ∷ bytes) refl are) spelt in
    let small : b < 2 ^ 8 = are 0 b (omega (arith)) in
    let parts : bits ≡ bits - 7 + 7 = omega (arith, wide) in
    let power : 2 ^ bits ≡ 2 ^ (bits - 7) * 2 ^ 7 = ap (λ (k : ℕ). 2 ^ k) parts ∙ pow-add 2 (bits - 7) 7 in
    omega (arith, below, small, power, value)

-- ---- what is encoded in turn

module _ {V : Type 0} (Spells : List ℕ → V → Type 0) (P : V → Type 0) (one : (text : List ℕ) (v : V) → AreBytes text → Spells text v → P v) where
  each-spelt : (bytes : List ℕ) (vs : List V) → AreBytes bytes → SpellsEach Spells bytes vs → All P vs
  each-spelt bytes [] are spelt = All-none P
  each-spelt bytes (v ∷ vs) are (first, others, is, spelt, more) =
      All-first P v vs (one first v (before-are-bytes first others is are) spelt) (each-spelt others vs (behind-are-bytes first others is are) more)

  vector-spelt : (bytes : List ℕ) (vs : List V) → AreBytes bytes → SpellsVector Spells bytes vs → All P vs
  vector-spelt bytes vs are (first, second, is, count, each) = each-spelt second vs (behind-are-bytes first second is are) each

  section-spelt : (id : ℕ) (vs : List V) (bytes : List ℕ) → AreBytes bytes → HasVector id Spells vs bytes → All P vs
  section-spelt id vs bytes are (inl (inside, tagged, (size, content, is, sized, spelt))) =
      vector-spelt content vs (behind-are-bytes size content is (behind-are-bytes (id ∷ []) inside tagged are)) spelt
  section-spelt id vs bytes are (inr (nothing, none)) = subst (All P) (sym none) (All-none P)

-- A section, and what follows it.
module _ {Section Following : List ℕ → Type 0} (bytes : List ℕ) (are : AreBytes bytes) where
  section-here : (Section ▷ Following) bytes → (section : List ℕ) × AreBytes section × Section section
  section-here (customs, section, rest, is, custom, here, more) = (section, before-are-bytes section rest refl (behind-are-bytes customs (section ++ rest) is are), here)

  following : (Section ▷ Following) bytes → (rest : List ℕ) × AreBytes rest × Following rest
  following (customs, section, rest, is, custom, here, more) = (rest, behind-are-bytes section rest refl (behind-are-bytes customs (section ++ rest) is are), more)

-- What follows four sections.
module _ {First Second Third Fourth Following : List ℕ → Type 0} where
  following-four : (bytes : List ℕ) → AreBytes bytes → (First ▷ Second ▷ Third ▷ Fourth ▷ Following) bytes → (rest : List ℕ) × AreBytes rest × Following rest
  following-four bytes are spelt =
      let (behind_first, first_are, second) = following bytes are spelt in
      let (behind_second, second_are, third) = following behind_first first_are second in
      let (behind_third, third_are, fourth) = following behind_second second_are third in
      following behind_third third_are fourth

  fourth-here : (bytes : List ℕ) → AreBytes bytes → (First ▷ Second ▷ Third ▷ Fourth ▷ Following) bytes → (section : List ℕ) × AreBytes section × Fourth section
  fourth-here bytes are spelt =
      let (behind_first, first_are, second) = following bytes are spelt in
      let (behind_second, second_are, third) = following behind_first first_are second in
      let (behind_third, third_are, fourth) = following behind_second second_are third in
      section-here behind_third third_are fourth

-- ---- tables and data segments

minimum-few : (bytes : List ℕ) (min : ℕ) (max : Option ℕ) → AreBytes bytes → SpellsBounds bytes min max → min ≤ most_entries
minimum-few bytes min None are (inside, is, spelt) =
    let below = unsigned-below 32 inside min (behind-are-bytes (0 ∷ []) inside is are) spelt in omega (arith, below)
minimum-few bytes min (Some max) are (inside, is, (first, second, parts, spelt, other)) =
    let below = unsigned-below 32 first min (before-are-bytes first second parts (behind-are-bytes (1 ∷ []) inside is are)) spelt in omega (arith, below)

table-few : (bytes : List ℕ) (t : TableType) → AreBytes bytes → SpellsTableType bytes t → t.limits.min ≤ most_entries
table-few bytes t are (first, second, is, element, limits) = minimum-few second t.limits.min t.limits.max (behind-are-bytes first second is are) limits

byte-spelt : (text : List ℕ) (b : ℕ) → AreBytes text → SpellsByte text b → b < 2 ^ 8
byte-spelt text b are is = subst AreBytes is are 0 b (omega (arith))

content-spelt : (bytes content : List ℕ) → AreBytes bytes → SpellsBytes bytes content → AreBytes content
content-spelt bytes content are spelt = vector-spelt SpellsByte (λ (b : ℕ). b < 2 ^ 8) byte-spelt bytes content are spelt

data-spelt : (bytes : List ℕ) (d : DataSegment) → AreBytes bytes → SpellsData bytes d → AreBytes d.bytes
data-spelt bytes d are (data_0 (form, behind, is, number, (offset, content, parts, expression, spelt))) =
    content-spelt content d.bytes (behind-are-bytes offset content parts (behind-are-bytes form behind is are)) spelt
data-spelt bytes d are (data_1 (form, behind, is, number, spelt)) = content-spelt behind d.bytes (behind-are-bytes form behind is are) spelt
data-spelt bytes d are (data_2 (form, behind, is, number, (offset, content, parts, expression, spelt))) =
    content-spelt content d.bytes (behind-are-bytes offset content parts (behind-are-bytes form behind is are)) spelt

pub spelt-sound : (bytes : List ℕ) (m : Module) → AreBytes bytes → IsDecoded bytes m → IsValid m → IsSoundModule m
spelt-sound bytes m are decoded valid =
    let (sections, is, (count, spelt, counted)) = decoded.spelt in
    let sections_are = behind-are-bytes (0x00 ∷ 0x61 ∷ 0x73 ∷ 0x6D ∷ 0x01 ∷ 0x00 ∷ 0x00 ∷ 0x00 ∷ []) sections is are in
    let (table_section, tables_are, tables) = fourth-here sections sections_are spelt in
    let (behind_tables, behind_are, memories) = following-four sections sections_are spelt in
    let (behind_start, start_are, elements) = following-four behind_tables behind_are memories in
    let (data_section, datas_are, datas) = fourth-here behind_start start_are elements in
    record {
      valid = valid;
      few_entries = section-spelt SpellsTableType (λ (t : TableType). t.limits.min ≤ most_entries) table-few 4 m.tables table_section tables_are tables;
      bytes = section-spelt SpellsData (λ (d : DataSegment). AreBytes d.bytes) data-spelt 11 m.datas data_section datas_are datas;
    }
