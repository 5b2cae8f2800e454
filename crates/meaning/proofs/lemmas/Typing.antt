-- Laws of the typing of bodies.
use Rattle.std.proofs.Common.{◌≡◌, List, [], ◌∷◌, ◌++◌, refl, ap, ◌∙◌, append_assoc}
use Rattle.core_types.specs.declared.op.Op.{Op}
use Rattle.core_types.specs.declared.op.Op.TheVariants.{Plain, Else, End, If}
use Rattle.core_types.specs.declared.types.OperandType.{OperandType}
use Rattle.core_types.specs.declared.types.OperandType.TheVariants.{Known, Unknown}
use Rattle.meaning.specs.structure.Bodies.{Body, Empty, Then, Nested, IfElse, joined, mark_of, writing}
use Rattle.meaning.specs.validation.Context.{Context}
use Rattle.meaning.specs.validation.Instructions.{AllFit, Fits, TakesAndGives, HasType}

-- ---- what fits

pub Fits-same : (t : OperandType) → Fits t t
Fits-same Unknown = tt
Fits-same (Known t) = refl

pub Fits-through : (t u wanted : OperandType) → Fits t u → Fits u wanted → Fits t wanted
Fits-through Unknown u wanted f g = tt
Fits-through (Known t) u wanted f g = let h : Fits (Known t) wanted = rw f at g in h

pub AllFit-same : (ts : List OperandType) → AllFit ts ts
AllFit-same [] = tt
AllFit-same (t ∷ ts) = (Fits-same t, AllFit-same ts)

pub AllFit-through : (ts us wanted : List OperandType) → AllFit ts us → AllFit us wanted → AllFit ts wanted
AllFit-through [] [] wanted f g = g
AllFit-through [] (u ∷ us) wanted f g = absurd f
AllFit-through (t ∷ ts) [] wanted f g = absurd f
AllFit-through (t ∷ ts) (u ∷ us) [] f g = absurd g
AllFit-through (t ∷ ts) (u ∷ us) (w ∷ ws) f g = (Fits-through t u w f.0 g.0, AllFit-through ts us ws f.1 g.1)

pub AllFit-joined : (ts us more others : List OperandType) → AllFit ts us → AllFit more others → AllFit (ts ++ more) (us ++ others)
AllFit-joined [] [] more others first second = second
AllFit-joined [] (u ∷ us) more others first second = absurd first
AllFit-joined (t ∷ ts) [] more others first second = absurd first
AllFit-joined (t ∷ ts) (u ∷ us) more others first second = (first.0, AllFit-joined ts us more others first.1 second)

-- If a list fits two joined lists, its parts fit them.
pub AllFit-parts : (ts wanted more : List OperandType) → AllFit ts (wanted ++ more) → (front back : List OperandType) × (ts ≡ front ++ back) × AllFit front wanted × AllFit back more
AllFit-parts ts [] more fits = ([], ts, refl, tt, fits)
AllFit-parts [] (w ∷ wanted) more fits = absurd fits
AllFit-parts (t ∷ ts) (w ∷ wanted) more fits =
    let (front, back, parts, first, second) = AllFit-parts ts wanted more fits.1 in
    (t ∷ front, back, ap (λ (z : List OperandType). t ∷ z) parts, (fits.0, first), second)

-- ---- bodies

-- Operands that fit those of a stack can be given instead.
taken-before : (operands results before given after : List OperandType) → AllFit given before → TakesAndGives operands results before after
    → (now : List OperandType) × TakesAndGives operands results given now × AllFit now after
taken-before operands results before given after fits frame =
    let (below, top, parts, fits_below, fits_top) = AllFit-parts given frame.below frame.given (rw frame.before_is at fits) in
    let left : AllFit (below ++ results) (frame.below ++ results) = AllFit-joined below frame.below results results fits_below (AllFit-same results) in (
      below ++ results,
      record { below = below; given = top; before_is = parts; fits = AllFit-through top frame.given operands fits_top frame.fits; after_is = refl },
      rw frame.after_is left,
    )

-- What is below the stacks stays.
taken-weakening : (under operands results before after : List OperandType) → TakesAndGives operands results before after → TakesAndGives operands results (under ++ before) (under ++ after)
taken-weakening under operands results before after frame = record {
  below = under ++ frame.below;
  given = frame.given;
  before_is = rw (frame.before_is, append_assoc);
  fits = frame.fits;
  after_is = rw (frame.after_is, append_assoc);
}

pub HasType-weakening : (context : Context) (body : Body) (under before after : List OperandType) → HasType context body before after → HasType context body (under ++ before) (under ++ after)
HasType-weakening context Empty under before after fits = AllFit-joined under under before after (AllFit-same under) fits
HasType-weakening context (Then op rest) under before after (operands, results, between, rule, frame, last) =
    (operands, results, under ++ between, rule, taken-weakening under _ _ before between frame, HasType-weakening context rest under between after last)
HasType-weakening context (Nested kind type inner rest) under before after (s, between, is, inside, other, frame, last) =
    (s, under ++ between, is, inside, other, taken-weakening under _ _ before between frame, HasType-weakening context rest under between after last)
HasType-weakening context (IfElse type inner other rest) under before after (s, between, is, inside, second, frame, last) =
    (s, under ++ between, is, inside, second, taken-weakening under _ _ before between frame, HasType-weakening context rest under between after last)

-- A body that leads to a stack leads to each that it fits.
pub HasType-after : (context : Context) (body : Body) (before after wanted : List OperandType) → HasType context body before after → AllFit after wanted → HasType context body before wanted
HasType-after context Empty before after wanted typed fits = AllFit-through before after wanted typed fits
HasType-after context (Then op rest) before after wanted (operands, results, between, rule, frame, last) fits =
    (operands, results, between, rule, frame, HasType-after context rest between after wanted last fits)
HasType-after context (Nested kind type inner rest) before after wanted (s, between, is, inside, other, frame, last) fits =
    (s, between, is, inside, other, frame, HasType-after context rest between after wanted last fits)
HasType-after context (IfElse type inner other rest) before after wanted (s, between, is, inside, second, frame, last) fits =
    (s, between, is, inside, second, frame, HasType-after context rest between after wanted last fits)

-- A body that leads from a stack leads from each stack that fits it.
pub HasType-before : (context : Context) (body : Body) (before given after : List OperandType) → AllFit given before → HasType context body before after → HasType context body given after
HasType-before context Empty before given after fits typed = AllFit-through given before after fits typed
HasType-before context (Then op rest) before given after fits (operands, results, between, rule, frame, last) =
    let (now, framed, left) = taken-before _ _ before given between fits frame in
    (operands, results, now, rule, framed, HasType-before context rest between now after left last)
HasType-before context (Nested kind type inner rest) before given after fits (s, between, is, inside, other, frame, last) =
    let (now, framed, left) = taken-before _ _ before given between fits frame in
    (s, now, is, inside, other, framed, HasType-before context rest between now after left last)
HasType-before context (IfElse type inner other rest) before given after fits (s, between, is, inside, second, frame, last) =
    let (now, framed, left) = taken-before _ _ before given between fits frame in
    (s, now, is, inside, second, framed, HasType-before context rest between now after left last)

pub HasType-joined : (context : Context) (a b : Body) (before between after : List OperandType) → HasType context a before between
    → HasType context b between after → HasType context (joined a b) before after
HasType-joined context Empty b before between after first second = HasType-before context b between before after first second
HasType-joined context (Then op rest) b before between after (operands, results, next, rule, frame, last) second =
    (operands, results, next, rule, frame, HasType-joined context rest b next between after last second)
HasType-joined context (Nested kind type inner rest) b before between after (s, next, is, inside, other, frame, last) second =
    (s, next, is, inside, other, frame, HasType-joined context rest b next between after last second)
HasType-joined context (IfElse type inner other rest) b before between after (s, next, is, inside, more, frame, last) second =
    (s, next, is, inside, more, frame, HasType-joined context rest b next between after last second)

nested_writing : (mark : Op) (inner rest more : List Op) → mark ∷ (inner ++ (End ∷ (rest ++ more))) ≡ (mark ∷ (inner ++ (End ∷ rest))) ++ more
nested_writing mark inner rest more = simp append_assoc

pub writing-joined : (a b : Body) → writing (joined a b) ≡ writing a ++ writing b
writing-joined Empty b = refl
writing-joined (Then op rest) b = ap (λ (z : List Op). Plain op ∷ z) (writing-joined rest b)
writing-joined (Nested kind type inner rest) b =
    ap (λ (z : List Op). mark_of kind type ∷ (writing inner ++ (End ∷ z))) (writing-joined rest b) ∙ nested_writing (mark_of kind type) (writing inner) (writing rest) (writing b)
writing-joined (IfElse type inner other rest) b = ap (λ (z : List Op). If type ∷ (writing inner ++ (Else ∷ (writing other ++ (End ∷ z))))) (writing-joined rest b) ∙ simp append_assoc
