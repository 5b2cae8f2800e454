-- What a step over a constant expression decides.
use Rattle.std.proofs.Common.{◌≡◌, ℕ, ◌+◌, ◌<◌, ◌≤◌, List, [], ◌∷◌, length, get_or, drop, Some, inl, inr, refl, ap, sym, ◌∙◌, subst, arith}
use Rattle.std.proofs.lemmas.Bool.{eq-eqb, eqb-true}
use Rattle.std.proofs.lemmas.List.{drop_all, drop_more}
use Rattle.std.specs.Prelude.{IsTrue, nat_eq, ◌↔◌}
use Rattle.core_types.specs.declared.op.Op.TheVariants.{Plain, Block, Loop, If, Else, End}
use Rattle.core_types.specs.declared.op.Op.{Op}
use Rattle.core_types.specs.declared.op.PlainOp.TheVariants.{Control, BrTable, Reference, Parametric, SelectTyped, Variable, Table, Memory, Numeric, I32Const, I64Const}
use Rattle.core_types.specs.declared.op.PlainOp.{PlainOp}
use Rattle.core_types.specs.declared.types.ValType.{ValType}
use Rattle.validator.specs.declared.constants.ConstantContext.{ConstantContext}
use Rattle.validator.specs.Constants.{GivesConstant, IsConstantIn, Leads, LeadsToOne, Operates}

-- No operator is a constant.
no-operator : (context : ConstantContext) (op : PlainOp) (t : ValType) → GivesConstant context op t → Operates op t → ⊥
unfolding GivesConstant Operates
no-operator context (I32Const n) t gives operates = operates
no-operator context (I64Const n) t gives operates = operates
no-operator context (Reference op) t gives operates = operates
no-operator context (Variable op) t gives operates = operates
no-operator context (Control op) t gives operates = gives
no-operator context (BrTable table) t gives operates = gives
no-operator context (Parametric op) t gives operates = gives
no-operator context (SelectTyped types) t gives operates = gives
no-operator context (Table op) t gives operates = gives
no-operator context (Memory op) t gives operates = gives
no-operator context (Numeric op) t gives operates = gives

-- A constant of the type leads to one more operand.
pub constant-leads : (context : ConstantContext) (op : PlainOp) (t : ValType) (before after : ℕ) → GivesConstant context op t → (Some (before + 1) ≡ Some after) ↔ Leads context t op before after
constant-leads context op t before after constant = (
  λ same. let after_is : before + 1 ≡ after = cc in inl (constant, omega (arith, after_is)),
  λ leads. elim leads [ inl given ↦ ap Some (let after_is = given.1 in omega (arith, after_is)) | inr given ↦ absurd (no-operator context op t constant given.0) ],
)

-- ---- the loop over an expression

-- From that many operands, the instructions from an index on are judged as all of them are from none.
abbrev pub IsJudgedFrom : ConstantContext → ValType → List Op → (height k : ℕ) → Type 0
IsJudgedFrom context t ops height k = (height ≤ k) × (LeadsToOne context t height (drop k ops) ↔ IsConstantIn context ops t)

module _ (context : ConstantContext) (t : ValType) (ops : List Op) (height k : ℕ) (so_far : IsJudgedFrom context t ops height k) where
  others : (op : Op) → k < length ops → op ≡ get_or ops k op → drop k ops ≡ op ∷ drop (k + 1) ops
  others op inside is = drop_more ops k op inside ∙ ap (λ (o : Op). o ∷ drop (k + 1) ops) (sym is)

  -- If the next operation is not an instruction without blocks, there is no constant expression.
  pub not-plain : (op : Op) → k < length ops → op ≡ get_or ops k op → ((x : PlainOp) → op ≡ Plain x → ⊥) → IsConstantIn context ops t → ⊥
  not-plain op inside is not constant = wrong op not (subst (LeadsToOne context t height) (others op inside is) (so_far.1.1 constant))
    where
      wrong : (o : Op) → ((x : PlainOp) → o ≡ Plain x → ⊥) → LeadsToOne context t height (o ∷ drop (k + 1) ops) → ⊥
      wrong (Plain x) not leads = not x refl
      wrong (Block type) not leads = leads
      wrong (Loop type) not leads = leads
      wrong (If type) not leads = leads
      wrong Else not leads = leads
      wrong End not leads = leads

  -- Nor is there one if the instruction leads nowhere.
  pub leads-nowhere : (op : Op) (x : PlainOp) → k < length ops → op ≡ get_or ops k op → op ≡ Plain x → ((after : ℕ) → Leads context t x height after → ⊥) → IsConstantIn context ops t → ⊥
  leads-nowhere op x inside is plain nowhere constant =
      let (between, leads, rest) = subst (LeadsToOne context t height) (others op inside is ∙ ap (λ (o : Op). o ∷ drop (k + 1) ops) plain) (so_far.1.1 constant) in
      nowhere between leads

  -- If it leads to a number of operands, the others are judged from there.
  pub leads-on : (op : Op) (x : PlainOp) (after : ℕ) → k < length ops → op ≡ get_or ops k op → op ≡ Plain x → Leads context t x height after
      → ((other : ℕ) → Leads context t x height other → after ≡ other) → IsJudgedFrom context t ops after (k + 1)
  leads-on op x after inside is plain leads only =
      let here : drop k ops ≡ Plain x ∷ drop (k + 1) ops = others op inside is ∙ ap (λ (o : Op). o ∷ drop (k + 1) ops) plain in (
        elim leads [ inl given ↦ (let after_is = given.1 in omega (arith, after_is, so_far.0)) | inr given ↦ (let after_is = given.2 in omega (arith, after_is, so_far.0)) ],
        (
          λ rest. so_far.1.0 (subst (LeadsToOne context t height) (sym here) (after, leads, rest)),
          λ constant.
              let (between, leads', rest) = subst (LeadsToOne context t height) here (so_far.1.1 constant) in
              subst (λ (n : ℕ). LeadsToOne context t n (drop (k + 1) ops)) (sym (only between leads')) rest,
        ),
      )

  -- After the last instruction there must be one operand.
  pub judged-at-end : length ops ≤ k → IsTrue (nat_eq height 1) ↔ IsConstantIn context ops t
  judged-at-end past =
      let none : drop k ops ≡ [] = drop_all k ops past in (
        λ one. so_far.1.0 (subst (LeadsToOne context t height) (sym none) (eqb-true height 1 one)),
        λ constant. eq-eqb height 1 (subst (LeadsToOne context t height) none (so_far.1.1 constant)),
      )
