-- Reading expressions.
use Rattle.std.specs.Prelude.{◌≡◌, ◌≤◌, Bool, Err, List, None, Ok, Option, Result, Some, [], length, suc, zero, ℕ, ◌++◌, ◌∷◌, ◌||◌}
use Rattle.std.specs.List.{list_any}
use Rattle.core_types.specs.declared.op.Op.{Op}
use Rattle.core_types.specs.declared.op.Op.TheVariants.{Block, Else, End, If, Loop, Plain}
use Rattle.core_types.specs.reading.Conventions.{Reading, ◌>>=◌}
use Rattle.core_types.specs.reading.Instructions.{op_at}
use Rattle.meaning.specs.binary.Modules.{names_data}
use Rattle.binary.specs.Errors.{OnRefused}
use Rattle.binary.specs.declared.errors.DecodeError.{DecodeError}
use Rattle.binary.specs.declared.expressions.Flow.{Flow}
use Rattle.binary.specs.declared.expressions.Flow.TheVariants.{Continues, Ended, Misplaced}
use Rattle.binary.specs.declared.expressions.OpenBody.{OpenBody}
use Rattle.binary.specs.declared.expressions.OpenBody.TheVariants.{InBlock, InIf}

-- The effect of an operation on the expression and on its open bodies, the innermost first.
abbrev pub next_bodies : List OpenBody → Op → Flow × List OpenBody
next_bodies bodies (Plain op) = (Continues, bodies)
next_bodies bodies (Block type) = (Continues, InBlock ∷ bodies)
next_bodies bodies (Loop type) = (Continues, InBlock ∷ bodies)
next_bodies bodies (If type) = (Continues, InIf ∷ bodies)
next_bodies [] Else = (Misplaced, [])
next_bodies (InBlock ∷ bodies) Else = (Misplaced, bodies)
next_bodies (InIf ∷ bodies) Else = (Continues, InBlock ∷ bodies)
next_bodies [] End = (Ended, [])
next_bodies (body ∷ bodies) End = (Continues, bodies)

-- The value for the result of the next operation.
abbrev pub on_next : {V : Type 0} → Flow → Option V → Option V → Option V
on_next Continues continues ended = continues
on_next Ended continues ended = ended
on_next Misplaced continues ended = None

-- The operations up to the end of the outermost body, in a limited number of steps, after those that were read before.
unfoldable pub ops_at : ℕ → List OpenBody → List Op → Reading (List Op)
ops_at zero bodies ops bytes = None
ops_at (suc steps) bodies ops bytes = do
  op ← op_at bytes
  on_next (next_bodies bodies op.0).0
      (ops_at steps (next_bodies bodies op.0).1 (ops ++ op.0 ∷ []) op.1) (Some (ops, op.1))

-- An expression. Each operation takes at least one byte.
unfoldable pub expression_at : Reading (List Op)
expression_at bytes = ops_at (length bytes) [] [] bytes

-- An expression is being read: the remaining steps suffice, and lead to the whole of it.
pub record IsReadingExpression (whole rest : List ℕ) (open_bodies : List OpenBody)
    (ops : List Op)
    : Type 0 where
  pub steps : ℕ
  pub enough : length rest ≤ steps
  pub so_far : ops_at steps open_bodies ops rest ≡ expression_at whole

-- An operation is skipped, with this effect on the expression and its open bodies, and it is noted if it names a data segment.
abbrev pub SkipsOperation : Result Flow DecodeError → (bytes rest : List ℕ)
    → (bodies bodies' : List OpenBody) → (before noted : Bool) → Type 0
SkipsOperation (Ok flow) bytes rest bodies bodies' before noted =
    (op : Op) × (op_at bytes ≡ Some (op, rest)) × (next_bodies bodies op ≡ (flow, bodies'))
    × (noted ≡ (before || names_data op))
SkipsOperation (Err error) bytes rest bodies bodies' before noted =
    OnRefused error (op_at bytes ≡ None)

-- The operations of an expression are skipped, and it is noted if one of them names a data segment.
abbrev pub SkipsExpression : Result (Unit {0}) DecodeError → (bytes rest : List ℕ)
    → (before noted : Bool) → Type 0
SkipsExpression (Ok done) bytes rest before noted =
    (ops : List Op) × (expression_at bytes ≡ Some (ops, rest))
    × (noted ≡ (before || list_any names_data ops))
SkipsExpression (Err error) bytes rest before noted = OnRefused error (expression_at bytes ≡ None)
