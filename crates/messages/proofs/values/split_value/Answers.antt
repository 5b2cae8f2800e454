use Rattle.std.proofs.Common.{◌++◌, refl, sym, ◌∙◌, subst, arith}
use Rattle.std.proofs.lemmas.Bool.{false≢true}
use Rattle.meaning.specs.execution.Values.{type_of}
use Rattle.cells.specs.Cells.{IsCellOf, cell_of}
use Rattle.messages.specs.Numbers.{number_bytes}
use Rattle.messages.specs.Types.{number_of}
use Rattle.messages.proofs.Fitting.{cell-fits, number_of-fits, number_of-injective, value_in_parts}
use Rattle.messages.proofs.Spellings.{number_is_long, same_number}
use Rattle.messages.proofs.values.split_value.Goals as goal

pub returns-in_err-cell-clause-none : goal.returns-in_err-cell-clause-none
returns-in_err-cell-clause-none c _ v rest fits e =
    let same = same_number (number_of (type_of v)) (number_of c.in_ok-ty.ty) (number_bytes (cell_of v) ++ rest) _ (number_of-fits (type_of v))
    (number_of-fits c.in_ok-ty.ty) (value_in_parts v rest _ e ∙ sym c.in_ok-ty.ensures.found) in
    let long = number_is_long (cell_of v) rest _ same.1 in
    omega (arith, c.in_err-cell.ensures.none refl)

pub returns-else-is_cell_of-clause-none : goal.returns-else-is_cell_of-clause-none
returns-else-is_cell_of-clause-none c _ v rest fits e =
    let ty = c.in_ok-ty.ty in
    let same = same_number (number_of (type_of v)) (number_of ty) (number_bytes (cell_of v) ++ rest) _ (number_of-fits (type_of v))
    (number_of-fits ty) (value_in_parts v rest _ e ∙ sym c.in_ok-ty.ensures.found) in
    let cell = same_number (cell_of v) c.in_ok-cell.cell rest _ (cell-fits (type_of v) (cell_of v) fits) c.in_ok-cell.ensures.fits (same.1 ∙ sym c.in_ok-cell.ensures.found) in
    let is_cell = subst (λ t. IsCellOf t c.in_ok-cell.cell) (number_of-injective (type_of v) ty same.0) (subst (IsCellOf (type_of v)) cell.0 fits) in
    false≢true (c.if-is_cell_of.ensures.1 is_cell)
