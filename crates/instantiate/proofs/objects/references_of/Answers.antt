use Rattle.instantiate.proofs.objects.references_of.Goals as goal

pub returns-in-Functions-clause-values : goal.returns-in-Functions-clause-values
returns-in-Functions-clause-values c = rw (c.in-Functions.is, ← c.as_slice.ensures) c.function_references.ensures.values

pub returns-in-Functions-clause-none : goal.returns-in-Functions-clause-none
returns-in-Functions-clause-none c = rw (c.in-Functions.is, ← c.as_slice.ensures) c.function_references.ensures.none

pub returns-in-Expressions-clause-values : goal.returns-in-Expressions-clause-values
returns-in-Expressions-clause-values c = rw (c.in-Expressions.is, ← c.as_slice-in-Expressions.ensures) c.values_of.ensures.values

pub returns-in-Expressions-clause-none : goal.returns-in-Expressions-clause-none
returns-in-Expressions-clause-none c = rw (c.in-Expressions.is, ← c.as_slice-in-Expressions.ensures) c.values_of.ensures.none
