use Rattle.serde_json.specs.View.{view}
use Rattle.scripts.proofs.lemmas.Lists.{array_in-found}
use Rattle.scripts.proofs.fields.array.Goals as goal

pub returns : goal.returns
returns c = rw c.as_slice.ensures.value (array_in-found c.args.key.now (view c.args.object.now) _ _ c.in_ok-field.ensures c.in_ok-items.ensures)
