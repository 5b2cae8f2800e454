use Rattle.std.proofs.Common.{◌∙◌}
use Rattle.serde_json.specs.View.{view}
use Rattle.scripts.proofs.lemmas.Lists.{has_left_out_in-found}
use Rattle.scripts.proofs.skipping.has_other_values.Goals as goal

pub returns-in-Some : goal.returns-in-Some
returns-in-Some c = c.any_other_value.ensures ∙ has_left_out_in-found view c.args.key.now (view c.args.object.now) c.in-Some.items.now c.in-Some.ensures
