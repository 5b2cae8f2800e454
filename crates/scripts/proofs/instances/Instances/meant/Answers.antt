use Rattle.std.proofs.Common.{◌∙◌, ap}
use Rattle.std.specs.Option.{option_flatten}
use Rattle.scripts.proofs.instances.Instances.meant.Goals as goal

pub returns-in-Some : goal.returns-in-Some
returns-in-Some c =
    let found = rw c.as_str.ensures.value at (c.copied.ensures ∙ c.get.ensures.value) in
    rw c.in-Some.is (c.flatten.ensures ∙ ap option_flatten found)
