-- The inside of a typed configuration is typed in its own frame.
use Rattle.std.proofs.Common.{[], ◌∷◌, refl}
use Rattle.meaning.specs.execution.Configurations.{InFrame, InLabel}
use Rattle.meaning.specs.execution.Layers.{AroundFrame, AroundLabel}
use Rattle.soundness.specs.Insides.{InsideIsTyped}
use Rattle.soundness.specs.Places.{inside_frame, inside_label}

pub inside-typed : InsideIsTyped
inside-typed store [] frame inside place results own typed = (place, results, own, typed)
inside-typed store (AroundLabel label ∷ layers) frame inside place results own typed =
    let (around, given, there, (stack, inner_given, carried, arity, values, inner, onward, again)) = inside-typed store layers frame (InLabel label inside) place results own typed in
    (inside_label around carried, inner_given, there, inner)
inside-typed store (AroundFrame activation outer ∷ layers) frame inside place results own typed =
    let (around, given, there, (stack, inner_given, locals, arity, values, own_locals, inner, onward)) = inside-typed store layers outer (InFrame activation frame inside) place results own typed in
    (inside_frame frame.instance locals inner_given, inner_given, (refl, own_locals), inner)
