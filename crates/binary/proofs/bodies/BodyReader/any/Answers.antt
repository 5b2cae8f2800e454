use Rattle.std.proofs.Common.{refl}
use Rattle.std.proofs.lemmas.Result.{err_from_is_err_and}
use Rattle.binary.proofs.loops.Bodies.{first_passes, refused_first}
use Rattle.binary.proofs.loops.Values.{any_bytes}
use Rattle.binary.proofs.bodies.BodyReader.any.Goals as goal

pub returns-in_err-op : goal.returns-in_err-op
returns-in_err-op c =
    let passed = err_from_is_err_and c.from_residual.result c.from_residual.ensures.1 in
    rw (passed.1, passed.2, ← c.self.view_is) (refused_first _ _ (any_bytes _ (rw (← c.self.view_is) at c.requires)) c.in_err-op.ensures)

pub returns : goal.returns
returns c = rw (← c.self.view_is) (first_passes _ _ _ _ _ c.in_ok-op.ensures (rw c.is_of_data.ensures refl))
