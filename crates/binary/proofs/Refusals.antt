-- An error that is passed on.
use Rattle.binary.specs.Errors.{OnRefused}
use Rattle.binary.specs.declared.errors.DecodeError.{DecodeError}
use Rattle.binary.specs.declared.errors.DecodeError.TheVariants.{Limit, Malformed, OutOfMemory, Unsupported}

pub OnRefused-map : (error : DecodeError) (P Q : Type 0) → (P → Q) → OnRefused error P → OnRefused error Q
OnRefused-map (Malformed index) P Q so refused = so refused
OnRefused-map (Unsupported index) P Q so refused = so refused
OnRefused-map Limit P Q so refused = so refused
OnRefused-map OutOfMemory P Q so refused = tt
