use Rattle.std.proofs.Common.{length}
use Rattle.binary.proofs.loops.Custom.{IsSkippingCustoms}
use Rattle.binary.proofs.sections.custom.skip_customs.Given as goal

abbrev pub invariant-loop-reader : goal.invariant-loop-reader
invariant-loop-reader l = IsSkippingCustoms l.fn.reader l.reader

abbrev pub decreases-loop-reader : goal.decreases-loop-reader
decreases-loop-reader l = length l.reader
