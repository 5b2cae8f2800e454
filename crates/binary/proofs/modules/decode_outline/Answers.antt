use Rattle.std.proofs.Common.{refl}
use Rattle.binary.proofs.exactness.CutBodies.{module_agrees}
use Rattle.binary.proofs.exactness.Modules.{module_sound}
use Rattle.binary.proofs.modules.decode_outline.Goals as goal

pub returns-clause-spelt : goal.returns-clause-spelt
returns-clause-spelt c = λ bodies unnamed.
    let m = c.in_ok-module.module in
    let n = c.in_ok-module.count in
    let read = module_agrees c.args.bytes.now _ m n bodies (rw c.new-reader.ensures at c.in_ok-module.ensures.reads) in
    let (sections, parts, spelt) = module_sound c.args.bytes.now _ m n read in
    (sections, parts, (n, spelt, c.if-not-may_fit_count.ensures refl (λ none. unnamed (rw (c.is_some.ensures, none) refl))))
