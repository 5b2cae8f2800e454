use Rattle.std.proofs.Common.{drop, take, ◌≡◌}
use Rattle.std.specs.List.{list_any}
use Rattle.std.specs.Prelude.{All}
use Rattle.core_types.specs.declared.module.Func.{Func}
use Rattle.meaning.specs.binary.Modules.{names_data}
use Rattle.meaning.specs.validation.Modules.{IsValidFunction}
use Rattle.validator.specs.Visiting.{IsShownFunction}
use Rattle.validator.proofs.Visiting.{LeadsOn}
use Rattle.validator.proofs.functions.validate_functions.Given as goal

abbrev pub invariant-loop-index : goal.invariant-loop-index
invariant-loop-index g l =
    All (IsValidFunction l.decoded) (take l.index l.decoded.funcs)
    × LeadsOn (IsShownFunction g.V.Visitor.Begins g.V.Visitor.Visits g.V.Visitor.Ends l.decoded.types) l.fn.visitor l.decoded.funcs l.visitor (drop l.index l.decoded.funcs)
    × (l.named ≡ list_any (λ (f : Func). list_any names_data f.body) (take l.index l.decoded.funcs))
