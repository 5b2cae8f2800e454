use Rattle.std.specs.List.{list_any}
use Rattle.core_types.specs.declared.module.Func.{Func}
use Rattle.meaning.specs.binary.Modules.{names_data}
use Rattle.meaning.specs.validation.Modules.{IsValidFunction}
use Rattle.validator.specs.Visiting.{IsShownFunction}
use Rattle.validator.proofs.ListLoops.{All-next, All-whole, any_next, any_whole}
use Rattle.validator.proofs.Visiting.{index_shown, indices_shown}
use Rattle.validator.proofs.functions.validate_functions.Goals as goal

pub loop-index-preserved : goal.loop-index-preserved
loop-index-preserved g c =
    let m = c.args.decoded.now in
    let (valid, on, named) = c.loop-index.invariant in (
      All-next (IsValidFunction m) m.funcs c.as_slice-func-items.result.now c.loop-index.index c.as_slice-func-items.ensures c.func-item.result c.loop-index-test.true c.func-item.is valid
          c.in-Ok.ensures.valid,
      index_shown (IsShownFunction g.V.Visitor.Begins g.V.Visitor.Visits g.V.Visitor.Ends m.types) _ _ m.funcs c.as_slice-func-items.result.now c.loop-index.index c.as_slice-func-items.ensures on
          _ c.func-item.result c.loop-index-test.true c.func-item.is c.in-Ok.ensures.shown,
      any_next (λ (f : Func). list_any names_data f.body) m.funcs c.as_slice-func-items.result.now c.loop-index.index c.as_slice-func-items.ensures c.func-item.result c.loop-index-test.true c.func-item.is
          _ _ named c.in-Ok.ensures.names,
    )

pub returns-clause-valid : goal.returns-clause-valid
returns-clause-valid g c =
    let m = c.args.decoded.now in
    All-whole (IsValidFunction m) m.funcs c.as_slice-func-items.result.now c.loop-index.index c.as_slice-func-items.ensures c.loop-index-test.false c.loop-index.invariant.0

pub returns-clause-shown : goal.returns-clause-shown
returns-clause-shown g c =
    let m = c.args.decoded.now in
    indices_shown (IsShownFunction g.V.Visitor.Begins g.V.Visitor.Visits g.V.Visitor.Ends m.types) _ _ m.funcs c.as_slice-func-items.result.now c.loop-index.index c.as_slice-func-items.ensures
    c.loop-index.invariant.1 c.loop-index-test.false

pub returns-clause-names : goal.returns-clause-names
returns-clause-names g c =
    let m = c.args.decoded.now in
    any_whole (λ (f : Func). list_any names_data f.body) m.funcs c.as_slice-func-items.result.now c.loop-index.index c.as_slice-func-items.ensures c.loop-index-test.false _ c.loop-index.invariant.2
