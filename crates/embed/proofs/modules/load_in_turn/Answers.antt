use Rattle.std.proofs.Common.{ap, ◌∙◌}
use Rattle.std.proofs.lemmas.Result.{err_from_is_err_and}
use Rattle.meaning.specs.embedding.Machine.{IsDecoded}
use Rattle.store.specs.Loaded.{LoadedContents}
use Rattle.embed.proofs.lemmas.Causes.{decode-refuses, validate-refuses}
use Rattle.embed.proofs.modules.load_in_turn.Goals as goal

pub returns-in_err-decoded-clause-refused : goal.returns-in_err-decoded-clause-refused
returns-in_err-decoded-clause-refused c =
    let passed = err_from_is_err_and c.from_residual.result c.from_residual.ensures.1 in
    rw (passed.1, passed.2) (decode-refuses c.args.bytes.now _ c.in_err-decoded.ensures.refused)

pub returns-in_err-loaded-clause-refused : goal.returns-in_err-loaded-clause-refused
returns-in_err-loaded-clause-refused c =
    let passed = err_from_is_err_and c.from_residual-in_err-loaded.result c.from_residual-in_err-loaded.ensures.1 in
    let decoded : IsDecoded c.args.bytes.now c.in_ok-decoded.decoded = record { spelt = c.in_ok-decoded.ensures.spelt; small = c.in_ok-decoded.ensures.within_limits } in
    rw (passed.1, passed.2) (validate-refuses c.args.bytes.now c.in_ok-decoded.decoded _ decoded c.in_err-loaded.ensures.invalid)

pub returns-clause-decoded : goal.returns-clause-decoded
returns-clause-decoded c =
    let kept = ap (λ (l : LoadedContents). l.source) c.in_ok-new.ensures.ok ∙ c.in_ok-loaded.ensures.kept in
    rw kept (record { spelt = c.in_ok-decoded.ensures.spelt; small = c.in_ok-decoded.ensures.within_limits })
