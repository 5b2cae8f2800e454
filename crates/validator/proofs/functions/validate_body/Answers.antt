use Rattle.std.proofs.Common.{List, [], append_assoc, arith, inl, length, refl, rules, subst, sym, ◌++◌, ◌<◌, ◌≡◌, ◌∙◌, ◌∷◌}
use Rattle.std.proofs.lemmas.List.{append-nil, nil_from_length}
use Rattle.std.proofs.lemmas.Result.{err_from_is_err_and}
use Rattle.core_types.specs.declared.op.Op.{Op}
use Rattle.validator.specs.Completeness.{IsRestTyped}
use Rattle.validator.specs.Soundness.{IsReadTyped}
use Rattle.validator.proofs.BodyReading.{reads_all, reads_next, reads_nothing, reads_refused}
use Rattle.validator.proofs.Visiting.{all_shown, last_shown, nothing_shown}
use Rattle.validator.proofs.completeness.WholeBodies.{first_goes, never_whole, next_goes, still_open}
use Rattle.validator.proofs.soundness.WholeBodies.{all_read, first_read, next_read}
use Rattle.validator.proofs.functions.validate_body.Goals as goal

pub loop-next-init : goal.loop-next-init
loop-next-init g c =
    let b = c.begin_body.ensures in (
      [],
      reads_nothing c.args.body.now _ c.new-reader.ensures.operations c.new-reader.ensures.names_data,
      first_read c.args.context.now _ b.kind b.start_types b.end_types b.height b.reachable b.outer b.operands,
      λ ops all. subst (λ (z : List Op). IsRestTyped c.args.context.now c.args.body.now c.begin_body.new.stacks z) all (first_goes c.args.context.now c.args.body.now _ b.kind b.end_types b.height b.outer b.operands),
      c.requires.ready,
      λ ops. nothing_shown g.V.Visitor.Visits _ ops,
      c.opcode-next.ensures.code,
      c.opcode-next.ensures.none,
    )

pub loop-next-preserved : goal.loop-next-preserved
loop-next-preserved g c =
    let (read, reads, typed, goes, ready, on, code, none) = c.loop-next.invariant in
    let (op, passes, steps, leads) = c.in_ok-check_next.ensures.shows in (
      read ++ op ∷ [],
      reads_next reads op passes,
      next_read _ _ _ _ _ typed steps.sound,
      λ ops all. next_goes _ _ _ _ _ _ (goes (op ∷ ops) (all ∙ append_assoc read (op ∷ []) ops)) steps.complete,
      c.in_ok-check_next.ensures.ready,
      λ ops. last_shown g.V.Visitor.Visits _ _ _ read ops op leads (on (op ∷ ops)),
      c.opcode-next-in-Some.ensures.code,
      c.opcode-next-in-Some.ensures.none,
    )

pub loop-next-smaller : goal.loop-next-smaller
loop-next-smaller g c =
    let (op, passes, steps, leads) = c.in_ok-check_next.ensures.shows in
    passes.shorter

pub returns-in_err-check_next-clause-untyped : goal.returns-in_err-check_next-clause-untyped
returns-in_err-check_next-clause-untyped g c =
    let (read, reads, typed, goes, ready, on, code, none) = c.loop-next.invariant in
    let passed = err_from_is_err_and c.from_residual.result c.from_residual.ensures.1 in
    rw passed.1 (λ invalid. reads_refused reads _ _ goes (c.in_err-check_next.ensures.refused (sym passed.2 ∙ invalid)))

pub returns-then-not-is_empty-clause-untyped : goal.returns-then-not-is_empty-clause-untyped
returns-then-not-is_empty-clause-untyped g c =
    let (read, reads, typed, goes, ready, on, code, none) = c.loop-next.invariant in
    let all = reads_all reads (none c.in_default.is) in
    let more : 0 < length c.loop-next.stacks.outer.items = search (rules, c.loop-next.stacks.outer.ok.0) in
    λ invalid. still_open c.args.context.now c.args.body.now c.loop-next.stacks (goes [] (all.0 ∙ sym (append-nil read))) more

pub returns-in_err-finish_body-clause-untyped : goal.returns-in_err-finish_body-clause-untyped
returns-in_err-finish_body-clause-untyped g c =
    let (read, reads, typed, goes, ready, on, code, none) = c.loop-next.invariant in
    let all = reads_all reads (none c.in_default.is) in
    let passed = err_from_is_err_and c.from_residual-in_err-finish_body.result c.from_residual-in_err-finish_body.ensures.1 in
    rw passed.1
    (λ invalid. never_whole c.args.context.now c.args.body.now c.loop-next.stacks (goes [] (all.0 ∙ sym (append-nil read))) (c.in_err-finish_body.ensures.operands.1 (sym passed.2 ∙ invalid)))

pub returns-clause-typed : goal.returns-clause-typed
returns-clause-typed g c =
    let (read, reads, typed, goes, ready, on, code, none) = c.loop-next.invariant in
    let all = reads_all reads (none c.in_default.is) in
    let alone : length c.loop-next.stacks.outer.items ≡ 0 = search (rules, c.loop-next.stacks.outer.ok.0) in
    all_read c.args.context.now c.loop-next.stacks _ c.args.body.now (subst (λ (z : List Op). IsReadTyped c.args.context.now c.loop-next.stacks z) (sym all.0) typed)
    (nil_from_length c.loop-next.stacks.outer.items alone) c.in_ok-finish_body.ensures.operands.0

pub returns-clause-ready : goal.returns-clause-ready
returns-clause-ready g c =
    let (read, reads, typed, goes, ready, on, code, none) = c.loop-next.invariant in
    ready

pub returns-clause-shown : goal.returns-clause-shown
returns-clause-shown g c =
    let (read, reads, typed, goes, ready, on, code, none) = c.loop-next.invariant in
    let all = reads_all reads (none c.in_default.is) in
    rw (all.0 ∙ sym (append-nil read)) (all_shown g.V.Visitor.Visits _ _ _ [] refl (on []))

pub returns-clause-names : goal.returns-clause-names
returns-clause-names g c =
    let (read, reads, typed, goes, ready, on, code, none) = c.loop-next.invariant in
    rw c.names_data.ensures (reads_all reads (none c.in_default.is)).1
