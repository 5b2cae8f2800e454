use Rattle.std.proofs.Common.{Bool, ap, false, not, subst, sym, true, ◌∙◌, ◌≡◌}
use Rattle.binary.specs.Bodies.{HaveBodies}
use Rattle.binary.specs.Sections.{name_data}
use Rattle.meaning.specs.embedding.Machine.{IsDecoded}
use Rattle.meaning.specs.validation.Modules.{IsValid}
use Rattle.store.specs.Loaded.{LoadedContents}
use Rattle.loading.proofs.load.Goals as goal
use Rattle.loading.proofs.load.Goals.{else-not-outline-via-then-not-outline+else-names_data, else-not-outline-via-else-not-outline}

never : (counted : Bool) → counted ≡ false → not counted ≡ false → ⊥
never true none stays = absurd cc
never false none stays = absurd cc

pub returns : goal.returns
returns c =
    let m = c.in-Ok.outline.module in
    let same : c.in-Ok-new.loaded.source ≡ m = c.in-Ok-new.ensures.kept in
    let valid : IsValid m = subst IsValid (ap (λ (l : LoadedContents). l.source) c.loaded.view_is ∙ same) c.loaded.invariant.1.valid in
    let bodies : HaveBodies m.funcs = λ k d lt. let v = valid.bodies k d lt in (v.body, v.written) in
    let unnamed : c.in-Ok.outline.counted ≡ false → name_data m.funcs ≡ false = λ uncounted.
    elim c.else-not-outline.branch [
      | else-not-outline-via-then-not-outline+else-names_data w ↦ rw (← same) (sym w.names_data.ensures ∙ w.if-names_data.false)
      | else-not-outline-via-else-not-outline w ↦ absurd (never c.in-Ok.outline.counted uncounted w.if-not-outline.false)
    ] in
    rw same (record { spelt = c.in-Ok.ensures.spelt bodies unnamed; small = c.in-Ok.ensures.within_limits })
