use Rattle.std.proofs.Common.{ℕ, List, Some, ap, ◌∙◌}
use Rattle.std.specs.Prelude.{option_map, slice_get, string_bytes}
use Rattle.linker.proofs.Named.{name-at, no_numbers, numbers-there}
use Rattle.linker.proofs.names.Names.host_name.Goals as goal

pub returns-in_err-get : goal.returns-in_err-get
returns-in_err-get c =
    rw (← c.self.view_is, c.from_residual.ensures)
    (ap (λ (items : List (List ℕ × ℕ)). option_map (λ (host : List ℕ × ℕ). host.0) (slice_get items c.args.index))
    (no_numbers c.self.inside.hosts c.args.module_name.now c.in_err-get.ensures.value))

pub returns-in_err-name : goal.returns-in_err-name
returns-in_err-name c =
    rw (← c.self.view_is, c.from_residual-in_err-name.ensures)
    (ap (option_map (λ e. string_bytes e.0)) c.in_err-name.ensures.entry ∙ name-at c.in_ok-get.field-0.now c.args.index
    ∙ ap (λ (items : List (List ℕ × ℕ)). option_map (λ (host : List ℕ × ℕ). host.0) (slice_get items c.args.index))
    (numbers-there c.self.inside.hosts c.args.module_name.now c.in_ok-get.field-0.now c.in_ok-get.ensures.value))

pub returns : goal.returns
returns c =
    rw (← c.self.view_is)
    (ap Some c.as_str.ensures.value ∙ ap (option_map (λ e. string_bytes e.0)) c.in_ok-name.ensures.entry ∙ name-at c.in_ok-get.field-0.now c.args.index
    ∙ ap (λ (items : List (List ℕ × ℕ)). option_map (λ (host : List ℕ × ℕ). host.0) (slice_get items c.args.index))
    (numbers-there c.self.inside.hosts c.args.module_name.now c.in_ok-get.field-0.now c.in_ok-get.ensures.value))
