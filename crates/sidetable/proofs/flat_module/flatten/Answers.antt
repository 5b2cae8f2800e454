use Rattle.std.proofs.Common.{◌≡◌, ◌∙◌, List, [], ap, ap₂, arith, map, subst, ℕ}
use Rattle.std.proofs.lemmas.List.Elements.{All-nil}
use Rattle.core_types.specs.declared.types.FuncType.{FuncType}
use Rattle.meaning.specs.validation.Modules.{type_at}
use Rattle.sidetable.specs.Counts.{Signatures}
use Rattle.sidetable.specs.FlatModules.{AreFlat, module_signatures, operations_of}
use Rattle.sidetable.specs.Flattening.{ArePushed}
use Rattle.sidetable.specs.Packing.{IsWithin}
use Rattle.sidetable.specs.Signatures.{signatures_of}
use Rattle.sidetable.specs.declared.counts.ModuleTypes.{ModuleTypes}
use Rattle.sidetable.proofs.InTurn.{functions-pushed, module_so_far}
use Rattle.sidetable.proofs.flat_module.flatten.Goals as goal

pub returns-clause-flat : goal.returns-clause-flat
returns-clause-flat c =
    let m = c.args.decoded in
    let start = c.new_flattener-flattener.result in
    let given = c.new_flattener-flattener.ensures in
    let end = module_so_far c.validate_with.new.visitor in
    let first : ArePushed (signatures_of start.types) [] (module_so_far start) = record {
      within = rw given.operations (All-nil (IsWithin start.flattening.tables));
      few = rw given.operations (omega arith);
      functions = rw given.functions (tt {0});
    } in
    let all = functions-pushed c.writing_is_read.ensures.whole m.types m.funcs [] start c.validate_with.new.visitor
    (ap (λ (t : ModuleTypes). t.types.now) given.types ∙ c.as_slice.ensures) c.in_ok-names.ensures.shown
    (λ k d lt. let v = c.in_ok-names.ensures.valid.bodies k d lt in (v.body, v.written)) first in
    let types : signatures_of start.types ≡ module_signatures m = ap signatures_of given.types
    ∙ ap₂ (λ (ts : List FuncType) (ns : List ℕ). record { types = ts; functions = map (type_at ts) ns }) c.as_slice.ensures (c.deref.ensures.value ∙ c.in_ok-functions.ensures) in
    rw (c.new.ensures, c.into_flat_module-flat.ensures) (record {
      within = all.within;
      few = all.few;
      functions = subst (λ (s : Signatures). AreFlat s (operations_of end) m.funcs end.functions.items) types all.functions;
    })
