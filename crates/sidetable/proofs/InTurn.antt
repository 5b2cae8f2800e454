-- The functions of a module are flattened in turn.
use Rattle.std.proofs.Common.{◌≡◌, ◌∙◌, ◌+◌, ◌++◌, ◌∷◌, [], List, ap, append_assoc, length, refl, subst, sym, ℕ}
use Rattle.std.proofs.lemmas.List.{append-nil}
use Rattle.std.proofs.lemmas.List.Elements.{All-head, All-tail}
use Rattle.std.specs.List.{All}
use Rattle.std.specs.Prelude.{Some, max, slice_get}
use Rattle.core_types.specs.declared.module.Func.{Func}
use Rattle.core_types.specs.declared.op.Op.{Op}
use Rattle.core_types.specs.declared.types.FuncType.{FuncType}
use Rattle.meaning.specs.structure.Bodies.{Body, rests, writing}
use Rattle.meaning.specs.validation.Modules.{type_at}
use Rattle.validator.specs.Visiting.{InTurn, IsShownFunction}
use Rattle.sidetable.specs.Counts.{height_or_zero}
use Rattle.sidetable.specs.FlatModules.{AreWithin, HasBody}
use Rattle.sidetable.specs.Flattening.{ArePushed, EndsAs, IsMade, IsOpen, IsPushed, PassesTo, module_of}
use Rattle.sidetable.specs.Functions.{BeginsFunction, EndsFunction, FlattensOperation, with_greatest}
use Rattle.sidetable.specs.Signatures.{signatures_of}
use Rattle.sidetable.specs.declared.counts.ModuleTypes.{ModuleTypes}
use Rattle.sidetable.specs.declared.flat_module.FlatModule.{FlatModule}
use Rattle.sidetable.specs.declared.flat_module.Flattener.{Flattener}
use Rattle.sidetable.specs.declared.flat_module.PackedFunction.{PackedFunction}
use Rattle.sidetable.specs.declared.flattening.Flattening.{Flattening}
use Rattle.sidetable.specs.declared.operations.PackedOp.TheVariants as packed
use Rattle.sidetable.proofs.Functions.{all-more, placed-behind, within-behind}
use Rattle.sidetable.proofs.Passing.{opens-on, passes-none, passes-then, with-tables}
use Rattle.sidetable.proofs.Wholes.{is-made, opens-first}

abbrev pub module_so_far : Flattener → FlatModule
module_so_far f = module_of f.functions f.flattening

-- ---- operations

-- All operations of a function are flattened.
record FlattensAll (old : Flattener) (ops : List Op) (new : Flattener) : Type 0 where
  types : new.types ≡ old.types
  functions : new.functions ≡ old.functions
  function : new.function ≡ old.function
  outermost : new.outermost ≡ old.outermost
  first_range : new.first_range ≡ old.first_range
  passes : PassesTo (signatures_of old.types) old.outermost old.flattening ops [] new.flattening

none-flattened : (f : Flattener) → FlattensAll f [] f
none-flattened f =
    record { types = refl; functions = refl; function = refl; outermost = refl; first_range = refl; passes = passes-none (signatures_of f.types) f.outermost f.flattening [] }

one-more : (op : Op) (ops : List Op) (old next new : Flattener) → FlattensOperation old op next → FlattensAll next ops new → FlattensAll old (op ∷ ops) new
one-more op ops old next new one rest =
    let typed = subst (λ (t : ModuleTypes). PassesTo (signatures_of t) next.outermost next.flattening ops [] new.flattening) one.types rest.passes in
    let others = subst (λ (n : ℕ). PassesTo (signatures_of old.types) n next.flattening ops [] new.flattening) one.outermost typed in
    record {
      types = rest.types ∙ one.types;
      functions = rest.functions ∙ one.functions;
      function = rest.function ∙ one.function;
      outermost = rest.outermost ∙ one.outermost;
      first_range = rest.first_range ∙ one.first_range;
      passes = passes-then (signatures_of old.types) old.outermost old.flattening next.flattening new.flattening (op ∷ ops) ops [] (one.passes ops) others;
    }

all-flattened : (ops : List Op) (old new : Flattener) → InTurn FlattensOperation old ops new → FlattensAll old ops new
all-flattened [] old new same = subst (λ (f : Flattener). FlattensAll old [] f) same (none-flattened old)
all-flattened (op ∷ ops) old new (next, one, others) = one-more op ops old next new one (all-flattened ops next new others)

-- ---- a function

module _ (whole : (body : Body) → (rests (writing body)).here.body ≡ body) (from first last to : Flattener) (ty : FuncType) (f : Func) (begins : BeginsFunction from ty f first)
    (shown : InTurn FlattensOperation first f.body last) (ends : EndsFunction last to) (within : AreWithin (module_so_far from)) where
  all : FlattensAll first f.body last
  all = all-flattened f.body first last shown

  passes : PassesTo (signatures_of from.types) first.outermost first.flattening f.body [] last.flattening
  passes = rw begins.types at all.passes

  abbrev most : ℕ
  most = max last.flattening.heights.greatest (height_or_zero last.flattening.heights.here)

  abbrev one : PackedFunction
  one = with_greatest first.function most

  abbrev flat : Flattening
  flat = with-tables last.flattening to.flattening.tables

  ends-as : (body : Body) → f.body ≡ writing body → EndsAs from.flattening.tables first.outermost last.flattening [] to.flattening.tables
  ends-as body e =
      let opened : IsOpen from.flattening.tables first.outermost last.flattening [] =
      opens-on (signatures_of from.types) first.outermost first.flattening last.flattening f.body [] passes from.flattening.tables
      (opens-first from.flattening.tables first.outermost first.flattening first.function.locals first.function.results begins.starts f.body body e) in
      rw all.outermost at (ends.ends from.flattening.tables (begins.first_range ∙ sym all.first_range) (rw (sym all.outermost) at opened))

  made-so : (body : Body) → f.body ≡ writing body
      → IsMade (signatures_of from.types) from.flattening.operations.items from.flattening.tables one.locals one.results body flat one.greatest
  made-so body e = rw begins.operations at
      (is-made (signatures_of from.types) from.flattening.tables first.outermost first.flattening last.flattening first.function.locals first.function.results f.body body to.flattening.tables most
      begins.starts e (ap (λ (ops : List Op). (rests ops).here.body) e ∙ whole body) (rw begins.operations within) passes (ends-as body e) refl)

  left : to.flattening.operations.items ≡ flat.operations.items ++ (packed.Leave first.function.results ∷ [])
  left = rw all.function at ends.operations

  pub function-pushed : (types : List FuncType) → from.types.types.now ≡ types → slice_get types f.ty ≡ Some ty → HasBody f
      → IsPushed (signatures_of from.types) (module_so_far from) f (module_so_far to)
  function-pushed types types_are found (body₀, e₀) =
      let there : type_at from.types.types.now f.ty ≡ ty = rw (types_are, found) refl in
      let behind = placed-behind (signatures_of from.types) from.flattening.operations.items from.flattening.tables one body₀ flat (module_so_far to) (made-so body₀ e₀) begins.place left refl in
      record {
        within = within-behind (module_so_far to) flat first.function.results (made-so body₀ e₀).within left refl;
        few = ends.few;
        operations = (_, behind.0);
        packed = one;
        functions = rw (all.function, all.functions, begins.functions) at ends.functions;
        flat = record {
          flat = λ body e.
              (placed-behind (signatures_of from.types) from.flattening.operations.items from.flattening.tables one body flat (module_so_far to) (made-so body e) begins.place left refl).1;
          params = begins.params ∙ sym (ap (λ (t : FuncType). length t.params) there);
          locals = begins.locals ∙ sym (ap (λ (t : FuncType). length t.params + length f.locals) there);
          results = begins.results ∙ sym (ap (λ (t : FuncType). length t.results) there);
        };
      }

  pub types-kept : to.types ≡ from.types
  types-kept = ends.types ∙ all.types ∙ begins.types

-- ---- all functions

pub functions-pushed : (whole : (body : Body) → (rests (writing body)).here.body ≡ body) (types : List FuncType) (funcs before : List Func) (from to : Flattener) → from.types.types.now ≡ types
    → InTurn (IsShownFunction BeginsFunction FlattensOperation EndsFunction types) from funcs to → All HasBody funcs → ArePushed (signatures_of from.types) before (module_so_far from)
    → ArePushed (signatures_of from.types) (before ++ funcs) (module_so_far to)
functions-pushed whole types [] before from to types_are same bodies are = rw (sym same, append-nil before) are
functions-pushed whole types (f ∷ funcs) before from to types_are (next, (ty, first, last, found, begins, shown, ends), others) bodies are =
    let pushed = function-pushed whole from first last next ty f begins shown ends are.within types types_are found (All-head HasBody f funcs bodies) in
    let kept = types-kept whole from first last next ty f begins shown ends are.within in
    let more : ArePushed (signatures_of from.types) (before ++ (f ∷ [])) (module_so_far next) = all-more (signatures_of from.types) before (module_so_far from) (module_so_far next) f are pushed in
    let rest = functions-pushed whole types funcs (before ++ (f ∷ [])) next to (ap (λ (t : ModuleTypes). t.types.now) kept ∙ types_are) others (All-tail HasBody f funcs bodies) (rw kept more) in
    rw (sym (append_assoc before (f ∷ []) funcs)) (rw kept at rest)
