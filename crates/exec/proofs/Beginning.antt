-- The beginning of a call from outside.
use Rattle.std.proofs.Common.{◌≡◌, ℕ, ◌+◌, ◌-◌, ◌<◌, ◌≤◌, List, [], ◌∷◌, ◌++◌, length, map, reverse, take, drop, set, replicate, Option, Some, None, slice_get}
use Rattle.std.proofs.Common.{refl, ap, sym, ◌∙◌, arith, length-append, subst}
use Rattle.std.proofs.lemmas.Option.{same_Some}
use Rattle.std.proofs.lemmas.List.{append-nil, drop-replicate, drop_all, length-map, length-replicate, length-reverse, length-set, map-append, reverse-reverse, take-replicate, take_all}
use Rattle.std.proofs.Math.Seq.{take-append-add}
use Rattle.core_types.specs.declared.outcome.Val.{Val}
use Rattle.core_types.specs.declared.types.FuncType.{FuncType}
use Rattle.meaning.specs.structure.Bodies.{Empty}
use Rattle.meaning.specs.execution.Configurations.{Invoking, no_frame}
use Rattle.meaning.specs.execution.Instructions.{NotReady, Opens, call_function, enter_function, next}
use Rattle.meaning.specs.execution.Modules.{code_of}
use Rattle.meaning.specs.execution.Runs.{NoHosts, Steps, none, one_more, opens}
use Rattle.meaning.specs.execution.Store.{Code, FunctionInstance, InCode, Store}
use Rattle.meaning.specs.execution.Values.{default_of}
use Rattle.meaning.specs.soundness.Values.{ValuesHaveTypes}
use Rattle.meaning.proofs.lemmas.Layers.{if-at-most}
use Rattle.soundness.specs.Configurations.{ConfigurationHasType}
use Rattle.soundness.specs.Places.{context_at, inside_frame, outermost}
use Rattle.soundness.specs.Stores.{FunctionIsValid, ImplementationIsValid, body_place}
use Rattle.soundness.proofs.Calls.{empty-runs}
use Rattle.soundness.proofs.Values.{All-at, defaults-typed, values-joined, values-length, values-reversed}
use Rattle.cells.specs.Cells.{cell_of}
use Rattle.sidetable.specs.Counts.{Signatures}
use Rattle.sidetable.specs.Flat.{FlatOp}
use Rattle.sidetable.specs.FlatModules.{operations_of}
use Rattle.simulation.specs.Laws.{code_at, function_label}
use Rattle.simulation.specs.Runs.{Ghost, IsTyped, Runs}
use Rattle.simulation.proofs.Cells.{first-cells}
use Rattle.simulation.proofs.Frames.{functions-entered}
use Rattle.store.specs.Contents.{signatures_of_instance, store_with}
use Rattle.store.specs.declared.instances.Instance.{Instance}
use Rattle.store.specs.declared.instances.ModuleFunction.{ModuleFunction}
use Rattle.interpreter.specs.Layout.{put_back}
use Rattle.exec.specs.Starting.{FunctionAddress, Takes}
use Rattle.interpreter.specs.Whole.{Whole, whole}
use Rattle.interpreter.proofs.Cells.{frame-length}
use Rattle.interpreter.proofs.Finding.{IsAtAddress, flat-body}
use Rattle.interpreter.proofs.Opening.{own-cells}

module _ (a : FunctionAddress) (f : ModuleFunction) (arguments : List Val) (takes : Takes a f arguments) where
  abbrev pub store : Store
  store = store_with a.code a.state

  abbrev pub t : FuncType
  t = f.ty.now

  abbrev pub code : Code
  code = code_of f.func.now

  abbrev pub s : Signatures
  s = signatures_of_instance (slice_get a.code.instances f.instance)

  abbrev pub i : Instance
  i = takes.flat.0

  abbrev pub ops : List FlatOp
  ops = operations_of i.loaded.value.flat

  abbrev pub n : ℕ
  n = length t.params

  abbrev pub k : ℕ
  k = length code.locals

  pub at-address : IsAtAddress a.code a.address f
  at-address = record {
    found = takes.found;
    instance = i;
    loaded = takes.flat.1;
    flat = flat-body s ops f takes.flat.2 takes.declared.0 takes.declared.1;
    types = takes.types;
  }

  typed : ValuesHaveTypes store arguments t.params
  typed =
      let (g, there, types) = takes.accepted in
      subst (λ (i : FunctionInstance). ValuesHaveTypes store arguments i.ty.params) (same_Some g (record { ty = t; implementation = InCode f.instance code }) (sym there ∙ takes.found)) types

  pub count : length arguments ≡ n
  count = values-length store arguments t.params typed

  pub arguments-few : length arguments ≤ f.flat.now.greatest
  arguments-few = let locals = at-address.flat.locals in let greatest = at-address.flat.greatest in omega (arith, count, locals, greatest)

  pub valid : ImplementationIsValid store t (InCode f.instance code)
  valid = All-at (FunctionIsValid store) store.functions a.address (record { ty = t; implementation = InCode f.instance code }) takes.found takes.valid.functions

  -- ---- the step

  abbrev pub entered : Ghost
  entered = record {
    code = code_at s ops (n + k) (length t.results) f.flat.now.place code.body;
    store = store;
    instance = f.instance;
    types = t.params ++ code.locals;
    results = t.results;
    locals = arguments ++ map default_of code.locals;
    values = [];
    labels = function_label (length t.results) ∷ [];
    rest = code.body;
  }

  abbrev pub begun : Whole
  begun = record { ghost = entered; callers = []; results = t.results }

  pub opens-first : next store no_frame (Invoking (reverse arguments) a.address) ≡ Opens 0 store (whole begun)
  opens-first =
      let many : n ≤ length (reverse arguments) = let size = length-reverse arguments in omega (arith, size, count) in
      let few : length (reverse arguments) ≤ n = let size = length-reverse arguments in omega (arith, size, count) in
      let all : take n (reverse arguments) ≡ reverse arguments = take_all n (reverse arguments) few in
      let rest : drop n (reverse arguments) ≡ [] = drop_all n (reverse arguments) few in
      let goes : next store no_frame (Invoking (reverse arguments) a.address) ≡ enter_function 0 store t f.instance code (reverse arguments) Empty =
      ap (λ (g : Option FunctionInstance). call_function 0 store None g (reverse arguments) Empty) takes.found ∙ if-at-most n (length (reverse arguments)) _ NotReady many in
      rw (all, rest, reverse-reverse arguments) at goes

  pub steps : (bound fuel : ℕ) → 1 ≤ bound
      → Steps NoHosts bound no_frame (record { store = store; hosts = []; fuel = fuel }) (Invoking (reverse arguments) a.address)
      (record { store = store; hosts = []; fuel = fuel }) (whole begun)
  steps bound fuel some = one_more none (opens opens-first (omega arith) (omega arith) refl some)

  pub starts-typed : ConfigurationHasType store outermost (Invoking (reverse arguments) a.address) t.results
  starts-typed = (record { ty = t; implementation = InCode f.instance code }, takes.found, values-reversed store arguments t.params typed, refl)

  -- ---- what runs in the frame

  entered-typed : IsTyped entered
  entered-typed = record {
    valid = takes.valid;
    own = values-joined store arguments (map default_of code.locals) t.params code.locals typed (defaults-typed store code.locals);
    typed = (
      [],
      t.results,
      t.results,
      refl,
      tt,
      ([], tt, valid.1),
      empty-runs store (inside_frame (Some f.instance) (t.params ++ code.locals) t.results) t.results,
      empty-runs store (inside_frame (Some f.instance) (t.params ++ code.locals) t.results) t.results,
    );
    types = takes.types.types;
    functions = takes.types.functions;
  }

  pub locals-size : length entered.locals ≡ n + k
  locals-size = let one = length-append arguments (map default_of code.locals) in let two = length-map code.locals default_of in omega (arith, one, two, count)

  module _ (size : ℕ) (enough : entered.code.greatest < size) where
    abbrev pub first : List ℕ
    first = map cell_of arguments ++ drop (length arguments) (replicate size 0)

    written : length (map cell_of arguments) ≡ n
    written = length-map arguments cell_of ∙ count

    pub first-size : length first ≡ size
    first-size =
        let one = length-append (map cell_of arguments) (drop (length arguments) (replicate size 0)) in
        let two = ap (λ (z : List ℕ). length z) (drop-replicate {X = ℕ} (length arguments) size 0) in
        let three : length (replicate (size - length arguments) 0) ≡ size - length arguments = length-replicate {A = ℕ} (size - length arguments) 0 in
        omega (arith, one, two, three, written, count, enough)

    first-held : take (n + k) first ≡ map cell_of entered.locals ++ []
    first-held =
        ap (λ (i : ℕ). take (i + k) first) (sym written)
        ∙ take-append-add (map cell_of arguments) (drop (length arguments) (replicate size 0)) k
        ∙ ap (λ (z : List ℕ). map cell_of arguments ++ take k z) (drop-replicate {X = ℕ} (length arguments) size 0)
        ∙ ap (λ (z : List ℕ). map cell_of arguments ++ z) (take-replicate {X = ℕ} k (size - length arguments) 0 (omega (arith, count, enough)) ∙ sym (first-cells code.locals))
        ∙ sym (map-append cell_of arguments (map default_of code.locals))
        ∙ sym (append-nil (map cell_of entered.locals))

    pub entered-runs : Runs entered (put_back (n + k) 0 first (0 + (n + k)) 0) f.flat.now.place (n + k)
    unfolding at-address
    entered-runs =
        let put = length-set first (0 + (n + k)) 0 in
        let own = frame-length (n + k) 0 (set first (0 + (n + k)) 0) (omega (arith, put, first-size, enough)) in
        record {
          stands = functions-entered (context_at store (body_place t f.instance code)) s takes.types.types takes.types.functions t code.body valid.1
              ops (n + k) f.flat.now.place at-address.flat.begins;
          holds = record {
            held = own-cells (n + k) 0 first 0 (omega (arith, first-size, enough)) ∙ first-held;
            top_is = omega (arith, locals-size);
            count = locals-size;
            room = omega (arith, own, put, first-size, enough, locals-size);
          };
          typed = entered-typed;
        }
