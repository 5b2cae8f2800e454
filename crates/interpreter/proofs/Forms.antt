-- What the forms of a step in a frame mean for the machine.
use Rattle.std.proofs.Common.{◌≡◌, ℕ, suc, ◌+◌, ◌-◌, ◌<◌, ◌≤◌, List, [], ◌∷◌, ◌++◌, length, take, drop, set, get_or, refl, ap, sym, subst, ◌∙◌, arith}
use Rattle.std.proofs.lemmas.List.{drop-take, length-set, take-set-le, take-take}
use Rattle.std.specs.Prelude.{Some, Result, Ok, Err}
use Rattle.core_types.specs.declared.op.PlainOp.{PlainOp}
use Rattle.core_types.specs.declared.outcome.Trap.{Trap}
use Rattle.meaning.specs.execution.Store.{Store}
use Rattle.sidetable.specs.Counts.{counts_of}
use Rattle.sidetable.specs.Flat.{FlatOp, Plain}
use Rattle.sidetable.specs.declared.counts.Counts.{Counts}
use Rattle.sidetable.specs.declared.operations.Entry.{Entry}
use Rattle.simulation.specs.Instructions.{IsAnswered, IsKept, IsPut}
use Rattle.simulation.specs.Operations.{IsCharged, IsLanded}
use Rattle.simulation.specs.Runs.{Ghost, IsBefore, FrameReaches}
use Rattle.simulation.proofs.Plain.{top-within}
use Rattle.interpreter.specs.Layout.{AreMoved, put_back, without_scrap}
use Rattle.interpreter.specs.Running.{Machine, Pays, RunsAt, cells_in, height_in}
use Rattle.interpreter.specs.Operations.{Answers, HasOperands, Lands, pushed}
use Rattle.interpreter.specs.Worlds.{World, store_in}
use Rattle.interpreter.proofs.Cells.{at-top, below-top, frame-length, popped-frame, to-top, under-top}
use Rattle.interpreter.proofs.Moves.{moved-below, moved-frame}
use Rattle.interpreter.proofs.Operands.{takes-operands}

-- Steps to cells are steps to those that are the same up to the top.
leads-same : (g : Ghost) (fuel : ℕ) (store' : Store) (cells cells' : List ℕ) (at top left : ℕ) → take top cells' ≡ take top cells → length cells'
    ≡ length cells → FrameReaches g fuel store' cells at top left → FrameReaches g fuel store' cells' at top left
leads-same g fuel store' cells cells' at top left same size l = record {
  new = l.new;
  same = l.same;
  store = l.store;
  steps = l.steps;
  runs = record {
    stands = l.runs.stands;
    holds = record { held = same ∙ l.runs.holds.held; top_is = l.runs.holds.top_is; count = l.runs.holds.count; room = omega (arith, l.runs.holds.room, size) };
    typed = l.runs.typed;
  };
}

-- Lists that are the same up to a height are the same in parts below it.
part-first : (n m : ℕ) (xs ys : List ℕ) → take m xs ≡ take m ys → n ≤ m → take n xs ≡ take n ys
part-first n m xs ys same le = sym (take-take n m xs le) ∙ ap (take n) same ∙ take-take n m ys le

part-last : (n m : ℕ) (xs ys : List ℕ) → take m xs ≡ take m ys → n ≤ m → take n (drop (m - n) xs) ≡ take n (drop (m - n) ys)
part-last n m xs ys same le =
    let sum : m ≡ m - n + n = omega (arith, le) in
    sym (drop-take (m - n) n xs) ∙ ap (drop (m - n)) (ap (λ (k : ℕ). take k xs) (sym sum) ∙ same ∙ ap (λ (k : ℕ). take k ys) sum) ∙ drop-take (m - n) n ys

-- The machine is before an operation.
abbrev pub IsAt : Machine → Ghost → FlatOp → Type 0
IsAt m g o = IsBefore o g (cells_in g m) m.place (height_in m)

-- That many operands are above the locals of the frame, and there is room for one more.
abbrev pub HasOwn : Ghost → Machine → (count : ℕ) → Type 0
HasOwn g m count = (m.base + g.code.locals + count ≤ m.top) × (m.top < length m.cells)

pub own-operands : (g : Ghost) (m : Machine) (count : ℕ) → HasOwn g m count → HasOperands m count
own-operands g m count (few, room) = (omega (arith, few), room)

module _ (w : World) (m : Machine) (g : Ghost) (r : RunsAt w m g) where
  -- ---- how many cells there are

  size : length (cells_in g m) ≡ length m.cells - suc m.base
  size =
      let written = length-set m.cells m.top m.operand in
      let whole = frame-length g.code.locals m.base (set m.cells m.top m.operand) (omega (arith, written, r.scrap)) in
      omega (arith, written, whole)

  -- There is room for one more operand.
  pub inside : m.top < length m.cells
  inside = let le : height_in m ≤ length (cells_in g m) = top-within g (cells_in g m) m.place (height_in m) r.runs in omega (arith, le, size, r.low, r.scrap)

  -- That many operands are above the locals.
  pub has-operands : (n : ℕ) → length g.locals + n ≤ height_in m → 1 ≤ n → HasOwn g m n
  has-operands n le some = (omega (arith, r.runs.holds.count, le, some), inside)

  -- There are as many operands as an instruction takes.
  pub takes : (op : PlainOp) (c : Counts) → counts_of g.code.signatures op ≡ Some c → 1 ≤ c.takes → IsAt m g (Plain op) → HasOwn g m c.takes
  takes op c is some b = has-operands c.takes (takes-operands g (cells_in g m) m.place (height_in m) op b c is) some

  -- ---- where it continues

  -- With cells that begin with these, at a place and a height, for one unit of fuel.
  abbrev GoesOn : Store → (firsts : List ℕ) → (place height : ℕ) → Type 0
  GoesOn store' firsts place height =
      (cells' : List ℕ) (fuel left : ℕ) → take height cells' ≡ firsts → length cells' ≡ length (cells_in g m) → 1 ≤ fuel → left ≡ fuel - 1 → FrameReaches g fuel store' cells' place height left

  from-store : (firsts : List ℕ) (place height : ℕ) → GoesOn g.store firsts place height → GoesOn (store_in w) firsts place height
  from-store firsts place height = subst (λ (s : Store). GoesOn s firsts place height) r.store

  -- After a cell is written, kept, or left as it was.
  put : (cell below : ℕ) → IsPut g (cells_in g m) m.place cell below → GoesOn (store_in w) (take below (cells_in g m) ++ (cell ∷ [])) (m.place + 1) (suc below)
  put cell below p = from-store _ _ _ (λ cells' fuel left is same enough left_is. p cells' (m.place + 1) (suc below) fuel left is same (omega arith) refl enough left_is)

  pub kept : (store' : Store) (w' : World) → store' ≡ store_in w' → (cells : List ℕ) (below : ℕ) → length cells ≡ length (cells_in g m)
      → IsKept g store' cells m.place below → GoesOn (store_in w') (take below cells) (m.place + 1) below
  kept store' w' store_is cells below as_many k =
      subst (λ (s : Store). GoesOn s (take below cells) (m.place + 1) below) store_is
      (λ cells' fuel left is same enough left_is. k cells' (m.place + 1) below fuel left is (same ∙ sym as_many) (omega arith) refl enough left_is)

  pub charged : (place height next_at : ℕ) → place ≡ next_at → IsCharged g (cells_in g m) m.place (height_in m) next_at height → GoesOn (store_in w) (take height (cells_in g m)) place height
  charged place height next_at is c = from-store _ _ _
      (λ cells' fuel left same as_many enough left_is.
      leads-same g fuel g.store (cells_in g m) cells' place height left same as_many
      (subst (λ (n : ℕ). FrameReaches g fuel g.store (cells_in g m) n height left) (sym is) (c.0 fuel left enough left_is)))

  -- The machine's cells begin with these.
  pub pays : (w' : World) (cells' : List ℕ) (place top operand height : ℕ) (firsts : List ℕ) → GoesOn (store_in w') firsts place height → top ≡ m.base + height → g.code.locals ≤ height
      → take height (put_back g.code.locals m.base cells' top operand) ≡ firsts → length cells' ≡ length m.cells → take m.base cells' ≡ take m.base m.cells
      → Pays g m w' (record m { cells = cells'; place = place; top = top; operand = operand })
  pays w' cells' place top operand height firsts on top_is low is as_many below fuel left enough left_is =
      let written = length-set cells' top operand in
      let whole = frame-length g.code.locals m.base (set cells' top operand) (omega (arith, written, as_many, r.scrap)) in
      let height_is : height ≡ top - m.base = omega (arith, top_is) in record {
        leads = subst (λ (n : ℕ). FrameReaches g fuel (store_in w') (put_back g.code.locals m.base cells' top operand) place n left) height_is
            (on (put_back g.code.locals m.base cells' top operand) fuel left is (omega (arith, written, whole, as_many, size)) enough left_is);
        low = omega (arith, top_is, low);
        size = as_many;
        below = below;
      }

  -- ---- machines after an operation

  -- The machine with one more operand.
  pub pushes : (cell cell' : ℕ) → cell' ≡ cell → height_in m < length (cells_in g m) → IsPut g (cells_in g m) m.place cell (height_in m) → Pays g m w (pushed m cell')
  pushes cell cell' is room p =
      let as_many = length-set m.cells m.top m.operand in
      pays w (set m.cells m.top m.operand) (m.place + 1) (m.top + 1) cell' (suc (height_in m)) _ (put cell (height_in m) p) (omega (arith, r.low)) (omega (arith, r.low))
      (to-top g.code.locals m.base (set m.cells m.top m.operand) (omega (arith, as_many, r.scrap)) (height_in m) (m.top + 1) cell'
      (omega (arith, r.low)) (omega (arith, r.low)) (omega (arith, as_many, room, size, r.low, r.scrap))
      ∙ ap (λ (c : ℕ). take (height_in m) (cells_in g m) ++ (c ∷ [])) is)
      as_many (take-set-le m.base m.cells m.top m.operand (omega (arith, r.low)))

  -- The machine in the same place.
  pub stays : (place : ℕ) → GoesOn (store_in w) (take (height_in m) (cells_in g m)) place (height_in m) → Pays g m w (record m { place = place })
  stays place on = pays w m.cells place m.top m.operand (height_in m) _ on (omega (arith, r.low)) (omega (arith, r.low)) refl refl refl

  -- The machine with that many operands popped.
  module _ (n : ℕ) (some : 1 ≤ n) (few : m.base + g.code.locals + n ≤ m.top) where
    topmost-is : m.top ≡ m.base + suc (height_in m - 1)
    topmost-is = omega (arith, some, few)

    pub lower : take (height_in m - n) (cells_in g m) ≡ take (height_in m - n) (without_scrap g.code.locals m.base m.cells)
    lower = below-top g.code.locals m.base m.cells r.scrap (height_in m - 1) m.top m.operand (omega (arith, some, few)) topmost-is (height_in m - n) (omega (arith, some))

    -- One operand in their place.
    pub puts : (top : ℕ) → top + n ≡ m.top + 1 → (cell cell' : ℕ) → cell' ≡ cell → IsPut g (cells_in g m) m.place cell (height_in m - n)
        → Pays g m w (record m { place = m.place + 1; top = top; operand = cell' })
    puts top top_is cell cell' is p =
        pays w m.cells (m.place + 1) top cell' (suc (height_in m - n)) _ (put cell (height_in m - n) p) (omega (arith, top_is, few)) (omega (arith, few))
        (to-top g.code.locals m.base m.cells r.scrap (height_in m - n) top cell' (omega (arith, few)) (omega (arith, top_is, few)) (omega (arith, top_is, some, inside))
        ∙ ap (λ (z : List ℕ). z ++ (cell' ∷ [])) (sym lower) ∙ ap (λ (c : ℕ). take (height_in m - n) (cells_in g m) ++ (c ∷ [])) is)
        refl refl

    -- A result's number, or its trap.
    pub answers : (top : ℕ) → top + n ≡ m.top + 1 → (result : Result ℕ Trap)
        → IsAnswered g (cells_in g m) m.place (height_in m) (height_in m - n) result
        → Answers w m g (λ cell. record m { place = m.place + 1; top = top; operand = cell }) result
    answers top top_is (Ok k) a = puts top top_is k k refl a
    answers top top_is (Err trap) a = a

    -- No operand in their place.
    pub pops : (w' : World) (place : ℕ) → GoesOn (store_in w') (take (height_in m - n) (cells_in g m)) place (height_in m - n)
        → Pays g m w' (record m { place = place; top = m.top - n; operand = get_or m.cells (m.top - n) 0 })
    pops w' place on = pays w' m.cells place (m.top - n) (get_or m.cells (m.top - n) 0) (height_in m - n) _ on (omega (arith, few))
        (omega (arith, few)) (ap (take (height_in m - n)) (popped-frame g.code.locals m.base m.cells (m.top - n)) ∙ sym lower) refl refl

    -- ---- operands

    pub topmost : get_or (cells_in g m) (height_in m - 1) 0 ≡ m.operand
    topmost = at-top g.code.locals m.base m.cells r.scrap (height_in m - 1) m.top m.operand (omega (arith, some, few)) topmost-is inside

    -- The last of them, below others.
    pub under : 2 ≤ n → (place : ℕ) → place + n ≡ m.top + 1 → get_or (cells_in g m) (height_in m - n) 0 ≡ get_or m.cells place 0
    under two place is = under-top g.code.locals m.base m.cells r.scrap (height_in m - 1) m.top m.operand (omega (arith, some, few)) topmost-is
        (height_in m - n) place (omega (arith, few)) (omega (arith, two, few)) (omega (arith, few, is))

  -- ---- moves

  -- Operands are moved down from cells that are those of the frame, up to a height.
  pub lands : (held : List ℕ) (top above : ℕ) (e : Entry) → IsLanded g (cells_in g m) m.place (height_in m) above e → take above (cells_in g m)
      ≡ take above (without_scrap g.code.locals m.base held) → length held ≡ length m.cells → take m.base held ≡ take m.base m.cells
      → top ≡ m.base + above → top < length held → Lands w m g held top e
  lands held top above e l same as_many below top_is room cells' operand' moved =
      let h : ℕ = e.height - g.code.locals in
      let height_is : e.height ≡ g.code.locals + h = omega (arith, l.4) in
      let to_is : m.base + e.height ≡ m.base + g.code.locals + h = omega (arith, l.4) in
      let moved' : AreMoved held top (m.base + g.code.locals + h) e.kept cells' operand' = subst (λ (n : ℕ). AreMoved held top n e.kept cells' operand') to_is moved in
      let kept_is : m.base + g.code.locals + h + e.kept ≤ top = omega (arith, l.0, l.4, top_is) in
      let scrap : m.base + g.code.locals < length held = omega (arith, r.scrap, as_many) in
      let first = part-first e.height above (cells_in g m) (without_scrap g.code.locals m.base held) same (omega (arith, l.0)) in
      let last = part-last e.kept above (cells_in g m) (without_scrap g.code.locals m.base held) same (omega (arith, l.0)) in
      let whole : take (g.code.locals + h + e.kept) (put_back g.code.locals m.base cells' (m.base + g.code.locals + h + e.kept) operand')
      ≡ take (g.code.locals + h) (without_scrap g.code.locals m.base held) ++ take e.kept
      (drop (above - e.kept) (without_scrap g.code.locals m.base held)) =
      moved-frame g.code.locals m.base held scrap top h e.kept cells' operand' kept_is room moved' above top_is in
      let landed : take (e.height + e.kept) (put_back g.code.locals m.base cells' (m.base + e.height + e.kept) operand')
      ≡ take e.height (without_scrap g.code.locals m.base held) ++ take e.kept (drop (above - e.kept) (without_scrap g.code.locals m.base held)) =
      subst (λ (n : ℕ). take (n + e.kept) (put_back g.code.locals m.base cells' (m.base + e.height + e.kept) operand')
      ≡ take n (without_scrap g.code.locals m.base held) ++ take e.kept (drop (above - e.kept) (without_scrap g.code.locals m.base held))) (sym height_is)
      (subst (λ (n : ℕ). take (g.code.locals + h + e.kept) (put_back g.code.locals m.base cells' (n + e.kept) operand')
      ≡ take (g.code.locals + h) (without_scrap g.code.locals m.base held) ++ take e.kept
      (drop (above - e.kept) (without_scrap g.code.locals m.base held))) (sym to_is) whole) in
      pays w cells' e.target (m.base + e.height + e.kept) operand' (e.height + e.kept) _ (from-store _ _ _ l.2) (omega arith) (omega (arith, l.4))
      (landed ∙ ap (λ (z : List ℕ). z ++ take e.kept (drop (above - e.kept) (without_scrap g.code.locals m.base held))) (sym first) ∙ ap (λ (z : List ℕ). take e.height (cells_in g m) ++ z) (sym last))
      (moved.size ∙ as_many) (moved-below g.code.locals m.base held scrap top h e.kept cells' operand' kept_is room moved' ∙ below)
