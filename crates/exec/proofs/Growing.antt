-- More cells: the loop runs the same with more cells.
use Rattle.std.proofs.Common.{◌≡◌, ℕ, suc, ◌+◌, ◌<◌, ◌≤◌, List, [], ◌∷◌, ◌++◌, length, take, drop, set, ap, sym, subst, ◌∙◌, arith, append_assoc, length-append}
use Rattle.std.proofs.lemmas.List.{drop-append-le, length-drop, length-set, set-append_left, take-append-le}
use Rattle.simulation.specs.Runs.{Ghost}
use Rattle.store.specs.Contents.{Contents}
use Rattle.interpreter.specs.Callers.{Caller, CallerStands, CallersStand}
use Rattle.interpreter.specs.Layout.{put_back, without_scrap}
use Rattle.interpreter.specs.Running.{Machine, RunsAt, cells_in, height_in}
use Rattle.interpreter.specs.Whole.{Loop, RunsWhole, Whole}
use Rattle.interpreter.specs.Worlds.{World}
use Rattle.interpreter.specs.declared.machine.Frame.{Frame}
use Rattle.interpreter.proofs.Cells.{frame-length}
use Rattle.interpreter.proofs.Forms.{inside}

longer-frame : (locals base : ℕ) (cells more : List ℕ) → base + locals < length cells → without_scrap locals base (cells ++ more) ≡ without_scrap locals base cells ++ more
longer-frame locals base cells more scrap =
    let size = length-drop base cells in
    ap (λ (z : List ℕ). take locals z ++ drop (suc (base + locals)) (cells ++ more)) (drop-append-le base cells more (omega (arith, scrap)))
    ∙ ap (λ (z : List ℕ). z ++ drop (suc (base + locals)) (cells ++ more)) (take-append-le locals (drop base cells) more (omega (arith, size, scrap)))
    ∙ ap (λ (z : List ℕ). take locals (drop base cells) ++ z) (drop-append-le (suc (base + locals)) cells more (omega (arith, scrap)))
    ∙ sym (append_assoc (take locals (drop base cells)) (drop (suc (base + locals)) cells) more)

longer-put_back : (locals base : ℕ) (cells more : List ℕ) (top operand : ℕ) → base + locals < length cells → top < length cells
    → put_back locals base (cells ++ more) top operand ≡ put_back locals base cells top operand ++ more
longer-put_back locals base cells more top operand scrap within =
    let size = length-set cells top operand in
    ap (without_scrap locals base) (set-append_left cells more top operand within) ∙ longer-frame locals base (set cells top operand) more (omega (arith, size, scrap))

-- The waiting frames are in more cells.
longer-caller : (code : Contents) (size size' : ℕ) → size ≤ size' → (frame : Frame) (c : Caller) (arity : ℕ) (below : List ℕ)
    → CallerStands code size frame c arity below → CallerStands code size' frame c arity below
longer-caller code size size' le frame c arity below s = record {
  place = s.place;
  number = s.number;
  instance = s.instance;
  loaded = s.loaded;
  operations = s.operations;
  count = s.count;
  signatures = s.signatures;
  held = s.held;
  high = s.high;
  room = let room = s.room in omega (arith, room, le);
  stands = s.stands;
}

longer-callers : (code : Contents) (size size' : ℕ) → size ≤ size' → (frames : List Frame) (cs : List Caller) (arity : ℕ) (below : List ℕ)
    → CallersStand code size frames cs arity below → CallersStand code size' frames cs arity below
longer-callers code size size' le [] [] arity below stand = tt
longer-callers code size size' le [] (c ∷ cs) arity below stand = absurd stand
longer-callers code size size' le (frame ∷ frames) [] arity below stand = absurd stand
longer-callers code size size' le (frame ∷ frames) (c ∷ cs) arity below (stands, further) =
    (longer-caller code size size' le frame c arity below stands, longer-callers code size size' le frames cs c.code.outermost.kept (take frame.base below) further)

abbrev longer : Machine → List ℕ → Machine
longer m more = record m { cells = m.cells ++ more }

longer-at : (w : World) (m : Machine) (g : Ghost) (more : List ℕ) → RunsAt w m g → RunsAt w (longer m more) g
longer-at w m g more r =
    let within = inside w m g r in
    let scrap = r.scrap in
    let same = longer-put_back g.code.locals m.base m.cells more m.top m.operand scrap within in
    let written = length-set m.cells m.top m.operand in
    let own = frame-length g.code.locals m.base (set m.cells m.top m.operand) (omega (arith, written, scrap)) in
    let sum = length-append (cells_in g m) more in
    let all = length-append m.cells more in
    let count = ap (λ (z : List ℕ). length z) same in
    let room = r.runs.holds.room in
    record {
      runs = record {
        stands = r.runs.stands;
        holds = record {
          held = ap (take (height_in m)) same ∙ take-append-le (height_in m) (cells_in g m) more (omega (arith, own, written, within)) ∙ r.runs.holds.held;
          top_is = r.runs.holds.top_is;
          count = r.runs.holds.count;
          room = omega (arith, count, sum, room);
        };
        typed = r.runs.typed;
      };
      low = r.low;
      scrap = omega (arith, all, scrap);
      operations = r.operations;
      store = r.store;
      number = r.number;
      instance = r.instance;
    }

pub longer-whole : (bound : ℕ) (l : Loop) (u : Whole) (more : List ℕ) → RunsWhole bound l u → RunsWhole bound (record l { machine = longer l.machine more }) u
longer-whole bound l u more r =
    let within = inside l.world l.machine u.ghost r.runs in
    let low = r.runs.low in
    let all = length-append l.machine.cells more in
    record {
      runs = longer-at l.world l.machine u.ghost more r.runs;
      number = r.number;
      callers = subst (λ (z : List ℕ). CallersStand l.world.code (length (l.machine.cells ++ more)) l.callers u.callers u.ghost.code.outermost.kept z)
          (sym (take-append-le l.machine.base l.machine.cells more (omega (arith, within, low))))
          (longer-callers l.world.code (length l.machine.cells) (length (l.machine.cells ++ more)) (omega (arith, all)) l.callers u.callers
          u.ghost.code.outermost.kept (take l.machine.base l.machine.cells) r.callers);
      arity = r.arity;
      deep = r.deep;
      typed = r.typed;
    }
