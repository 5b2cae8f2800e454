use Rattle.std.proofs.Common.{◌++◌, ◌∷◌, [], List, ℕ, codes, refl}
use Rattle.std.specs.Fmt.{decimal}
use Rattle.module_info.proofs.Lines.{appends-then}
use Rattle.module_info.proofs.descriptions.write_valid.Goals as goal

pub returns-clause-told : goal.returns-clause-told
returns-clause-told g c =
    let first : List ℕ = codes "valid, " ++ (decimal c.args.len ++ (codes " bytes" ++ 10 ∷ [])) in (
      first ++ c.args.lines.now,
      refl,
      appends-then (g.W.Write.contents c.args.out.now) (g.W.Write.contents c.writeln.new.self) (g.W.Write.contents c.write_all.new.self) first
          c.args.lines.now c.in_ok-writeln.ensures.bytes c.in_ok-write_all.ensures.bytes,
    )
