use Rattle.module_info.proofs.Lines.{refusal-told}
use Rattle.module_info.proofs.descriptions.write_refusal.Goals as goal

pub returns-clause-told : goal.returns-clause-told
returns-clause-told g c =
    refusal-told (g.D.Display.output c.args.line) (g.W.Write.contents c.args.out.now) (g.W.Write.contents c.write_fmt.new.self) c.requires c.in_ok-write_fmt.ensures.bytes
