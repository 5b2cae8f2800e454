use Rattle.std.proofs.Common.{sym, ap, ◌∙◌}
use Rattle.meaning.specs.structure.Bodies.{Rests, body_of}
use Rattle.meaning.proofs.lemmas.Writings.{read, read-closed, read-whole}
use Rattle.meaning.proofs.structure.writing_is_read.Goals as goal

pub returns-clause-whole : goal.returns-clause-whole
returns-clause-whole c = read-whole

pub returns-clause-ended : goal.returns-clause-ended
returns-clause-ended c = λ b ops. ap (λ (r : Rests). r.here.body) (read-closed b (read b) ops)

pub returns-clause-around : goal.returns-clause-around
returns-clause-around c = λ b ops. read-closed b (read b) ops

pub returns-clause-one_tree : goal.returns-clause-one_tree
returns-clause-one_tree c = λ a b e. sym (read-whole a) ∙ ap body_of e ∙ read-whole b
