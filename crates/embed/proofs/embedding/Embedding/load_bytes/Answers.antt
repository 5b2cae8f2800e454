use Rattle.std.proofs.Common.{refl}
use Rattle.std.proofs.lemmas.Result.{err_from_is_err_and}
use Rattle.embed.specs.Contents.{embedding_of}
use Rattle.embed.proofs.lemmas.Steps.{load-next, load-refused}
use Rattle.embed.proofs.embedding.Embedding.load_bytes.Goals as goal

pub returns-in_err-loaded-clause-loads : goal.returns-in_err-loaded-clause-loads
returns-in_err-loaded-clause-loads g c =
    let passed = err_from_is_err_and c.from_residual.result c.from_residual.ensures.1 in
    rw (passed.1, passed.2) (load-refused _ c.args.bytes.now _ c.in_err-loaded.ensures.refused)

pub returns-clause-loads : goal.returns-clause-loads
returns-clause-loads g c =
    let old = embedding_of c.args.self.now in
    rw (c.next_number-number.ensures, c.deref.ensures.value, c.in_ok-push.ensures.items)
    (load-next old c.args.self.now.modules.items c.in_ok-loaded.loaded c.args.bytes.now refl c.in_ok-loaded.ensures.decoded c.in_ok-loaded.ensures.valid)
