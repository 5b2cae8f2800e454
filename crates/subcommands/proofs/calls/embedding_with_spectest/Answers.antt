use Rattle.embed.specs.Contents.{embedding_of}
use Rattle.subcommands.proofs.calls.embedding_with_spectest.Goals as goal

pub returns : goal.returns
returns g c = record {
  fresh = embedding_of c.in_ok-embedding.embedding;
  created = c.in_ok-embedding.ensures;
  registered = c.in_ok-add_spectest.ensures;
}
