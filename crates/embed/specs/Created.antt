-- The result of creating an embedding.
use Rattle.std.specs.Prelude.{Result, Ok, Err}
use Rattle.meaning.specs.embedding.Creation.{Fault}
use Rattle.meaning.specs.embedding.Machine.{Embedding}
use Rattle.hostfunc.specs.declared.host_object.HostObject.{HostObject}
use Rattle.embed.specs.declared.embedding.Embedding.{Embedding as Kept}
use Rattle.embed.specs.declared.new_fault.NewFault.{NewFault}
use Rattle.embed.specs.Contents.{embedding_of}
use Rattle.embed.specs.Definitions.{fault_in}

module _ {I : Type 0} {F : I → Type 0} where
  -- The embedding, or why there is none.
  abbrev pub created : Result (Kept I F) NewFault → Result (Embedding (HostObject I F)) Fault
  created (Ok e) = Ok (embedding_of e)
  created (Err fault) = Err (fault_in fault)
