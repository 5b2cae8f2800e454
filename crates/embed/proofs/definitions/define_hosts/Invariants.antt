use Rattle.std.proofs.Common.{◌≡◌, length, map}
use Rattle.embed.specs.Definitions.{AreTakenIn, definition_of}
use Rattle.embed.proofs.definitions.define_hosts.Given as goal

-- The definitions so far are added.
abbrev pub invariant-loop-definition : goal.invariant-loop-definition
invariant-loop-definition g l = record {
  taken : AreTakenIn l.config.pages l.config.entries (map (definition_of (λ vtable. (g.dyn-1.0.entry vtable).1)) l.yielded) l.defined;
  counted : length l.defined.store.code.hosts ≡ length l.yielded;
}
