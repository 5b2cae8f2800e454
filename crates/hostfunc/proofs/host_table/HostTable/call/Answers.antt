use Rattle.std.proofs.Common.{ap, refl, length, ◌∙◌}
use Rattle.std.proofs.lemmas.Option.{slice_get_read, slice_get_within}
use Rattle.core_types.specs.declared.types.FuncType.{FuncType}
use Rattle.meaning.specs.embedding.Creation.{has_funcref}
use Rattle.meaning.proofs.lemmas.HostSteps.{host-there}
use Rattle.soundness.specs.Hosts.{GivesNoFuncref}
use Rattle.soundness.proofs.Writes.{All-set}
use Rattle.hostfunc.specs.Boxes.{type_of_host}
use Rattle.hostfunc.specs.declared.host_object.HostObject.{HostObject}
use Rattle.hostfunc.proofs.Faults.{IfAnswered-typed}
use Rattle.hostfunc.proofs.host_table.HostTable.call.Goals as goal

pub invariant_of-self : goal.invariant_of-self
invariant_of-self g c =
    let objects = c.args.self.now.objects.items in
    let there = host-there type_of_host objects c.args.number c.requires.there.0 c.requires.there.1 in
    let before = c.args.self.now.no_funcrefs c.args.number c.index_mut-host.result.now (slice_get_within objects c.args.number there.0 there.1) in
    let same = c.call.ensures.same_type ∙ ap (λ (h : HostObject _ _). h.ty) c.index_mut-host.ensures.value in
    record {
      no_funcrefs = All-set (GivesNoFuncref type_of_host) objects c.args.number c.call.new.self c.args.self.now.no_funcrefs (ap (λ (t : FuncType). has_funcref t.results) same ∙ before);
    }

pub returns-clause-answered : goal.returns-clause-answered
returns-clause-answered g c =
    let objects = c.args.self.now.objects.items in
    let there = host-there type_of_host objects c.args.number c.requires.there.0 c.requires.there.1 in
    let within = slice_get_within objects c.args.number there.0 there.1 in
    let is = slice_get_read objects (length objects) c.args.number c.index_mut-host.result.now refl within c.index_mut-host.ensures.value in
    IfAnswered-typed c.call.result _ _ _ (λ answer answers typed. record {
      host = c.index_mut-host.result.now;
      host' = c.call.new.self;
      is = is;
      answers = answers;
      typed = typed;
      same_type = c.call.ensures.same_type;
      same_length = c.call.auto.memory;
      are_bytes = c.call.ensures.are_bytes;
      hosts_are = refl;
    }) c.call.ensures.typed c.call.ensures.answered
