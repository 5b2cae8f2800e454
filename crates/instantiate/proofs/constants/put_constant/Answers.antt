use Rattle.core_types.specs.declared.module.Module.{Module}
use Rattle.store.specs.Contents.{Contents, lists_of, module_instance, store_with}
use Rattle.instantiate.proofs.lemmas.Constants.{put-none, put-some}
use Rattle.instantiate.proofs.constants.put_constant.Goals as goal

pub returns-in-Some-clause-done : goal.returns-in-Some-clause-done
returns-in-Some-clause-done c = λ yes. λ (contents : Contents) (m : Module).
    put-some (store_with contents c.args.state.now) (module_instance (lists_of c.args.addresses.now) m) c.args.op.now c.args.operands.now.items
    c.push.new.operands.items c.in-Some.value c.requires.no_operator (c.in-Some.ensures contents m) c.push.ensures.pushed

pub returns-in-None-clause-none : goal.returns-in-None-clause-none
returns-in-None-clause-none c = λ no. λ (contents : Contents) (m : Module).
    put-none (store_with contents c.args.state.now) (module_instance (lists_of c.args.addresses.now) m) c.args.op.now _ c.requires.no_operator (c.in-None.ensures contents m)
