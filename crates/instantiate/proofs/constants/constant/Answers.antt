use Rattle.std.proofs.Common.{◌∙◌, sym, ap}
use Rattle.core_types.specs.declared.module.Module.{Module}
use Rattle.core_types.specs.declared.op.PlainOp.TheVariants.{Reference, Variable}
use Rattle.core_types.specs.declared.op.ReferenceOp.{ReferenceOp}
use Rattle.core_types.specs.declared.op.VariableOp.{VariableOp}
use Rattle.meaning.specs.execution.Modules.{constant}
use Rattle.store.specs.Contents.{Contents, lists_of, module_instance, store_with}
use Rattle.instantiate.proofs.constants.constant.Goals as goal

pub returns-in-Reference-Func : goal.returns-in-Reference-Func
returns-in-Reference-Func c = λ (code : Contents) (m : Module).
    let inner = rw c.in-Reference-Func.is at c.in-Reference-Func.field-0-is in
    c.function_reference.ensures code m ∙ sym
    (ap (constant (store_with code c.args.state.now) (module_instance (lists_of c.args.addresses.now) m))
    (c.in-Reference-Func.is ∙ ap (λ (op : ReferenceOp). Reference op) {x = c.in-Reference-Func.field-0} inner))

pub returns-in-Variable-GlobalGet : goal.returns-in-Variable-GlobalGet
returns-in-Variable-GlobalGet c = λ (code : Contents) (m : Module).
    let inner = rw c.in-Variable-GlobalGet.is at c.in-Variable-GlobalGet.field-0-is in
    c.global_value.ensures code m ∙ sym
    (ap (constant (store_with code c.args.state.now) (module_instance (lists_of c.args.addresses.now) m))
    (c.in-Variable-GlobalGet.is ∙ ap (λ (op : VariableOp). Variable op) {x = c.in-Variable-GlobalGet.field-0} inner))
