use Rattle.std.proofs.Common.{Option, subst}
use Rattle.std.proofs.lemmas.Result.{IfOk-weaker}
use Rattle.jv_operands.specs.declared.named.MethodNamed.{MethodNamed}
use Rattle.jv_operands.specs.Inside.Named.{FindsMethod, method_named_in}
use Rattle.jv_operands.proofs.Calling.{called_above}
use Rattle.jv_operands.proofs.wants.interface_wants.Goals as goal

pub returns-in-Some : goal.returns-in-Some
returns-in-Some c = λ env of.
    IfOk-weaker c.with_receiver.result _ _
    (λ list e. called_above env c.args.method.now.pool.now of.pool c.args.index c.in-Some.named
    (subst (λ (o : Option MethodNamed). FindsMethod (method_named_in c.args.method.now.pool.now c.args.index) o) c.in-Some.is c.in_ok-named.ensures) list.items c.of_type.result e c.of_type.ensures)
    c.with_receiver.ensures
