use Rattle.std.proofs.Common.{Option, subst}
use Rattle.std.proofs.lemmas.Result.{IfOk-weaker}
use Rattle.jv_operands.specs.declared.named.MethodNamed.{MethodNamed}
use Rattle.jv_operands.specs.Inside.Named.{FindsMethod, method_named_in}
use Rattle.jv_operands.proofs.Calling.{called}
use Rattle.jv_operands.proofs.wants.invoke_wants.Goals as goal

pub returns-in-Some : goal.returns-in-Some
returns-in-Some c = λ env of.
    IfOk-weaker c.with_receiver.result _ _
    (λ list e. called env c.args.method.now.pool.now of.pool c.args.how c.args.index c.in-Some.named
    (subst (λ (o : Option MethodNamed). FindsMethod (method_named_in c.args.method.now.pool.now c.args.index) o) c.in-Some.is c.in_ok-named.ensures) list.items c.receiver_of-receiver.result e
    (c.receiver_of-receiver.ensures env of))
    c.with_receiver.ensures
