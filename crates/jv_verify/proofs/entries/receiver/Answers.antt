use Rattle.std.proofs.Common.{refl, sym, ◌∙◌}
use Rattle.jv_verify.proofs.Environments.{in_object, in_other_method, plain_receiver}
use Rattle.jv_verify.proofs.entries.receiver.Goals as goal
use Rattle.jv_verify.proofs.entries.receiver.Goals.{else-is_init-via-then-is_init+else-not-is_object, else-is_init-via-else-is_init}

pub returns-else-is_init : goal.returns-else-is_init
returns-else-is_init c = λ env of.
    sym (c.current.ensures env of)
    ∙ (elim c.else-is_init.branch [
      | else-is_init-via-then-is_init+else-not-is_object w ↦ plain_receiver c.args.class.now env c.args.is_init w.is_object.result of w.is_object.ensures (in_object _ _ w.if-not-is_object.false)
      | else-is_init-via-else-is_init w ↦ plain_receiver c.args.class.now env c.args.is_init _ of refl (in_other_method _ _ w.if-is_init.false)
    ])
