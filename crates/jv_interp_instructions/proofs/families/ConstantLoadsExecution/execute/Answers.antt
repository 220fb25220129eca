use Rattle.std.proofs.Common.{refl}
use Rattle.std.proofs.lemmas.Result.{IfOk-weaker}
use Rattle.jv_interp_members.specs.Known.{known}
use Rattle.jv_interp_instructions.proofs.AllInstructions.{can_at, settled}
use Rattle.jv_interp_instructions.proofs.families.ConstantLoadsExecution.execute.Goals as goal

pub execute_pool_constant-requires-clause-can : goal.execute_pool_constant-requires-clause-can
execute_pool_constant-requires-clause-can g c = (
  c.in-PoolConstant._form,
  (known c.args.classes.now.world c.args.linked.now c.args.site),
  record { world_is = refl; site_is = refl },
  c.requires.texts,
  (can_at _ _ _ _ _ _ _ _ _ _ c.in-PoolConstant.is c.requires.can).can,
)

pub execute_pool_long_constant-requires : goal.execute_pool_long_constant-requires
execute_pool_long_constant-requires g c = (
  (known c.args.classes.now.world c.args.linked.now c.args.site),
  record { world_is = refl; site_is = refl },
  c.args.texts.now.names,
  (can_at _ _ _ _ _ _ _ _ _ _ c.in-PoolLongConstant.is c.requires.can).can,
)

pub returns-in-PoolConstant-clause-done : goal.returns-in-PoolConstant-clause-done
returns-in-PoolConstant-clause-done g c =
    rw c.in-PoolConstant.is (IfOk-weaker c.execute_pool_constant.result _ _
    (λ effect m. settled _ _ _ _ _ _ _ effect (m c.in-PoolConstant._form (known c.args.classes.now.world c.args.linked.now c.args.site) (record { world_is = refl; site_is = refl }) c.requires.texts))
    c.execute_pool_constant.ensures.done)

pub returns-in-PoolLongConstant-clause-done : goal.returns-in-PoolLongConstant-clause-done
returns-in-PoolLongConstant-clause-done g c =
    rw c.in-PoolLongConstant.is (settled _ _ _ _ _ _ _ _
    (c.execute_pool_long_constant.ensures.done (known c.args.classes.now.world c.args.linked.now c.args.site) c.args.texts.now.names (record { world_is = refl; site_is = refl })))
