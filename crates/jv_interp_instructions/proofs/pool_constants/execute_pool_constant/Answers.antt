use Rattle.jv_interp_instructions.proofs.Constants.{can_push_int, int_done}
use Rattle.jv_interp_instructions.proofs.pool_constants.execute_pool_constant.Goals as goal

pub push_int-requires : goal.push_int-requires
push_int-requires g c =
    let r = c.requires.can in
    can_push_int c.execution_keeps.ensures c.args.index r.0 _ r.1 _ c.args.current.site c.args.texts.now _ _ _ _ r.2 _ (c.in-Some.ensures {u = tt}) r.4

pub returns-in-Some-clause-done : goal.returns-in-Some-clause-done
returns-in-Some-clause-done g c form k of_site are =
    int_done c.execution_keeps.ensures c.args.index form _ k _ c.args.current.site c.args.texts.now _ _ _ _ of_site _ _ _ _ (c.in-Some.ensures {u = tt})
    c.push_int.ensures.pushes
