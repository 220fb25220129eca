use Rattle.std.proofs.Common.{ℕ, Option, subst}
use Rattle.jv_interp_instructions.specs.PoolConstants.{IsLongOf}
use Rattle.jv_interp_instructions.proofs.LongsPushed.{some_long, can_push_long, long_done}
use Rattle.jv_interp_instructions.proofs.long_constants.execute_pool_long_constant.Goals as goal

pub unreachable-requires : goal.unreachable-requires
unreachable-requires g c =
    let r = c.requires in
    let clause = subst (λ (o : Option (ℕ × ℕ)). IsLongOf c.args.current.classes.now.world c.args.current.site.class c.args.index o) c.in_default.is c.long_constant.ensures in
    some_long c.execution_keeps.ensures c.args.index _ r.0 r.2 _ c.args.current.site r.1 _ _ _ _ r.3.c r.3.addresses r.3.done r.3.below r.3.executes clause

pub push_long-requires : goal.push_long-requires
push_long-requires g c =
    let r = c.requires in
    let clause = subst (λ (o : Option (ℕ × ℕ)). IsLongOf c.args.current.classes.now.world c.args.current.site.class c.args.index o) c.in-Some.is c.long_constant.ensures in
    can_push_long c.execution_keeps.ensures c.args.index _ r.0 r.2 _ c.args.current.site r.1 _ _ _ _ _ _ clause r.3

pub returns-clause-done : goal.returns-clause-done
returns-clause-done g c k texts of_site =
    let clause = subst (λ (o : Option (ℕ × ℕ)). IsLongOf c.args.current.classes.now.world c.args.current.site.class c.args.index o) c.in-Some.is c.long_constant.ensures in
    long_done c.execution_keeps.ensures c.args.index _ k texts _ c.args.current.site of_site _ _ _ _ _ _ clause _ _ _ c.push_long.ensures.pushes
