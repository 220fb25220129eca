use Rattle.std.proofs.Common.{◌≡◌, ◌∙◌, ◌&&◌, sym, ap}
use Rattle.std.specs.List.{list_all}
use Rattle.jv_meaning_world.specs.Flow.{flows}
use Rattle.jv_meaning_typing.specs.Environment.{instruction_at}
use Rattle.jv_meaning_typing.specs.MemberRules.{is_that_name, class_of_new, method_guard}
use Rattle.jv_verify_types.specs.Operands.{HasPool}
use Rattle.jv_verify_rules.proofs.Using.{has_pool}
use Rattle.jv_verify_rules.proofs.Making.{is_made}
use Rattle.jv_verify_rules.proofs.constructors.constructs_new.Goals as goal

pub returns-then-is_named_with : goal.returns-then-is_named_with
returns-then-is_named_with c = λ env of named calls.
    let has : HasPool c.pool.result.now env = has_pool c.args.context.now env c.pool.result.now of (c.pool.ensures ∙ c.constants.ensures.pool) in
    let made : is_that_name named.reference.class (class_of_new env (instruction_at env c.args.offset)) ≡ c.is_named_with.result =
    is_made env c.args.index named c.args.offset c.pool.result.now c.in-Some.class c.is_named_with.result has calls.named (c.in-Some.ensures {u = tt} env of) c.is_named_with.ensures in
    ap (λ b. b && list_all (flows env.world named.owner) (method_guard env named)) (made ∙ c.if-is_named_with.true)
    ∙ (ap (λ t. list_all (flows env.world t) (method_guard env named)) calls.types.owner ∙ c.flows_to_guard.ensures env of named calls.named)

pub returns-else-is_named_with : goal.returns-else-is_named_with
returns-else-is_named_with c = λ env of named calls.
    let has : HasPool c.pool.result.now env = has_pool c.args.context.now env c.pool.result.now of (c.pool.ensures ∙ c.constants.ensures.pool) in
    let made : is_that_name named.reference.class (class_of_new env (instruction_at env c.args.offset)) ≡ c.is_named_with.result =
    is_made env c.args.index named c.args.offset c.pool.result.now c.in-Some.class c.is_named_with.result has calls.named (c.in-Some.ensures {u = tt} env of) c.is_named_with.ensures in
    ap (λ b. b && list_all (flows env.world named.owner) (method_guard env named)) (made ∙ c.if-is_named_with.false) ∙ sym c.if-is_named_with.false
