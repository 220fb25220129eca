use Rattle.jv_lookups.specs.Inside.Steps.{as_method}
use Rattle.jv_lookups.proofs.Marking.{front_answers, none_in_front}
use Rattle.jv_lookups.proofs.above.overrides_final_if_declared.Goals as goal

pub returns-then-is_empty-clause-broken : goal.returns-then-is_empty-clause-broken
returns-then-is_empty-clause-broken c =
    none_in_front c.args.classes.now (as_method c.args.wanted.now.method.now) c.args.of c.args.chain.now c.up_to_final-chain.result.now c.up_to_final-chain.ensures c.if-is_empty.ensures

pub returns-clause-broken : goal.returns-clause-broken
returns-clause-broken c =
    front_answers c.args.classes.now (as_method c.args.wanted.now.method.now) c.args.of c.args.chain.now c.up_to_final-chain.result.now c.up_to_final-chain.ensures
    c.overrides_final_above.result c.overrides_final_above.ensures.broken
