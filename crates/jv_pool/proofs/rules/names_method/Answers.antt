use Rattle.jv_pool.proofs.Kept.{method_named}
use Rattle.jv_pool.specs.Constants.{utf8_at}
use Rattle.jv_pool.proofs.rules.names_method.Goals as goal

pub returns-in-Some : goal.returns-in-Some
returns-in-Some c =
    method_named (utf8_at c.args.known.now c.args.name) (utf8_at c.args.known.now c.args.descriptor) c.in-Some.facts c.is_named_for.result c.in-Some.ensures c.is_named_for.ensures
