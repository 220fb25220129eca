use Rattle.jv_verify_rules.proofs.Named.{tested_as}
use Rattle.jv_verify_rules.proofs.classes.instance_of.Goals as goal

pub returns-in-Some : goal.returns-in-Some
returns-in-Some c = λ env of.
    tested_as c.args.constants.now env of c.names.result.now c.names.ensures c.args.frame.now c.test_instance.new.frame c.test_instance.result
    c.args.index c.in-Some.field-0 c.in-Some.ensures c.test_instance.ensures
