use Rattle.jv_verify_rules.proofs.Named.{cast_as}
use Rattle.jv_verify_rules.proofs.classes.check_cast.Goals as goal

pub returns-in-Some : goal.returns-in-Some
returns-in-Some c = λ env of.
    cast_as c.args.constants.now env of c.names.result.now c.names.ensures c.args.frame.now c.cast.new.frame c.cast.result c.args.index c.in-Some.target c.in-Some.ensures c.cast.ensures
