use Rattle.jv_verify_rules.proofs.Named.{arrays_made}
use Rattle.jv_verify_rules.proofs.classes.make_multi_array.Goals as goal

pub returns-in-Some : goal.returns-in-Some
returns-in-Some c = λ env of.
    arrays_made c.args.constants.now env of c.names.result.now c.names.ensures c.args.frame.now c.new_multi_array.new.frame c.new_multi_array.result
    c.args.index c.args.dimensions c.in-Some.array c.in-Some.ensures c.new_multi_array.ensures
