use Rattle.jv_verify_rules.proofs.Named.{array_made}
use Rattle.jv_verify_rules.proofs.classes.make_array.Goals as goal

pub returns-in-Some : goal.returns-in-Some
returns-in-Some c = λ env of.
    array_made c.args.constants.now env of c.names.result.now c.names.ensures c.args.frame.now c.new_reference_array.new.frame
    c.new_reference_array.result c.args.index c.in-Some.array c.in-Some.ensures c.new_reference_array.ensures
