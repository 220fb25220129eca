use Rattle.jv_verify_types.specs.Typed.{typed}
use Rattle.jv_verify_rules.proofs.Making.{type_fits}
use Rattle.jv_verify_rules.proofs.constructors.constructed_type.Goals as goal

pub returns-in-Some-clause-type_of : goal.returns-in-Some-clause-type_of
returns-in-Some-clause-type_of c = λ env of named calls.
    let names = c.args.context.now.class.types.names in
    type_fits names env c.args.index named (typed names c.args.object) c.in-Some.by c.one_word.result calls.named (c.in-Some.ensures {u = tt} env of named calls) c.one_word.ensures.same
