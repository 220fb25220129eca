use Rattle.std.proofs.Common.{sym, subst}
use Rattle.std.specs.Prelude.{List}
use Rattle.std.specs.List.{All}
use Rattle.jv_pool.specs.Constants.{Entry}
use Rattle.jv_pool.specs.Rules.{KeepsRules}
use Rattle.jv_verify_types.specs.Typed.{name_at}
use Rattle.jv_verify_types.specs.Numbered.{frame_of}
use Rattle.jv_verify_types.specs.Outcomes.{IsOutcome}
use Rattle.jv_verify_rules.proofs.Named.{object_made, no_object_made}
use Rattle.jv_verify_rules.proofs.classes.make_object.Goals as goal

pub returns-in-Some : goal.returns-in-Some
returns-in-Some c = λ env of.
    let names = c.args.constants.now.types.names in
    subst (λ o. IsOutcome names o c.new_object.new.frame c.new_object.result)
    (sym (object_made c.args.constants.now.pool env of c.args.offset c.args.index (frame_of names c.args.frame.now) (name_at names c.in-Some.field-0) c.in-Some.ensures.operand))
    (c.new_object.ensures names)

pub returns-in-None : goal.returns-in-None
returns-in-None c = λ env of.
    let pool : List Entry = c.args.constants.now.pool in
    let rules : All (KeepsRules pool) pool = subst (λ (p : List Entry). All (KeepsRules p) p) c.pool.ensures c.keeps_rules.ensures in
    no_object_made pool env of c.args.offset c.args.index (frame_of c.args.constants.now.types.names c.args.frame.now) (c.kinds_name.ensures pool rules) c.in-None.ensures.operand
