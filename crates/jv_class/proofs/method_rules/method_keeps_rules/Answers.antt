use Rattle.std.proofs.Common.{subst}
use Rattle.jv_pool.specs.Facts.{IsMethodKnown}
use Rattle.jv_class_structure.specs.Seen.{seen_method}
use Rattle.jv_class.proofs.Facts.{method_keeps_rules}
use Rattle.jv_class.proofs.method_rules.method_keeps_rules.Goals as goal

pub returns-then-name_facts : goal.returns-then-name_facts
returns-then-name_facts c = λ texts names descriptors name descriptor.
    method_keeps_rules c.args.major c.args.class_flags.0 (seen_method c.args.method) texts c.args.name.now c.args.descriptor.now names descriptors
    c.args.name_facts c.in-Some.facts c.keeps_rules_by_facts.result c.if-name_facts.true name
    (subst (IsMethodKnown texts.descriptor) c.in-Some.is descriptor.method) c.keeps_rules_by_facts.ensures
