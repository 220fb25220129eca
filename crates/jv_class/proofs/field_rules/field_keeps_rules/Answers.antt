use Rattle.std.proofs.Common.{subst}
use Rattle.jv_pool.specs.Facts.{IsFieldKnown}
use Rattle.jv_class_structure.specs.Seen.{seen_field}
use Rattle.jv_class.proofs.Facts.{field_keeps_rules}
use Rattle.jv_class.proofs.field_rules.field_keeps_rules.Goals as goal

pub returns-in-Some : goal.returns-in-Some
returns-in-Some c = λ texts name descriptor.
    field_keeps_rules c.args.pool.now c.args.class_flags.0 (seen_field c.args.field) texts c.args.name c.in-Some.facts c.keeps_rules_by_facts.result name
    (subst (IsFieldKnown texts.descriptor) c.in-Some.is descriptor.field) c.keeps_rules_by_facts.ensures
