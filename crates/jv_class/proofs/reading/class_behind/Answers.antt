use Rattle.std.proofs.Common.{subst}
use Rattle.jv_class.specs.Rules.{KeepsClassRules}
use Rattle.jv_class.proofs.reading.class_behind.Goals as goal

pub returns-in-Ok-clause-format : goal.returns-in-Ok-clause-format
returns-in-Ok-clause-format c = λ e d w.
    c.class_of.ensures.format e (subst KeepsClassRules (c.one_behind_version.ensures c.args.major c.args.bytes.now d c.in-Ok.parts w.behind c.in-Ok.ensures.ok) w.rules)
