use Rattle.std.proofs.Common.{rules, tests}
use Rattle.jv_class_structure.specs.Parts.{methods_of}
use Rattle.jv_class.specs.Inside.Shown.{KeepsMethodShown}
use Rattle.jv_class.proofs.Each.{decided_at}
use Rattle.jv_class.proofs.method_rules.keep_rules.Goals as goal

pub returns : goal.returns
returns c =
    decided_at _ _ (KeepsMethodShown c.args.parts.now.constant_pool c.args.parts.now.major_version c.args.parts.now.access_flags)
    (methods_of c.args.parts.now) _ c.all.ensures.ran c.method_count.ensures
    (λ k q h. search (rules, tests)) (λ k q h. search (rules, tests))
