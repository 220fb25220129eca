use Rattle.std.proofs.Common.{rules, tests}
use Rattle.jv_class_structure.specs.Parts.{methods_of}
use Rattle.jv_class.specs.Inside.Shown.{IsMethodShownSupported}
use Rattle.jv_class.proofs.Each.{decided_at}
use Rattle.jv_class.proofs.supported.are_supported_methods.Goals as goal

pub returns : goal.returns
returns c =
    decided_at _ _ (IsMethodShownSupported c.args.parts.now.constant_pool) (methods_of c.args.parts.now) _ c.all.ensures.ran c.method_count.ensures
    (λ k q h. search (rules, tests)) (λ k q h. search (rules, tests))
