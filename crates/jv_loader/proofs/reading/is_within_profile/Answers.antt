use Rattle.std.proofs.Common.{rules, tests}
use Rattle.jv_class_structure.specs.Parts.{methods_of}
use Rattle.jv_class.proofs.Each.{decided_at}
use Rattle.jv_meaning_world.specs.FileContent.{HasNoUnsupportedCode}
use Rattle.jv_loader.proofs.reading.is_within_profile.Goals as goal

pub returns : goal.returns
returns c =
    decided_at _ _ (λ m. HasNoUnsupportedCode m.code) (methods_of c.args.class.now) _ c.all.ensures.ran c.method_count.ensures
    (λ k q h. search (rules, tests)) (λ k q h. search (rules, tests))
