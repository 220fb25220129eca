use Rattle.std.proofs.Common.{◌≡◌, None, rules, tests}
use Rattle.jv_class_structure.specs.Parts.{MethodSeen, methods_of}
use Rattle.jv_class.proofs.Each.{decided_at}
use Rattle.jv_verify.proofs.methods.has_no_code.Goals as goal

pub returns : goal.returns
returns c =
    decided_at _ _ (λ (m : MethodSeen). m.code ≡ None) (methods_of c.args.file.now) _ c.all.ensures.ran c.method_count.ensures
    (λ k q h. search (rules, tests)) (λ k q h. search (rules, tests))
