use Rattle.std.proofs.Common.{◌≡◌, Some, sym, ap, ◌∙◌}
use Rattle.std.specs.Option.{option_map}
use Rattle.jv_class_structure.specs.Seen.{seen_code, seen_method}
use Rattle.jv_meaning_world.specs.Verdicts.{declared_by}
use Rattle.jv_verify.specs.Inside.Shown.{method_in}
use Rattle.jv_verify.proofs.Shown.{there, known_method, has_body, judged_method, no_code, if_ok_so}
use Rattle.jv_verify.proofs.methods.check_code.Goals as goal

pub check_method-requires : goal.check_method-requires
check_method-requires c =
    let m = there (method_in c.args.class.now.by.class.constant_pool (seen_method c.args.method.now)) c.requires in (
      declared_by c.args.class.now.by m.0,
      known_method c.args.class.now (seen_method c.args.method.now) (seen_code c.in-Some.code)
          (sym c.code.ensures ∙ ap (option_map seen_code) c.in-Some.is) m.0 m.1,
    )

pub returns-in-Some : goal.returns-in-Some
returns-in-Some c = λ m e.
    let body : (seen_method c.args.method.now).code ≡ Some (seen_code c.in-Some.code) = sym c.code.ensures ∙ ap (option_map seen_code) c.in-Some.is in
    if_ok_so c.check_method.result _ _
    (judged_method c.args.class.now.types.world c.args.class.now.by m (seen_code c.in-Some.code) (has_body c.args.class.now.by.class.constant_pool (seen_method c.args.method.now) m e ∙ body))
    (c.check_method.ensures (declared_by c.args.class.now.by m) (known_method c.args.class.now (seen_method c.args.method.now) (seen_code c.in-Some.code) body m e))

pub returns-in-None : goal.returns-in-None
returns-in-None c = λ m e.
    no_code c.args.class.now.types.world c.args.class.now.by m
    (has_body c.args.class.now.by.class.constant_pool (seen_method c.args.method.now) m e ∙ (sym c.code.ensures ∙ ap (option_map seen_code) c.in-None.is))
