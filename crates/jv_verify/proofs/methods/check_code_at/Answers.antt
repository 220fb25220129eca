use Rattle.std.proofs.Common.{Option, subst, sym}
use Rattle.std.specs.Prelude.{IsSome, IfSome}
use Rattle.jv_class_structure.specs.Parts.{MethodSeen}
use Rattle.jv_verify.specs.Inside.Shown.{method_in, IsJudgedIn}
use Rattle.jv_verify.proofs.methods.check_code_at.Goals as goal

pub check_code-requires : goal.check_code-requires
check_code-requires c =
    subst (λ (o : Option MethodSeen). IfSome o (λ m. IsSome (method_in c.args.class.now.by.class.constant_pool m))) (sym c.in-Some.ensures.shown) c.requires

pub returns-in-Some : goal.returns-in-Some
returns-in-Some c = subst (λ (o : Option MethodSeen). IfSome o (λ m. IsJudgedIn c.args.class.now m c.check_code.result)) c.in-Some.ensures.shown c.check_code.ensures
