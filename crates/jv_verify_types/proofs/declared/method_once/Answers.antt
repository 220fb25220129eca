use Rattle.std.proofs.Common.{Option, ℕ, subst}
use Rattle.jv_pool.specs.Seen.{seen_member}
use Rattle.jv_verify_types.specs.Inside.Answered.{IsMethodDeclared}
use Rattle.jv_verify_types.proofs.Declaring.{method_placed}
use Rattle.jv_verify_types.proofs.declared.method_once.Goals as goal

pub returns-in-Some-clause-found : goal.returns-in-Some-clause-found
returns-in-Some-clause-found c =
    method_placed c.args.table.now c.args.class (seen_member c.args.method.now) c.in-Some.member c.requires.class
    (subst (λ (o : Option ℕ). IsMethodDeclared c.args.table.now c.args.class c.args.method.now.name.now c.args.method.now.descriptor.now o) c.in-Some.is c.in_ok-member.ensures.found)
