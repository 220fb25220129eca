use Rattle.std.proofs.Common.{Option, ℕ, subst}
use Rattle.jv_pool.specs.Seen.{seen_member}
use Rattle.jv_verify_types.specs.Inside.Answered.{IsFieldDeclared}
use Rattle.jv_verify_types.proofs.Declaring.{field_placed}
use Rattle.jv_verify_types.proofs.declared.field_once.Goals as goal

pub returns-in-Some-clause-found : goal.returns-in-Some-clause-found
returns-in-Some-clause-found c =
    field_placed c.args.table.now c.args.class (seen_member c.args.field.now) c.in-Some.member c.requires.class
    (subst (λ (o : Option ℕ). IsFieldDeclared c.args.table.now c.args.class c.args.field.now.name.now c.args.field.now.descriptor.now o) c.in-Some.is c.in_ok-member.ensures.found)
