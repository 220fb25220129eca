use Rattle.jv_asm_builder.proofs.Joined.{grown_both, member_none_class, member_none_type, too_large_before}
use Rattle.jv_asm_builder.proofs.class_builder.ClassBuilder.member.Goals as goal

pub returns-in_err-class-clause-too_large : goal.returns-in_err-class-clause-too_large
returns-in_err-class-clause-too_large c = λ e.
    member_none_class c.args.self.now.constant_pool c.args.class.now c.args.name.now c.args.descriptor.now
    ((c.in_err-class.ensures {u = tt}).too_large (too_large_before c.from_residual.result c.in_err-class.field-0.0 c.from_residual.ensures.1 e))

pub returns-in_err-member-clause-too_large : goal.returns-in_err-member-clause-too_large
returns-in_err-member-clause-too_large c = λ e.
    member_none_type c.args.self.now.constant_pool c.args.class.now c.args.name.now c.args.descriptor.now c.class.new.self.constant_pool c.in_ok-class.class
    (c.in_ok-class.ensures {u = tt}).ok
    ((c.in_err-member.ensures {u = tt}).too_large (too_large_before c.from_residual-in_err-member.result c.in_err-member.field-0.0 c.from_residual-in_err-member.ensures.1 e))

pub returns-in_err-member-clause-grown : goal.returns-in_err-member-clause-grown
returns-in_err-member-clause-grown c =
    grown_both c.args.self.now c.class.new.self c.name_and_type.new.self (c.in_ok-class.ensures {u = tt}).grown (c.in_err-member.ensures {u = tt}).grown

pub returns-clause-grown : goal.returns-clause-grown
returns-clause-grown c =
    grown_both c.args.self.now c.class.new.self c.name_and_type.new.self (c.in_ok-class.ensures {u = tt}).grown (c.in_ok-member.ensures {u = tt}).grown
