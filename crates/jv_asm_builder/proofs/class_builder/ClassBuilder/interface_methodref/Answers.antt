use Rattle.jv_pool.specs.declared.constant.Constant.TheVariants as constants
use Rattle.jv_asm_builder.proofs.Joined.{grown_both, member_none_first, member_none_last, member_ok, too_large_before}
use Rattle.jv_asm_builder.proofs.class_builder.ClassBuilder.interface_methodref.Goals as goal

pub returns-clause-too_large : goal.returns-clause-too_large
returns-clause-too_large c = λ e.
    member_none_last (λ x y. constants.InterfaceMethodref x y) c.args.self.now.constant_pool c.args.class.now c.args.name.now c.args.descriptor.now
    c.member.new.self.constant_pool c.in_ok-class.class c.in_ok-class.member (c.in_ok-class.ensures {u = tt}).ok (c.constant.ensures.too_large.0 e)

pub returns-in_err-class-clause-too_large : goal.returns-in_err-class-clause-too_large
returns-in_err-class-clause-too_large c = λ e.
    member_none_first (λ x y. constants.InterfaceMethodref x y) c.args.self.now.constant_pool c.args.class.now c.args.name.now c.args.descriptor.now
    ((c.in_err-class.ensures {u = tt}).too_large (too_large_before c.from_residual.result c.in_err-class.field-0.0 c.from_residual.ensures.1 e))

pub returns-clause-ok : goal.returns-clause-ok
returns-clause-ok c =
    member_ok c.constant.result (λ x y. constants.InterfaceMethodref x y) c.args.self.now.constant_pool c.args.class.now c.args.name.now c.args.descriptor.now
    c.member.new.self.constant_pool c.constant.new.self.constant_pool c.in_ok-class.class c.in_ok-class.member (c.in_ok-class.ensures {u = tt}).ok c.constant.ensures.ok

pub returns-clause-grown : goal.returns-clause-grown
returns-clause-grown c =
    grown_both c.args.self.now c.member.new.self c.constant.new.self (c.in_ok-class.ensures {u = tt}).grown c.constant.ensures.grown
