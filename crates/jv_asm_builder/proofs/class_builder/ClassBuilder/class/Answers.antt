use Rattle.jv_pool.specs.declared.constant.Constant.TheVariants as constants
use Rattle.jv_asm_builder.proofs.Joined.{grown_both, named_none_first, named_ok, too_large_before, named_none_last}
use Rattle.jv_asm_builder.proofs.class_builder.ClassBuilder.class.Goals as goal

pub returns-in_err-name-clause-too_large : goal.returns-in_err-name-clause-too_large
returns-in_err-name-clause-too_large c = λ e.
    named_none_first (λ x. constants.Class x) c.args.self.now.constant_pool c.args.name.now
    ((c.in_err-name.ensures {u = tt}).too_large.0 (too_large_before c.from_residual.result c.in_err-name.field-0.0 c.from_residual.ensures.1 e))

pub returns-clause-ok : goal.returns-clause-ok
returns-clause-ok c =
    named_ok c.constant.result (λ x. constants.Class x) c.args.self.now.constant_pool c.args.name.now c.utf8-2.new.self.constant_pool c.constant.new.self.constant_pool c.in_ok-name.name
    (c.in_ok-name.ensures {u = tt}).ok c.constant.ensures.ok

pub returns-clause-grown : goal.returns-clause-grown
returns-clause-grown c = grown_both c.args.self.now c.utf8-2.new.self c.constant.new.self (c.in_ok-name.ensures {u = tt}).grown c.constant.ensures.grown

pub returns-clause-too_large : goal.returns-clause-too_large
returns-clause-too_large c = λ e.
    named_none_last (λ x. constants.Class x) c.args.self.now.constant_pool c.args.name.now c.utf8-2.new.self.constant_pool c.in_ok-name.name
    (c.in_ok-name.ensures {u = tt}).ok (c.constant.ensures.too_large.0 e)
