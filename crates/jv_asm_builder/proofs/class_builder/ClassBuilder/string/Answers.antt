use Rattle.jv_pool.specs.declared.constant.Constant.TheVariants as constants
use Rattle.jv_asm_builder.proofs.Joined.{grown_both, named_none_first, named_ok, too_large_before, named_none_last}
use Rattle.jv_asm_builder.proofs.class_builder.ClassBuilder.string.Goals as goal

pub returns-in_err-text-clause-too_large : goal.returns-in_err-text-clause-too_large
returns-in_err-text-clause-too_large c = λ e.
    named_none_first (λ x. constants.String x) c.args.self.now.constant_pool c.args.text.now
    ((c.in_err-text.ensures {u = tt}).too_large.0 (too_large_before c.from_residual.result c.in_err-text.field-0.0 c.from_residual.ensures.1 e))

pub returns-clause-ok : goal.returns-clause-ok
returns-clause-ok c =
    named_ok c.constant.result (λ x. constants.String x) c.args.self.now.constant_pool c.args.text.now c.utf8-2.new.self.constant_pool c.constant.new.self.constant_pool c.in_ok-text.text
    (c.in_ok-text.ensures {u = tt}).ok c.constant.ensures.ok

pub returns-clause-grown : goal.returns-clause-grown
returns-clause-grown c = grown_both c.args.self.now c.utf8-2.new.self c.constant.new.self (c.in_ok-text.ensures {u = tt}).grown c.constant.ensures.grown

pub returns-clause-too_large : goal.returns-clause-too_large
returns-clause-too_large c = λ e.
    named_none_last (λ x. constants.String x) c.args.self.now.constant_pool c.args.text.now c.utf8-2.new.self.constant_pool c.in_ok-text.text
    (c.in_ok-text.ensures {u = tt}).ok (c.constant.ensures.too_large.0 e)
