use Rattle.jv_asm_builder.proofs.Joined.{grown_both, types_none_first, types_none_last, types_ok, too_large_before}
use Rattle.jv_asm_builder.proofs.class_builder.ClassBuilder.name_and_type.Goals as goal

pub returns-clause-grown : goal.returns-clause-grown
returns-clause-grown c = grown_both c.args.self.now c.texts.new.self c.constant.new.self (c.in_ok-name.ensures {u = tt}).grown c.constant.ensures.grown

pub returns-in_err-name-clause-too_large : goal.returns-in_err-name-clause-too_large
returns-in_err-name-clause-too_large c = λ e.
    types_none_first c.args.self.now.constant_pool c.args.name.now c.args.descriptor.now
    ((c.in_err-name.ensures {u = tt}).too_large (too_large_before c.from_residual.result c.in_err-name.field-0.0 c.from_residual.ensures.1 e))

pub returns-clause-ok : goal.returns-clause-ok
returns-clause-ok c =
    types_ok c.constant.result c.args.self.now.constant_pool c.args.name.now c.args.descriptor.now c.texts.new.self.constant_pool c.constant.new.self.constant_pool c.in_ok-name.name
    c.in_ok-name.descriptor (c.in_ok-name.ensures {u = tt}).ok c.constant.ensures.ok

pub returns-clause-too_large : goal.returns-clause-too_large
returns-clause-too_large c = λ e.
    types_none_last c.args.self.now.constant_pool c.args.name.now c.args.descriptor.now c.texts.new.self.constant_pool c.in_ok-name.name c.in_ok-name.descriptor
    (c.in_ok-name.ensures {u = tt}).ok (c.constant.ensures.too_large.0 e)
