use Rattle.jv_asm_builder.proofs.Joined.{grown_both, texts_none_first, too_large_before}
use Rattle.jv_asm_builder.proofs.class_builder.ClassBuilder.texts.Goals as goal

pub returns-in_err-first-clause-too_large : goal.returns-in_err-first-clause-too_large
returns-in_err-first-clause-too_large c = λ e.
    texts_none_first c.args.self.now.constant_pool c.args.first.now c.args.second.now
    ((c.in_err-first.ensures {u = tt}).too_large.0 (too_large_before c.from_residual.result c.in_err-first.field-0.0 c.from_residual.ensures.1 e))

pub returns-clause-grown : goal.returns-clause-grown
returns-clause-grown c = grown_both c.args.self.now c.utf8-2.new.self c.utf8-2-2.new.self (c.in_ok-first.ensures {u = tt}).grown (c.in_ok-second.ensures {u = tt}).grown
