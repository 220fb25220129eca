use Rattle.std.proofs.Common.{[], rules}
use Rattle.jv_asm_builder.proofs.Joined.{classes_none_last, too_large_before}
use Rattle.jv_asm_builder.proofs.class_builder.ClassBuilder.new.Goals as goal

pub returns-in_err-index-clause-too_large : goal.returns-in_err-index-clause-too_large
returns-in_err-index-clause-too_large c = λ e.
    let root = c.in_ok-class.class in
    classes_none_last [] c.args.name.now c.args.super_name.now root.constant_pool root.this_class (c.in_ok-class.ensures {u = tt}).ok.named
    ((c.in_err-index.ensures {u = tt}).too_large (too_large_before c.from_residual-in_err-index.result c.in_err-index.field-0.0 c.from_residual-in_err-index.ensures.1 e))

pub returns-clause-ok : goal.returns-clause-ok
returns-clause-ok c = search rules

pub returns-in_err-class-clause-too_large : goal.returns-in_err-class-clause-too_large
returns-in_err-class-clause-too_large c = search rules
