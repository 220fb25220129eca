use Rattle.std.proofs.Common.{◌∙◌, sym, arith}
use Rattle.jv_text.proofs.Fields.{class_field}
use Rattle.jv_pool.proofs.texts.is_no_field.Goals as goal

pub returns-then-class_name : goal.returns-then-class_name
returns-then-class_name c = λ long t h.
    let one = class_field c.args.text.now t (sym c.requires ∙ c.if-class_name.true) h in
    grind (arith, one, long)
