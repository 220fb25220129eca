use Rattle.jv_verify_rules.proofs.Replacing.{all_replaced}
use Rattle.jv_verify_rules.proofs.construction.construct.Goals as goal

pub returns : goal.returns
returns c = λ names.
    all_replaced names c.args.object c.args.by c.args.frame.now c.replace_locals.new.self c.replace_stack.new.self c.clear_flag_of.new.frame
    (c.replace_locals.ensures.locals names) c.replace_locals.ensures.same (c.replace_stack.ensures.stack names) c.replace_stack.ensures.same (c.clear_flag_of.ensures names)
