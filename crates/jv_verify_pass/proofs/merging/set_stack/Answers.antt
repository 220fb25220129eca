use Rattle.std.proofs.Common.{ap, ◌∙◌}
use Rattle.jv_verify_types.specs.Typed.{typed, typed_all}
use Rattle.jv_verify_types.specs.Numbered.{NumberFrame}
use Rattle.jv_verify_frame.proofs.Replacing.{map_reversed}
use Rattle.jv_verify_types.specs.Mapped.{names_of_types}
use Rattle.jv_verify_pass.proofs.merging.set_stack.Goals as goal

pub returns-clause-stack : goal.returns-clause-stack
returns-clause-stack c =
    let names = names_of_types c.args.types.now in
    ap (λ (f : NumberFrame). typed_all names f.stack) c.turn_stack.ensures
    ∙ (map_reversed (typed names) c.push_items.new.frame.stack ∙ c.in_ok-push_items.ensures.stack)
