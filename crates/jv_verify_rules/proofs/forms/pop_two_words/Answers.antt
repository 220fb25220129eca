use Rattle.std.proofs.Common.{◌∙◌, sym, ap, Some}
use Rattle.jv_verify_rules.proofs.Parting.{two_taken}
use Rattle.jv_verify_rules.proofs.forms.pop_two_words.Goals as goal

pub returns-in-Some-One : goal.returns-in-Some-One
returns-in-Some-One c = λ names.
    two_taken names c.in-Some.first c.args.frame.now c.pop.new.self c.pop_below.new.frame c.pop_below.result c.in-Some.ensures.taken
    (sym (c.width_of.ensures names) ∙ (c.in-Some-One.is ∙ ap (λ w. Some w) c.in-Some-One.field-0-is)) (c.pop_below.ensures names)
