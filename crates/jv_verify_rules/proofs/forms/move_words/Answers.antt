use Rattle.jv_verify_rules.proofs.Parting.{not_taken, not_passed, moved}
use Rattle.jv_verify_rules.proofs.forms.move_words.Goals as goal

pub returns-in_default : goal.returns-in_default
returns-in_default c = λ names. not_taken names c.args.form c.args.frame.now (c.in_default.ensures names)

pub returns-in_default-pop_passed : goal.returns-in_default-pop_passed
returns-in_default-pop_passed c = λ names.
    not_passed names c.args.form c.args.frame.now c.pop_taken.new.frame c.in-Some.taken (c.in-Some.ensures names) (c.in_default-pop_passed.ensures names)

pub returns : goal.returns
returns c = λ names.
    moved names c.args.form c.args.frame.now c.pop_taken.new.frame c.pop_passed.new.frame c.push_arranged.new.frame c.in-Some.taken c.in-Some-pop_passed.passed
    (c.in-Some.ensures names) (c.in-Some-pop_passed.ensures names) c.in_ok-push_arranged.ensures
