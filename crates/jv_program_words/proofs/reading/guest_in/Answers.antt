use Rattle.std.proofs.Common.{rules, ◌≡◌, ◌∙◌, Some, None, ap, refl, sym}
use Rattle.std.specs.Prelude.{option_map}
use Rattle.clap.specs.Words.{first_value, found_of}
use Rattle.jv_program_words.proofs.Texts.{guest_is, in_rows, unused, used}
use Rattle.jv_program_words.proofs.reading.guest_in.Goals as goal

pub returns-in_default : goal.returns-in_default
returns-in_default c =
    let none : first_value (found_of c.args.found.now) c.args.name.now ≡ None = search rules in
    rw (unused c.args.found.now c.args.name.now none) refl

pub returns-in_default-number_between : goal.returns-in_default-number_between
returns-in_default-number_between c =
    let some : first_value (found_of c.args.found.now) c.args.name.now ≡ Some c.in-Some.field-0.now = search rules in
    let text = used c.args.found.now c.args.name.now c.in-Some.field-0.now some in
    sym (guest_is c.args.found.now c.args.name.now text.0 c.number_between.result (in_rows c.args.found.now c.args.name.now text.0 text.1) (search rules)
    ∙ ap (option_map Some) c.in_default-number_between.is)

pub returns : goal.returns
returns c =
    let some : first_value (found_of c.args.found.now) c.args.name.now ≡ Some c.in-Some.field-0.now = search rules in
    let text = used c.args.found.now c.args.name.now c.in-Some.field-0.now some in
    sym (guest_is c.args.found.now c.args.name.now text.0 c.number_between.result (in_rows c.args.found.now c.args.name.now text.0 text.1) (search rules)
    ∙ ap (option_map Some) c.in-Some-number_between.is)
