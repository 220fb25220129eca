use Rattle.std.proofs.Common.{rules, ◌≡◌, ◌∙◌, ◌≤◌, Some, None, ap, arith, refl, sym}
use Rattle.std.specs.Str.Parse.{ExplainsUnsignedError, HasUnsignedDigitsIfOk, ParsesUnsigned, digits_value, without_leading_plus}
use Rattle.clap.specs.Words.{first_value, found_of}
use Rattle.jv_program_words.proofs.Texts.{in_rows, no_number, not_read, outside, read, unused, used, within}
use Rattle.jv_program_words.proofs.reading.number_between.Goals.{else-least-number-via-then-least-number+else-number-most, else-least-number-via-else-least-number}
use Rattle.jv_program_words.proofs.reading.number_between.Goals as goal

pub returns-in_default : goal.returns-in_default
returns-in_default c =
    let none : first_value (found_of c.args.found.now) c.args.name.now ≡ None = search rules in
    rw (unused c.args.found.now c.args.name.now none) refl

pub returns-in_default-get_one : goal.returns-in_default-get_one
returns-in_default-get_one c =
    let some : first_value (found_of c.args.found.now) c.args.name.now ≡ Some c.in-Some.field-0.now = search rules in
    let text = used c.args.found.now c.args.name.now c.in-Some.field-0.now some in
    let reads = c.get_one.ensures.value text.0 text.1 in
    let refused = not_read (λ bs x. ParsesUnsigned 32 10 bs x × ExplainsUnsignedError 10 bs x × HasUnsignedDigitsIfOk bs x) text.0 c.get_one.result reads (λ x g. g.0) c.in_default-get_one.is in
    rw (in_rows c.args.found.now c.args.name.now text.0 text.1)
    (sym (no_number c.args.least c.args.most text.0 c.ranges.most.fits refused))

pub returns-then-number-most : goal.returns-then-number-most
returns-then-number-most c =
    let some : first_value (found_of c.args.found.now) c.args.name.now ≡ Some c.in-Some.field-0.now = search rules in
    let text = used c.args.found.now c.args.name.now c.in-Some.field-0.now some in
    let reads = c.get_one.ensures.value text.0 text.1 in
    let is = read (λ bs x. ParsesUnsigned 32 10 bs x × ExplainsUnsignedError 10 bs x × HasUnsignedDigitsIfOk bs x) text.0 c.get_one.result
    c.in-Some-get_one.number reads (λ x g. g.0) c.in-Some-get_one.is in
    let same = is.1 in
    let low = c.if-least-number.true in
    let high = c.if-number-most.true in
    let is_low : c.args.least ≤ digits_value 10 (without_leading_plus text.0) = omega (arith, same, low) in
    let is_high : digits_value 10 (without_leading_plus text.0) ≤ c.args.most = omega (arith, same, high) in
    rw (in_rows c.args.found.now c.args.name.now text.0 text.1)
    (ap Some same ∙ sym (within c.args.least c.args.most text.0 is.0 is_low is_high))

pub returns-else-least-number : goal.returns-else-least-number
returns-else-least-number c =
    let some : first_value (found_of c.args.found.now) c.args.name.now ≡ Some c.in-Some.field-0.now = search rules in
    let text = used c.args.found.now c.args.name.now c.in-Some.field-0.now some in
    let reads = c.get_one.ensures.value text.0 text.1 in
    let is = read (λ bs x. ParsesUnsigned 32 10 bs x × ExplainsUnsignedError 10 bs x × HasUnsignedDigitsIfOk bs x) text.0 c.get_one.result
    c.in-Some-get_one.number reads (λ x g. g.0) c.in-Some-get_one.is in
    let same = is.1 in
    rw (in_rows c.args.found.now c.args.name.now text.0 text.1)
    (sym (outside c.args.least c.args.most text.0 (λ low high. elim c.else-least-number.branch [
      | else-least-number-via-then-least-number+else-number-most w ↦ let no_high = w.if-number-most.false in absurd (omega (arith, same, high, no_high))
      | else-least-number-via-else-least-number w ↦ let no_low = w.if-least-number.false in absurd (omega (arith, same, low, no_low))
    ])))
