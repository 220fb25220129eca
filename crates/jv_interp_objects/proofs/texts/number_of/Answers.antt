use Rattle.std.proofs.Common.{sym, ◌∙◌, arith}
use Rattle.jv_interp_objects.proofs.InTexts.{joined_numbers, found_text}
use Rattle.jv_interp_objects.proofs.texts.number_of.Goals as goal

pub returns-in-Some-clause-numbers : goal.returns-in-Some-clause-numbers
returns-in-Some-clause-numbers c = rw c.in_ok-add.ensures.ok (joined_numbers c.args.names.now c.args.text.now (omega (arith, c.if-text-ge2147483648.false)))

pub returns-in-Some-clause-text : goal.returns-in-Some-clause-text
returns-in-Some-clause-text c = found_text _ _ _ (sym c.place_of.ensures ∙ c.in-Some.is)
