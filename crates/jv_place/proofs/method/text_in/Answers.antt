use Rattle.std.proofs.Common.{rules, ◌≡◌, ◌∙◌, ◌≤◌, false, arith}
use Rattle.std.specs.Prelude.{is_some}
use Rattle.jv_place.specs.Inside.Found.{text_in}
use Rattle.jv_place.proofs.Found.{none_left, none_more, some_text}
use Rattle.jv_place.proofs.method.text_in.Goals as goal

pub loop-place-preserved : goal.loop-place-preserved
loop-place-preserved c =
    let none : is_some c.in_ok-text.text ≡ false = search rules in
    none_more c.args.file.now c.args.wanted c.loop-place.place (text_in c.in_ok-text.text) (some_text c.in_ok-text.text ∙ none) c.in_ok-text.ensures
    c.loop-place.invariant

pub returns : goal.returns
returns c =
    let count = c.method_count-place-end.ensures in
    let end : c.method_count-place-end.result ≤ c.loop-place.place = search rules in
    none_left c.args.file.now c.args.wanted c.loop-place.place (omega (arith, count, end)) c.loop-place.invariant
