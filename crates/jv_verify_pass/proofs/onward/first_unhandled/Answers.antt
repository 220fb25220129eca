use Rattle.std.proofs.Common.{◌≡◌, ◌≤◌, Some, length, sym, ap, ◌∙◌, arith}
use Rattle.std.specs.Prelude.{slice_get}
use Rattle.std.specs.List.{find}
use Rattle.jv_meaning_typing.specs.Rule.{handler_frame}
use Rattle.jv_verify_types.specs.Numbered.{frame_of}
use Rattle.jv_verify_pass.specs.Onward.{is_unhandled}
use Rattle.jv_verify_pass.specs.Pass.{Pass, maps_of, names_in}
use Rattle.jv_verify_pass.proofs.FirstFound.{found_there, none_at_first, none_found, none_more}
use Rattle.jv_verify_pass.proofs.onward.first_unhandled.Goals as goal

pub loop-place-init : goal.loop-place-init
loop-place-init c = λ env insn is left.
    let pass = c.args.pass.now in
    none_at_first (is_unhandled env (maps_of pass) c.args.offset (handler_frame env insn (frame_of (names_in pass) c.args.frame.now))) pass.handlers

pub returns-then-is_unhandled : goal.returns-then-is_unhandled
returns-then-is_unhandled c = λ env insn is left.
    let pass = c.args.pass.now in
    let test = is_unhandled env (maps_of pass) c.args.offset (handler_frame env insn (frame_of (names_in pass) c.args.frame.now)) in
    let at : slice_get pass.handlers c.loop-place.place ≡ Some c.in-Some.handler =
    ap (λ (p : Pass). slice_get p.handlers c.loop-place.place) (sym c.pass.view_is) ∙ (sym c.handler.ensures ∙ c.in-Some.is) in
    sym (ap (find test) is.handlers
    ∙ found_there test pass.handlers c.loop-place.place c.in-Some.handler (c.loop-place.invariant env insn is left) at (sym (c.if-is_unhandled.ensures env insn is left)))

pub loop-place-preserved : goal.loop-place-preserved
loop-place-preserved c = λ env insn is left.
    let pass = c.args.pass.now in
    let test = is_unhandled env (maps_of pass) c.args.offset (handler_frame env insn (frame_of (names_in pass) c.args.frame.now)) in
    let at : slice_get pass.handlers c.loop-place.place ≡ Some c.in-Some.handler =
    ap (λ (p : Pass). slice_get p.handlers c.loop-place.place) (sym c.pass.view_is) ∙ (sym c.handler.ensures ∙ c.in-Some.is) in
    none_more test pass.handlers c.loop-place.place c.in-Some.handler (c.loop-place.invariant env insn is left) at
    (sym (c.is_unhandled.ensures env insn is left) ∙ c.if-is_unhandled.false)

pub returns : goal.returns
returns c = λ env insn is left.
    let pass = c.args.pass.now in
    let test = is_unhandled env (maps_of pass) c.args.offset (handler_frame env insn (frame_of (names_in pass) c.args.frame.now)) in
    let past = c.loop-place-test.false in
    let many : length pass.handlers ≤ c.loop-place.place = omega (arith, past, c.len-place-end.ensures, ap (λ (p : Pass). length p.handlers) c.pass.view_is) in
    sym (ap (find test) is.handlers ∙ none_found test pass.handlers c.loop-place.place (c.loop-place.invariant env insn is left) many)
