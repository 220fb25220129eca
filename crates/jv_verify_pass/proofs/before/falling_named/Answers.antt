use Rattle.std.proofs.Common.{◌≡◌, Bool, Some, sym, ap, ◌∙◌}
use Rattle.jv_stackmap.specs.Frames.{Frame}
use Rattle.jv_verify_types.specs.Numbered.{frame_of}
use Rattle.jv_verify_types.specs.Typed.{TypeWorld}
use Rattle.jv_verify_pass.specs.Pass.{Pass, names_in}
use Rattle.jv_verify_pass.specs.Inside.Walk.{when_falls}
use Rattle.jv_verify_pass.proofs.before.falling_named.Goals as goal

pub returns-then-not-falls : goal.returns-then-not-falls
returns-then-not-falls c = ap (λ (b : Bool). when_falls b (frame_of (names_in c.args.pass.now) c.args.frame.now)) (sym c.if-not-falls.true)

pub named_frame-requires : goal.named_frame-requires
named_frame-requires c = c.requires ∙ sym (ap (λ (p : Pass). p.max_locals) c.pass.view_is)

pub returns : goal.returns
returns c =
    let pass = c.args.pass.now in
    let same : c.names.result.now ≡ pass.types.constants.types = c.names.ensures ∙ ap (λ (p : Pass). p.types.constants.types) c.pass.view_is in
    ap (λ (f : Frame). Some f) (c.in_ok-named.ensures ∙ ap (λ (t : TypeWorld). frame_of t.names c.args.frame.now) same)
    ∙ ap (λ (b : Bool). when_falls b (frame_of (names_in pass) c.args.frame.now)) (sym c.if-not-falls.false)
