use Rattle.std.proofs.Common.{sym, ◌∙◌}
use Rattle.jv_verify_pass.specs.Inside.Parts.{frame_stands}
use Rattle.jv_verify_pass.proofs.Tests.{more_hold, one_fails}
use Rattle.jv_verify_pass.proofs.standing.frames_stand.Goals as goal

pub returns-then-not-frame_stands : goal.returns-then-not-frame_stands
returns-then-not-frame_stands c = λ env has.
    let made = c.locals_are_made-are_made.ensures env has (c.loop-place.invariant env has) c.frame_at.result c.frame_at.ensures in
    sym (one_fails (frame_stands env) c.args.frames.now c.loop-place.place c.frame_at.result c.frame_at.ensures (sym (c.frame_stands.ensures env has made) ∙ c.if-not-frame_stands.true))

pub loop-place-preserved : goal.loop-place-preserved
loop-place-preserved c = λ env has.
    let made = c.locals_are_made-are_made.ensures env has (c.loop-place.invariant env has) c.frame_at.result c.frame_at.ensures in
    more_hold (frame_stands env) c.args.frames.now c.loop-place.place c.frame_at.result c.frame_at.ensures
    (c.loop-place.invariant env has) (sym (c.frame_stands.ensures env has made) ∙ c.if-not-frame_stands.false)
