use Rattle.std.proofs.Common.{◌≡◌, ℕ, subst, arith}
use Rattle.jv_interp_control.specs.Inside.Passing.{PassedAll}
use Rattle.jv_interp_control.proofs.AllPassed.{passing_next, passed_next}
use Rattle.jv_interp_control.proofs.passing.pass_frames.Goals as goal

pub loop-step-init : goal.loop-step-init
loop-step-init c = λ program addresses all control h. record { stand = h.stand; control_stands = h.control_stands }

pub pass_frame-requires-clause-can : goal.pass_frame-requires-clause-can
pass_frame-requires-clause-can c =
    let w = c.requires.can in
    let p = w.passing in
    let low = c.loop-step-test.true in
    let now = c.loop-step.invariant w.program w.addresses w.all w.control p in
    record {
      program = w.program;
      addresses = w.addresses;
      frame = _;
      below = _;
      control = _;
      passing = passing_next c.args.classes.now.world c.args.count w.program w.addresses w.all w.control c.loop-step.step c.loop-step.frames c.loop-step.control p.world_is p.within low now;
    }

pub loop-step-preserved : goal.loop-step-preserved
loop-step-preserved c = λ program addresses all control h.
    let low = c.loop-step-test.true in
    let now = c.loop-step.invariant program addresses all control h in
    let can = passing_next c.args.classes.now.world c.args.count program addresses all control c.loop-step.step c.loop-step.frames c.loop-step.control h.world_is h.within low now in
    passed_next c.args.classes.now.world c.args.count program addresses all control c.loop-step.step c.loop-step.frames c.loop-step.control h.world_is h.within low now
    c.pass_frame.new.frames c.pass_frame.new.control (c.pass_frame.ensures program addresses _ _ _ can)

pub returns : goal.returns
returns c = λ program addresses all control h.
    let end : c.loop-step.step ≡ c.args.count = let a = c.loop-step-test.false in let b = c.loop-step.auto.step-end in omega (arith, a, b) in
    subst (λ (n : ℕ). PassedAll n program addresses all control c.loop-step.frames c.loop-step.control) end (c.loop-step.invariant program addresses all control h)
