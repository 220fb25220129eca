use Rattle.std.proofs.Common.{◌≡◌, ℕ, suc, ◌+◌, ◌-◌, ◌++◌, refl, subst, arith}
use Rattle.jv_interp_control.specs.Standing.{kept}
use Rattle.jv_interp_steps.specs.Running.{RanOn}
use Rattle.jv_interp_steps.proofs.Records.{ran_still}
use Rattle.jv_interp_steps.proofs.Runs.{runs_not, steps_in, next, ran_on}
use Rattle.jv_interp_steps.proofs.InWords.{can_run, ran_and_ran}
use Rattle.jv_interp_steps.proofs.running.run_going.Goals as goal

pub loop-left-init : goal.loop-left-init
loop-left-init g c =
    let none : 0 ≡ c.args.n - c.args.n = omega arith in
    let before = kept c.args.frames.now c.args.control.now c.args.held.now (g.S.Store.content c.args.store.now) in
    record {
      few = omega arith;
      ran =
          λ program s addresses h.
          subst (λ (k : ℕ). RanOn k program c.args.texts.now.names s addresses c.args.at.now before before) none
          (runs_not c.args.classes.now.world c.args.verified.now c.args.at.now program c.args.texts.now.names s addresses before h);
      linked = c.requires.linked;
      fewer = omega arith;
      still = λ none. (refl, refl);
      room = refl;
    }

pub run_alone-left-requires : goal.run_alone-left-requires
run_alone-left-requires g c =
    let w = c.requires.can in
    let k = c.args.n - c.loop-left.left in
    let before = kept c.args.frames.now c.args.control.now c.args.held.now (g.S.Store.content c.args.store.now) in
    can_run c.args.classes.now.world c.args.verified.now c.args.at.now w.program c.args.texts.now.names w.s w.addresses before w.runs k c.loop-left.at
    c.loop-left.frames c.args.control.now c.loop-left.held (g.S.Store.content c.loop-left.store) (c.loop-left.invariant.ran w.program w.s w.addresses w.runs)

pub step_going-requires-clause-read : goal.step_going-requires-clause-read
step_going-requires-clause-read g c = c.run_alone-left.ensures.rest (c.if-left-gt0.true)

pub step_going-requires-clause-can : goal.step_going-requires-clause-can
step_going-requires-clause-can g c =
    let w = c.requires.can in
    let k = c.args.n - c.loop-left.left in
    let j = c.loop-left.left - c.run_alone-left.result in
    let before = kept c.args.frames.now c.args.control.now c.args.held.now (g.S.Store.content c.args.store.now) in
    let then = kept c.run_alone-left.new.frames c.args.control.now c.loop-left.held (g.S.Store.content c.loop-left.store) in
    let r =
    ran_and_ran c.args.classes.now.world c.args.verified.now c.args.at.now w.program c.args.texts.now.names w.s w.addresses before w.runs k c.loop-left.at c.loop-left.frames
    c.args.control.now c.loop-left.held (g.S.Store.content c.loop-left.store) (c.loop-left.invariant.ran w.program w.s w.addresses w.runs) j
    c.run_alone-left.new.at c.run_alone-left.new.frames c.run_alone-left.ensures.ran c.run_alone-left.ensures.only in
    record {
      program = w.program;
      s = r.t;
      t = next c.args.classes.now.world c.args.verified.now c.args.at.now w.program c.args.texts.now.names w.s w.addresses before w.runs (k + j) c.run_alone-left.new.at then r;
      addresses = w.addresses ++ r.runs.more;
      steps = steps_in c.args.classes.now.world c.args.verified.now c.args.at.now w.program c.args.texts.now.names w.s w.addresses before w.runs (k + j) c.run_alone-left.new.at then r;
    }

pub loop-left-preserved-then-left-gt0 : goal.loop-left-preserved-then-left-gt0
loop-left-preserved-then-left-gt0 g c =
    let k = c.args.n - c.loop-left.left in
    let j = c.loop-left.left - c.run_alone-left.result in
    let before = kept c.args.frames.now c.args.control.now c.args.held.now (g.S.Store.content c.args.store.now) in
    let then = kept c.run_alone-left.new.frames c.args.control.now c.loop-left.held (g.S.Store.content c.loop-left.store) in
    let after = kept c.step_going.new.frames c.args.control.now c.step_going.new.held (g.S.Store.content c.step_going.new.store) in
    let few = c.loop-left.invariant.few in
    let more = c.loop-left-test.true in
    let most = c.run_alone-left.ensures.most in
    let some = c.if-left-gt0.true in
    let up : suc (k + j) ≡ c.args.n - (c.run_alone-left.result - 1) = omega (arith, few, most, some, more) in
    record {
      few = omega (arith, few, most);
      ran =
          λ program s addresses h.
          let r =
          ran_and_ran c.args.classes.now.world c.args.verified.now c.args.at.now program c.args.texts.now.names s addresses before h k c.loop-left.at c.loop-left.frames
          c.args.control.now c.loop-left.held (g.S.Store.content c.loop-left.store) (c.loop-left.invariant.ran program s addresses h) j
          c.run_alone-left.new.at c.run_alone-left.new.frames c.run_alone-left.ensures.ran c.run_alone-left.ensures.only in
          let t = next c.args.classes.now.world c.args.verified.now c.args.at.now program c.args.texts.now.names s addresses before h (k + j) c.run_alone-left.new.at then r in
          let q = c.step_going.ensures.stepped c.if-not-step_going.false program r.t t (addresses ++ r.runs.more)
          (steps_in c.args.classes.now.world c.args.verified.now c.args.at.now program c.args.texts.now.names s addresses before h
          (k + j) c.run_alone-left.new.at then r) in
          subst (λ (i : ℕ). RanOn i program c.args.texts.now.names s addresses c.step_going.new.at before after) up
          (ran_on c.args.classes.now.world c.args.verified.now c.args.at.now program c.args.texts.now.names s addresses before h (k + j) c.run_alone-left.new.at then r
          c.step_going.new.at after q);
      linked = c.step_going.ensures.linked;
      fewer = let a = c.step_going.ensures.fewer in let b = c.loop-left.invariant.fewer in omega (arith, a, b);
      still = λ none. absurd (omega (arith, few, most, some, none));
      room = let a = c.step_going.ensures.room in let b = c.loop-left.invariant.room in omega (arith, a, b);
    }

pub loop-left-preserved : goal.loop-left-preserved
loop-left-preserved g c =
    let k = c.args.n - c.loop-left.left in
    let j = c.loop-left.left - c.run_alone-left.result in
    let before = kept c.args.frames.now c.args.control.now c.args.held.now (g.S.Store.content c.args.store.now) in
    let then = kept c.run_alone-left.new.frames c.args.control.now c.loop-left.held (g.S.Store.content c.loop-left.store) in
    let few = c.loop-left.invariant.few in
    let more = c.loop-left-test.true in
    let most = c.run_alone-left.ensures.most in
    let none = c.if-left-gt0.false in
    let sum : k + j ≡ c.args.n - c.run_alone-left.result = omega (arith, few, most) in
    record {
      few = omega (arith, few, most);
      ran =
          λ program s addresses h.
          let r =
          ran_and_ran c.args.classes.now.world c.args.verified.now c.args.at.now program c.args.texts.now.names s addresses before h k c.loop-left.at c.loop-left.frames
          c.args.control.now c.loop-left.held (g.S.Store.content c.loop-left.store) (c.loop-left.invariant.ran program s addresses h) j
          c.run_alone-left.new.at c.run_alone-left.new.frames c.run_alone-left.ensures.ran c.run_alone-left.ensures.only in
          subst (λ (i : ℕ). RanOn i program c.args.texts.now.names s addresses c.run_alone-left.new.at before then) sum r;
      linked = c.loop-left.invariant.linked;
      fewer = c.loop-left.invariant.fewer;
      still = λ all. absurd (omega (arith, few, more, none, all));
      room = c.loop-left.invariant.room;
    }

pub returns-then-not-step_going-clause-ran : goal.returns-then-not-step_going-clause-ran
returns-then-not-step_going-clause-ran g c = λ program s addresses h.
    let k = c.args.n - c.loop-left.left in
    let j = c.loop-left.left - c.run_alone-left.result in
    let before = kept c.args.frames.now c.args.control.now c.args.held.now (g.S.Store.content c.args.store.now) in
    let then = kept c.run_alone-left.new.frames c.args.control.now c.loop-left.held (g.S.Store.content c.loop-left.store) in
    let few = c.loop-left.invariant.few in
    let most = c.run_alone-left.ensures.most in
    let some = c.if-left-gt0.true in
    let sum : k + j ≡ c.args.n - c.run_alone-left.result = omega (arith, few, most, some) in
    let after = kept c.step_going.new.frames c.args.control.now c.step_going.new.held (g.S.Store.content c.step_going.new.store) in
    let r =
    ran_and_ran c.args.classes.now.world c.args.verified.now c.args.at.now program c.args.texts.now.names s addresses before h k c.loop-left.at c.loop-left.frames
    c.args.control.now c.loop-left.held (g.S.Store.content c.loop-left.store) (c.loop-left.invariant.ran program s addresses h) j
    c.run_alone-left.new.at c.run_alone-left.new.frames c.run_alone-left.ensures.ran c.run_alone-left.ensures.only in
    subst (λ (i : ℕ). RanOn i program c.args.texts.now.names s addresses c.step_going.new.at before after) sum
    (ran_still (k + j) program c.args.texts.now.names s addresses before c.run_alone-left.new.at c.step_going.new.at c.run_alone-left.new.frames
    c.step_going.new.frames c.args.control.now c.loop-left.held c.step_going.new.held (g.S.Store.content c.loop-left.store)
    (g.S.Store.content c.step_going.new.store) r (c.step_going.ensures.same_at c.if-not-step_going.true) (c.step_going.ensures.same_frames c.if-not-step_going.true)
    (c.step_going.ensures.same_held c.if-not-step_going.true) (c.step_going.ensures.same_content c.if-not-step_going.true))
