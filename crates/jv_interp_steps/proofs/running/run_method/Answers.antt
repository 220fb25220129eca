use Rattle.std.proofs.Common.{◌≡◌, ℕ, suc, Bool, ◌+◌, ◌-◌, ◌++◌, refl, subst, ◌∙◌, arith}
use Rattle.jv_interp_control.specs.Standing.{kept}
use Rattle.jv_interp_steps.specs.Stepping.{SteppedTo}
use Rattle.jv_interp_steps.specs.Running.{RanOn, Ran}
use Rattle.jv_interp_steps.proofs.Records.{can_suspend, stands, runs_again, can_resume, resuming}
use Rattle.jv_interp_steps.proofs.Resumed.{left_all, goes_on, waits}
use Rattle.jv_interp_steps.proofs.Runs.{runs_not, steps_in, next, ran_on, ran_out, runs_in, ran_more, ran_stands}
use Rattle.jv_interp_steps.proofs.running.run_method.Goals as goal

pub loop-left-init : goal.loop-left-init
loop-left-init g c =
    let none : 0 ≡ c.args.n - c.args.n = omega arith in
    let before = kept c.args.frames.now c.args.control.now c.args.held.now (g.S.Store.content c.args.store.now) in
    record {
      few = omega arith;
      ran =
          λ program s addresses h.
          subst (λ (k : ℕ). RanOn k program c.args.texts.now.names s addresses c.args.at before before) none
          (runs_not c.args.classes.now.world c.args.verified.now c.args.at program c.args.texts.now.names s addresses before h);
      linked = c.requires.linked;
      fewer = omega arith;
      still = λ none. (refl, refl);
      room = refl;
    }

pub run_going-left-requires-clause-can : goal.run_going-left-requires-clause-can
run_going-left-requires-clause-can g c =
    let w = c.requires.can in
    let k = c.args.n - c.loop-left.left in
    let before = kept c.args.frames.now c.args.control.now c.args.held.now (g.S.Store.content c.args.store.now) in
    let now = kept c.loop-left.frames c.loop-left.control c.loop-left.held (g.S.Store.content c.loop-left.store) in
    let r = c.loop-left.invariant.ran w.program w.s w.addresses w.runs in
    record {
      program = w.program;
      s = r.t;
      addresses = w.addresses ++ r.runs.more;
      runs = runs_in c.args.classes.now.world c.args.verified.now c.args.at w.program c.args.texts.now.names w.s w.addresses before w.runs k c.loop-left.now now r;
    }

pub step_in_method-requires-clause-read : goal.step_in_method-requires-clause-read
step_in_method-requires-clause-read g c = c.run_going-left.ensures.rest (c.if-left-gt0.true)

pub step_in_method-requires-clause-can : goal.step_in_method-requires-clause-can
step_in_method-requires-clause-can g c =
    let w = c.requires.can in
    let k = c.args.n - c.loop-left.left in
    let j = c.loop-left.left - c.run_going-left.result in
    let before = kept c.args.frames.now c.args.control.now c.args.held.now (g.S.Store.content c.args.store.now) in
    let then = kept c.run_going-left.new.frames c.loop-left.control c.run_going-left.new.held (g.S.Store.content c.run_going-left.new.store) in
    let r =
    ran_more c.args.classes.now.world c.args.verified.now c.args.at w.program c.args.texts.now.names w.s w.addresses before w.runs k c.loop-left.now
    (kept c.loop-left.frames c.loop-left.control c.loop-left.held (g.S.Store.content c.loop-left.store)) (c.loop-left.invariant.ran w.program w.s w.addresses w.runs) j
    c.run_going-left.new.at then c.run_going-left.ensures.ran in
    record {
      program = w.program;
      s = r.t;
      t = next c.args.classes.now.world c.args.verified.now c.args.at w.program c.args.texts.now.names w.s w.addresses before w.runs (k + j) c.run_going-left.new.at then r;
      addresses = w.addresses ++ r.runs.more;
      steps = steps_in c.args.classes.now.world c.args.verified.now c.args.at w.program c.args.texts.now.names w.s w.addresses before w.runs (k + j) c.run_going-left.new.at then r;
    }

pub loop-left-preserved-in-Ok-true : goal.loop-left-preserved-in-Ok-true
loop-left-preserved-in-Ok-true g c =
    let k = c.args.n - c.loop-left.left in
    let j = c.loop-left.left - c.run_going-left.result in
    let before = kept c.args.frames.now c.args.control.now c.args.held.now (g.S.Store.content c.args.store.now) in
    let then = kept c.run_going-left.new.frames c.loop-left.control c.run_going-left.new.held (g.S.Store.content c.run_going-left.new.store) in
    let after = kept c.step_in_method.new.frames c.step_in_method.new.control c.step_in_method.new.held (g.S.Store.content c.step_in_method.new.store) in
    let e = c.in-Ok-true.ensures {u = tt} in
    let few = c.loop-left.invariant.few in
    let more = c.loop-left-test.true in
    let most = c.run_going-left.ensures.most in
    let some = c.if-left-gt0.true in
    let up : suc (k + j) ≡ c.args.n - (c.run_going-left.result - 1) = omega (arith, few, most, some, more) in
    record {
      few = omega (arith, few, most);
      ran =
          λ program s addresses h.
          let r =
          ran_more c.args.classes.now.world c.args.verified.now c.args.at program c.args.texts.now.names s addresses before h k c.loop-left.now
          (kept c.loop-left.frames c.loop-left.control c.loop-left.held (g.S.Store.content c.loop-left.store)) (c.loop-left.invariant.ran program s addresses h) j
          c.run_going-left.new.at then c.run_going-left.ensures.ran in
          let t = next c.args.classes.now.world c.args.verified.now c.args.at program c.args.texts.now.names s addresses before h (k + j) c.run_going-left.new.at then r in
          let q = e.stepped program r.t t (addresses ++ r.runs.more)
          (steps_in c.args.classes.now.world c.args.verified.now c.args.at program c.args.texts.now.names s addresses before h
          (k + j) c.run_going-left.new.at then r) in
          subst (λ (i : ℕ). RanOn i program c.args.texts.now.names s addresses c.step_in_method.new.at before after) up
          (ran_on c.args.classes.now.world c.args.verified.now c.args.at program c.args.texts.now.names s addresses before h (k + j) c.run_going-left.new.at then r c.step_in_method.new.at after
          (subst (λ (b : Bool). SteppedTo b program c.args.texts.now.names t (addresses ++ r.runs.more) c.step_in_method.new.at then after) c.in-Ok-true.field-0-test q));
      linked = c.step_in_method.ensures.linked;
      fewer = let a = e.fewer in let b = c.loop-left.invariant.fewer in let d = c.run_going-left.ensures.fewer in omega (arith, a, b, d);
      still = λ none. absurd (omega (arith, few, most, some, none));
      room = let a = e.room in let b = c.loop-left.invariant.room in let d = c.run_going-left.ensures.room in omega (arith, a, b, d);
    }

pub loop-left-preserved : goal.loop-left-preserved
loop-left-preserved g c =
    let k = c.args.n - c.loop-left.left in
    let j = c.loop-left.left - c.run_going-left.result in
    let before = kept c.args.frames.now c.args.control.now c.args.held.now (g.S.Store.content c.args.store.now) in
    let then = kept c.run_going-left.new.frames c.loop-left.control c.run_going-left.new.held (g.S.Store.content c.run_going-left.new.store) in
    let few = c.loop-left.invariant.few in
    let more = c.loop-left-test.true in
    let most = c.run_going-left.ensures.most in
    let none = c.if-left-gt0.false in
    let sum : k + j ≡ c.args.n - c.run_going-left.result = omega (arith, few, most) in
    record {
      few = omega (arith, few, most);
      ran =
          λ program s addresses h.
          let r =
          ran_more c.args.classes.now.world c.args.verified.now c.args.at program c.args.texts.now.names s addresses before h k c.loop-left.now
          (kept c.loop-left.frames c.loop-left.control c.loop-left.held (g.S.Store.content c.loop-left.store)) (c.loop-left.invariant.ran program s addresses h) j
          c.run_going-left.new.at then c.run_going-left.ensures.ran in
          subst (λ (i : ℕ). RanOn i program c.args.texts.now.names s addresses c.run_going-left.new.at before then) sum r;
      linked = c.run_going-left.ensures.linked;
      fewer = let b = c.loop-left.invariant.fewer in let d = c.run_going-left.ensures.fewer in omega (arith, b, d);
      still = λ all. absurd (omega (arith, few, more, none, all));
      room = let b = c.loop-left.invariant.room in let d = c.run_going-left.ensures.room in omega (arith, b, d);
    }

pub resume-requires : goal.resume-requires
resume-requires g c =
    let w = c.requires.can in
    let k = c.args.n - c.loop-left.left in
    let j = c.loop-left.left - c.run_going-left.result in
    let before = kept c.args.frames.now c.args.control.now c.args.held.now (g.S.Store.content c.args.store.now) in
    let then = kept c.run_going-left.new.frames c.loop-left.control c.run_going-left.new.held (g.S.Store.content c.run_going-left.new.store) in
    let after = kept c.step_in_method.new.frames c.step_in_method.new.control c.step_in_method.new.held (g.S.Store.content c.step_in_method.new.store) in
    let e = c.in-Ok-false.ensures {u = tt} in
    let few = c.loop-left.invariant.few in
    let more = c.loop-left-test.true in
    let most = c.run_going-left.ensures.most in
    let some = c.if-left-gt0.true in
    let one = c.steps_behind-left.ensures in
    let up : suc (k + j) ≡ c.args.n - c.steps_behind-left.result = omega (arith, few, most, some, more, one) in
    let r =
    ran_more c.args.classes.now.world c.args.verified.now c.args.at w.program c.args.texts.now.names w.s w.addresses before w.runs k c.loop-left.now
    (kept c.loop-left.frames c.loop-left.control c.loop-left.held (g.S.Store.content c.loop-left.store)) (c.loop-left.invariant.ran w.program w.s w.addresses w.runs) j
    c.run_going-left.new.at then c.run_going-left.ensures.ran in
    let t = next c.args.classes.now.world c.args.verified.now c.args.at w.program c.args.texts.now.names w.s w.addresses before w.runs (k + j) c.run_going-left.new.at then r in
    let q = e.stepped w.program r.t t (w.addresses ++ r.runs.more)
    (steps_in c.args.classes.now.world c.args.verified.now c.args.at w.program c.args.texts.now.names w.s w.addresses before w.runs
    (k + j) c.run_going-left.new.at then r) in
    let out : Ran (c.args.n - c.steps_behind-left.result) w.program c.args.texts.now.names w.s w.addresses before after =
    subst (λ (i : ℕ). Ran i w.program c.args.texts.now.names w.s w.addresses before after) up
    (ran_out c.args.classes.now.world c.args.verified.now c.args.at w.program c.args.texts.now.names w.s w.addresses before w.runs (k + j) c.run_going-left.new.at then r after
    (subst (λ (b : Bool). SteppedTo b w.program c.args.texts.now.names t (w.addresses ++ r.runs.more) c.step_in_method.new.at then after) c.in-Ok-false.field-0-test q)) in
    can_resume c.args.classes.now.world c.args.verified.now w.program c.args.texts.now.names out.t (w.addresses ++ out.reaches.more) c.step_in_method.new.frames
    c.step_in_method.new.control c.step_in_method.new.held (g.S.Store.content c.step_in_method.new.store)
    (left_all c.args.classes.now.world c.args.verified.now c.args.at w.program c.args.texts.now.names w.s w.addresses before w.runs (c.args.n - c.steps_behind-left.result)
    c.step_in_method.new.frames c.step_in_method.new.control c.step_in_method.new.held (g.S.Store.content c.step_in_method.new.store) out) c.args.methods.now c.requires.methods

pub loop-left-preserved-in-Some : goal.loop-left-preserved-in-Some
loop-left-preserved-in-Some g c =
    let few = c.loop-left.invariant.few in
    let most = c.run_going-left.ensures.most in
    let one = c.steps_behind-left.ensures in
    let e = c.in-Ok-false.ensures {u = tt} in
    record {
      few = omega (arith, few, most, one);
      ran =
          λ program s addresses h.
          let k = c.args.n - c.loop-left.left in
          let j = c.loop-left.left - c.run_going-left.result in
          let before = kept c.args.frames.now c.args.control.now c.args.held.now (g.S.Store.content c.args.store.now) in
          let then = kept c.run_going-left.new.frames c.loop-left.control c.run_going-left.new.held (g.S.Store.content c.run_going-left.new.store) in
          let after = kept c.step_in_method.new.frames c.step_in_method.new.control c.step_in_method.new.held (g.S.Store.content c.step_in_method.new.store) in
          let e = c.in-Ok-false.ensures {u = tt} in
          let few = c.loop-left.invariant.few in
          let more = c.loop-left-test.true in
          let most = c.run_going-left.ensures.most in
          let some = c.if-left-gt0.true in
          let one = c.steps_behind-left.ensures in
          let up : suc (k + j) ≡ c.args.n - c.steps_behind-left.result = omega (arith, few, most, some, more, one) in
          let r =
          ran_more c.args.classes.now.world c.args.verified.now c.args.at program c.args.texts.now.names s addresses before h k c.loop-left.now
          (kept c.loop-left.frames c.loop-left.control c.loop-left.held (g.S.Store.content c.loop-left.store)) (c.loop-left.invariant.ran program s addresses h) j
          c.run_going-left.new.at then c.run_going-left.ensures.ran in
          let t = next c.args.classes.now.world c.args.verified.now c.args.at program c.args.texts.now.names s addresses before h (k + j) c.run_going-left.new.at then r in
          let q = e.stepped program r.t t (addresses ++ r.runs.more)
          (steps_in c.args.classes.now.world c.args.verified.now c.args.at program c.args.texts.now.names s addresses before h
          (k + j) c.run_going-left.new.at then r) in
          let out : Ran (c.args.n - c.steps_behind-left.result) program c.args.texts.now.names s addresses before after =
          subst (λ (i : ℕ). Ran i program c.args.texts.now.names s addresses before after) up
          (ran_out c.args.classes.now.world c.args.verified.now c.args.at program c.args.texts.now.names s addresses before h (k + j) c.run_going-left.new.at then r after
          (subst (λ (b : Bool). SteppedTo b program c.args.texts.now.names t (addresses ++ r.runs.more) c.step_in_method.new.at then after) c.in-Ok-false.field-0-test q)) in
          let resumed = (c.in-Some.ensures {u = tt}).resumes program (addresses ++ out.reaches.more) out.t.frames out.t.control.words
          (resuming c.args.classes.now.world c.args.verified.now program c.args.texts.now.names out.t (addresses ++ out.reaches.more) c.step_in_method.new.frames
          c.step_in_method.new.control c.step_in_method.new.held (g.S.Store.content c.step_in_method.new.store)
          (left_all c.args.classes.now.world c.args.verified.now c.args.at program c.args.texts.now.names s addresses before h (c.args.n - c.steps_behind-left.result)
          c.step_in_method.new.frames c.step_in_method.new.control c.step_in_method.new.held (g.S.Store.content c.step_in_method.new.store) out) c.args.methods.now c.requires.methods) in
          goes_on c.args.classes.now.world c.args.verified.now c.args.at program c.args.texts.now.names s addresses before h (c.args.n - c.steps_behind-left.result)
          c.step_in_method.new.frames c.step_in_method.new.control c.step_in_method.new.held (g.S.Store.content c.step_in_method.new.store) out c.in-Some.next c.resume.new.frames resumed;
      linked = c.step_in_method.ensures.linked;
      fewer = let a = e.fewer in let b = c.loop-left.invariant.fewer in let d = c.run_going-left.ensures.fewer in omega (arith, a, b, d);
      still = λ none. absurd (omega (arith, few, most, one, none));
      room = let a = e.room in let b = c.loop-left.invariant.room in let d = c.run_going-left.ensures.room in omega (arith, a, b, d);
    }

pub returns-in-None-clause-ran : goal.returns-in-None-clause-ran
returns-in-None-clause-ran g c = λ program s addresses h.
    let k = c.args.n - c.loop-left.left in
    let j = c.loop-left.left - c.run_going-left.result in
    let before = kept c.args.frames.now c.args.control.now c.args.held.now (g.S.Store.content c.args.store.now) in
    let then = kept c.run_going-left.new.frames c.loop-left.control c.run_going-left.new.held (g.S.Store.content c.run_going-left.new.store) in
    let after = kept c.step_in_method.new.frames c.step_in_method.new.control c.step_in_method.new.held (g.S.Store.content c.step_in_method.new.store) in
    let e = c.in-Ok-false.ensures {u = tt} in
    let few = c.loop-left.invariant.few in
    let more = c.loop-left-test.true in
    let most = c.run_going-left.ensures.most in
    let some = c.if-left-gt0.true in
    let one = c.steps_behind-left.ensures in
    let up : suc (k + j) ≡ c.args.n - c.steps_behind-left.result = omega (arith, few, most, some, more, one) in
    let r =
    ran_more c.args.classes.now.world c.args.verified.now c.args.at program c.args.texts.now.names s addresses before h k c.loop-left.now
    (kept c.loop-left.frames c.loop-left.control c.loop-left.held (g.S.Store.content c.loop-left.store)) (c.loop-left.invariant.ran program s addresses h) j
    c.run_going-left.new.at then c.run_going-left.ensures.ran in
    let t = next c.args.classes.now.world c.args.verified.now c.args.at program c.args.texts.now.names s addresses before h (k + j) c.run_going-left.new.at then r in
    let q = e.stepped program r.t t (addresses ++ r.runs.more)
    (steps_in c.args.classes.now.world c.args.verified.now c.args.at program c.args.texts.now.names s addresses before h
    (k + j) c.run_going-left.new.at then r) in
    let out : Ran (c.args.n - c.steps_behind-left.result) program c.args.texts.now.names s addresses before after =
    subst (λ (i : ℕ). Ran i program c.args.texts.now.names s addresses before after) up
    (ran_out c.args.classes.now.world c.args.verified.now c.args.at program c.args.texts.now.names s addresses before h (k + j) c.run_going-left.new.at then r after
    (subst (λ (b : Bool). SteppedTo b program c.args.texts.now.names t (addresses ++ r.runs.more) c.step_in_method.new.at then after) c.in-Ok-false.field-0-test q)) in
    waits c.args.classes.now.world c.args.verified.now c.args.at program c.args.texts.now.names s addresses before h (c.args.n - c.steps_behind-left.result)
    c.step_in_method.new.frames c.step_in_method.new.control c.step_in_method.new.held (g.S.Store.content c.step_in_method.new.store) out c.resume.new.frames (c.in-None.ensures {u = tt}).resumes.0

pub suspend-requires : goal.suspend-requires
suspend-requires g c =
    let w = c.requires.can in
    let e = c.in-Err.ensures {u = tt} in
    let k = c.args.n - c.loop-left.left in
    let j = c.loop-left.left - c.run_going-left.result in
    let before = kept c.args.frames.now c.args.control.now c.args.held.now (g.S.Store.content c.args.store.now) in
    let then = kept c.run_going-left.new.frames c.loop-left.control c.run_going-left.new.held (g.S.Store.content c.run_going-left.new.store) in
    let r =
    ran_more c.args.classes.now.world c.args.verified.now c.args.at w.program c.args.texts.now.names w.s w.addresses before w.runs k c.loop-left.now
    (kept c.loop-left.frames c.loop-left.control c.loop-left.held (g.S.Store.content c.loop-left.store)) (c.loop-left.invariant.ran w.program w.s w.addresses w.runs) j
    c.run_going-left.new.at then c.run_going-left.ensures.ran in
    can_suspend w.program c.args.texts.now.names r.t (w.addresses ++ r.runs.more) c.step_in_method.new.at c.step_in_method.new.frames c.step_in_method.new.control
    c.step_in_method.new.held (g.S.Store.content c.step_in_method.new.store)
    (runs_again w.program c.args.texts.now.names r.t (w.addresses ++ r.runs.more) c.run_going-left.new.at c.step_in_method.new.at c.run_going-left.new.frames c.step_in_method.new.frames
    c.loop-left.control c.step_in_method.new.control c.run_going-left.new.held c.step_in_method.new.held (g.S.Store.content c.run_going-left.new.store)
    (g.S.Store.content c.step_in_method.new.store) r.runs.runs e.refused_at e.refused_frames e.refused_control e.refused e.refused_content)

pub returns-in-Err-clause-ran : goal.returns-in-Err-clause-ran
returns-in-Err-clause-ran g c = λ program s addresses h.
    let k = c.args.n - c.loop-left.left in
    let j = c.loop-left.left - c.run_going-left.result in
    let before = kept c.args.frames.now c.args.control.now c.args.held.now (g.S.Store.content c.args.store.now) in
    let then = kept c.run_going-left.new.frames c.loop-left.control c.run_going-left.new.held (g.S.Store.content c.run_going-left.new.store) in
    let after = kept c.suspend.new.frames c.step_in_method.new.control c.step_in_method.new.held (g.S.Store.content c.step_in_method.new.store) in
    let e = c.in-Err.ensures {u = tt} in
    let few = c.loop-left.invariant.few in
    let most = c.run_going-left.ensures.most in
    let some = c.if-left-gt0.true in
    let sum : k + j ≡ c.args.n - c.run_going-left.result = omega (arith, few, most, some) in
    let r =
    ran_more c.args.classes.now.world c.args.verified.now c.args.at program c.args.texts.now.names s addresses before h k c.loop-left.now
    (kept c.loop-left.frames c.loop-left.control c.loop-left.held (g.S.Store.content c.loop-left.store)) (c.loop-left.invariant.ran program s addresses h) j
    c.run_going-left.new.at then c.run_going-left.ensures.ran in
    let again =
    runs_again program c.args.texts.now.names r.t (addresses ++ r.runs.more) c.run_going-left.new.at c.step_in_method.new.at c.run_going-left.new.frames c.step_in_method.new.frames
    c.loop-left.control c.step_in_method.new.control c.run_going-left.new.held c.step_in_method.new.held (g.S.Store.content c.run_going-left.new.store)
    (g.S.Store.content c.step_in_method.new.store) r.runs.runs e.refused_at e.refused_frames e.refused_control e.refused e.refused_content in
    subst (λ (i : ℕ). Ran i program c.args.texts.now.names s addresses before after) sum
    (ran_stands (k + j) program c.args.texts.now.names s addresses c.run_going-left.new.at before then after r
    (stands program c.args.texts.now.names r.t (addresses ++ r.runs.more) c.step_in_method.new.at c.step_in_method.new.frames c.step_in_method.new.control
    c.step_in_method.new.held (g.S.Store.content c.step_in_method.new.store) again c.suspend.new.frames c.suspend.ensures.suspends)
    e.refused_content)

pub suspend-requires-2 : goal.suspend-requires-2
suspend-requires-2 g c =
    let w = c.requires.can in
    let r = c.loop-left.invariant.ran w.program w.s w.addresses w.runs in
    can_suspend w.program c.args.texts.now.names r.t (w.addresses ++ r.runs.more) c.loop-left.now c.loop-left.frames c.loop-left.control c.loop-left.held
    (g.S.Store.content c.loop-left.store) r.runs.runs

pub returns-clause-ran : goal.returns-clause-ran
returns-clause-ran g c = λ program s addresses h.
    let k = c.args.n - c.loop-left.left in
    let before = kept c.args.frames.now c.args.control.now c.args.held.now (g.S.Store.content c.args.store.now) in
    let now = kept c.loop-left.frames c.loop-left.control c.loop-left.held (g.S.Store.content c.loop-left.store) in
    let after = kept c.suspend-2.new.frames c.loop-left.control c.loop-left.held (g.S.Store.content c.loop-left.store) in
    let none = c.loop-left-test.false in
    let all : k ≡ c.args.n - 0 = omega (arith, none) in
    let r = c.loop-left.invariant.ran program s addresses h in
    subst (λ (j : ℕ). Ran j program c.args.texts.now.names s addresses before after) all
    (ran_stands k program c.args.texts.now.names s addresses c.loop-left.now before now after r
    (stands program c.args.texts.now.names r.t (addresses ++ r.runs.more) c.loop-left.now c.loop-left.frames c.loop-left.control c.loop-left.held
    (g.S.Store.content c.loop-left.store) r.runs.runs c.suspend-2.new.frames c.suspend-2.ensures.suspends)
    refl)

pub returns-in-None-clause-still_held : goal.returns-in-None-clause-still_held
returns-in-None-clause-still_held g c = λ none.
    let few = c.loop-left.invariant.few in
    let most = c.run_going-left.ensures.most in
    let one = c.steps_behind-left.ensures in
    absurd (omega (arith, few, most, none, one))

pub returns-in-Err-clause-still_held : goal.returns-in-Err-clause-still_held
returns-in-Err-clause-still_held g c = λ none.
    let few = c.loop-left.invariant.few in
    let most = c.run_going-left.ensures.most in
    let same : c.loop-left.left ≡ c.args.n = omega (arith, few, most, none) in
    let all : c.run_going-left.result ≡ c.loop-left.left = omega (arith, few, most, none) in
    (c.in-Err.ensures {u = tt}).refused ∙ c.run_going-left.ensures.still_held all ∙ (c.loop-left.invariant.still same).0

pub returns-clause-still_held : goal.returns-clause-still_held
returns-clause-still_held g c = λ none.
    let over = c.loop-left-test.false in
    let same : c.loop-left.left ≡ c.args.n = omega (arith, over, none) in
    (c.loop-left.invariant.still same).0

pub returns-in-None-clause-still_content : goal.returns-in-None-clause-still_content
returns-in-None-clause-still_content g c = λ none.
    let few = c.loop-left.invariant.few in
    let most = c.run_going-left.ensures.most in
    let one = c.steps_behind-left.ensures in
    absurd (omega (arith, few, most, none, one))

pub returns-in-Err-clause-still_content : goal.returns-in-Err-clause-still_content
returns-in-Err-clause-still_content g c = λ none.
    let few = c.loop-left.invariant.few in
    let most = c.run_going-left.ensures.most in
    let same : c.loop-left.left ≡ c.args.n = omega (arith, few, most, none) in
    let all : c.run_going-left.result ≡ c.loop-left.left = omega (arith, few, most, none) in
    (c.in-Err.ensures {u = tt}).refused_content ∙ c.run_going-left.ensures.still_content all ∙ (c.loop-left.invariant.still same).1

pub returns-clause-still_content : goal.returns-clause-still_content
returns-clause-still_content g c = λ none.
    let over = c.loop-left-test.false in
    let same : c.loop-left.left ≡ c.args.n = omega (arith, over, none) in
    (c.loop-left.invariant.still same).1
