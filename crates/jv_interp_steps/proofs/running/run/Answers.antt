use Rattle.std.proofs.Common.{◌≡◌, ℕ, ◌+◌, ◌-◌, ◌++◌, refl, subst, ◌∙◌, arith}
use Rattle.jv_interp_control.specs.Standing.{kept}
use Rattle.jv_interp_steps.specs.Running.{Ran}
use Rattle.jv_interp_steps.proofs.Records.{can_resume, resuming, runs_in, moves, next, takes, stands_refused, as_before_twice, some_there, none_there, some_frames, fewer}
use Rattle.jv_interp_steps.proofs.Runs.{ran_not, from_now, ran_then, ran_again, ran_kept, ran_one}
use Rattle.jv_interp_steps.proofs.running.run.Goals as goal

pub loop-left-init : goal.loop-left-init
loop-left-init g c =
    let none : 0 ≡ c.args.n - c.args.n = omega arith in
    let before = kept c.args.frames.now c.args.control.now c.args.held.now (g.S.Store.content c.args.store.now) in
    record {
      few = omega arith;
      ran =
          λ program s addresses h.
          subst (λ (k : ℕ). Ran k program c.args.texts.now.names s addresses before before) none
          (ran_not c.args.classes.now.world c.args.verified.now program c.args.texts.now.names s addresses before h);
      linked = c.requires.linked;
      fewer = omega arith;
      still = λ none. (refl, refl);
      room = refl;
    }

pub resume-requires : goal.resume-requires
resume-requires g c =
    let w = c.requires.can in
    let before = kept c.args.frames.now c.args.control.now c.args.held.now (g.S.Store.content c.args.store.now) in
    let k = c.args.n - c.loop-left.left in
    let now = kept c.loop-left.frames c.loop-left.control c.loop-left.held (g.S.Store.content c.loop-left.store) in
    let r = c.loop-left.invariant.ran w.program w.s w.addresses w.runs in
    can_resume c.args.classes.now.world c.args.verified.now w.program c.args.texts.now.names r.t (w.addresses ++ r.reaches.more) c.loop-left.frames c.loop-left.control c.loop-left.held
    (g.S.Store.content c.loop-left.store) (from_now c.args.classes.now.world c.args.verified.now w.program c.args.texts.now.names w.s w.addresses
    before w.runs k now r) c.args.methods.now c.requires.methods

pub run_method-turn-requires-clause-can : goal.run_method-turn-requires-clause-can
run_method-turn-requires-clause-can g c =
    let w = c.requires.can in
    let before = kept c.args.frames.now c.args.control.now c.args.held.now (g.S.Store.content c.args.store.now) in
    let k = c.args.n - c.loop-left.left in
    let blocks = g.S.Store.content c.loop-left.store in
    let now = kept c.loop-left.frames c.loop-left.control c.loop-left.held blocks in
    let r = c.loop-left.invariant.ran w.program w.s w.addresses w.runs in
    let f = from_now c.args.classes.now.world c.args.verified.now w.program c.args.texts.now.names w.s w.addresses before w.runs k now r in
    let own = w.addresses ++ r.reaches.more in
    let e = c.in-Some.ensures {u = tt} in
    let resumed = e.resumes w.program own r.t.frames r.t.control.words
    (resuming c.args.classes.now.world c.args.verified.now w.program c.args.texts.now.names r.t own c.loop-left.frames c.loop-left.control
    c.loop-left.held blocks f c.args.methods.now c.requires.methods) in
    let in_registers = runs_in c.args.classes.now.world c.args.verified.now w.program c.args.texts.now.names r.t own c.loop-left.frames
    c.loop-left.control c.loop-left.held blocks f c.in-Some.at c.resume.new.frames resumed in
    record { program = w.program; s = r.t; addresses = own; runs = in_registers }

pub returns-then-turn-clause-ran : goal.returns-then-turn-clause-ran
returns-then-turn-clause-ran g c = λ program s addresses h.
    let before = kept c.args.frames.now c.args.control.now c.args.held.now (g.S.Store.content c.args.store.now) in
    let k = c.args.n - c.loop-left.left in
    let blocks = g.S.Store.content c.loop-left.store in
    let now = kept c.loop-left.frames c.loop-left.control c.loop-left.held blocks in
    let between = kept c.resume.new.frames c.loop-left.control c.loop-left.held blocks in
    let after = kept c.run_method-turn.new.frames c.run_method-turn.new.control c.run_method-turn.new.held (g.S.Store.content c.run_method-turn.new.store) in
    let few = c.loop-left.invariant.few in
    let most = c.run_method-turn.ensures.most in
    let j = c.loop-left.left - c.run_method-turn.result.left in
    let sum : k + j ≡ c.args.n - c.run_method-turn.result.left = omega (arith, few, most) in
    let r = c.loop-left.invariant.ran program s addresses h in
    let f = from_now c.args.classes.now.world c.args.verified.now program c.args.texts.now.names s addresses before h k now r in
    let own = addresses ++ r.reaches.more in
    let e = c.in-Some.ensures {u = tt} in
    let resumed = e.resumes program own r.t.frames r.t.control.words
    (resuming c.args.classes.now.world c.args.verified.now program c.args.texts.now.names r.t own c.loop-left.frames c.loop-left.control
    c.loop-left.held blocks f c.args.methods.now c.requires.methods) in
    let in_registers = runs_in c.args.classes.now.world c.args.verified.now program c.args.texts.now.names r.t own c.loop-left.frames
    c.loop-left.control c.loop-left.held blocks f c.in-Some.at c.resume.new.frames resumed in
    let q = c.run_method-turn.ensures.ran program r.t own in_registers in
    subst (λ (n : ℕ). Ran n program c.args.texts.now.names s addresses before after) sum
    (ran_then c.args.classes.now.world c.args.verified.now program c.args.texts.now.names s addresses before h k now r j after
    (ran_again j program c.args.texts.now.names r.t own between now after refl q))

pub loop-left-smaller-in-Some : goal.loop-left-smaller-in-Some
loop-left-smaller-in-Some g c = c.run_method-turn.ensures.some c.loop-left-test.true c.if-turn.false

pub loop-left-preserved-in-Some : goal.loop-left-preserved-in-Some
loop-left-preserved-in-Some g c =
    let before = kept c.args.frames.now c.args.control.now c.args.held.now (g.S.Store.content c.args.store.now) in
    let k = c.args.n - c.loop-left.left in
    let blocks = g.S.Store.content c.loop-left.store in
    let now = kept c.loop-left.frames c.loop-left.control c.loop-left.held blocks in
    let between = kept c.resume.new.frames c.loop-left.control c.loop-left.held blocks in
    let after = kept c.run_method-turn.new.frames c.run_method-turn.new.control c.run_method-turn.new.held (g.S.Store.content c.run_method-turn.new.store) in
    let few = c.loop-left.invariant.few in
    let most = c.run_method-turn.ensures.most in
    let j = c.loop-left.left - c.run_method-turn.result.left in
    let sum : k + j ≡ c.args.n - c.run_method-turn.result.left = omega (arith, few, most) in
    record {
      few = omega (arith, few, most);
      ran =
          λ program s addresses h.
          let r = c.loop-left.invariant.ran program s addresses h in
          let f = from_now c.args.classes.now.world c.args.verified.now program c.args.texts.now.names s addresses before h k now r in
          let own = addresses ++ r.reaches.more in
          let e = c.in-Some.ensures {u = tt} in
          let resumed = e.resumes program own r.t.frames r.t.control.words
          (resuming c.args.classes.now.world c.args.verified.now program c.args.texts.now.names r.t own c.loop-left.frames c.loop-left.control
          c.loop-left.held blocks f c.args.methods.now c.requires.methods) in
          let in_registers = runs_in c.args.classes.now.world c.args.verified.now program c.args.texts.now.names r.t own c.loop-left.frames
          c.loop-left.control c.loop-left.held blocks f c.in-Some.at c.resume.new.frames resumed in
          let q = c.run_method-turn.ensures.ran program r.t own in_registers in
          subst (λ (n : ℕ). Ran n program c.args.texts.now.names s addresses before after) sum
          (ran_then c.args.classes.now.world c.args.verified.now program c.args.texts.now.names s addresses before h k now r j after
          (ran_again j program c.args.texts.now.names r.t own between now after refl q));
      linked = c.run_method-turn.ensures.linked;
      fewer = let a = c.run_method-turn.ensures.fewer in let b = c.loop-left.invariant.fewer in omega (arith, a, b);
      still = λ none. let less = c.run_method-turn.ensures.some c.loop-left-test.true c.if-turn.false in absurd (omega (arith, few, less, none));
      room = let a = c.run_method-turn.ensures.room in let b = c.loop-left.invariant.room in omega (arith, a, b);
    }

pub initialization_step-requires-clause-can : goal.initialization_step-requires-clause-can
initialization_step-requires-clause-can g c =
    let w = c.requires.can in
    let before = kept c.args.frames.now c.args.control.now c.args.held.now (g.S.Store.content c.args.store.now) in
    let k = c.args.n - c.loop-left.left in
    let blocks = g.S.Store.content c.loop-left.store in
    let now = kept c.loop-left.frames c.loop-left.control c.loop-left.held blocks in
    let r = c.loop-left.invariant.ran w.program w.s w.addresses w.runs in
    let f = from_now c.args.classes.now.world c.args.verified.now w.program c.args.texts.now.names w.s w.addresses before w.runs k now r in
    let own = w.addresses ++ r.reaches.more in
    let some =
    some_there (Rattle.std.specs.Prelude.vec_len c.loop-left.frames.records) c.loop-left.frames.records.items c.loop-left.frames.records.ok.0
    (c.if-not-is_empty.ensures {u = tt}) in
    let none = c.in-None.ensures {u = tt} in
    let quiet = none.resumes.1 w.program own r.t.frames r.t.control.words
    (resuming c.args.classes.now.world c.args.verified.now w.program c.args.texts.now.names r.t own c.loop-left.frames c.loop-left.control
    c.loop-left.held blocks f c.args.methods.now c.requires.methods) in
    let m = moves c.args.classes.now.world c.args.verified.now w.program c.args.texts.now.names r.t own c.loop-left.frames c.loop-left.control
    c.loop-left.held blocks f c.resume.new.frames none.resumes.0 quiet some in
    record {
      program = w.program;
      s = r.t;
      t = next c.args.classes.now.world c.args.verified.now w.program c.args.texts.now.names r.t own
          c.loop-left.frames c.loop-left.control c.loop-left.held blocks f;
      addresses = own;
      moves = m;
    }

pub initialization_step-requires-clause-few_classes : goal.initialization_step-requires-clause-few_classes
initialization_step-requires-clause-few_classes g c = let few = c.requires.can.runs.guest.few in omega (arith, few)

pub returns-in-Err-clause-ran : goal.returns-in-Err-clause-ran
returns-in-Err-clause-ran g c = λ program s addresses h.
    let before = kept c.args.frames.now c.args.control.now c.args.held.now (g.S.Store.content c.args.store.now) in
    let k = c.args.n - c.loop-left.left in
    let blocks = g.S.Store.content c.loop-left.store in
    let now = kept c.loop-left.frames c.loop-left.control c.loop-left.held blocks in
    let after = kept c.initialization_step.new.frames c.initialization_step.new.control c.initialization_step.new.held (g.S.Store.content c.initialization_step.new.store) in
    let e = c.in-Err.ensures {u = tt} in
    let none = c.in-None.ensures {u = tt} in
    let r = c.loop-left.invariant.ran program s addresses h in
    let f = from_now c.args.classes.now.world c.args.verified.now program c.args.texts.now.names s addresses before h k now r in
    let own = addresses ++ r.reaches.more in
    ran_kept k program c.args.texts.now.names s addresses before now after r
    (stands_refused c.args.classes.now.world c.args.verified.now program c.args.texts.now.names r.t own c.loop-left.frames c.loop-left.control
    c.loop-left.held blocks f c.initialization_step.new.frames c.initialization_step.new.control c.initialization_step.new.held
    (g.S.Store.content c.initialization_step.new.store) (as_before_twice c.loop-left.frames c.resume.new.frames c.initialization_step.new.frames none.resumes.0 e.refused_frames)
    e.refused_control e.refused e.refused_content)
    e.refused_content

pub loop-left-preserved : goal.loop-left-preserved
loop-left-preserved g c =
    let w = c.requires.can in
    let before = kept c.args.frames.now c.args.control.now c.args.held.now (g.S.Store.content c.args.store.now) in
    let k = c.args.n - c.loop-left.left in
    let blocks = g.S.Store.content c.loop-left.store in
    let now = kept c.loop-left.frames c.loop-left.control c.loop-left.held blocks in
    let between = kept c.resume.new.frames c.loop-left.control c.loop-left.held blocks in
    let after = kept c.initialization_step.new.frames c.initialization_step.new.control c.initialization_step.new.held (g.S.Store.content c.initialization_step.new.store) in
    let few = c.loop-left.invariant.few in
    let there = c.loop-left-test.true in
    let sum : k + 1 ≡ c.args.n - (c.loop-left.left - 1) = omega (arith, few, there) in
    let e = c.in-Ok.ensures {u = tt} in
    let some =
    some_there (Rattle.std.specs.Prelude.vec_len c.loop-left.frames.records) c.loop-left.frames.records.items c.loop-left.frames.records.ok.0
    (c.if-not-is_empty.ensures {u = tt}) in
    record {
      few = omega (arith, few);
      ran =
          λ program s addresses h.
          let r = c.loop-left.invariant.ran program s addresses h in
          let f = from_now c.args.classes.now.world c.args.verified.now program c.args.texts.now.names s addresses before h k now r in
          let own = addresses ++ r.reaches.more in
          let none = c.in-None.ensures {u = tt} in
          let quiet = none.resumes.1 program own r.t.frames r.t.control.words
          (resuming c.args.classes.now.world c.args.verified.now program c.args.texts.now.names r.t own c.loop-left.frames c.loop-left.control
          c.loop-left.held blocks f c.args.methods.now c.requires.methods) in
          let m = moves c.args.classes.now.world c.args.verified.now program c.args.texts.now.names r.t own c.loop-left.frames c.loop-left.control
          c.loop-left.held blocks f c.resume.new.frames none.resumes.0 quiet some in
          let t = next c.args.classes.now.world c.args.verified.now program c.args.texts.now.names r.t own c.loop-left.frames c.loop-left.control c.loop-left.held blocks f in
          let q = e.done program r.t t own m in
          subst (λ (n : ℕ). Ran n program c.args.texts.now.names s addresses before after) sum
          (ran_then c.args.classes.now.world c.args.verified.now program c.args.texts.now.names s addresses before h k now r 1 after
          (ran_one program c.args.texts.now.names r.t t own between now after
          (some_frames c.args.classes.now.world c.args.verified.now program c.args.texts.now.names r.t own c.loop-left.frames c.loop-left.control
          c.loop-left.held blocks f some) (takes c.args.classes.now.world c.args.verified.now program c.args.texts.now.names r.t own
          c.loop-left.frames c.loop-left.control c.loop-left.held blocks f).does refl q));
      linked = c.loop-left.invariant.linked;
      fewer =
          let r = c.loop-left.invariant.ran w.program w.s w.addresses w.runs in
          let f = from_now c.args.classes.now.world c.args.verified.now w.program c.args.texts.now.names w.s w.addresses before w.runs k now r in
          let own = w.addresses ++ r.reaches.more in
          let none = c.in-None.ensures {u = tt} in
          let quiet = none.resumes.1 w.program own r.t.frames r.t.control.words
          (resuming c.args.classes.now.world c.args.verified.now w.program c.args.texts.now.names r.t own c.loop-left.frames c.loop-left.control
          c.loop-left.held blocks f c.args.methods.now c.requires.methods) in
          let m = moves c.args.classes.now.world c.args.verified.now w.program c.args.texts.now.names r.t own c.loop-left.frames c.loop-left.control
          c.loop-left.held blocks f c.resume.new.frames none.resumes.0 quiet some in
          let t = next c.args.classes.now.world c.args.verified.now w.program c.args.texts.now.names r.t own c.loop-left.frames c.loop-left.control c.loop-left.held blocks f in
          let q = e.done w.program r.t t own m in
          let less = fewer c.step_keeps.ensures w.program c.args.texts.now.names r.t t own between after
          (takes c.args.classes.now.world c.args.verified.now w.program c.args.texts.now.names r.t own c.loop-left.frames c.loop-left.control
          c.loop-left.held blocks f).does m.stands q in
          let b = c.loop-left.invariant.fewer in
          omega (arith, less, b);
      still = λ none. absurd (omega (arith, few, there, none));
      room = let a = e.room in let b = c.loop-left.invariant.room in omega (arith, a, b);
    }

pub returns-else-not-is_empty-clause-ended : goal.returns-else-not-is_empty-clause-ended
returns-else-not-is_empty-clause-ended g c = λ there same.
    none_there (Rattle.std.specs.Prelude.vec_len c.loop-left.frames.records) c.loop-left.frames.records.items c.loop-left.frames.records.ok.0
    (c.if-not-is_empty.ensures {u = tt})

pub returns-else-not-is_empty-clause-some_left : goal.returns-else-not-is_empty-clause-some_left
returns-else-not-is_empty-clause-some_left g c = λ told. absurd cc

pub returns-after-loop-left-clause-ended : goal.returns-after-loop-left-clause-ended
returns-after-loop-left-clause-ended g c = λ there same. let none = c.loop-left-test.false in absurd (omega (arith, there, none))

pub returns-then-turn-clause-still_held : goal.returns-then-turn-clause-still_held
returns-then-turn-clause-still_held g c = λ none.
    let few = c.loop-left.invariant.few in
    let most = c.run_method-turn.ensures.most in
    let now : c.run_method-turn.result.left ≡ c.loop-left.left = omega (arith, few, most, none) in
    let before : c.loop-left.left ≡ c.args.n = omega (arith, few, most, none) in
    c.run_method-turn.ensures.still_held now ∙ (c.loop-left.invariant.still before).0

pub returns-then-turn-clause-still_content : goal.returns-then-turn-clause-still_content
returns-then-turn-clause-still_content g c = λ none.
    let few = c.loop-left.invariant.few in
    let most = c.run_method-turn.ensures.most in
    let now : c.run_method-turn.result.left ≡ c.loop-left.left = omega (arith, few, most, none) in
    let before : c.loop-left.left ≡ c.args.n = omega (arith, few, most, none) in
    c.run_method-turn.ensures.still_content now ∙ (c.loop-left.invariant.still before).1

pub returns-in-Err-clause-still_held : goal.returns-in-Err-clause-still_held
returns-in-Err-clause-still_held g c = λ none. (c.in-Err.ensures {u = tt}).refused ∙ (c.loop-left.invariant.still none).0

pub returns-in-Err-clause-still_content : goal.returns-in-Err-clause-still_content
returns-in-Err-clause-still_content g c = λ none. (c.in-Err.ensures {u = tt}).refused_content ∙ (c.loop-left.invariant.still none).1

pub returns-after-loop-left-clause-still_held : goal.returns-after-loop-left-clause-still_held
returns-after-loop-left-clause-still_held g c = λ none. (c.loop-left.invariant.still none).0

pub returns-after-loop-left-clause-still_content : goal.returns-after-loop-left-clause-still_content
returns-after-loop-left-clause-still_content g c = λ none. (c.loop-left.invariant.still none).1
