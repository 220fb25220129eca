use Rattle.std.proofs.Common.{◌≡◌, ℕ, Bool, true, Result, Ok, Err, length, refl, sym, ap, subst, ◌∙◌, arith}
use Rattle.std.specs.Prelude.{IfOk, ◌++◌, take, drop}
use Rattle.std.specs.Vec.{with_items}
use Rattle.std.proofs.Math.Seq.{take-append_seam}
use Rattle.jv_interp_held.specs.declared.effect.Effect.{Effect}
use Rattle.jv_interp_held.specs.declared.effect.Effect.TheVariants as effects
use Rattle.jv_interp_held.specs.Executing.{Place, place}
use Rattle.jv_code.specs.Insns.{instruction_of}
use Rattle.jv_interp_members.specs.Known.{known}
use Rattle.jv_interp_instructions.specs.InGuest.{ExecutedAt}
use Rattle.jv_interp_control.proofs.Acts.{runs_on}
use Rattle.jv_interp_steps.proofs.Refused.{still, both, frames_then}
use Rattle.jv_interp_steps.proofs.Executed.{decoded_in, can_execute, did, acting, stepped, cells_after}
use Rattle.jv_interp_steps.proofs.instructions.step_by.Goals as goal

acted_stepped : {E : Type 0} {P Q : Bool → Type 0} (r : Result Bool E) → IfOk r P → ((b : Bool) → P b → Q b) → IfOk r Q
acted_stepped (Ok b) p f = f b p
acted_stepped (Err e) p f = tt

pub execute-requires-clause-can : goal.execute-requires-clause-can
execute-requires-clause-can g c =
    let w = c.requires.can in
    let frames = c.args.frames.now in
    let at = c.args.at.now in
    can_execute c.args.classes.now.world c.args.verified.now at w.program c.args.texts.now.names w.s w.t w.addresses frames c.args.control.now c.args.held.now
    (g.S.Store.content c.args.store.now) w.steps c.args.linked.now c.requires.linked c.args.site _ c.args.next
    (decoded_in c.args.classes.now.world c.args.verified.now c.args.at.now w.program c.args.texts.now.names w.s w.t w.addresses c.args.frames.now c.args.control.now c.args.held.now
    (g.S.Store.content c.args.store.now) w.steps c.args.site _ c.args.next c.requires.stands) c.deref.result.now c.deref_mut.result.now c.deref.ensures.value c.deref_mut.ensures.value

pub act-requires-clause-can : goal.act-requires-clause-can
act-requires-clause-can g c =
    let w = c.requires.can in
    let frames = c.args.frames.now in
    let new = c.execute.new.words in
    let same_size : frames.words.len ≡ length new = frames.words.ok.0 ∙ ap length (sym c.deref_mut.ensures.value) ∙ sym c.execute.auto.words in
    let all : (with_items frames.words new).items ≡ new =
    ap (λ (n : ℕ). take n (new ++ drop (length new) frames.words.items)) same_size ∙ take-append_seam new (drop (length new) frames.words.items) in
    let sizes : length new ≡ length frames.words.items = c.execute.auto.words ∙ ap length c.deref_mut.ensures.value in
    let d = did c.args.classes.now.world c.args.verified.now c.args.at.now w.program c.args.texts.now.names w.s w.t w.addresses frames c.args.control.now c.args.held.now
    (g.S.Store.content c.args.store.now) w.steps c.args.linked.now c.requires.linked c.args.site _ c.args.next
    (decoded_in c.args.classes.now.world c.args.verified.now c.args.at.now w.program c.args.texts.now.names w.s w.t w.addresses c.args.frames.now c.args.control.now c.args.held.now
    (g.S.Store.content c.args.store.now) w.steps c.args.site _ c.args.next c.requires.stands) c.deref.result.now c.deref_mut.result.now c.execute.new.at new c.execute.new.held
    (g.S.Store.content c.execute.new.store) c.in-Ok.effect c.deref.ensures.value c.deref_mut.ensures.value (c.in-Ok.ensures {u = tt}).done in
    record {
      program = w.program;
      texts = c.args.texts.now.names;
      s = w.s;
      t = w.t;
      addresses = _;
      are = w.steps.guest.are;
      acting =
          acting c.args.classes.now.world c.args.verified.now c.args.at.now w.program c.args.texts.now.names w.s w.t w.addresses frames c.args.control.now c.args.held.now
          (g.S.Store.content c.args.store.now) w.steps c.execute.new.at (record frames { words = with_items frames.words new }) new c.execute.new.held
          (g.S.Store.content c.execute.new.store) c.in-Ok.effect all c.execute.ensures.stays refl refl sizes d;
    }

pub act-requires-clause-few : goal.act-requires-clause-few
act-requires-clause-few g c =
    let w = c.requires.can in
    let frames = c.args.frames.now in
    let new = c.execute.new.words in
    let same_size : frames.words.len ≡ length new = frames.words.ok.0 ∙ ap length (sym c.deref_mut.ensures.value) ∙ sym c.execute.auto.words in
    let all : (with_items frames.words new).items ≡ new =
    ap (λ (n : ℕ). take n (new ++ drop (length new) frames.words.items)) same_size ∙ take-append_seam new (drop (length new) frames.words.items) in
    let sizes : length new ≡ length frames.words.items = c.execute.auto.words ∙ ap length c.deref_mut.ensures.value in
    let d = did c.args.classes.now.world c.args.verified.now c.args.at.now w.program c.args.texts.now.names w.s w.t w.addresses frames c.args.control.now c.args.held.now
    (g.S.Store.content c.args.store.now) w.steps c.args.linked.now c.requires.linked c.args.site _ c.args.next
    (decoded_in c.args.classes.now.world c.args.verified.now c.args.at.now w.program c.args.texts.now.names w.s w.t w.addresses c.args.frames.now c.args.control.now c.args.held.now
    (g.S.Store.content c.args.store.now) w.steps c.args.site _ c.args.next c.requires.stands) c.deref.result.now c.deref_mut.result.now c.execute.new.at new c.execute.new.held
    (g.S.Store.content c.execute.new.store) c.in-Ok.effect c.deref.ensures.value c.deref_mut.ensures.value (c.in-Ok.ensures {u = tt}).done in
    let less =
    cells_after c.args.classes.now.world c.args.verified.now c.args.at.now w.program c.args.texts.now.names w.s w.t w.addresses frames c.args.control.now c.args.held.now
    (g.S.Store.content c.args.store.now) w.steps c.execute.new.at (record frames { words = with_items frames.words new }) new c.execute.new.held
    (g.S.Store.content c.execute.new.store) c.in-Ok.effect all c.execute.ensures.stays refl refl sizes d c.execution_keeps.ensures in
    let few = c.requires.few in
    omega (arith, less, few)

pub returns-in-Ok-clause-stepped : goal.returns-in-Ok-clause-stepped
returns-in-Ok-clause-stepped g c =
    let frames = c.args.frames.now in
    let new = c.execute.new.words in
    let same_size : frames.words.len ≡ length new = frames.words.ok.0 ∙ ap length (sym c.deref_mut.ensures.value) ∙ sym c.execute.auto.words in
    let all : (with_items frames.words new).items ≡ new =
    ap (λ (n : ℕ). take n (new ++ drop (length new) frames.words.items)) same_size ∙ take-append_seam new (drop (length new) frames.words.items) in
    let sizes : length new ≡ length frames.words.items = c.execute.auto.words ∙ ap length c.deref_mut.ensures.value in
    acted_stepped c.act.result c.act.ensures.acted (λ goes_on acted. λ program s t addresses h.
    let d = did c.args.classes.now.world c.args.verified.now c.args.at.now program c.args.texts.now.names s t addresses frames c.args.control.now c.args.held.now
    (g.S.Store.content c.args.store.now) h c.args.linked.now c.requires.linked c.args.site _ c.args.next
    (decoded_in c.args.classes.now.world c.args.verified.now c.args.at.now program c.args.texts.now.names s t addresses c.args.frames.now c.args.control.now c.args.held.now
    (g.S.Store.content c.args.store.now) h c.args.site _ c.args.next c.requires.stands) c.deref.result.now c.deref_mut.result.now c.execute.new.at new c.execute.new.held
    (g.S.Store.content c.execute.new.store) c.in-Ok.effect c.deref.ensures.value c.deref_mut.ensures.value (c.in-Ok.ensures {u = tt}).done in
    let a =
    acting c.args.classes.now.world c.args.verified.now c.args.at.now program c.args.texts.now.names s t addresses frames c.args.control.now c.args.held.now
    (g.S.Store.content c.args.store.now) h c.execute.new.at (record frames { words = with_items frames.words new }) new c.execute.new.held
    (g.S.Store.content c.execute.new.store) c.in-Ok.effect all c.execute.ensures.stays refl refl sizes d in
    stepped c.args.classes.now.world c.args.verified.now c.args.at.now program c.args.texts.now.names s t addresses frames c.args.control.now c.args.held.now
    (g.S.Store.content c.args.store.now) h c.execute.new.at (record frames { words = with_items frames.words new }) new c.execute.new.held
    (g.S.Store.content c.execute.new.store) c.in-Ok.effect all c.execute.ensures.stays refl refl sizes d
    goes_on _ (acted program c.args.texts.now.names s t _ h.guest.are a))

pub returns-in-Ok-clause-fewer : goal.returns-in-Ok-clause-fewer
returns-in-Ok-clause-fewer g c =
    let w = c.requires.can in
    let frames = c.args.frames.now in
    let new = c.execute.new.words in
    let same_size : frames.words.len ≡ length new = frames.words.ok.0 ∙ ap length (sym c.deref_mut.ensures.value) ∙ sym c.execute.auto.words in
    let all : (with_items frames.words new).items ≡ new =
    ap (λ (n : ℕ). take n (new ++ drop (length new) frames.words.items)) same_size ∙ take-append_seam new (drop (length new) frames.words.items) in
    let sizes : length new ≡ length frames.words.items = c.execute.auto.words ∙ ap length c.deref_mut.ensures.value in
    let d = did c.args.classes.now.world c.args.verified.now c.args.at.now w.program c.args.texts.now.names w.s w.t w.addresses frames c.args.control.now c.args.held.now
    (g.S.Store.content c.args.store.now) w.steps c.args.linked.now c.requires.linked c.args.site _ c.args.next
    (decoded_in c.args.classes.now.world c.args.verified.now c.args.at.now w.program c.args.texts.now.names w.s w.t w.addresses c.args.frames.now c.args.control.now c.args.held.now
    (g.S.Store.content c.args.store.now) w.steps c.args.site _ c.args.next c.requires.stands) c.deref.result.now c.deref_mut.result.now c.execute.new.at new c.execute.new.held
    (g.S.Store.content c.execute.new.store) c.in-Ok.effect c.deref.ensures.value c.deref_mut.ensures.value (c.in-Ok.ensures {u = tt}).done in
    let less =
    cells_after c.args.classes.now.world c.args.verified.now c.args.at.now w.program c.args.texts.now.names w.s w.t w.addresses frames c.args.control.now c.args.held.now
    (g.S.Store.content c.args.store.now) w.steps c.execute.new.at (record frames { words = with_items frames.words new }) new c.execute.new.held
    (g.S.Store.content c.execute.new.store) c.in-Ok.effect all c.execute.ensures.stays refl refl sizes d c.execution_keeps.ensures in
    let then = c.act.ensures.fewer in
    omega (arith, less, then)

pub returns-in-Ok-clause-refused_frames : goal.returns-in-Ok-clause-refused_frames
returns-in-Ok-clause-refused_frames g c =
    let frames = c.args.frames.now in
    let new = c.execute.new.words in
    let same_size : frames.words.len ≡ length new = frames.words.ok.0 ∙ ap length (sym c.deref_mut.ensures.value) ∙ sym c.execute.auto.words in
    let all : (with_items frames.words new).items ≡ new =
    ap (λ (n : ℕ). take n (new ++ drop (length new) frames.words.items)) same_size ∙ take-append_seam new (drop (length new) frames.words.items) in
    both c.act.result c.act.ensures.refused_frames (still c.in-Ok.effect c.act.result _ _ c.act.ensures.going (c.in-Ok.ensures {u = tt}).unmoved)
    (λ as_before same.
    frames_then frames (record frames { words = with_items frames.words new }) c.act.new.frames
    (all ∙ ap (λ (p : Place). p.words) same ∙ c.deref_mut.ensures.value) refl refl refl as_before)

pub returns-in-Ok-clause-refused_room : goal.returns-in-Ok-clause-refused_room
returns-in-Ok-clause-refused_room g c =
    let paid = (c.in-Ok.ensures {u = tt}).room in
    both c.act.result c.act.ensures.refused_room (still c.in-Ok.effect c.act.result _ _ c.act.ensures.going (c.in-Ok.ensures {u = tt}).unmoved)
    (λ room same. let cells = ap (λ (p : Place). p.held.cells) same in room ∙ omega (arith, paid, cells))

pub returns-in-Ok-Goes-clause-stepped : goal.returns-in-Ok-Goes-clause-stepped
returns-in-Ok-Goes-clause-stepped g c = λ program s t addresses h.
    let frames = c.args.frames.now in
    let new = c.execute.new.words in
    let same_size : frames.words.len ≡ length new = frames.words.ok.0 ∙ ap length (sym c.deref_mut.ensures.value) ∙ sym c.execute.auto.words in
    let all : (with_items frames.words new).items ≡ new =
    ap (λ (n : ℕ). take n (new ++ drop (length new) frames.words.items)) same_size ∙ take-append_seam new (drop (length new) frames.words.items) in
    let sizes : length new ≡ length frames.words.items = c.execute.auto.words ∙ ap length c.deref_mut.ensures.value in
    let d =
    subst (λ (e : Effect). ExecutedAt c.deref.result.now (instruction_of c.args.insn) c.args.next (known c.args.classes.now.world c.args.linked.now c.args.site) c.args.texts.now.names
    (place c.args.at.now c.deref_mut.result.now c.args.held.now (g.S.Store.content c.args.store.now))
    (place c.execute.new.at new c.execute.new.held (g.S.Store.content c.execute.new.store)) e) c.in-Ok-Goes.field-0-is (c.in-Ok-Goes.ensures {u = tt}).done in
    let there = did c.args.classes.now.world c.args.verified.now c.args.at.now program c.args.texts.now.names s t addresses c.args.frames.now c.args.control.now c.args.held.now
    (g.S.Store.content c.args.store.now) h c.args.linked.now c.requires.linked c.args.site _ c.args.next
    (decoded_in c.args.classes.now.world c.args.verified.now c.args.at.now program c.args.texts.now.names s t addresses c.args.frames.now c.args.control.now c.args.held.now
    (g.S.Store.content c.args.store.now) h c.args.site _ c.args.next c.requires.stands) c.deref.result.now c.deref_mut.result.now c.execute.new.at new c.execute.new.held
    (g.S.Store.content c.execute.new.store) effects.Goes c.deref.ensures.value c.deref_mut.ensures.value d in
    let a = acting c.args.classes.now.world c.args.verified.now c.args.at.now program c.args.texts.now.names s t addresses c.args.frames.now c.args.control.now c.args.held.now
    (g.S.Store.content c.args.store.now) h c.execute.new.at (record frames { words = with_items frames.words new }) new c.execute.new.held
    (g.S.Store.content c.execute.new.store) effects.Goes all c.execute.ensures.stays refl refl sizes there in
    stepped c.args.classes.now.world c.args.verified.now c.args.at.now program c.args.texts.now.names s t addresses c.args.frames.now c.args.control.now c.args.held.now
    (g.S.Store.content c.args.store.now) h c.execute.new.at (record frames { words = with_items frames.words new }) new c.execute.new.held
    (g.S.Store.content c.execute.new.store) effects.Goes all c.execute.ensures.stays refl refl sizes there
    true _ (
      refl,
      runs_on c.args.classes.now.world c.execute.new.at program c.args.texts.now.names s t _ (record frames { words = with_items frames.words new })
          c.args.control.now c.execute.new.held (g.S.Store.content c.execute.new.store) a,
    )

pub returns-in-Ok-Goes-clause-fewer : goal.returns-in-Ok-Goes-clause-fewer
returns-in-Ok-Goes-clause-fewer g c =
    let w = c.requires.can in
    let frames = c.args.frames.now in
    let new = c.execute.new.words in
    let same_size : frames.words.len ≡ length new = frames.words.ok.0 ∙ ap length (sym c.deref_mut.ensures.value) ∙ sym c.execute.auto.words in
    let all : (with_items frames.words new).items ≡ new =
    ap (λ (n : ℕ). take n (new ++ drop (length new) frames.words.items)) same_size ∙ take-append_seam new (drop (length new) frames.words.items) in
    let sizes : length new ≡ length frames.words.items = c.execute.auto.words ∙ ap length c.deref_mut.ensures.value in
    let d =
    subst (λ (e : Effect). ExecutedAt c.deref.result.now (instruction_of c.args.insn) c.args.next (known c.args.classes.now.world c.args.linked.now c.args.site) c.args.texts.now.names
    (place c.args.at.now c.deref_mut.result.now c.args.held.now (g.S.Store.content c.args.store.now))
    (place c.execute.new.at new c.execute.new.held (g.S.Store.content c.execute.new.store)) e) c.in-Ok-Goes.field-0-is (c.in-Ok-Goes.ensures {u = tt}).done in
    let there = did c.args.classes.now.world c.args.verified.now c.args.at.now w.program c.args.texts.now.names w.s w.t w.addresses c.args.frames.now c.args.control.now c.args.held.now
    (g.S.Store.content c.args.store.now) w.steps c.args.linked.now c.requires.linked c.args.site _ c.args.next
    (decoded_in c.args.classes.now.world c.args.verified.now c.args.at.now w.program c.args.texts.now.names w.s w.t w.addresses c.args.frames.now c.args.control.now c.args.held.now
    (g.S.Store.content c.args.store.now) w.steps c.args.site _ c.args.next c.requires.stands) c.deref.result.now c.deref_mut.result.now c.execute.new.at new c.execute.new.held
    (g.S.Store.content c.execute.new.store) effects.Goes c.deref.ensures.value c.deref_mut.ensures.value d in
    cells_after c.args.classes.now.world c.args.verified.now c.args.at.now w.program c.args.texts.now.names w.s w.t w.addresses c.args.frames.now c.args.control.now c.args.held.now
    (g.S.Store.content c.args.store.now) w.steps c.execute.new.at (record frames { words = with_items frames.words new }) new c.execute.new.held
    (g.S.Store.content c.execute.new.store) effects.Goes all c.execute.ensures.stays refl refl sizes there c.execution_keeps.ensures

pub returns-in-Err-clause-refused_frames : goal.returns-in-Err-clause-refused_frames
returns-in-Err-clause-refused_frames g c =
    let frames = c.args.frames.now in
    let new = c.execute.new.words in
    let same_size : frames.words.len ≡ length new = frames.words.ok.0 ∙ ap length (sym c.deref_mut.ensures.value) ∙ sym c.execute.auto.words in
    let all : (with_items frames.words new).items ≡ new =
    ap (λ (n : ℕ). take n (new ++ drop (length new) frames.words.items)) same_size ∙ take-append_seam new (drop (length new) frames.words.items) in
    let sizes : length new ≡ length frames.words.items = c.execute.auto.words ∙ ap length c.deref_mut.ensures.value in
    record {
      words = all ∙ (c.in-Err.ensures {u = tt}).refused_words ∙ c.deref_mut.ensures.value;
      records = refl;
      capacity = refl;
      top = refl;
      left = refl;
    }

pub returns-in-Ok-clause-same : goal.returns-in-Ok-clause-same
returns-in-Ok-clause-same g c = c.execute.ensures.stays.same

pub returns-in-Ok-Goes-clause-same : goal.returns-in-Ok-Goes-clause-same
returns-in-Ok-Goes-clause-same g c = c.execute.ensures.stays.same

pub returns-in-Err-clause-same : goal.returns-in-Err-clause-same
returns-in-Err-clause-same g c = c.execute.ensures.stays.same
