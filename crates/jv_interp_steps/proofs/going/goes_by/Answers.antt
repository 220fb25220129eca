use Rattle.std.proofs.Common.{◌≡◌, ℕ, true, length, refl, sym, ap, subst, ◌∙◌}
use Rattle.std.specs.Prelude.{◌++◌, take, drop}
use Rattle.std.specs.Vec.{with_items}
use Rattle.std.proofs.Math.Seq.{take-append_seam}
use Rattle.jv_interp_held.specs.declared.effect.Effect.{Effect}
use Rattle.jv_interp_held.specs.declared.effect.Effect.TheVariants as effects
use Rattle.jv_interp_held.specs.Executing.{Place, place}
use Rattle.jv_code.specs.Insns.{instruction_of}
use Rattle.jv_interp_members.specs.Known.{known}
use Rattle.jv_interp_instructions.specs.InGuest.{ExecutedAt}
use Rattle.jv_interp_control.proofs.Acts.{runs_on}
use Rattle.jv_interp_steps.proofs.Effects.{it_goes, not_going}
use Rattle.jv_interp_steps.proofs.Executed.{decoded_in, can_execute, did, acting, stepped, cells_after}
use Rattle.jv_interp_steps.proofs.going.goes_by.Goals as goal

pub execute-requires-clause-can : goal.execute-requires-clause-can
execute-requires-clause-can g c =
    let w = c.requires.can in
    let frames = c.args.frames.now in
    let at = c.args.at.now in
    can_execute c.args.classes.now.world c.args.verified.now at w.program c.args.texts.now.names w.s w.t w.addresses frames c.args.control.now c.args.held.now
    (g.S.Store.content c.args.store.now) w.steps c.args.linked.now c.requires.linked c.args.site _ c.args.next
    (decoded_in c.args.classes.now.world c.args.verified.now c.args.at.now w.program c.args.texts.now.names w.s w.t w.addresses c.args.frames.now c.args.control.now c.args.held.now
    (g.S.Store.content c.args.store.now) w.steps c.args.site _ c.args.next c.requires.stands) c.deref.result.now c.deref_mut.result.now c.deref.ensures.value c.deref_mut.ensures.value

pub returns-in-Ok-clause-stepped : goal.returns-in-Ok-clause-stepped
returns-in-Ok-clause-stepped g c = λ yes. λ program s t addresses h.
    let frames = c.args.frames.now in
    let new = c.execute.new.words in
    let same_size : frames.words.len ≡ length new = frames.words.ok.0 ∙ ap length (sym c.deref_mut.ensures.value) ∙ sym c.execute.auto.words in
    let all : (with_items frames.words new).items ≡ new =
    ap (λ (n : ℕ). take n (new ++ drop (length new) frames.words.items)) same_size ∙ take-append_seam new (drop (length new) frames.words.items) in
    let sizes : length new ≡ length frames.words.items = c.execute.auto.words ∙ ap length c.deref_mut.ensures.value in
    let d =
    subst (λ (e : Effect). ExecutedAt c.deref.result.now (instruction_of c.args.insn) c.args.next (known c.args.classes.now.world c.args.linked.now c.args.site) c.args.texts.now.names
    (place c.args.at.now c.deref_mut.result.now c.args.held.now (g.S.Store.content c.args.store.now))
    (place c.execute.new.at new c.execute.new.held (g.S.Store.content c.execute.new.store)) e) (it_goes c.in-Ok.effect (sym c.is_going.ensures ∙ yes)) (c.in-Ok.ensures {u = tt}).done in
    let there = did c.args.classes.now.world c.args.verified.now c.args.at.now program c.args.texts.now.names s t addresses c.args.frames.now c.args.control.now c.args.held.now
    (g.S.Store.content c.args.store.now) h c.args.linked.now c.requires.linked c.args.site _ c.args.next
    (decoded_in c.args.classes.now.world c.args.verified.now c.args.at.now program c.args.texts.now.names s t addresses c.args.frames.now c.args.control.now c.args.held.now
    (g.S.Store.content c.args.store.now) h c.args.site _ c.args.next c.requires.stands) c.deref.result.now c.deref_mut.result.now c.execute.new.at new c.execute.new.held
    (g.S.Store.content c.execute.new.store) effects.Goes c.deref.ensures.value c.deref_mut.ensures.value d in
    let a = acting c.args.classes.now.world c.args.verified.now c.args.at.now program c.args.texts.now.names s t addresses c.args.frames.now c.args.control.now c.args.held.now
    (g.S.Store.content c.args.store.now) h c.execute.new.at (record frames { words = with_items frames.words new }) new c.execute.new.held
    (g.S.Store.content c.execute.new.store) effects.Goes all c.execute.ensures.stays refl refl sizes there in
    stepped c.args.classes.now.world c.args.verified.now c.args.at.now program c.args.texts.now.names s t addresses c.args.frames.now c.args.control.now c.args.held.now
    (g.S.Store.content c.args.store.now) h c.execute.new.at (record frames { words = with_items frames.words new }) new c.execute.new.held
    (g.S.Store.content c.execute.new.store) effects.Goes all c.execute.ensures.stays refl refl sizes there
    true _ (
      refl,
      runs_on c.args.classes.now.world c.execute.new.at program c.args.texts.now.names s t _ (record frames { words = with_items frames.words new })
          c.args.control.now c.execute.new.held (g.S.Store.content c.execute.new.store) a,
    )

pub returns-in-Ok-clause-fewer : goal.returns-in-Ok-clause-fewer
returns-in-Ok-clause-fewer g c =
    let w = c.requires.can in
    let frames = c.args.frames.now in
    let new = c.execute.new.words in
    let same_size : frames.words.len ≡ length new = frames.words.ok.0 ∙ ap length (sym c.deref_mut.ensures.value) ∙ sym c.execute.auto.words in
    let all : (with_items frames.words new).items ≡ new =
    ap (λ (n : ℕ). take n (new ++ drop (length new) frames.words.items)) same_size ∙ take-append_seam new (drop (length new) frames.words.items) in
    let sizes : length new ≡ length frames.words.items = c.execute.auto.words ∙ ap length c.deref_mut.ensures.value in
    let d = did c.args.classes.now.world c.args.verified.now c.args.at.now w.program c.args.texts.now.names w.s w.t w.addresses frames c.args.control.now c.args.held.now
    (g.S.Store.content c.args.store.now) w.steps c.args.linked.now c.requires.linked c.args.site _ c.args.next
    (decoded_in c.args.classes.now.world c.args.verified.now c.args.at.now w.program c.args.texts.now.names w.s w.t w.addresses c.args.frames.now c.args.control.now c.args.held.now
    (g.S.Store.content c.args.store.now) w.steps c.args.site _ c.args.next c.requires.stands) c.deref.result.now c.deref_mut.result.now c.execute.new.at new c.execute.new.held
    (g.S.Store.content c.execute.new.store) c.in-Ok.effect c.deref.ensures.value c.deref_mut.ensures.value (c.in-Ok.ensures {u = tt}).done in
    cells_after c.args.classes.now.world c.args.verified.now c.args.at.now w.program c.args.texts.now.names w.s w.t w.addresses frames c.args.control.now c.args.held.now
    (g.S.Store.content c.args.store.now) w.steps c.execute.new.at (record frames { words = with_items frames.words new }) new c.execute.new.held
    (g.S.Store.content c.execute.new.store) c.in-Ok.effect all c.execute.ensures.stays refl refl sizes d c.execution_keeps.ensures

pub returns-in-Ok-clause-same_at : goal.returns-in-Ok-clause-same_at
returns-in-Ok-clause-same_at g c = λ no. ap (λ (p : Place). p.at) (not_going c.in-Ok.effect _ _ (sym c.is_going.ensures ∙ no) (c.in-Ok.ensures {u = tt}).unmoved)

pub returns-in-Ok-clause-same_frames : goal.returns-in-Ok-clause-same_frames
returns-in-Ok-clause-same_frames g c = λ no.
    let frames = c.args.frames.now in
    let new = c.execute.new.words in
    let same_size : frames.words.len ≡ length new = frames.words.ok.0 ∙ ap length (sym c.deref_mut.ensures.value) ∙ sym c.execute.auto.words in
    let all : (with_items frames.words new).items ≡ new =
    ap (λ (n : ℕ). take n (new ++ drop (length new) frames.words.items)) same_size ∙ take-append_seam new (drop (length new) frames.words.items) in
    record {
      words = all ∙ ap (λ (p : Place). p.words) (not_going c.in-Ok.effect _ _ (sym c.is_going.ensures ∙ no) (c.in-Ok.ensures {u = tt}).unmoved) ∙ c.deref_mut.ensures.value;
      records = refl;
      capacity = refl;
      top = refl;
      left = refl;
    }

pub returns-in-Ok-clause-same_held : goal.returns-in-Ok-clause-same_held
returns-in-Ok-clause-same_held g c = λ no. ap (λ (p : Place). p.held) (not_going c.in-Ok.effect _ _ (sym c.is_going.ensures ∙ no) (c.in-Ok.ensures {u = tt}).unmoved)

pub returns-in-Ok-clause-same_content : goal.returns-in-Ok-clause-same_content
returns-in-Ok-clause-same_content g c = λ no. ap (λ (p : Place). p.blocks) (not_going c.in-Ok.effect _ _ (sym c.is_going.ensures ∙ no) (c.in-Ok.ensures {u = tt}).unmoved)

pub returns-in-Err-clause-same_frames : goal.returns-in-Err-clause-same_frames
returns-in-Err-clause-same_frames g c = λ none.
    let frames = c.args.frames.now in
    let new = c.execute.new.words in
    let same_size : frames.words.len ≡ length new = frames.words.ok.0 ∙ ap length (sym c.deref_mut.ensures.value) ∙ sym c.execute.auto.words in
    let all : (with_items frames.words new).items ≡ new =
    ap (λ (n : ℕ). take n (new ++ drop (length new) frames.words.items)) same_size ∙ take-append_seam new (drop (length new) frames.words.items) in
    let sizes : length new ≡ length frames.words.items = c.execute.auto.words ∙ ap length c.deref_mut.ensures.value in
    record {
      words = all ∙ (c.in-Err.ensures {u = tt}).refused_words ∙ c.deref_mut.ensures.value;
      records = refl;
      capacity = refl;
      top = refl;
      left = refl;
    }
