use Rattle.std.proofs.Common.{ℕ, ◌<◌, length, slice_set, sym, ap, subst, ◌∙◌}
use Rattle.std.proofs.lemmas.Option.{slice_get_within}
use Rattle.jv_interp_control.specs.declared.frames.Frames.{Frames}
use Rattle.jv_interp_control.specs.declared.control.Control.{Control}
use Rattle.jv_interp_control.proofs.ClassInitialized.{class_within, there_of}
use Rattle.jv_interp_control.proofs.Finished.{marking, goes_on, has_main, enters_main}
use Rattle.jv_interp_control.proofs.finishing.finish.Goals as goal

pub index-state-requires : goal.index-state-requires
index-state-requires g c =
    let w = c.requires.can in
    let blocks = g.S.Store.content c.args.store.now in
    subst (λ (n : ℕ). c.args.class < n) (sym c.args.control.now.states.ok.0)
    (class_within c.args.classes.now.world c.args.class c.args.frames.now c.args.control.now w.program w.addresses w.s.frames w.s.control w.moves.does.l
    (marking c.args.classes.now.world c.args.class w.program w.texts w.s w.t w.addresses c.args.frames.now c.args.control.now c.args.held.now blocks w.moves))

pub mark-requires : goal.mark-requires
mark-requires g c =
    let w = c.requires.can in
    let blocks = g.S.Store.content c.args.store.now in
    record {
      program = w.program;
      addresses = w.addresses;
      all = w.s.frames;
      control = w.s.control;
      l = w.moves.does.l;
      marking = marking c.args.classes.now.world c.args.class w.program w.texts w.s w.t w.addresses c.args.frames.now c.args.control.now c.args.held.now blocks w.moves;
    }

pub returns-then-len-ne0-clause-finished : goal.returns-then-len-ne0-clause-finished
returns-then-len-ne0-clause-finished g c = λ program texts s t addresses h.
    let blocks = g.S.Store.content c.args.store.now in
    goes_on c.args.classes.now.world c.args.class program texts s t addresses c.args.frames.now c.args.control.now c.args.held.now blocks h c.mark.new.frames c.mark.new.control
    (c.mark.ensures.marks program addresses s.frames s.control h.does.l
    (marking c.args.classes.now.world c.args.class program texts s t addresses c.args.frames.now c.args.control.now c.args.held.now blocks h))
    (λ e. c.if-len-ne0.true (c.len.ensures ∙ ap (λ (f : Frames). f.records.len) c.mark.ensures.frames ∙ c.args.frames.now.records.ok.0 ∙ e))

pub unreachable-requires : goal.unreachable-requires
unreachable-requires g c =
    let w = c.requires.can in
    let blocks = g.S.Store.content c.args.store.now in
    has_main c.args.classes.now.world c.args.class w.program w.texts w.s w.t w.addresses c.args.frames.now c.args.control.now c.args.held.now blocks w.moves
    (sym c.args.frames.now.records.ok.0 ∙ ap (λ (f : Frames). f.records.len) (sym c.mark.ensures.frames) ∙ sym c.len.ensures ∙ c.if-len-ne0.false)
    (ap (λ (k : Control). k.main) (sym c.mark.ensures.control) ∙ c.in_default.is)

pub enter-requires-clause-can : goal.enter-requires-clause-can
enter-requires-clause-can g c =
    let w = c.requires.can in
    let blocks = g.S.Store.content c.args.store.now in
    let moves = enters_main c.args.classes.now.world c.args.class w.program w.texts w.s w.t w.addresses c.args.frames.now c.args.control.now c.args.held.now blocks w.moves
    (sym c.args.frames.now.records.ok.0 ∙ ap (λ (f : Frames). f.records.len) (sym c.mark.ensures.frames) ∙ sym c.len.ensures ∙ c.if-len-ne0.false)
    c.in-Some.main c.mark.new.frames c.mark.new.control
    (c.mark.ensures.marks w.program w.addresses w.s.frames w.s.control w.moves.does.l
    (marking c.args.classes.now.world c.args.class w.program w.texts w.s w.t w.addresses c.args.frames.now c.args.control.now c.args.held.now blocks w.moves))
    c.mark.ensures.frames c.in-Some.is in
    record { program = w.program; texts = w.texts; s = _; t = w.t; addresses = w.addresses; moves = moves }

pub index_mut-requires-in-Err-2 : goal.index_mut-requires-in-Err-2
index_mut-requires-in-Err-2 g c =
    let w = c.requires.can in
    let blocks = g.S.Store.content c.args.store.now in
    let marked = c.mark.ensures.marks w.program w.addresses w.s.frames w.s.control w.moves.does.l
    (marking c.args.classes.now.world c.args.class w.program w.texts w.s w.t w.addresses c.args.frames.now c.args.control.now c.args.held.now blocks w.moves) in
    let within : c.args.class < length c.mark.new.control.states.items =
    slice_get_within c.mark.new.control.states.items c.args.class _ (marked.control_stands.states c.args.class w.moves.does.l w.moves.does.class_is) in
    subst (λ (k : Control). c.args.class < k.states.len) (sym (c.in-Err.ensures {u = tt}).refused_control)
    (subst (λ (n : ℕ). c.args.class < n) (sym c.mark.new.control.states.ok.0) within)

pub returns-in-Ok-clause-finished : goal.returns-in-Ok-clause-finished
returns-in-Ok-clause-finished g c = λ program texts s t addresses h.
    let blocks = g.S.Store.content c.args.store.now in
    let moves = enters_main c.args.classes.now.world c.args.class program texts s t addresses c.args.frames.now c.args.control.now c.args.held.now blocks h
    (sym c.args.frames.now.records.ok.0 ∙ ap (λ (f : Frames). f.records.len) (sym c.mark.ensures.frames) ∙ sym c.len.ensures ∙ c.if-len-ne0.false)
    c.in-Some.main c.mark.new.frames c.mark.new.control
    (c.mark.ensures.marks program addresses s.frames s.control h.does.l
    (marking c.args.classes.now.world c.args.class program texts s t addresses c.args.frames.now c.args.control.now c.args.held.now blocks h))
    c.mark.ensures.frames c.in-Some.is in
    let r = (c.in-Ok.ensures {u = tt}).entered program texts _ t addresses moves in
    record { more = r.more; stands = r.stands; grows = r.grows }

pub returns-in-Err-clause-refused_control : goal.returns-in-Err-clause-refused_control
returns-in-Err-clause-refused_control g c =
    let w = c.requires.can in
    let blocks = g.S.Store.content c.args.store.now in
    let within = class_within c.args.classes.now.world c.args.class c.args.frames.now c.args.control.now w.program w.addresses w.s.frames w.s.control w.moves.does.l
    (marking c.args.classes.now.world c.args.class w.program w.texts w.s w.t w.addresses c.args.frames.now c.args.control.now c.args.held.now blocks w.moves) in
    let there = there_of c.args.control.now.states.items c.args.class c.index-state.result.now c.index-state.result.now within c.index-state.ensures in
    let same = (c.in-Err.ensures {u = tt}).refused_control in
    record {
      states = ap (λ (k : Control). slice_set k.states.items c.args.class c.index-state.result.now) same ∙ c.mark.ensures.back c.index-state.result.now there;
      throws = ap (λ (k : Control). k.throws) (same ∙ c.mark.ensures.control);
      last = ap (λ (k : Control). k.last) (same ∙ c.mark.ensures.control);
      place = ap (λ (k : Control). k.place) (same ∙ c.mark.ensures.control);
      main = ap (λ (k : Control). k.main) (same ∙ c.mark.ensures.control);
      end = ap (λ (k : Control). k.end) (same ∙ c.mark.ensures.control);
    }
