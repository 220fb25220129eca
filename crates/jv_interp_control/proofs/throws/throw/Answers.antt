use Rattle.std.proofs.Common.{◌<◌, false, List, drop, length, reverse, refl, sym, ap, subst, ◌∙◌}
use Rattle.std.proofs.lemmas.Result.{on_ok_weaker}
use Rattle.jv_interp_words.specs.declared.records.FrameRecord.{FrameRecord}
use Rattle.jv_interp_control.specs.declared.throwing.Thrown.{Thrown}
use Rattle.jv_interp_control.specs.Standing.{kept}
use Rattle.jv_interp_control.specs.Inside.Places.{record_place}
use Rattle.jv_interp_control.specs.Inside.Unwinding.{Unwinds}
use Rattle.jv_interp_control.proofs.ThrowsStand.{few_records, word_there, unwinding}
use Rattle.jv_interp_control.proofs.throws.throw.Goals as goal

pub get-class-requires : goal.get-class-requires
get-class-requires g c =
    let w = c.requires.can in
    word_there c.args.classes.now.world c.args.address w.program w.texts w.s w.t w.addresses c.args.frames.now c.args.control.now c.args.held.now (g.S.Store.content c.args.store.now) w.moves

pub place_behind-place-requires-clause-count : goal.place_behind-place-requires-clause-count
place_behind-place-requires-clause-count g c =
    let w = c.requires.can in
    subst (λ (l : List FrameRecord). length l < 4294967296) (sym c.deref.ensures.value)
    (few_records c.args.classes.now.world c.args.address w.program w.texts w.s w.t w.addresses c.args.frames.now c.args.control.now c.args.held.now (g.S.Store.content c.args.store.now) w.moves)

pub unwind-requires-clause-can : goal.unwind-requires-clause-can
unwind-requires-clause-can g c =
    let w = c.requires.can in
    let blocks = g.S.Store.content c.args.store.now in
    record {
      program = w.program;
      texts = w.texts;
      frames = _;
      control = _;
      t = _;
      goes_to = w.t;
      addresses = w.addresses;
      unwinding =
          unwinding c.args.classes.now.world c.args.address w.program w.texts w.s w.t w.addresses c.args.frames.now c.args.control.now c.args.held.now blocks w.moves
          (record { address = c.args.address; class = c.get-class.result; throws = c.once_more-throws.result; place = c.place_behind-place.result; made = false }) refl
          (sym c.get-class.ensures) c.once_more-throws.ensures (c.place_behind-place.ensures ∙ ap (λ (l : List FrameRecord). record_place (drop 0 (reverse l))) c.deref.ensures.value);
    }

pub returns-clause-thrown : goal.returns-clause-thrown
returns-clause-thrown g c =
    let world = c.args.classes.now.world in
    let blocks = g.S.Store.content c.args.store.now in
    let now : Thrown = record { address = c.args.address; class = c.get-class.result; throws = c.once_more-throws.result; place = c.place_behind-place.result; made = false } in
    on_ok_weaker
    {P = Unwinds world now (kept c.args.frames.now c.args.control.now c.args.held.now blocks) (kept c.unwind.new.frames c.unwind.new.control c.unwind.new.held (g.S.Store.content c.unwind.new.store))}
    c.unwind.result
    (λ u program texts s t addresses h.
    u program texts s.frames s.control _ t addresses
    (unwinding world c.args.address program texts s t addresses c.args.frames.now c.args.control.now c.args.held.now blocks h now refl
    (sym c.get-class.ensures) c.once_more-throws.ensures
    (c.place_behind-place.ensures ∙ ap (λ (l : List FrameRecord). record_place (drop 0 (reverse l))) c.deref.ensures.value)))
    c.unwind.ensures.unwinds
