use Rattle.std.proofs.Common.{◌<◌, List, length, sym, subst}
use Rattle.jv_interp_words.specs.declared.records.FrameRecord.{FrameRecord}
use Rattle.jv_interp_words.specs.FramesInWords.{in_use}
use Rattle.jv_interp_control.specs.Inside.Walking.{Walking}
use Rattle.jv_interp_control.proofs.Unwound.{walking, few_records, passing, out_of_all, caught_by, to_handler}
use Rattle.jv_interp_control.proofs.unwinding.unwind.Goals as goal

pub walk-requires-clause-can : goal.walk-requires-clause-can
walk-requires-clause-can g c =
    let w = c.requires.can in
    let blocks = g.S.Store.content c.args.store.now in
    record {
      program = w.program;
      texts = w.texts;
      frames = w.frames;
      used = in_use c.args.frames.now.words.items c.args.frames.now.top;
      t = w.t;
      goes_to = w.goes_to;
      addresses = w.addresses;
      walking =
          subst (λ (all : List FrameRecord). Walking c.args.classes.now.world all w.program w.texts w.frames
          (in_use c.args.frames.now.words.items c.args.frames.now.top) w.t w.goes_to w.addresses c.args.thrown c.args.held.now blocks)
          (sym c.deref.ensures.value)
          (walking c.args.classes.now.world c.args.thrown w.program w.texts w.frames w.control w.t w.goes_to w.addresses c.args.frames.now c.args.control.now c.args.held.now blocks w.unwinding);
    }

pub walk-requires-clause-count : goal.walk-requires-clause-count
walk-requires-clause-count g c =
    let w = c.requires.can in
    subst (λ (all : List FrameRecord). length all < 4294967296) (sym c.deref.ensures.value)
    (few_records c.args.classes.now.world c.args.thrown w.program w.texts w.frames w.control w.t w.goes_to w.addresses c.args.frames.now
    c.args.control.now c.args.held.now (g.S.Store.content c.args.store.now) w.unwinding)

pub pass_frames-requires-clause-can : goal.pass_frames-requires-clause-can
pass_frames-requires-clause-can g c =
    let w = c.requires.can in
    let blocks = g.S.Store.content c.args.store.now in
    let walks =
    subst (λ (all : List FrameRecord). Walking c.args.classes.now.world all w.program w.texts w.frames
    (in_use c.args.frames.now.words.items c.args.frames.now.top) w.t w.goes_to w.addresses c.args.thrown c.args.held.now blocks)
    (sym c.deref.ensures.value)
    (walking c.args.classes.now.world c.args.thrown w.program w.texts w.frames w.control w.t w.goes_to w.addresses c.args.frames.now c.args.control.now c.args.held.now blocks w.unwinding) in
    let landed = (c.in_ok-landing.ensures {u = tt}).lands w.program w.texts w.frames (in_use c.args.frames.now.words.items c.args.frames.now.top) w.t w.goes_to w.addresses walks in
    record {
      program = w.program;
      addresses = _;
      all = w.frames;
      control = w.control;
      passing =
          passing c.args.classes.now.world c.args.thrown w.program w.texts w.frames w.control w.t w.goes_to w.addresses c.args.frames.now c.args.control.now c.args.held.now blocks w.unwinding
          c.in_ok-landing.landing c.walk.new.held (g.S.Store.content c.walk.new.store) landed;
    }

pub returns-in_default-clause-unwinds : goal.returns-in_default-clause-unwinds
returns-in_default-clause-unwinds g c = λ program texts fs control t goes_to addresses h.
    let world = c.args.classes.now.world in
    let blocks = g.S.Store.content c.args.store.now in
    let after = g.S.Store.content c.walk.new.store in
    let landing = c.in_ok-landing.landing in
    let walks =
    subst (λ (all : List FrameRecord). Walking world all program texts fs (in_use c.args.frames.now.words.items c.args.frames.now.top) t goes_to
    addresses c.args.thrown c.args.held.now blocks) (sym c.deref.ensures.value)
    (walking world c.args.thrown program texts fs control t goes_to addresses c.args.frames.now c.args.control.now c.args.held.now blocks h) in
    let landed = (c.in_ok-landing.ensures {u = tt}).lands program texts fs (in_use c.args.frames.now.words.items c.args.frames.now.top) t goes_to addresses walks in
    let can = passing world c.args.thrown program texts fs control t goes_to addresses c.args.frames.now c.args.control.now c.args.held.now blocks h landing c.walk.new.held after landed in
    let passed = c.pass_frames.ensures program _ fs control can in
    out_of_all world c.args.thrown program texts fs control t goes_to addresses c.args.frames.now c.args.control.now c.args.held.now blocks h landing c.walk.new.held after landed
    c.pass_frames.new.frames c.pass_frames.new.control c.in_default.is passed

pub catch_thrown-requires : goal.catch_thrown-requires
catch_thrown-requires g c =
    let w = c.requires.can in
    let world = c.args.classes.now.world in
    let blocks = g.S.Store.content c.args.store.now in
    let after = g.S.Store.content c.walk.new.store in
    let landing = c.in_ok-landing.landing in
    let walks =
    subst (λ (all : List FrameRecord). Walking world all w.program w.texts w.frames (in_use c.args.frames.now.words.items c.args.frames.now.top) w.t
    w.goes_to w.addresses c.args.thrown c.args.held.now blocks) (sym c.deref.ensures.value)
    (walking world c.args.thrown w.program w.texts w.frames w.control w.t w.goes_to w.addresses c.args.frames.now c.args.control.now c.args.held.now blocks w.unwinding) in
    let landed = (c.in_ok-landing.ensures {u = tt}).lands w.program w.texts w.frames (in_use c.args.frames.now.words.items c.args.frames.now.top) w.t w.goes_to w.addresses walks in
    let can = passing world c.args.thrown w.program w.texts w.frames w.control w.t w.goes_to w.addresses c.args.frames.now c.args.control.now
    c.args.held.now blocks w.unwinding landing c.walk.new.held after landed in
    let passed = c.pass_frames.ensures w.program _ w.frames w.control can in
    let x =
    caught_by world c.args.thrown w.program w.texts w.frames w.control w.t w.goes_to w.addresses c.args.frames.now c.args.control.now c.args.held.now
    blocks w.unwinding landing c.walk.new.held after landed
    c.in-Some.pc c.pass_frames.new.frames c.pass_frames.new.control c.args.methods.now c.requires.methods c.in-Some.is passed in
    record { program = w.program; addresses = _; frame = x.frame; below = x.below; left = _; object = _; catching = x.catching }

pub returns-clause-unwinds : goal.returns-clause-unwinds
returns-clause-unwinds g c = λ program texts fs control t goes_to addresses h.
    let world = c.args.classes.now.world in
    let blocks = g.S.Store.content c.args.store.now in
    let after = g.S.Store.content c.walk.new.store in
    let landing = c.in_ok-landing.landing in
    let walks =
    subst (λ (all : List FrameRecord). Walking world all program texts fs (in_use c.args.frames.now.words.items c.args.frames.now.top) t goes_to
    addresses c.args.thrown c.args.held.now blocks) (sym c.deref.ensures.value)
    (walking world c.args.thrown program texts fs control t goes_to addresses c.args.frames.now c.args.control.now c.args.held.now blocks h) in
    let landed = (c.in_ok-landing.ensures {u = tt}).lands program texts fs (in_use c.args.frames.now.words.items c.args.frames.now.top) t goes_to addresses walks in
    let can = passing world c.args.thrown program texts fs control t goes_to addresses c.args.frames.now c.args.control.now c.args.held.now blocks h landing c.walk.new.held after landed in
    let passed = c.pass_frames.ensures program _ fs control can in
    let x =
    caught_by world c.args.thrown program texts fs control t goes_to addresses c.args.frames.now c.args.control.now c.args.held.now blocks h landing c.walk.new.held after landed
    c.in-Some.pc c.pass_frames.new.frames c.pass_frames.new.control c.args.methods.now c.requires.methods c.in-Some.is passed in
    to_handler world c.args.thrown program texts fs control t goes_to addresses c.args.frames.now c.args.control.now c.args.held.now blocks h landing c.walk.new.held after landed
    c.in-Some.pc c.pass_frames.new.frames c.catch_thrown.new.frames c.pass_frames.new.control c.args.methods.now passed x
    (c.catch_thrown.ensures program _ x.frame x.below _ _ x.catching)
