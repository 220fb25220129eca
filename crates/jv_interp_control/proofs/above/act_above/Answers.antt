use Rattle.jv_interp_control.proofs.Acts.{reached}
use Rattle.jv_interp_control.proofs.Waits.{waits, can_suspend, then_moves}
use Rattle.jv_interp_control.proofs.above.act_above.Goals as goal

pub top_without-requires : goal.top_without-requires
top_without-requires g c =
    let w = c.requires.can in
    (waits c.args.program.now.verified.now c.args.program.now.classes.now.world c.args.at c.args.effect w.program w.texts w.s w.t w.addresses c.args.frames.now c.args.control.now c.args.held.now
    (g.S.Store.content c.args.store.now) w.acting w.are c.requires.above).within

pub suspend-requires : goal.suspend-requires
suspend-requires g c =
    let w = c.requires.can in
    can_suspend c.args.program.now.verified.now c.args.program.now.classes.now.world c.args.at c.args.effect w.program w.texts w.s w.t w.addresses c.args.frames.now c.args.control.now c.args.held.now
    (g.S.Store.content c.args.store.now) w.acting w.are c.requires.above c.top_without.result c.top_without.ensures

pub do_above-requires-clause-can : goal.do_above-requires-clause-can
do_above-requires-clause-can g c =
    let w = c.requires.can in
    record {
      program = w.program;
      texts = w.texts;
      s = _;
      t = w.t;
      addresses = w.addresses;
      moves =
          then_moves c.args.program.now.verified.now c.args.program.now.classes.now.world c.args.at c.args.effect w.program w.texts w.s w.t w.addresses c.args.frames.now c.args.control.now
          c.args.held.now (g.S.Store.content c.args.store.now) w.acting w.are c.requires.above c.top_without.result c.top_without.ensures c.suspend.new.frames
          c.suspend.ensures.suspends c.suspend.ensures.others;
    }

pub returns-in-Ok-clause-acted : goal.returns-in-Ok-clause-acted
returns-in-Ok-clause-acted g c = λ program texts s t addresses are h.
    let world = c.args.program.now.classes.now.world in
    let blocks = g.S.Store.content c.args.store.now in
    reached world c.args.at c.args.effect program texts s t addresses c.args.frames.now c.args.control.now c.args.held.now blocks h c.suspend.new.frames
    c.do_above.new.frames c.do_above.new.control c.do_above.new.held (g.S.Store.content c.do_above.new.store)
    ((c.in-Ok.ensures {u = tt}).done program texts _ t addresses
    (then_moves c.args.program.now.verified.now world c.args.at c.args.effect program texts s t addresses c.args.frames.now c.args.control.now c.args.held.now blocks h are
    c.requires.above c.top_without.result c.top_without.ensures c.suspend.new.frames c.suspend.ensures.suspends c.suspend.ensures.others))
