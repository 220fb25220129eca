use Rattle.std.specs.Prelude.{OnOk}
use Rattle.std.proofs.Common.{◌<◌, length, sym, subst, arith}
use Rattle.jv_meaning_world.specs.World.{World}
use Rattle.jv_interp_held.specs.declared.effect.Effect.{Effect}
use Rattle.jv_interp_heap.proofs.Joined.{within}
use Rattle.jv_interp_control.specs.Standing.{kept, CanMove, Moved}
use Rattle.jv_interp_control.specs.Inside.Above.{Doing}
use Rattle.jv_interp_control.proofs.above.do_above.Goals as goal

pub enter-requires-clause-can : goal.enter-requires-clause-can
enter-requires-clause-can g c =
    subst (λ (e : Effect). CanMove c.args.program.now.classes.now.world (Doing e c.args.program.now.verified.now c.args.frames.now)
    (kept c.args.frames.now c.args.control.now c.args.held.now (g.S.Store.content c.args.store.now)))
    c.in-Enters.is c.requires.can

pub throw-requires-clause-can : goal.throw-requires-clause-can
throw-requires-clause-can g c =
    subst (λ (e : Effect). CanMove c.args.program.now.classes.now.world (Doing e c.args.program.now.verified.now c.args.frames.now)
    (kept c.args.frames.now c.args.control.now c.args.held.now (g.S.Store.content c.args.store.now)))
    c.in-Throws.is c.requires.can

pub raise-requires-clause-can : goal.raise-requires-clause-can
raise-requires-clause-can g c =
    subst (λ (e : Effect). CanMove c.args.program.now.classes.now.world (Doing e c.args.program.now.verified.now c.args.frames.now)
    (kept c.args.frames.now c.args.control.now c.args.held.now (g.S.Store.content c.args.store.now)))
    c.in-Raises.is c.requires.can

pub raise-requires-clause-few_classes : goal.raise-requires-clause-few_classes
raise-requires-clause-few_classes g c =
    let w =
    subst (λ (e : Effect). CanMove c.args.program.now.classes.now.world (Doing e c.args.program.now.verified.now c.args.frames.now)
    (kept c.args.frames.now c.args.control.now c.args.held.now (g.S.Store.content c.args.store.now)))
    c.in-Raises.is c.requires.can in
    let number = w.moves.does.has_number in
    let low = within w.program.world c.in-Raises.class number.l number.at in
    let low_here = subst (λ (v : World). c.in-Raises.class < length v) w.moves.world_is low in
    let few = c.requires.few_classes in
    omega (arith, low_here, few)

pub begin-requires-clause-can : goal.begin-requires-clause-can
begin-requires-clause-can g c =
    subst (λ (e : Effect). CanMove c.args.program.now.classes.now.world (Doing e c.args.program.now.verified.now c.args.frames.now)
    (kept c.args.frames.now c.args.control.now c.args.held.now (g.S.Store.content c.args.store.now)))
    c.in-Begins.is c.requires.can

pub returns-in-Enters-clause-done : goal.returns-in-Enters-clause-done
returns-in-Enters-clause-done g c =
    subst (λ (e : Effect). OnOk c.enter.result (Moved c.args.program.now.classes.now.world (Doing e c.args.program.now.verified.now c.args.frames.now)
    (kept c.args.frames.now c.args.control.now c.args.held.now (g.S.Store.content c.args.store.now))
    (kept c.enter.new.frames c.enter.new.control c.enter.new.held (g.S.Store.content c.enter.new.store))))
    (sym c.in-Enters.is) c.enter.ensures.entered

pub returns-in-Throws-clause-done : goal.returns-in-Throws-clause-done
returns-in-Throws-clause-done g c =
    subst (λ (e : Effect). OnOk c.throw.result (Moved c.args.program.now.classes.now.world (Doing e c.args.program.now.verified.now c.args.frames.now)
    (kept c.args.frames.now c.args.control.now c.args.held.now (g.S.Store.content c.args.store.now))
    (kept c.throw.new.frames c.throw.new.control c.throw.new.held (g.S.Store.content c.throw.new.store))))
    (sym c.in-Throws.is) c.throw.ensures.thrown

pub returns-in-Raises-clause-done : goal.returns-in-Raises-clause-done
returns-in-Raises-clause-done g c =
    subst (λ (e : Effect). OnOk c.raise.result (Moved c.args.program.now.classes.now.world (Doing e c.args.program.now.verified.now c.args.frames.now)
    (kept c.args.frames.now c.args.control.now c.args.held.now (g.S.Store.content c.args.store.now))
    (kept c.raise.new.frames c.raise.new.control c.raise.new.held (g.S.Store.content c.raise.new.store))))
    (sym c.in-Raises.is) c.raise.ensures.raised

pub returns-in-Begins-clause-done : goal.returns-in-Begins-clause-done
returns-in-Begins-clause-done g c =
    subst (λ (e : Effect). OnOk c.begin.result (Moved c.args.program.now.classes.now.world (Doing e c.args.program.now.verified.now c.args.frames.now)
    (kept c.args.frames.now c.args.control.now c.args.held.now (g.S.Store.content c.args.store.now))
    (kept c.begin.new.frames c.begin.new.control c.begin.new.held (g.S.Store.content c.begin.new.store))))
    (sym c.in-Begins.is) c.begin.ensures.begun
