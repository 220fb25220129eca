use Rattle.jv_interp_steps.proofs.Executed.{can_decode, nexts_at}
use Rattle.jv_interp_steps.proofs.stepping.step_decoded.Goals as goal

pub decode-next-requires : goal.decode-next-requires
decode-next-requires g c =
    let w = c.requires.can in
    can_decode c.args.classes.now.world c.args.verified.now c.args.at.now w.program c.args.texts.now.names w.s w.t w.addresses c.args.frames.now c.args.control.now c.args.held.now
    (g.S.Store.content c.args.store.now) w.steps
    c.args.methods.now c.requires.methods

pub step_by-requires-clause-stands : goal.step_by-requires-clause-stands
step_by-requires-clause-stands g c = λ program s t addresses h there e.
    c.decode-next.ensures.decodes program addresses c.args.at.now.base h.runs.running.frame _ _ there
    (nexts_at c.args.classes.now.world c.args.verified.now c.args.at.now program c.args.texts.now.names s t addresses c.args.frames.now c.args.control.now
    c.args.held.now (g.S.Store.content c.args.store.now) h c.args.methods.now c.requires.methods there e)
