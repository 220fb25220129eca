use Rattle.std.proofs.Common.{arith}
use Rattle.jv_interp_steps.proofs.Executed.{can_decode}
use Rattle.jv_interp_steps.proofs.CodeRules.{keeps_rules}
use Rattle.jv_interp_steps.proofs.Known.{known_at, end_small, stands_next}
use Rattle.jv_interp_steps.proofs.going.goes_known.Goals as goal

pub site_of-site-requires : goal.site_of-site-requires
site_of-site-requires g c =
    let w = c.requires.can in
    can_decode c.args.classes.now.world c.args.verified.now c.args.at.now w.program c.args.texts.now.names w.s w.t w.addresses c.args.frames.now c.args.control.now c.args.held.now
    (g.S.Store.content c.args.store.now) w.steps
    c.args.methods.now c.requires.methods

pub goes_by-requires-clause-stands : goal.goes_by-requires-clause-stands
goes_by-requires-clause-stands g c =
    stands_next c.args.classes.now.world c.args.verified.now c.args.texts.now.names c.args.at.now c.args.frames.now c.args.control.now c.args.held.now
    (g.S.Store.content c.args.store.now) c.args.methods.now c.requires.methods c.site_of-site.result c.site_of-site.ensures _ c.args.size c.requires.bytes c.requires.fits
    c.requires.size

pub goes_by-requires-clause-rules : goal.goes_by-requires-clause-rules
goes_by-requires-clause-rules g c =
    let w = c.requires.can in
    keeps_rules c.args.at.now.code.now c.args.at.now.pc _
    (known_at c.args.classes.now.world c.args.verified.now c.args.at.now w.program c.args.texts.now.names w.s w.t w.addresses c.args.frames.now c.args.control.now c.args.held.now
    (g.S.Store.content c.args.store.now) w.steps _ c.requires.bytes c.requires.fits)

pub overflow_add-next : goal.overflow_add-next
overflow_add-next g c =
    let w = c.requires.can in
    let small =
    end_small c.args.classes.now.world c.args.verified.now c.args.at.now w.program c.args.texts.now.names w.s w.t w.addresses c.args.frames.now c.args.control.now c.args.held.now
    (g.S.Store.content c.args.store.now) w.steps _ c.args.size c.requires.bytes c.requires.fits c.requires.size in
    record { fits = omega (arith, small) }
