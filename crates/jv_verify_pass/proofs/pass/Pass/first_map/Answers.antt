use Rattle.std.proofs.Common.{ap, sym, arith}
use Rattle.jv_verify_pass.specs.Pass.{Pass}
use Rattle.jv_verify_pass.proofs.MapFrames.{bare_from_start, offset_is, offset_past}
use Rattle.jv_verify_pass.proofs.pass.Pass.first_map.Goals as goal

pub returns-then-count-eq0 : goal.returns-then-count-eq0
returns-then-count-eq0 c =
    let pass = c.args.self.now in
    bare_from_start c.offsets_rise.ensures pass 4294967295
    (offset_past pass c.self.inside.frames.now 0 4294967295 (ap (λ (p : Pass). p.frames) (sym c.self.view_is)) (omega (arith, c.count.ensures, c.if-count-eq0.true)))

pub returns : goal.returns
returns c =
    let pass = c.args.self.now in
    bare_from_start c.offsets_rise.ensures pass c.offset.result
    (offset_is pass c.self.inside.frames.now 0 c.frame_at.result c.offset.result (ap (λ (p : Pass). p.frames) (sym c.self.view_is)) c.frame_at.ensures c.offset.ensures)
