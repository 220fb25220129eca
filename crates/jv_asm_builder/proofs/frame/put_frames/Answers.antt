use Rattle.std.proofs.lemmas.Grind.{common_steps}
use Rattle.std.proofs.Common.{◌+◌, map, drop, sym, ap, ◌∙◌, arith}
use Rattle.jv_asm_builder.specs.Inside.Behind.{frame_behind, frames_behind}
use Rattle.jv_asm_builder.specs.Inside.Kept.{frame_kept}
use Rattle.jv_asm_builder.proofs.Answers.{fault_answer}
use Rattle.jv_asm_builder.proofs.Forms.{frame_next, frame_stops}
use Rattle.jv_asm_builder.proofs.frame.put_frames.Goals as goal

pub returns-in_err-put_frame : goal.returns-in_err-put_frame
returns-in_err-put_frame c =
    fault_answer (frame_behind c.loop-frame.out.items c.loop-frame.base (frame_kept c.frame-item.result)) (frames_behind c.args.out.now.items 0 (map frame_kept c.args.frames.now)) _
    c.from_residual.result c.in_err-put_frame.field-0.0 c.from_residual.ensures.1
    (λ e. sym c.loop-frame.invariant
    ∙ frame_stops frame_kept c.args.frames.now c.loop-frame.frame-index c.frame-item.result c.loop-frame-test.true c.frame-item.is c.loop-frame.out.items c.loop-frame.base
    c.in_err-put_frame.field-0.0 e)
    (c.in_err-put_frame.ensures {u = tt})

pub loop-frame-preserved : goal.loop-frame-preserved
loop-frame-preserved c =
    ap (λ base. frames_behind c.put_frame.new.out.items (base + 1) (drop (c.loop-frame.frame-index + 1) (map frame_kept c.args.frames.now))) c.from-base.ensures
    ∙ frame_next frame_kept c.args.frames.now c.loop-frame.frame-index c.frame-item.result c.loop-frame-test.true c.frame-item.is c.loop-frame.out.items c.loop-frame.base
    c.put_frame.new.out.items (c.in_ok-put_frame.ensures {u = tt})
    ∙ c.loop-frame.invariant

pub returns : goal.returns
returns c = grind (arith, common_steps)
