use Rattle.std.proofs.lemmas.Grind.{common_steps}
use Rattle.std.proofs.Common.{◌==◌, ap, sym, ◌∙◌, ◌++◌, length, map, arith}
use Rattle.std.proofs.lemmas.List.{length-map}
use Rattle.jv_format.specs.Format.{half}
use Rattle.jv_asm_builder.specs.Inside.Behind.{frames_behind}
use Rattle.jv_asm_builder.specs.Inside.Kept.{frame_kept}
use Rattle.jv_asm_builder.proofs.Forms.{contents_are}
use Rattle.jv_asm_builder.proofs.frame.stack_map_contents.Goals as goal

pub returns : goal.returns
returns c =
    let frames = map frame_kept c.args.frames.now in
    let count = length-map c.args.frames.now frame_kept in
    let written = (c.in_ok-put_half.ensures {u = tt}) ∙ ap (λ out. out ++ half.spelling (length c.args.frames.now)) c.new-out.ensures.items ∙ ap half.spelling (sym count) in
    contents_are frames c.put_frames.new.out.items (ap (λ n. n == 0) count ∙ sym c.is_empty.ensures ∙ c.if-is_empty.false) (omega arith)
    (ap (λ out. frames_behind out 0 frames) (sym written) ∙ (c.in_ok-put_frames.ensures {u = tt}))

pub returns-in_err-put_frames : goal.returns-in_err-put_frames
returns-in_err-put_frames c = grind (arith, common_steps)

pub returns-then-is_empty : goal.returns-then-is_empty
returns-then-is_empty c = grind (arith, common_steps)

pub returns-then-frames-gt65535 : goal.returns-then-frames-gt65535
returns-then-frames-gt65535 c = grind (arith, common_steps)
