use Rattle.std.proofs.Common.{◌≡◌, map, drop}
use Rattle.jv_asm_builder.specs.Inside.Behind.{frames_behind}
use Rattle.jv_asm_builder.specs.Inside.Kept.{frame_kept}
use Rattle.jv_asm_builder.proofs.frame.put_frames.Given as goal

abbrev pub invariant-loop-frame : goal.invariant-loop-frame
invariant-loop-frame l = frames_behind l.out.items l.base (drop l.frame-index (map frame_kept l.frames)) ≡ frames_behind l.fn.out.items 0 (map frame_kept l.frames)
