use Rattle.std.proofs.Common.{map, take}
use Rattle.std.specs.Fmt.{HasWritten, IsPlainFormatter}
use Rattle.std.specs.List.{flat_map}
use Rattle.jv_stackmap.specs.Seen.{seen_type}
use Rattle.jv_shown.specs.Frames.{next_text}
use Rattle.jv_shown.proofs.frame.ShownMoreDisplay.fmt.Given as goal

abbrev pub invariant-loop-item : goal.invariant-loop-item
invariant-loop-item g l =
    IsPlainFormatter l.initial.f → HasWritten g.W.Write.write_str_gives l.initial.f (flat_map next_text (map seen_type (take l.item-index l.types))) l.f
