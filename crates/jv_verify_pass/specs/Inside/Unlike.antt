-- Types at one place of two lists.
use Rattle.std.specs.Prelude.{Bool, false, Option, Some}
use Rattle.jv_stackmap.specs.Types.{FrameType}

-- both are there, and the one flows to the other
abbrev pub both_flow : (FrameType → FrameType → Bool) → Option FrameType → Option FrameType → Bool
both_flow flow (Some s) (Some t) = flow s t
both_flow flow _ _ = false
