-- Which frame can stand where another is expected (JVMS 4.10.1.2, 4.10.1.4).
use Rattle.std.specs.Prelude.{Bool, true, false, not, ◌&&◌, ◌||◌, List, [], ◌∷◌}
use Rattle.jv_stackmap.specs.declared.verification.VerificationTypeOf.TheVariants as types
use Rattle.jv_stackmap.specs.Types.{FrameType}
use Rattle.jv_stackmap.specs.Frames.{Frame}
use Rattle.jv_meaning_world.specs.World.{World}
use Rattle.jv_meaning_world.specs.Flow.{flows}

-- two lists of one length, item by item
abbrev pub all_flow : (FrameType → FrameType → Bool) → List FrameType → List FrameType → Bool
all_flow flow [] [] = true
all_flow flow (s ∷ ss) (t ∷ ts) = flow s t && all_flow flow ss ts
all_flow flow _ _ = false

-- on the stack a long is one item of two words, and flows to a long alone (own)
abbrev pub item_flows : World → FrameType → FrameType → Bool
item_flows world types.Long types.Long = true
item_flows world types.Long _ = false
item_flows world s t = flows world s t

-- Local variables and stack items flow one by one, and where `this` may be uninitialized in the first frame, so it may
-- be in the second.
abbrev pub frame_flows : World → Frame → Frame → Bool
frame_flows world f g =
    all_flow (flows world) f.locals g.locals && all_flow (item_flows world) f.stack g.stack
    && (not f.flag_this_uninit || g.flag_this_uninit)
