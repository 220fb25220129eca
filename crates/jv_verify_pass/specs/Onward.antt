-- What goes on from an instruction to a frame of the stack map into which it doesn't flow (JVMS 4.10.1.6, 4.10.1.9), and the first place
-- at which the two differ.
use Rattle.std.specs.Prelude.{ℕ, suc, Bool, not, ◌&&◌, List, [], ◌∷◌, Option, Some, None, if◌then◌else◌}
use Rattle.std.specs.List.{find}
use Rattle.std.specs.Option.{option_map, option_or}
use Rattle.jv_format.specs.Format.{◌>>=◌}
use Rattle.jv_format.specs.declared.handlers.Handler.{Handler}
use Rattle.jv_stackmap.specs.Types.{FrameType}
use Rattle.jv_stackmap.specs.Frames.{Frame, PlacedFrame}
use Rattle.jv_code.specs.Insns.{Instruction}
use Rattle.jv_code.specs.Successors.{jump_targets}
use Rattle.jv_meaning_world.specs.Flow.{flows}
use Rattle.jv_meaning_world.specs.FrameFlow.{item_flows}
use Rattle.jv_meaning_world.specs.World.{World}
use Rattle.jv_meaning_typing.specs.Environment.{Environment}
use Rattle.jv_meaning_typing.specs.Rule.{handler_frame, rule}
use Rattle.jv_meaning_typing.specs.Typing.{covers, frame_at, handles, target_holds, with_thrown}
use Rattle.jv_verify_pass.specs.declared.difference.Difference.{Difference}
use Rattle.jv_verify_pass.specs.declared.difference.Difference.TheVariants.{Local, Item, Flag}

-- ---- where a frame doesn't flow into another one (4.10.1.2)

-- the first place of two lists at which the one type doesn't flow to the other, or only one of the lists has a type
abbrev pub first_unlike : (FrameType → FrameType → Bool) → List FrameType → List FrameType → Option ℕ
first_unlike flow [] [] = None
first_unlike flow (s ∷ ss) (t ∷ ts) = if flow s t then option_map (λ k. suc k) (first_unlike flow ss ts) else Some 0
first_unlike flow _ _ = Some 0

abbrev pub flag_difference : Bool → Option Difference
flag_difference differs = if differs then Some Flag else None

-- of the local variables, then of the stack, the top first, then of the flag; none where the frame flows
abbrev pub first_difference : World → Frame → Frame → Option Difference
first_difference world f g =
    option_or (option_map (λ k. Local k) (first_unlike (flows world) f.locals g.locals))
    (option_or (option_map (λ k. Item k) (first_unlike (item_flows world) f.stack g.stack))
    (flag_difference (f.flag_this_uninit && not g.flag_this_uninit)))

-- ---- what goes on from an instruction

-- a frame that goes on to an offset, none where a jump goes to no offset, where it doesn't flow into the frame of the stack map, which may
-- have none there; and the first place at which these two differ
pub record Unmet : Type 0 where
  pub frame : Frame
  pub to : Option ℕ
  pub map : Option Frame
  pub differ : Option Difference

abbrev pub map_there : List PlacedFrame → Option ℕ → Option Frame
map_there maps to = to >>= frame_at maps

abbrev pub unmet : Environment → List PlacedFrame → Frame → Option ℕ → Unmet
unmet env maps frame to = record {
  frame = frame;
  to = to;
  map = map_there maps to;
  differ = map_there maps to >>= first_difference env.world frame;
}

-- covered handlers: the first one, in the order of the table, that covers the instruction and doesn't hold; and what it begins with
abbrev pub is_unhandled : Environment → List PlacedFrame → ℕ → Frame → Handler → Bool
is_unhandled env maps pc begun h = covers h pc && not (handles env maps begun h)

abbrev pub first_unhandled : Environment → List PlacedFrame → ℕ → Instruction → Frame → Option Handler
first_unhandled env maps pc insn frame = find (is_unhandled env maps pc (handler_frame env insn frame)) env.code.exception_table

abbrev pub begins_unmet : Environment → List PlacedFrame → Frame → Handler → Option Unmet
begins_unmet env maps begun h = option_map (λ thrown. unmet env maps thrown (Some h.handler_pc)) (with_thrown env h begun)

-- branch targets: what the instruction leaves, at the first target that doesn't hold, of a switch the default's first
abbrev pub left_unmet : Environment → List PlacedFrame → ℕ → Instruction → Frame → Option Unmet
left_unmet env maps pc insn left =
    option_map (unmet env maps left) (find (λ t. not (target_holds env maps left t)) (jump_targets pc insn))

-- from an instruction behind this frame: to the first handler, else to the first target, as their rules come
abbrev pub unmet_by : Environment → List PlacedFrame → ℕ → Instruction → Frame → Option Handler → Option Unmet
unmet_by env maps pc insn frame (Some h) = begins_unmet env maps (handler_frame env insn frame) h
unmet_by env maps pc insn frame None = rule env pc insn frame >>= left_unmet env maps pc insn

abbrev pub unmet_behind : Environment → List PlacedFrame → ℕ → Instruction → Frame → Option Unmet
unmet_behind env maps pc insn frame = unmet_by env maps pc insn frame (first_unhandled env maps pc insn frame)
