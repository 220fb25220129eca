-- The frames before an instruction (JVMS 4.10.1.6): the one that falls into it, and that of the stack map; and what goes on from it to
-- where it doesn't flow. With names for numbers.
use Rattle.std.specs.Prelude.{◌≡◌, ℕ, List, [], ◌∷◌, map, Option, Some, None, IsSome}
use Rattle.std.specs.List.{FoldsTo}
use Rattle.std.specs.Option.{option_map}
use Rattle.jv_format.specs.Format.{◌>>=◌}
use Rattle.jv_stackmap.specs.Seen.{seen_type}
use Rattle.jv_stackmap.specs.Frames.{Frame, PlacedFrame}
use Rattle.jv_code.specs.Insns.{Instruction, instruction_of}
use Rattle.jv_code.specs.Places.{IsStartOrEnd}
use Rattle.jv_meaning_typing.specs.Environment.{Environment, instruction_at, offset_behind}
use Rattle.jv_meaning_typing.specs.Typing.{Assignment, FallsInto, IsTypingBelow, frame_at}
use Rattle.jv_verify_pass.specs.declared.named.NamedFrame.{NamedFrame}
use Rattle.jv_verify_pass.specs.Onward.{Unmet, unmet_behind}
use Rattle.jv_verify_pass.specs.declared.before.FramesBefore.{FramesBefore}
use Rattle.jv_verify_pass.specs.declared.onward.NamedUnmet.{NamedUnmet}
use Rattle.jv_verify_pass.specs.declared.sink.FramedInsn.{FramedInsn}

-- what falls into an offset: one frame, or none
abbrev pub Falls : Environment → Assignment → ℕ → Option Frame → Type 0
Falls env frames pc (Some frame) = FallsInto env frames pc frame
Falls env frames pc None = (frame : Frame) → FallsInto env frames pc frame → ⊥

-- an instruction starts at an offset, and those below it are type safe in one assignment
pub record IsTypedTo (env : Environment) (maps : List PlacedFrame) (pc : ℕ) : Type 0 where
  pub frames : Assignment
  pub below : IsTypingBelow env maps pc frames
  pub starts : IsSome (instruction_at env pc)

-- an instruction starts at an offset, or the code ends there, and those below it are type safe in one assignment
pub record IsTypedBelow (env : Environment) (maps : List PlacedFrame) (end : ℕ) : Type 0 where
  pub frames : Assignment
  pub below : IsTypingBelow env maps end frames
  pub ends : IsStartOrEnd env.code.code end

-- the frame before an instruction: that of the stack map, where it has one there, else what falls there
abbrev pub frame_before : (falling map : Option Frame) → Option Frame
frame_before falling None = falling
frame_before falling (Some map) = Some map

-- the frame that falls into an offset, or none, in an assignment in which the instructions below are type safe; and the frame of the stack
-- map there, or none
pub record FramesStand (env : Environment) (maps : List PlacedFrame) (pc : ℕ) (falling map : Option Frame) : Type 0 where
  pub frames : Assignment
  pub below : IsTypingBelow env maps pc frames
  pub falls : Falls env frames pc falling
  pub at : frame_at maps pc ≡ map

-- the same, and what goes on from the instruction there to where it doesn't flow, or none
pub record StandBefore (env : Environment) (maps : List PlacedFrame) (pc : ℕ) (falling map : Option Frame) (unmet : Option Unmet)
    : Type 0 where
  pub stand : FramesStand env maps pc falling map
  pub insn : Instruction
  pub starts : instruction_at env pc ≡ Some insn
  pub onward : frame_before falling map >>= unmet_behind env maps pc insn ≡ unmet

-- ---- with names for numbers

abbrev pub seen_frame : NamedFrame → Frame
seen_frame f = record {
  locals = map seen_type f.locals.items;
  stack = map seen_type f.stack.items;
  flag_this_uninit = f.flag_this_uninit;
}

abbrev pub seen_unmet : NamedUnmet → Unmet
seen_unmet u = record { frame = seen_frame u.frame; to = u.to; map = option_map seen_frame u.map; differ = u.differ }

-- these frames stand before the instruction at an offset, and this goes on from it
abbrev pub AreBefore : Environment → List PlacedFrame → ℕ → FramesBefore → Type 0
AreBefore env maps pc found =
    StandBefore env maps pc (option_map seen_frame found.falling) (option_map seen_frame found.map) (option_map seen_unmet found.unmet)

-- these are the instructions from an offset on up to a later one, each with the frames before it
abbrev pub AreFramed : Environment → List PlacedFrame → (pc stop : ℕ) → List FramedInsn → Type 0
AreFramed env maps pc stop [] = pc ≡ stop
AreFramed env maps pc stop (f ∷ more) =
    (f.offset ≡ pc) × (instruction_at env pc ≡ Some (instruction_of f.insn))
    × FramesStand env maps pc (option_map seen_frame f.falling) (option_map seen_frame f.map)
    × AreFramed env maps (offset_behind pc (instruction_of f.insn)) stop more

-- a sink took some instructions one after the other, of which this holds
abbrev pub TookAll : {S : Type 0} → (S → FramedInsn → S → Type 0) → (old new : S) → (List FramedInsn → Type 0) → Type 0
TookAll takes old new Are = (all : List FramedInsn) × FoldsTo takes old all new × Are all
