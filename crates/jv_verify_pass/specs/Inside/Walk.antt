-- How far a walk over the code has come, and what a step of it finds.
use Rattle.std.specs.Prelude.{◌≡◌, ◌<◌, ◌≤◌, ℕ, ℤ, length, IsTrue, Bool, List, ◌∷◌, map, Option, Some, None, if◌then◌else◌, Result, IfOk}
use Rattle.std.specs.List.{list_all}
use Rattle.jv_code.specs.Insns.{Instruction}
use Rattle.jv_code.specs.Switches.{pair_distance, pairs_in}
use Rattle.jv_code.specs.Targets.{target_of}
use Rattle.jv_code.specs.Successors.{falls_through, jump_targets}
use Rattle.jv_stackmap.specs.Frames.{Frame, PlacedFrame}
use Rattle.jv_meaning_world.specs.World.{World}
use Rattle.jv_meaning_world.specs.FrameFlow.{frame_flows}
use Rattle.jv_meaning_typing.specs.declared.verdict.VerifyRule.{VerifyRule}
use Rattle.jv_meaning_typing.specs.Environment.{Environment, offset_behind}
use Rattle.jv_meaning_typing.specs.Typing.{Assignment, IsAssignedBy, Merges, IsTypingBelow, frame_at, target_holds, ends_code, last_instruction}
use Rattle.jv_meaning_typing.specs.Judgement.{BreaksFirst}
use Rattle.jv_verify_types.specs.Numbered.{NumberFrame, frame_of}
use Rattle.jv_verify_types.specs.Outcomes.{IsFrame}
use Rattle.jv_verify_pass.specs.declared.walk.Walked.{Walked}
use Rattle.jv_verify_pass.specs.declared.walk.Walked.TheVariants.{Broken, Reached}
use Rattle.jv_verify_pass.specs.Before.{Falls}
use Rattle.jv_verify_pass.specs.Found.{IsBroken}
use Rattle.jv_verify_pass.specs.Pass.{Pass, IsFrameAt, IsOfPass, maps_of, names_in}

-- the instructions below an offset are type safe, and this falls into it
pub record Reaches (env : Environment) (maps : List PlacedFrame) (pc : ℕ) (falling : Option Frame) : Type 0 where
  pub frames : Assignment
  pub below : IsTypingBelow env maps pc frames
  pub falls : Falls env frames pc falling

-- from an offset on, and before another, the map has no frame
abbrev pub AreBare : Pass → ℕ → ℕ → Type 0
AreBare pass from until = (offset : ℕ) → from ≤ offset → offset < until → IsFrameAt pass offset None

-- the frame before an instruction: that of the map, to which flows what falls there, else what falls there
abbrev pub merged : World → Option Frame → Option Frame → Option Frame
merged world None (Some map) = Some map
merged world (Some frame) (Some map) = if frame_flows world frame map then Some map else None
merged world falling None = falling

-- the instructions below an offset are type safe, and this is the frame before that one
pub record Stands (env : Environment) (maps : List PlacedFrame) (pc : ℕ) (frame : Frame) : Type 0 where
  pub frames : Assignment
  pub below : IsTypingBelow env maps pc frames
  pub assigned : IsAssignedBy env frames pc (frame_at maps pc)
  pub merges : Merges env frames pc (frame_at maps pc)
  pub is : frames pc ≡ frame

-- a frame that goes on, or none
abbrev pub when_falls : Bool → Frame → Option Frame
when_falls falls frame = if falls then Some frame else None

-- what is left flows to a frame of the map at a distance from the instruction
abbrev pub distance_holds : Environment → List PlacedFrame → Frame → ℕ → ℤ → Bool
distance_holds env maps left pc distance = target_holds env maps left (target_of pc distance)

abbrev pub pair_holds : Environment → List PlacedFrame → Frame → ℕ → ℤ × ℤ → Bool
pair_holds env maps left pc pair = distance_holds env maps left pc (pair_distance pair)

-- at those of a switch, the default one first
abbrev pub table_holds : Environment → List PlacedFrame → Frame → ℕ → ℤ → List ℤ → Bool
table_holds env maps left pc default distances = list_all (target_holds env maps left) (map (target_of pc) (default ∷ distances))

-- at each target
abbrev pub all_hold : Environment → List PlacedFrame → Frame → ℕ → Instruction → Bool
all_hold env maps left pc insn = list_all (target_holds env maps left) (jump_targets pc insn)

-- what a step over an instruction finds: it goes on with what is left, or this rule is the first that is broken
abbrev pub IsStep : Environment → List PlacedFrame → ℕ → Instruction → Frame → Option VerifyRule → Type 0
IsStep env maps pc insn left None = Reaches env maps (offset_behind pc insn) (when_falls (falls_through insn) left)
IsStep env maps pc insn left (Some rule) = BreaksFirst env maps pc rule

-- the same at an offset at which an instruction starts, or behind the last one, behind which control does not go on
pub record Progress (env : Environment) (maps : List PlacedFrame) (pc : ℕ) (falling : Option Frame) : Type 0 where
  pub reaches : Reaches env maps pc falling
  pub end : pc ≡ length env.code.code → IsTrue (ends_code (last_instruction env))

-- ---- in every environment of a method

-- what falls into an instruction, or nothing, was made the frame before it, or there is none
abbrev pub IsMerged : {E : Type 0} → Pass → ℕ → Bool → NumberFrame → NumberFrame → Result Bool E → Type 0
IsMerged pass offset falling old new answer =
    (env : Environment) → IsOfPass pass env
    → IfOk answer (IsFrame (names_in pass)
    (merged env.world (when_falls falling (frame_of (names_in pass) old)) (frame_at (maps_of pass) offset)) new)

-- what a walk up to an offset finds: the first rule that is broken below it, or what is left falls into it, or doesn't
abbrev pub IsWalked : Environment → List PlacedFrame → ℕ → Frame → Walked → Type 0
IsWalked env maps end left (Broken fault) = (fault.offset < end) × IsBroken env maps fault.offset fault.rule
IsWalked env maps end left (Reached falls) = Progress env maps end (when_falls falls left)

-- where it begins with a frame at the first instruction
abbrev pub IsWalkedFrom : {E : Type 0} → Pass → NumberFrame → ℕ → NumberFrame → Result Walked E → Type 0
IsWalkedFrom pass old end new answer =
    (env : Environment) → IsOfPass pass env → Reaches env (maps_of pass) 0 (Some (frame_of (names_in pass) old))
    → IfOk answer (IsWalked env (maps_of pass) end (frame_of (names_in pass) new))

-- as many local variables as the method has are left, where it reaches the offset
abbrev pub HasLocals : ℕ → NumberFrame → Walked → Type 0
HasLocals count left (Broken fault) = Unit {0}
HasLocals count left (Reached falls) = length left.locals ≡ count

-- the distances of the pairs of a lookupswitch
abbrev pub distances_of : List ℕ → List ℤ
distances_of pairs = map pair_distance (pairs_in pairs)
