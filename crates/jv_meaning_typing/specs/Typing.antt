-- When the code of a method is type safe (JVMS 4.10.1.6): one assignment of frames to all offsets, by which each rule holds
-- at each instruction.
use Rattle.std.specs.Prelude.{◌≡◌, ◌⊎◌, ℕ, ◌+◌, ◌≤◌, ◌<◌, ◌==◌, Bool, true, false, not, ◌&&◌, ◌||◌, List, [], ◌∷◌, length, Option, Some, None, is_some, unwrap_or, IsTrue, IsSome, nat_le, nat_lt, if◌then◌else◌}
use Rattle.std.specs.List.{All, find, last_or, list_all}
use Rattle.std.specs.Option.{option_map}
use Rattle.jv_format.specs.Format.{◌>>=◌}
use Rattle.jv_format.specs.declared.handlers.Handler.{Handler}
use Rattle.jv_text.specs.Descriptor.{slots}
use Rattle.jv_text.specs.Name.{is_init}
use Rattle.jv_pool.specs.Constants.{class_name_at}
use Rattle.jv_class_structure.specs.Flags.{has, acc_static}
use Rattle.jv_stackmap.specs.declared.limits.Limits.{Limits}
use Rattle.jv_stackmap.specs.declared.verification.VerificationTypeOf.TheVariants as types
use Rattle.jv_stackmap.specs.Types.{FrameType, reference_type}
use Rattle.jv_stackmap.specs.Frames.{Frame, PlacedFrame, Maps}
use Rattle.jv_stackmap.specs.Initial.{initial_entries, initial_frame}
use Rattle.jv_code.specs.declared.insn.Insn.TheVariants as insns
use Rattle.jv_code.specs.Handlers.{HandlersFit}
use Rattle.jv_code.specs.Insns.{Instruction}
use Rattle.jv_code.specs.Successors.{falls_through, jump_targets}
use Rattle.jv_meaning_world.specs.Flow.{flows}
use Rattle.jv_meaning_world.specs.FrameFlow.{frame_flows}
use Rattle.jv_meaning_world.specs.World.{World}
use Rattle.jv_meaning_typing.specs.Uses.{Site}
use Rattle.jv_meaning_typing.specs.Environment.{Environment, IsEnvironment, current_class, offset_behind, instruction_at}
use Rattle.jv_meaning_typing.specs.FrameChanges.{with_stack}
use Rattle.jv_meaning_typing.specs.Named.{throwable_type}
use Rattle.jv_meaning_typing.specs.Rule.{rule, handler_frame}

-- ---- the code: the arguments' words, the receiver's among them, are within max_locals

abbrev pub is_static : Environment → Bool
is_static env = has env.site.method.access_flags acc_static

abbrev pub argument_words : Environment → ℕ
argument_words env = slots env.descriptor + (if is_static env then 0 else 1)

-- ---- handlers: each covers instructions and begins at one (4.7.3, 4.10.1.6), and what it catches is a Throwable

-- 0 is for any Throwable; else the type that the index names
abbrev pub catch_type : Environment → ℕ → Option FrameType
catch_type env index =
    if index == 0 then Some throwable_type else class_name_at (current_class env).constant_pool index >>= reference_type

abbrev pub catches_throwable : Environment → Handler → Bool
catches_throwable env handler =
    unwrap_or (option_map (λ type. flows env.world type throwable_type) (catch_type env handler.catch_type)) false

pub record HandlersKeepRules (env : Environment) : Type 0 where
  pub fit : HandlersFit env.code.code env.code.exception_table
  pub catch : IsTrue (list_all (catches_throwable env) env.code.exception_table)

-- ---- the stack map's frames (4.7.4), each at an instruction; what is not initialized there was made by a `new`

abbrev pub limits_of : Environment → Limits
limits_of env = record { max_locals = env.code.max_locals; max_stack = env.code.max_stack }

abbrev pub entries_before : Environment → List FrameType
entries_before env = initial_entries (current_class env).name (is_static env) (is_init env.site.method.name) env.descriptor.parameters

-- without the attribute there are no frames
abbrev pub HasFrames : Environment → Option (List ℕ) → List PlacedFrame → Type 0
HasFrames env None frames = frames ≡ []
HasFrames env (Some bytes) frames = Maps (current_class env).constant_pool (limits_of env) (entries_before env) bytes frames

abbrev pub is_new : Option Instruction → Bool
is_new (Some (insns.New index)) = true
is_new _ = false

abbrev pub is_made_by_new : Environment → FrameType → Bool
is_made_by_new env (types.Uninitialized offset) = is_new (instruction_at env offset)
is_made_by_new env _ = true

pub record FrameStands (env : Environment) (frame : PlacedFrame) : Type 0 where
  pub at : IsSome (instruction_at env frame.offset)
  pub locals : IsTrue (list_all (is_made_by_new env) frame.frame.locals)
  pub stack : IsTrue (list_all (is_made_by_new env) frame.frame.stack)

pub record AreFrames (env : Environment) (frames : List PlacedFrame) : Type 0 where
  pub spelled : HasFrames env env.code.stack_map_table frames
  pub stand : All (FrameStands env) frames

-- the frame at an offset; their offsets differ
abbrev pub frame_at : List PlacedFrame → ℕ → Option Frame
frame_at frames pc = option_map (λ f. f.frame) (find (λ f. f.offset == pc) frames)

-- ---- assignments

-- a frame for each offset at which an instruction starts; at other offsets it can be any
abbrev pub Assignment : Type 0
Assignment = ℕ → Frame

abbrev pub first_frame : Environment → Frame
first_frame env =
    initial_frame env.code.max_locals (current_class env).name (is_static env) (is_init env.site.method.name) env.descriptor.parameters

-- an instruction, its offset, and the frame that is left behind it, where control goes on
pub record GoesOnInto (env : Environment) (frames : Assignment) (pc : ℕ) (frame : Frame) : Type 0 where
  pub before : ℕ
  pub insn : Instruction
  pub starts : instruction_at env before ≡ Some insn
  pub next : pc ≡ offset_behind before insn
  pub goes_on : IsTrue (falls_through insn)
  pub left : rule env before insn (frames before) ≡ Some frame

-- the frame that falls into an offset: the initial one into the first, and what the instruction before leaves into another
abbrev pub FallsInto : Environment → Assignment → ℕ → Frame → Type 0
FallsInto env frames pc frame = ((pc ≡ 0) × (frame ≡ first_frame env)) ⊎ GoesOnInto env frames pc frame

-- An offset has the frame of the map that stands there, else the one that falls into it.
abbrev pub IsAssignedBy : Environment → Assignment → ℕ → Option Frame → Type 0
IsAssignedBy env frames pc (Some map) = frames pc ≡ map
IsAssignedBy env frames pc None = (frame : Frame) → FallsInto env frames pc frame → frames pc ≡ frame

-- ---- the rules at an offset

-- merge: what falls into a frame of the map flows to it, and where nothing falls there is one
abbrev pub Merges : Environment → Assignment → ℕ → Option Frame → Type 0
Merges env frames pc (Some map) = (frame : Frame) → FallsInto env frames pc frame → IsTrue (frame_flows env.world frame map)
Merges env frames pc None = (frame : Frame) × FallsInto env frames pc frame

abbrev pub covers : Handler → ℕ → Bool
covers handler pc = nat_le handler.start_pc pc && nat_lt pc handler.end_pc

-- a frame flows to the map's frame at an offset, where there is one
abbrev pub flows_into : Environment → Frame → Option Frame → Bool
flows_into env frame None = false
flows_into env frame (Some map) = frame_flows env.world frame map

-- the handler's frame, with what was thrown on the stack
abbrev pub with_thrown : Environment → Handler → Frame → Option Frame
with_thrown env handler frame = option_map (λ type. with_stack frame (type ∷ [])) (catch_type env handler.catch_type)

abbrev pub handles : Environment → List PlacedFrame → Frame → Handler → Bool
handles env maps frame handler =
    unwrap_or (option_map (λ thrown. flows_into env thrown (frame_at maps handler.handler_pc)) (with_thrown env handler frame)) false

-- covered handlers: what a handler that covers the instruction begins with flows to a frame of the map there
abbrev pub handlers_hold : Environment → List PlacedFrame → ℕ → Instruction → Frame → Bool
handlers_hold env maps pc insn frame =
    list_all (λ h. not (covers h pc) || handles env maps (handler_frame env insn frame) h) env.code.exception_table

-- instruction: it may stand behind its frame
abbrev pub instruction_holds : Environment → ℕ → Instruction → Frame → Bool
instruction_holds env pc insn frame = is_some (rule env pc insn frame)

-- branch targets: what it leaves flows to a frame of the map at each target
abbrev pub target_holds : Environment → List PlacedFrame → Frame → Option ℕ → Bool
target_holds env maps left None = false
target_holds env maps left (Some target) = flows_into env left (frame_at maps target)

abbrev pub targets_hold : Environment → List PlacedFrame → ℕ → Instruction → Frame → Bool
targets_hold env maps pc insn frame =
    unwrap_or (option_map (λ left. list_all (target_holds env maps left) (jump_targets pc insn)) (rule env pc insn frame)) false

-- all four at an instruction, in an assignment
pub record IsTypeSafe (env : Environment) (maps : List PlacedFrame) (frames : Assignment) (pc : ℕ) (insn : Instruction) : Type 0 where
  pub assigned : IsAssignedBy env frames pc (frame_at maps pc)
  pub merges : Merges env frames pc (frame_at maps pc)
  pub handled : IsTrue (handlers_hold env maps pc insn (frames pc))
  pub leaves : IsTrue (instruction_holds env pc insn (frames pc))
  pub targets : IsTrue (targets_hold env maps pc insn (frames pc))

-- they hold at all instructions below an offset
abbrev pub IsTypingBelow : Environment → List PlacedFrame → ℕ → Assignment → Type 0
IsTypingBelow env maps end frames =
    (pc : ℕ) (insn : Instruction) → instruction_at env pc ≡ Some insn → pc < end → IsTypeSafe env maps frames pc insn

abbrev pub last_instruction : Environment → Option Instruction
last_instruction env = last_or None env.instructions

-- end of code: control does not go on behind the last instruction
abbrev pub ends_code : Option Instruction → Bool
ends_code None = false
ends_code (Some insn) = not (falls_through insn)

-- ---- a typing

pub record IsTyping (env : Environment) (maps : List PlacedFrame) (frames : Assignment) : Type 0 where
  pub arguments : argument_words env ≤ env.code.max_locals
  pub handlers : HandlersKeepRules env
  pub stack_map : AreFrames env maps
  pub below : IsTypingBelow env maps (length env.code.code) frames
  pub end : IsTrue (ends_code (last_instruction env))

-- a method with code has a typing
pub record HasTyping (world : World) (site : Site) : Type 0 where
  pub env : Environment
  pub of : (env.world ≡ world) × (env.site ≡ site)
  pub is : IsEnvironment env
  pub maps : List PlacedFrame
  pub frames : Assignment
  pub typing : IsTyping env maps frames
