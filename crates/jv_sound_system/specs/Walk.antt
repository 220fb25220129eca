-- A test of a method: its code is gone over once, with the frame that falls into each instruction.
use Rattle.std.specs.Prelude.{ℕ, Bool, true, false, ◌&&◌, nat_le, nat_lt, List, [], ◌∷◌, length, map, Option, Some, None, is_some, if◌then◌else◌}
use Rattle.std.specs.List.{list_all}
use Rattle.std.specs.Option.{option_map}
use Rattle.std.specs.Str.{bytes_eq}
use Rattle.jv_text.specs.Descriptor.{MethodDescriptor}
use Rattle.jv_text.specs.Types.{method_type_of}
use Rattle.jv_class_structure.specs.Parts.{CodeSeen}
use Rattle.jv_class.specs.Class.{Method}
use Rattle.jv_stackmap.specs.Bytes.{MapForm, form_fits, stack_map_bytes}
use Rattle.jv_stackmap.specs.Frames.{Frame, PlacedFrame, type_of, is_within, frames_behind, placed_frame}
use Rattle.std.specs.Prelude.{reverse}
use Rattle.std.specs.List.{flat_map}
use Rattle.jv_code.specs.Insns.{Instruction, insn_bytes}
use Rattle.jv_code.specs.Places.{all_fit}
use Rattle.jv_code.specs.Successors.{falls_through}
use Rattle.jv_meaning_world.specs.FrameFlow.{frame_flows}
use Rattle.jv_meaning_world.specs.World.{Loaded, World}
use Rattle.jv_meaning_world.specs.Verdicts.{declared_by}
use Rattle.jv_meaning_typing.specs.Uses.{Site}
use Rattle.jv_meaning_typing.specs.Environment.{Environment, current_class, offset_behind, instruction_at}
use Rattle.jv_meaning_typing.specs.Rule.{rule}
use Rattle.jv_meaning_typing.specs.Typing.{argument_words, limits_of, entries_before, is_made_by_new, frame_at, first_frame, handlers_hold, instruction_holds, targets_hold, ends_code, last_instruction}

-- ---- the code

-- the frame at an offset: that of the map, else the one that falls there
abbrev pub frame_here : Option Frame → Option Frame → Option Frame
frame_here (Some map) falls = Some map
frame_here None falls = falls

abbrev pub merges_into : World → Option Frame → Option Frame → Bool
merges_into world (Some frame) (Some map) = frame_flows world frame map
merges_into world falls map = true

abbrev pub holds_at : Environment → List PlacedFrame → ℕ → Instruction → Frame → Bool
holds_at env maps pc insn frame = handlers_hold env maps pc insn frame &&
    (instruction_holds env pc insn frame && targets_hold env maps pc insn frame)

-- what falls into the next instruction
abbrev pub left_behind : Environment → ℕ → Instruction → Frame → Option Frame
left_behind env pc insn frame = if falls_through insn then rule env pc insn frame else None

abbrev pub with_frame : Option Frame → (Frame → Bool) → Bool
with_frame None test = false
with_frame (Some frame) test = test frame

abbrev pub walks : Environment → List PlacedFrame → ℕ → Option Frame → List Instruction → Bool
walks env maps pc falls [] = true
walks env maps pc falls (insn ∷ more) =
    with_frame (frame_here (frame_at maps pc) falls) (λ frame.
    merges_into env.world falls (frame_at maps pc)
    && (holds_at env maps pc insn frame && walks env maps (offset_behind pc insn) (left_behind env pc insn frame) more))

-- ---- the stack map

-- what is shown of a method beside its class: its instructions, and the forms of its stack map
pub record Shown : Type 0 where
  pub instructions : List Instruction
  pub forms : List MapForm

abbrev pub frames_of : Environment → List MapForm → Option (List PlacedFrame)
frames_of env forms =
    option_map (map (placed_frame env.code.max_locals)) (frames_behind (type_of (current_class env).constant_pool)
    (is_within (limits_of env)) 0 (reverse (entries_before env)) forms)

abbrev pub spells_map : Environment → List MapForm → Option (List ℕ) → Option (List PlacedFrame)
spells_map env forms None = Some []
spells_map env forms (Some bytes) =
    if bytes_eq bytes (stack_map_bytes forms) && (nat_lt (length forms) 65536 && list_all form_fits forms) then frames_of env forms else
    None

abbrev pub frame_stands : Environment → PlacedFrame → Bool
frame_stands env frame =
    is_some (instruction_at env frame.offset) && (list_all (is_made_by_new env) frame.frame.locals && list_all
    (is_made_by_new env) frame.frame.stack)

-- ---- a method

abbrev pub is_code : List ℕ → List Instruction → Bool
is_code bytes insns = bytes_eq bytes (flat_map insn_bytes insns) &&
    (all_fit 0 insns && (nat_le 1 (length bytes) && nat_le (length bytes) 65535))

abbrev pub has_no_handlers : CodeSeen → Bool
has_no_handlers code = nat_le (length code.exception_table) 0

abbrev pub types_with : Environment → Option (List PlacedFrame) → Bool
types_with env None = false
types_with env (Some maps) = list_all (frame_stands env) maps && walks env maps 0 (Some (first_frame env)) env.instructions

abbrev pub types_in : Environment → List MapForm → Bool
types_in env forms =
    is_code env.code.code env.instructions
    && (nat_le (argument_words env) env.code.max_locals
    && (has_no_handlers env.code
    && (ends_code (last_instruction env) && types_with env (spells_map env forms env.code.stack_map_table))))

abbrev pub in_environment : World → Site → MethodDescriptor → CodeSeen → List Instruction → Environment
in_environment world site descriptor code instructions =
    record { world = world; site = site; descriptor = descriptor; code = code; instructions = instructions }

abbrev pub types_code : World → Site → Shown → Option MethodDescriptor → Option CodeSeen → Bool
types_code world site shown descriptor None = true
types_code world site shown None (Some code) = false
types_code world site shown (Some descriptor) (Some code) = types_in
    (in_environment world site descriptor code shown.instructions) shown.forms

abbrev pub types_method : World → Loaded → Shown → Method → Bool
types_method world l shown m = types_code world (declared_by l m) shown (method_type_of m.descriptor) m.code
