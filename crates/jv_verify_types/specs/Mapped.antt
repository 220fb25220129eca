-- Frames of a stack map (JVMS 4.7.4) that stand over a class's constants and the initial local entries of a method, whose
-- types are known by number.
use Rattle.std.specs.Prelude.{ℕ, List, [], ◌∷◌, map, Option, ◌≡◌, Bool, length, reverse}
use Rattle.std.specs.Option.{option_map}
use Rattle.jv_stackmap.specs.declared.entry.FrameEntry.{FrameEntry}
use Rattle.jv_stackmap.specs.Entries.{ReadFrame, entry_type, frame_placed}
use Rattle.jv_stackmap.specs.Frames.{Frame, expanded, by_words, is_uninitialized_this}
use Rattle.jv_stackmap.specs.Types.{FrameType, words}
use Rattle.jv_meaning_world.specs.World.{World}
use Rattle.jv_meaning_typing.specs.Rule.{without_object}
use Rattle.jv_verify_types.specs.Typed.{typed, typed_all}
use Rattle.jv_verify_types.specs.Numbered.{Item, NumberFrame, frame_of}
use Rattle.jv_verify_types.specs.PoolTypes.{PoolTypes}
use Rattle.std.specs.List.{All, list_any}
use Rattle.jv_meaning_world.specs.FrameFlow.{frame_flows, all_flow, item_flows}
use Rattle.jv_meaning_world.specs.Flow.{flows}

-- what says which types entries stand for: the class's constants, and the types of the initial local entries, the first first
pub record EntryTypes : Type 0 where
  pub constants : PoolTypes
  pub initial : List Item

abbrev pub names_of_types : EntryTypes → List (List ℕ)
names_of_types types = types.constants.types.names

abbrev pub world_of_types : EntryTypes → World
world_of_types types = types.constants.types.world

abbrev pub initial_types : EntryTypes → List FrameType
initial_types types = typed_all (names_of_types types) types.initial

abbrev pub type_of_entry : EntryTypes → FrameEntry → FrameType
type_of_entry types entry = entry_type types.constants.pool (initial_types types) entry

abbrev pub types_of_entries : EntryTypes → List FrameEntry → List FrameType
types_of_entries types entries = map (entry_type types.constants.pool (initial_types types)) entries

-- the frame by words that a frame which was read stands for
abbrev pub frame_by_types : EntryTypes → ℕ → ReadFrame → Frame
frame_by_types types max_locals f = (frame_placed types.constants.pool (initial_types types) max_locals f).frame

-- the words of its local entries
abbrev pub local_entry_words : EntryTypes → ReadFrame → ℕ
local_entry_words types f = words (types_of_entries types f.locals)

-- what a handler begins with: the frame before the instruction, in which an object that the instruction constructs cannot
-- be used, and what was thrown alone on the stack
abbrev pub thrown_frame : List (List ℕ) → NumberFrame → Option Item → Item → Frame
thrown_frame names f object thrown = record {
  locals = without_object (option_map (typed names) object) (typed_all names f.locals);
  stack = typed names thrown ∷ [];
  flag_this_uninit = f.flag_this_uninit;
}

-- ---- frames and entries by types

-- the words of the types of entries, the last of which comes first, and top for what is behind them
abbrev pub expanded_entries : EntryTypes → ℕ → List FrameEntry → List FrameType
expanded_entries types count entries = expanded count (reverse (types_of_entries types entries))

abbrev pub locals_of : EntryTypes → NumberFrame → List FrameType
locals_of types frame = typed_all (names_of_types types) frame.locals

abbrev pub stack_of : EntryTypes → NumberFrame → List FrameType
stack_of types frame = typed_all (names_of_types types) frame.stack

-- the local variables without the object that is constructed
abbrev pub locals_without : EntryTypes → NumberFrame → Option Item → List FrameType
locals_without types frame object = without_object (option_map (typed (names_of_types types)) object) (locals_of types frame)

-- the frame before an instruction, and the one with which a handler begins, flow into one of the stack map
abbrev pub flows_to_map : EntryTypes → NumberFrame → ReadFrame → Bool
flows_to_map types frame map =
    frame_flows (world_of_types types) (frame_of (names_of_types types) frame) (frame_by_types types (length frame.locals) map)

abbrev pub thrown_flows_to_map : EntryTypes → NumberFrame → Option Item → Item → ReadFrame → Bool
thrown_flows_to_map types frame object thrown map =
    frame_flows (world_of_types types) (thrown_frame (names_of_types types) frame object thrown)
    (frame_by_types types (length frame.locals) map)

-- each frame has the words of its local entries
abbrev pub HaveWords : EntryTypes → List ReadFrame → Type 0
HaveWords types frames = All (λ f. f.local_words ≡ local_entry_words types f) frames

-- `this` is not initialized in a frame of the stack map
abbrev pub has_uninitialized_this : EntryTypes → ReadFrame → Bool
has_uninitialized_this types map = list_any is_uninitialized_this (reverse (types_of_entries types map.locals))

-- the local variables are those of entries, or the frame is the first one of a method, whatever the names are
abbrev pub HasLocalsOf : List Item → NumberFrame → NumberFrame → Type 0
HasLocalsOf entries old new =
    (names : List (List ℕ)) → typed_all names new.locals ≡ expanded (length old.locals) (typed_all names entries)

abbrev pub IsInitial : List Item → NumberFrame → NumberFrame → Type 0
IsInitial initial old new =
    (names : List (List ℕ)) → frame_of names new ≡ by_words (length old.locals) (typed_all names initial) []

-- local variables, or the items of a stack, flow to those of a frame of the stack map
abbrev pub locals_flow_to : EntryTypes → NumberFrame → Option Item → ReadFrame → Bool
locals_flow_to types frame object map =
    all_flow (flows (world_of_types types)) (locals_without types frame object) (expanded_entries types (length frame.locals) map.locals)

abbrev pub stack_flows_to : EntryTypes → List FrameType → ReadFrame → Bool
stack_flows_to types items map = all_flow (item_flows (world_of_types types)) items (types_of_entries types map.stack)
