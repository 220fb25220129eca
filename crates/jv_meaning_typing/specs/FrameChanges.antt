-- What instructions do to a frame (JVMS 4.10.1.4): they take items from the stack and give one, load and store local
-- variables, and change what stands for an object under construction.
use Rattle.std.specs.Prelude.{ℕ, zero, suc, Bool, true, false, ◌==◌, nat_le, List, [], ◌∷◌, ◌++◌, length, map, reverse, drop, Option, Some, None, if◌then◌else◌}
use Rattle.std.specs.List.{list_all, list_any}
use Rattle.std.specs.Option.{option_map}
use Rattle.jv_format.specs.Format.{◌>>=◌}
use Rattle.jv_stackmap.specs.declared.verification.VerificationTypeOf.TheVariants as types
use Rattle.jv_stackmap.specs.declared.width.Width.{Width}
use Rattle.jv_stackmap.specs.declared.width.Width.TheVariants.{One, Two}
use Rattle.jv_stackmap.specs.Types.{FrameType}
use Rattle.jv_stackmap.specs.Frames.{Frame}
use Rattle.jv_code.specs.declared.kinds.ValueKind.{ValueKind}
use Rattle.jv_code.specs.declared.kinds.ValueKind.TheVariants as kinds
use Rattle.jv_meaning_world.specs.World.{World}
use Rattle.jv_meaning_world.specs.FrameFlow.{item_flows}

abbrev pub with_stack : Frame → List FrameType → Frame
with_stack frame stack = record frame { stack = stack }

abbrev pub with_locals : Frame → List FrameType → Frame
with_locals frame locals = record frame { locals = locals }

-- ---- the stack, whose top is first

-- an object, an array or null, also one that is not initialized: what JVMS 4.10.1.2 calls a reference
abbrev pub is_reference : FrameType → Bool
is_reference types.Null = true
is_reference types.UninitializedThis = true
is_reference (types.Class name) = true
is_reference (types.Array components) = true
is_reference (types.Uninitialized offset) = true
is_reference _ = false

abbrev pub is_of_kind : ValueKind → FrameType → Bool
is_of_kind kinds.Int types.Int = true
is_of_kind kinds.Long types.Long = true
is_of_kind kinds.Reference type = is_reference type
is_of_kind _ _ = false

-- an item that flows to each of these types is taken from the top
abbrev pub taken_as_all : World → List FrameType → List FrameType → Option (List FrameType)
taken_as_all world expected [] = None
taken_as_all world expected (item ∷ below) = if list_all (item_flows world item) expected then Some below else None

-- one that flows to one of them
abbrev pub taken_as_any : World → List FrameType → List FrameType → Option (List FrameType)
taken_as_any world expected [] = None
taken_as_any world expected (item ∷ below) = if list_any (item_flows world item) expected then Some below else None

-- one of a kind: the item, and what is below it
abbrev pub taken_of_kind : ValueKind → List FrameType → Option (FrameType × List FrameType)
taken_of_kind kind [] = None
taken_of_kind kind (item ∷ below) = if is_of_kind kind item then Some (item, below) else None

abbrev pub taken_downward : World → List FrameType → List FrameType → Option (List FrameType)
taken_downward world [] stack = Some stack
taken_downward world (expected ∷ more) stack = taken_as_all world (expected ∷ []) stack >>= λ below. taken_downward world more below

-- items that flow to these types, one by one, the last of which stands on top
abbrev pub taken : World → List FrameType → List FrameType → Option (List FrameType)
taken world expected stack = taken_downward world (reverse expected) stack

-- such items are taken, and what is given, one item or none, is put in their place
abbrev pub exchanged : World → List FrameType → List FrameType → Frame → Option Frame
exchanged world expected given frame = taken world expected frame.stack >>= λ below. Some (with_stack frame (given ++ below))

-- top, which no instruction takes, has no width on the stack
abbrev pub item_width : FrameType → Option Width
item_width types.Top = None
item_width types.Long = Some Two
item_width _ = Some One

-- ---- local variables, a long as long and top

-- These words stand in the local variables from an index on, where there are as many. A long that loses its second word
-- to them becomes top.
abbrev pub stored : List FrameType → ℕ → List FrameType → Option (List FrameType)
stored words zero locals = if nat_le (length words) (length locals) then Some (words ++ drop (length words) locals) else None
stored words (suc index) [] = None
stored words (suc zero) (types.Long ∷ more) = option_map (λ rest. types.Top ∷ rest) (stored words zero more)
stored words (suc index) (local ∷ more) = option_map (λ rest. local ∷ rest) (stored words index more)

-- ---- objects under construction

-- both are the same object, which is not initialized
abbrev pub is_same_object : FrameType → FrameType → Bool
is_same_object types.UninitializedThis types.UninitializedThis = true
is_same_object (types.Uninitialized o) (types.Uninitialized p) = o == p
is_same_object _ _ = false

-- all copies of such an object get another type
abbrev pub replaced : FrameType → FrameType → List FrameType → List FrameType
replaced object type list = map (λ t. if is_same_object object t then type else t) list
