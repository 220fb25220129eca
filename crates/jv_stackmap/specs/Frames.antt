-- Stack map frames (JVMS 4.7.4): what each frame makes of the one before, and what it comes to by words.
use Rattle.std.specs.Prelude.{◌≡◌, ℕ, zero, suc, ◌+◌, ◌-◌, ◌<◌, ◌≤◌, Bool, true, false, ◌&&◌, List, [], ◌∷◌, ◌++◌, length, reverse, replicate, nat_le, IsTrue, Option, Some, None, map, if◌then◌else◌}
use Rattle.std.specs.List.{flat_map, list_all, list_any}
use Rattle.jv_format.specs.Format.{◌>>=◌}
use Rattle.jv_pool.specs.Constants.{Entry, class_name_at}
use Rattle.jv_stackmap.specs.declared.item.Item.{Item}
use Rattle.jv_stackmap.specs.declared.item.Item.TheVariants as items
use Rattle.jv_stackmap.specs.declared.form.Form.TheVariants.{Same, SameItem, SameItemExtended, Chop, SameExtended, Append, Full}
use Rattle.jv_stackmap.specs.declared.limits.Limits.{Limits}
use Rattle.jv_stackmap.specs.declared.verification.VerificationTypeOf.TheVariants as types
use Rattle.jv_stackmap.specs.Bytes.{MapForm, form_fits, stack_map_bytes}
use Rattle.jv_stackmap.specs.Types.{FrameType, reference_type, words}

-- ---- the types of items

-- the type that the Class constant at an index names
abbrev pub object_type : List Entry → ℕ → Option FrameType
object_type pool class = class_name_at pool class >>= reference_type

-- the type of an item; an Object's index is that of a Class constant
abbrev pub type_of : List Entry → Item → Option FrameType
type_of pool items.Top = Some types.Top
type_of pool items.Integer = Some types.Int
type_of pool items.Long = Some types.Long
type_of pool items.Null = Some types.Null
type_of pool items.UninitializedThis = Some types.UninitializedThis
type_of pool (items.Object class) = object_type pool class
type_of pool (items.Uninitialized offset) = Some (types.Uninitialized offset)

-- ---- one frame behind another

-- A frame as a map has it: its offset in the code, in bytes, and its entries, where a long is one. Both lists have the
-- last entry first; that of the stack is its top. An entry is a type in `Maps`; what follows is said of whatever may stand
-- for one, since the frames that the code keeps are made in the same way.
pub record MapFrame (T : Type 0) : Type 0 where
  pub offset : ℕ
  pub locals : List T
  pub stack : List T

-- items laid on entries, one on the other, where each stands for an entry
abbrev pub laid : {T : Type 0} → (Item → Option T) → List T → List Item → Option (List T)
laid entry_of below [] = Some below
laid entry_of below (item ∷ more) = entry_of item >>= λ entry. laid entry_of (entry ∷ below) more

-- entries without so many of the last, where there are as many
abbrev pub chopped : {T : Type 0} → ℕ → List T → Option (List T)
chopped zero entries = Some entries
chopped (suc n) [] = None
chopped (suc n) (entry ∷ below) = chopped n below

-- the local entries of a frame, behind those of the one before
abbrev pub locals_behind : {T : Type 0} → (Item → Option T) → List T → MapForm → Option (List T)
locals_behind entry_of before (Chop count delta) = chopped count before
locals_behind entry_of before (Append delta locals) = laid entry_of before locals
locals_behind entry_of before (Full delta locals stack) = laid entry_of [] locals
locals_behind entry_of before _ = Some before

-- the stack, empty where no item is given
abbrev pub stack_in : {T : Type 0} → (Item → Option T) → MapForm → Option (List T)
stack_in entry_of (SameItem delta item) = laid entry_of [] (item ∷ [])
stack_in entry_of (SameItemExtended delta item) = laid entry_of [] (item ∷ [])
stack_in entry_of (Full delta locals stack) = laid entry_of [] stack
stack_in entry_of _ = Some []

-- the offset_delta
abbrev pub delta_of : MapForm → ℕ
delta_of (Same delta) = delta
delta_of (SameItem delta item) = delta
delta_of (SameItemExtended delta item) = delta
delta_of (Chop count delta) = delta
delta_of (SameExtended delta) = delta
delta_of (Append delta locals) = delta
delta_of (Full delta locals stack) = delta

abbrev pub map_frame : {T : Type 0} → ℕ → List T → List T → MapFrame T
map_frame offset locals stack = record { offset = offset; locals = locals; stack = stack }

-- The frame behind local entries, with its delta counted from a base.
abbrev pub frame_behind : {T : Type 0} → (Item → Option T) → ℕ → List T → MapForm → Option (MapFrame T)
frame_behind entry_of base before form =
    locals_behind entry_of before form >>= λ locals. stack_in entry_of form >>= λ stack.
    Some (map_frame (base + delta_of form) locals stack)

-- a frame that passes a test
abbrev pub frame_if : {T : Type 0} → (MapFrame T → Bool) → MapFrame T → Option (MapFrame T)
frame_if test frame = if test frame then Some frame else None

-- The frames one after the other, each of which passes a test: an offset is its delta more than the base, which behind a
-- frame is its offset and 1.
abbrev pub frames_behind : {T : Type 0} → (Item → Option T) → (MapFrame T → Bool) → ℕ → List T → List MapForm → Option (List (MapFrame T))
frames_behind entry_of test base before [] = Some []
frames_behind entry_of test base before (form ∷ more) =
    frame_behind entry_of base before form >>= frame_if test >>= λ f.
    frames_behind entry_of test (f.offset + 1) f.locals more >>= λ fs. Some (f ∷ fs)

-- the local variables and the stack fit max_locals and max_stack
abbrev pub is_within : Limits → MapFrame FrameType → Bool
is_within limits frame = nat_le (words frame.locals) limits.max_locals && nat_le (words frame.stack) limits.max_stack

-- ---- words

-- A frame by words (4.10.1.4): each local variable's type, from the first on, a long as long and top; the stack's items,
-- the top first, where a long is one item of two words (own); and flagThisUninit.
pub record Frame : Type 0 where
  pub locals : List FrameType
  pub stack : List FrameType
  pub flag_this_uninit : Bool

abbrev pub type_by_words : FrameType → List FrameType
type_by_words types.Long = types.Long ∷ types.Top ∷ []
type_by_words t = t ∷ []

-- the local variables of entries, the first first, with top behind the last
abbrev pub expanded : ℕ → List FrameType → List FrameType
expanded max_locals entries = flat_map type_by_words entries ++ replicate (max_locals - words entries) types.Top

abbrev pub is_uninitialized_this : FrameType → Bool
is_uninitialized_this types.UninitializedThis = true
is_uninitialized_this _ = false

-- the frame of local entries, the first first, and of a stack, the top first; it has the flag exactly where a local is
-- uninitializedThis
abbrev pub by_words : ℕ → List FrameType → List FrameType → Frame
by_words max_locals entries stack =
    record { locals = expanded max_locals entries; stack = stack; flag_this_uninit = list_any is_uninitialized_this entries }

-- a frame by words, at its offset
pub record PlacedFrame : Type 0 where
  pub offset : ℕ
  pub frame : Frame

abbrev pub placed_frame : ℕ → MapFrame FrameType → PlacedFrame
placed_frame max_locals f = record { offset = f.offset; frame = by_words max_locals (reverse f.locals) f.stack }

-- The bytes are a StackMapTable's contents, and these are its frames by words, behind initial local entries (the first
-- first), each within the limits. The first delta is the first offset.
pub record Maps (pool : List Entry) (limits : Limits) (initial : List FrameType) (bytes : List ℕ) (frames : List PlacedFrame) : Type 0 where
  pub forms : List MapForm
  pub spelled : bytes ≡ stack_map_bytes forms
  pub counted : length forms < 65536
  pub fit : IsTrue (list_all form_fits forms)
  pub entries : List (MapFrame FrameType)
  pub made : frames_behind (type_of pool) (is_within limits) 0 (reverse initial) forms ≡ Some entries
  pub expand : frames ≡ map (placed_frame limits.max_locals) entries

-- A law: local entries within max_locals come to max_locals local variables.
abbrev pub FillsLocals : Type 0
FillsLocals = (max_locals : ℕ) (entries : List FrameType) → IsTrue (nat_le (words entries) max_locals)
    → length (expanded max_locals entries) ≡ max_locals

-- A law: bytes have one list of frames at most.
abbrev pub OneMaps : Type 0
OneMaps =
    (pool : List Entry) (limits : Limits) (initial : List FrameType) (bytes : List ℕ) (one other : List PlacedFrame)
    → Maps pool limits initial bytes one → Maps pool limits initial bytes other → one ≡ other

-- offsets, each above the one before, from a base on
abbrev pub RiseFrom : ℕ → List PlacedFrame → Type 0
RiseFrom base [] = Unit {0}
RiseFrom base (f ∷ more) = (base ≤ f.offset) × RiseFrom (f.offset + 1) more

-- A law: the offsets of frames rise.
abbrev pub OffsetsRise : Type 0
OffsetsRise =
    (pool : List Entry) (limits : Limits) (initial : List FrameType) (bytes : List ℕ) (frames : List PlacedFrame)
    → Maps pool limits initial bytes frames → RiseFrom 0 frames
