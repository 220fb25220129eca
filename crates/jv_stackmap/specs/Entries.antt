-- What frames that were read hold (JVMS 4.7.4), and which frames by words they stand for. An entry is an item of the map, or
-- an initial local entry, by its place; so which types the initial ones have is the caller's affair, and an entry has its class by
-- the index of its constant.
use Rattle.std.specs.Prelude.{◌≡◌, ℕ, ◌<◌, Option, List, length, drop, map, sum_by, slice_index_or, unwrap_or, IsSome}
use Rattle.std.specs.List.{All}
use Rattle.std.specs.Option.{option_map}
use Rattle.jv_pool.specs.Constants.{Entry, class_name_at}
use Rattle.jv_stackmap.specs.declared.entry.FrameEntry.{FrameEntry}
use Rattle.jv_stackmap.specs.declared.entry.FrameEntry.TheVariants as entries
use Rattle.jv_stackmap.specs.declared.width.Width.{Width}
use Rattle.jv_stackmap.specs.declared.width.Width.TheVariants.{One, Two}
use Rattle.jv_stackmap.specs.declared.verification.VerificationTypeOf.TheVariants as types
use Rattle.jv_stackmap.specs.Types.{FrameType, width}
use Rattle.jv_stackmap.specs.Frames.{object_type, MapFrame, map_frame, PlacedFrame, placed_frame}

-- ---- types

-- The type that an entry stands for, by the pool and the types of the initial local entries. An index that names no class
-- and a place behind the last, which no frame that was read holds (`HoldsKnown`), would stand for top.
abbrev pub entry_type : List Entry → List FrameType → FrameEntry → FrameType
entry_type pool initial entries.Top = types.Top
entry_type pool initial entries.Int = types.Int
entry_type pool initial entries.Long = types.Long
entry_type pool initial entries.Null = types.Null
entry_type pool initial entries.UninitializedThis = types.UninitializedThis
entry_type pool initial (entries.Object class) = unwrap_or (object_type pool class) types.Top
entry_type pool initial (entries.Uninitialized offset) = types.Uninitialized offset
entry_type pool initial (entries.Initial place) = slice_index_or initial place types.Top

-- ---- frames

-- A frame that was read: its offset in the code, in bytes; its local entries, the last first, and their words; and its
-- stack, the top first.
pub record ReadFrame : Type 0 where
  pub offset : ℕ
  pub locals : List FrameEntry
  pub local_words : ℕ
  pub stack : List FrameEntry

abbrev pub offset_of : ReadFrame → ℕ
offset_of f = f.offset

-- two frames have the same local entries below so many of the last of each
abbrev pub SharesBelow : ℕ × ℕ → Option ReadFrame → Option ReadFrame → Type 0
SharesBelow above one other = option_map (λ f. drop above.0 f.locals) one ≡ option_map (λ f. drop above.1 f.locals) other

abbrev pub frame_typed : List Entry → List FrameType → ReadFrame → MapFrame FrameType
frame_typed pool initial f = map_frame f.offset (map (entry_type pool initial) f.locals) (map (entry_type pool initial) f.stack)

abbrev pub frame_placed : List Entry → List FrameType → ℕ → ReadFrame → PlacedFrame
frame_placed pool initial max_locals f = placed_frame max_locals (frame_typed pool initial f)

-- the frames by words that frames which were read stand for
abbrev pub frames_placed : List Entry → List FrameType → ℕ → List ReadFrame → List PlacedFrame
frames_placed pool initial max_locals frames = map (frame_placed pool initial max_locals) frames

-- the entry is no Object whose index names no class, and no initial local entry at a place behind the last
abbrev pub IsKnown : List Entry → List Width → FrameEntry → Type 0
IsKnown pool widths (entries.Object class) = IsSome (class_name_at pool class)
IsKnown pool widths (entries.Initial place) = place < length widths
IsKnown pool widths _ = Unit {0}

-- each entry of a frame is known
pub record HoldsKnown (pool : List Entry) (widths : List Width) (f : ReadFrame) : Type 0 where
  pub locals : All (IsKnown pool widths) f.locals
  pub stack : All (IsKnown pool widths) f.stack

-- ---- words

abbrev pub word_count : Width → ℕ
word_count One = 1
word_count Two = 2

-- the types have these widths, one by one
pub record HaveWidths (initial : List FrameType) (widths : List Width) : Type 0 where
  pub alike : map width initial ≡ map word_count widths

-- the words of an entry, by the widths of the initial ones
abbrev pub entry_words : List Width → FrameEntry → ℕ
entry_words widths entries.Long = 2
entry_words widths (entries.Initial place) = word_count (slice_index_or widths place One)
entry_words widths _ = 1

abbrev pub words_in : List Width → List FrameEntry → ℕ
words_in widths list = sum_by (entry_words widths) list

abbrev pub HasItsWords : List Width → ReadFrame → Type 0
HasItsWords widths f = f.local_words ≡ words_in widths f.locals
