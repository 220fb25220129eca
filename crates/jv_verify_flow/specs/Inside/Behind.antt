-- Local variables and items of a stack against entries, from the last on.
use Rattle.std.specs.Prelude.{◌≡◌, ℕ, ◌≤◌, ◌-◌, Bool, true, List, ◌++◌, length, drop, reverse, Option, Some, None, if◌then◌else◌, slice_get}
use Rattle.std.specs.List.{flat_map}
use Rattle.std.specs.Option.{option_map}
use Rattle.jv_stackmap.specs.declared.entry.FrameEntry.{FrameEntry}
use Rattle.jv_stackmap.specs.declared.entry.FrameEntry.TheVariants as entries
use Rattle.jv_stackmap.specs.declared.verification.VerificationTypeOf.TheVariants as types
use Rattle.jv_stackmap.specs.Frames.{type_by_words}
use Rattle.jv_stackmap.specs.Types.{FrameType, words}
use Rattle.jv_meaning_world.specs.Flow.{flows}
use Rattle.jv_meaning_world.specs.FrameFlow.{all_flow}
use Rattle.jv_meaning_world.specs.World.{World}
use Rattle.jv_meaning_typing.specs.FrameChanges.{is_same_object}
use Rattle.jv_verify_types.specs.Typed.{typed}
use Rattle.jv_verify_types.specs.Numbered.{Item, NumberFrame}
use Rattle.jv_verify_types.specs.Mapped.{EntryTypes, names_of_types, world_of_types, type_of_entry}

-- a local variable, once an object cannot be used any more
abbrev pub left_in : Option FrameType → FrameType → FrameType
left_in None local = local
left_in (Some object) local = if is_same_object object local then types.Top else local

-- whether a local variable flows to an entry of a frame, once an object cannot be used any more
abbrev pub local_flows_to : EntryTypes → Option Item → Item → FrameEntry → Bool
local_flows_to t object local entry =
    flows (world_of_types t) (left_in (option_map (typed (names_of_types t)) object) (typed (names_of_types t) local))
    (type_of_entry t entry)

-- one type is the local variable's at an index, once an object cannot be used any more, and the other is an entry's
pub record AreLeft (t : EntryTypes) (frame : NumberFrame) (object : Option Item) (at : ℕ) (entry : FrameEntry) (left item : Item)
    : Type 0 where
  pub local : Item
  pub there : slice_get frame.locals at ≡ Some local
  pub left_is : typed (names_of_types t) left ≡ left_in (option_map (typed (names_of_types t)) object) (typed (names_of_types t) local)
  pub item_is : typed (names_of_types t) item ≡ type_of_entry t entry

-- what an entry of one word stands for that is top or an int
abbrev pub narrow_item : FrameEntry → Item
narrow_item entries.Top = types.Top
narrow_item entry = types.Int

-- the words of entries, of which the last is first
abbrev pub words_of_entries : List FrameType → List FrameType
words_of_entries entries = flat_map type_by_words (reverse entries)

-- Entries are left, of which the last is first, before an index: what is behind them flows, so all flow exactly where those
-- before do.
pub record FlowsBehind (world : World) (locals : List FrameType) (whole : Bool) (left : List FrameType) (at : ℕ) : Type 0 where
  pub rest : List FrameType
  pub all : whole ≡ all_flow (flows world) locals (words_of_entries left ++ rest)
  pub behind : all_flow (flows world) (drop at locals) rest ≡ true
  pub counted : words left ≡ at
  pub room : at ≤ length locals

-- Items of a stack, some of which are left: those above flow, so all flow exactly where these do.
pub record ItemsFlow (f : FrameType → FrameType → Bool) (items whole : List FrameType) (height left : ℕ) (rest : List FrameType)
    : Type 0 where
  pub all : all_flow f items whole ≡ all_flow f (drop (height - left) items) rest
  pub counted : length items ≡ height
  pub room : left ≤ height
