-- Handlers by where they begin to cover, of which some have begun where an offset has come (JVMS 4.7.3, 4.10.1.6).
use Rattle.std.specs.Prelude.{◌≡◌, ◌⊎◌, ⊤, ℕ, ◌+◌, ◌<◌, ◌≤◌, Bool, true, false, not, ◌||◌, List, [], ◌∷◌, get_or, length, max, set, slice_get, Option, Some, None, if◌then◌else◌}
use Rattle.std.specs.List.{list_all}
use Rattle.std.specs.List.Sorted.{IsNonDecreasingBy}
use Rattle.jv_format.specs.declared.handlers.Handler.{Handler}
use Rattle.jv_stackmap.specs.Entries.{ReadFrame}
use Rattle.jv_stackmap.specs.Frames.{Frame}
use Rattle.jv_code.specs.Insns.{Instruction}
use Rattle.jv_meaning_typing.specs.Environment.{Environment}
use Rattle.jv_meaning_typing.specs.Rule.{handler_frame}
use Rattle.jv_meaning_typing.specs.Typing.{catch_type, covers, handles}
use Rattle.jv_verify_types.specs.Typed.{typed}
use Rattle.jv_verify_types.specs.Numbered.{Item, NumberFrame, frame_of}
use Rattle.jv_meaning_world.specs.Flow.{flows}
use Rattle.jv_verify_types.specs.Mapped.{names_of_types, stack_flows_to, world_of_types, EntryTypes}
use Rattle.jv_verify_maps.specs.Words.{MapWords, map_by_words}
use Rattle.jv_verify_known.specs.Known.{local_at, word_at, KnownLocals}
use Rattle.jv_verify_open.specs.Open.{end_of, holds, AllFlow, AreOpenAsBefore, AreWanting, HaveFlowed, OpenFrames, TopFlowsWhere}
use Rattle.jv_verify_pass.specs.Pass.{Pass, IsFrameAt, IsOfPass, maps_of, names_in}
use Rattle.jv_verify_pass.specs.Inside.Settled.{IsLeft}

-- handlers by where they begin to cover, how many of them have, the frames of the map at which these begin, and the greatest end: of all,
-- and of those that begin at frames in which `this` is initialized
pub record Openings : Type 0 where
  pub sorted : List Handler
  pub next : ℕ
  pub frames : OpenFrames
  pub last_end : ℕ
  pub end_without_this : ℕ

-- each handler that covers an offset passes a test
abbrev pub passes_at : ℕ → (Handler → Bool) → Handler → Bool
passes_at offset test handler = not (covers handler offset) || test handler

-- each of some handlers does where each of others does
abbrev pub AreAsGood : ℕ → List Handler → List Handler → Type 0
AreAsGood offset handlers others =
    (test : Handler → Bool) → list_all (passes_at offset test) handlers ≡ list_all (passes_at offset test) others

abbrev pub start_of : Handler → ℕ
start_of handler = handler.start_pc

abbrev pub AreInOrder : List Handler → Type 0
AreInOrder handlers = IsNonDecreasingBy start_of handlers

-- A handler begins at the frame of the map at a place, to whose stack what it catches flows.
pub record LeadsTo (pass : Pass) (handler : Handler) (place : ℕ) : Type 0 where
  pub map : ReadFrame
  pub there : slice_get pass.frames place ≡ Some map
  pub is : IsFrameAt pass handler.handler_pc (Some map)
  pub thrown : Item
  pub catches : (env : Environment) → IsOfPass pass env → Some (typed (names_in pass) thrown) ≡ catch_type env handler.catch_type
  pub stack : stack_flows_to pass.types (typed (names_in pass) thrown ∷ []) map ≡ true

-- No frame flows to one at which it begins.
abbrev pub CantHold : Pass → Handler → Type 0
CantHold pass handler =
    (env : Environment) (insn : Instruction) (frame : Frame) → IsOfPass pass env
    → handles env (maps_of pass) (handler_frame env insn frame) handler ≡ false

-- What a handler begins with, where an object can't be used any more, does not flow to the frame at which it begins.
abbrev pub HoldsNot : Pass → NumberFrame → Handler → Type 0
HoldsNot pass frame handler =
    (env : Environment) (insn : Instruction) (object : Option Item) → IsOfPass pass env → IsLeft env insn (names_in pass) frame object
    → handles env (maps_of pass) (handler_frame env insn (frame_of (names_in pass) frame)) handler ≡ false

-- a handler that has begun to cover, and does so before an offset, begins at a frame that is open as long
abbrev pub IsBegun : Pass → OpenFrames → Handler → Type 0
IsBegun pass frames handler = (place : ℕ) × LeadsTo pass handler place × (handler.end_pc ≤ end_of frames place)

-- a frame is open as long as a handler covers that begins there
pub record IsOpenBy (pass : Pass) (openings : Openings) (offset place : ℕ) : Type 0 where
  pub at : ℕ
  pub handler : Handler
  pub begun : at < openings.next
  pub there : slice_get openings.sorted at ≡ Some handler
  pub leads : LeadsTo pass handler place
  pub start : handler.start_pc ≤ offset
  pub end : handler.end_pc ≡ end_of openings.frames place

-- `this` is not initialized in the frame at a place
abbrev pub has_this_at : MapWords → ℕ → Bool
has_this_at words place = get_or words.with_this place false

-- Those of a method at an offset, or behind the last one that was asked of.
pub record AreOpenings (pass : Pass) (words : MapWords) (offset : ℕ) (openings : Openings) : Type 0 where
  pub handlers : (at : ℕ) → AreAsGood at openings.sorted pass.handlers
  pub order : AreInOrder openings.sorted
  pub few : length openings.sorted < 4294967295
  pub within : openings.next ≤ length openings.sorted
  pub opens : openings.frames.opens ≤ openings.next
  pub many : 0 < length openings.sorted → length openings.frames.ends ≡ length words.frames
  pub wanting : AreWanting pass.types words openings.frames offset
  pub begun : (k : ℕ) (h : Handler) → k < openings.next → slice_get openings.sorted k ≡ Some h → offset < h.end_pc
      → IsBegun pass openings.frames h
  pub opened : (place : ℕ) → offset < end_of openings.frames place → IsOpenBy pass openings offset place
  pub last : (place : ℕ) → end_of openings.frames place ≤ openings.last_end
  pub without_this : (place : ℕ) → has_this_at words place ≡ false → end_of openings.frames place ≤ openings.end_without_this
  pub one_without : 0 < openings.end_without_this
      → (place : ℕ) × (has_this_at words place ≡ false) × (openings.end_without_this ≤ end_of openings.frames place)

-- Each handler that begins to cover at an offset or before has begun.
abbrev pub AllBegun : Openings → ℕ → Type 0
AllBegun openings offset =
    (k : ℕ) (h : Handler) → openings.next ≤ k → slice_get openings.sorted k ≡ Some h → offset < h.start_pc

-- A frame of the map is opened, or for longer, at which a handler begins.
pub record IsOpened (pass : Pass) (words : MapWords) (offset : ℕ) (locals : List Item) (handler : Handler) (old new : Openings)
    : Type 0 where
  pub place : ℕ
  pub leads : LeadsTo pass handler place
  pub longer : end_of old.frames place < handler.end_pc
  pub within : place < length old.frames.ends
  pub here : (k : ℕ) → flows (world_of_types pass.types) (local_at pass.types locals k) (word_at pass.types words place k) ≡ true
  pub ends : new.frames.ends ≡ set old.frames.ends place handler.end_pc
  pub opens : new.frames.opens ≡ old.frames.opens + 1
  pub wanting : AreWanting pass.types words new.frames offset
  pub sorted : new.sorted ≡ old.sorted
  pub next : new.next ≡ old.next
  pub last : new.last_end ≡ max old.last_end handler.end_pc
  pub without : new.end_without_this ≡ (if has_this_at words place then old.end_without_this else max old.end_without_this handler.end_pc)

-- A handler begins: it has ended, or begins at a frame that is open as long, or opens one.
abbrev pub Begins : Pass → MapWords → ℕ → List Item → Handler → Openings → Openings → Type 0
Begins pass words offset locals handler old new =
    ((new ≡ old) × (offset < handler.end_pc → IsBegun pass old.frames handler)) ⊎ IsOpened pass words offset locals handler old new

-- One handler more has begun, if it covers the instruction, and the local variables flow to all frames that are open.
pub record HasBegun (pass : Pass) (words : MapWords) (offset : ℕ) (locals : List Item) (old new : Openings) : Type 0 where
  pub openings : AreOpenings pass words offset new
  pub flow : AllFlow pass.types words new.frames offset locals
  pub sorted : new.sorted ≡ old.sorted
  pub next : new.next ≡ old.next + 1

-- Handlers of a method whose frames the local variables flowed into, where these were not written since.
pub record AreHandled (pass : Pass) (known : KnownLocals) (now : Openings) (offset : ℕ) (locals : List Item) : Type 0 where
  pub openings : AreOpenings pass known.words offset now
  pub flowed : HaveFlowed pass.types known now.frames offset locals
  pub settled : now.frames.handled < known.writes.next

-- the frames of the stack map are known by words
abbrev pub IsByWords : Pass → MapWords → Type 0
IsByWords pass words = words ≡ map_by_words pass.types pass.frames

-- What a flag, and an object that can't be used any more, ask of the frames that are open.
abbrev pub ObjectFlows : EntryTypes → MapWords → Openings → ℕ → NumberFrame → Option Item → Type 0
ObjectFlows types words openings offset frame None = ⊤
ObjectFlows types words openings offset frame (Some object) =
    TopFlowsWhere types words openings.frames offset (λ k. holds (names_of_types types) object frame.locals k ≡ true)

pub record RestFlows (types : EntryTypes) (words : MapWords) (openings : Openings) (offset : ℕ) (frame : NumberFrame)
    (unusable : Option Item) : Type 0 where
  pub flag : frame.flag_this_uninit ≡ true → openings.end_without_this ≤ offset
  pub object : ObjectFlows types words openings offset frame unusable

-- the same handlers, of which the same have begun, and the same frames are open
pub record OpensSame (old new : Openings) : Type 0 where
  pub sorted : new.sorted ≡ old.sorted
  pub next : new.next ≡ old.next
  pub frames : AreOpenAsBefore old.frames new.frames
  pub last_end : new.last_end ≡ old.last_end
  pub end_without_this : new.end_without_this ≡ old.end_without_this

abbrev pub IsListed : List Handler → Handler → Type 0
IsListed handlers handler = (k : ℕ) × (slice_get handlers k ≡ Some handler)
