-- Frames of a stack map at which handlers begin that cover an instruction (JVMS 4.7.3, 4.10.1.6).
use Rattle.std.specs.Prelude.{◌≡◌, ◌⊎◌, ℕ, ◌/◌, ◌<◌, ◌≤◌, Bool, true, false, List, get_or, length, slice_get, unwrap_or}
use Rattle.std.specs.Option.{option_map}
use Rattle.jv_stackmap.specs.declared.verification.VerificationTypeOf.TheVariants as variants
use Rattle.jv_stackmap.specs.Types.{FrameType}
use Rattle.jv_meaning_world.specs.Flow.{flows}
use Rattle.jv_meaning_typing.specs.FrameChanges.{is_same_object}
use Rattle.jv_verify_types.specs.Typed.{typed}
use Rattle.jv_verify_types.specs.Numbered.{Item}
use Rattle.jv_verify_types.specs.Mapped.{EntryTypes, names_of_types, world_of_types}
use Rattle.jv_verify_maps.specs.Words.{MapWords, words_at}
use Rattle.jv_verify_known.specs.Known.{KnownLocals, HoldsSince, local_at, word_at}
use Rattle.jv_verify_wants.specs.Wanted.{IsWanted, Wants}
use Rattle.jv_verify_wants.specs.Inside.Allowed.{AreAllowed}

-- for each frame of the map the offset before which handlers that begin at it cover, 0 where none does; how many frames had been opened
-- when it was last, 0 where it never was; how many were; for each block of 16 local variables how many had been when what they want of it
-- was found; what they want; and the number of the last write when the local variables flowed to all
pub record OpenFrames : Type 0 where
  pub ends : List ℕ
  pub opened : List ℕ
  pub opens : ℕ
  pub found : List ℕ
  pub wants : Wants
  pub handled : ℕ

abbrev pub end_of : OpenFrames → ℕ → ℕ
end_of frames place = get_or frames.ends place 0

-- a type flows to the word with an index of each frame that is open at an offset
abbrev pub FlowsToOpen : EntryTypes → MapWords → OpenFrames → ℕ → ℕ → FrameType → Type 0
FlowsToOpen types words frames offset k t =
    (place : ℕ) → offset < end_of frames place → flows (world_of_types types) t (word_at types words place k) ≡ true

-- each local variable does
abbrev pub AllFlow : EntryTypes → MapWords → OpenFrames → ℕ → List Item → Type 0
AllFlow types words frames offset locals = (k : ℕ) → FlowsToOpen types words frames offset k (local_at types locals k)

-- top does where something holds of the index
abbrev pub TopFlowsWhere : EntryTypes → MapWords → OpenFrames → ℕ → (ℕ → Type 0) → Type 0
TopFlowsWhere types words frames offset P = (k : ℕ) → P k → FlowsToOpen types words frames offset k variants.Top

-- each does that was not written since it was asked last
abbrev pub HaveFlowed : EntryTypes → KnownLocals → OpenFrames → ℕ → List Item → Type 0
HaveFlowed types known frames offset locals =
    HoldsSince known.writes frames.handled (λ k. FlowsToOpen types known.words frames offset k (local_at types locals k))

-- a type is wanted of a local variable at an offset
abbrev pub IsTypeWanted : EntryTypes → Wants → ℕ → FrameType → ℕ → Type 0
IsTypeWanted types wants k t offset = (item : Item) × (typed (names_of_types types) item ≡ t) × IsWanted wants k item offset

abbrev pub IsTopOrWanted : EntryTypes → Wants → ℕ → FrameType → ℕ → Type 0
IsTopOrWanted types wants k t offset = (t ≡ variants.Top) ⊎ IsTypeWanted types wants k t offset

-- From an offset on, what is wanted of local variables, of which a method has at most 65,535 (JVMS 4.11), is what frames that are open have
-- there; all of it where they were opened before it was found; and what is remembered is true.
pub record AreWanting (types : EntryTypes) (words : MapWords) (frames : OpenFrames) (offset : ℕ) : Type 0 where
  pub wanted : (place k later : ℕ) → k < 65535 → get_or frames.opened place 0 ≤ get_or frames.found (k / 16) 0 → offset ≤ later
      → later < end_of frames place → IsTopOrWanted types frames.wants k (word_at types words place k) later
  pub only : (k later : ℕ) (item : Item) → offset ≤ later → IsWanted frames.wants k item later
      → (place : ℕ) × (later < end_of frames place) × (word_at types words place k ≡ typed (names_of_types types) item)
  pub allowed : AreAllowed types.constants.types offset frames.wants

-- nothing but what is wanted, and of which blocks it was found, is another
pub record AreOpenAsBefore (old new : OpenFrames) : Type 0 where
  pub ends : new.ends ≡ old.ends
  pub opened : new.opened ≡ old.opened
  pub opens : new.opens ≡ old.opens
  pub handled : new.handled ≡ old.handled

-- the local variables flow to all that are open since a write
abbrev pub settled : ℕ → OpenFrames → OpenFrames
settled number frames = record frames { handled = number }

-- no frame of the map has more words than there are local variables
abbrev pub HaveRoom : MapWords → ℕ → Type 0
HaveRoom words max_locals = (place : ℕ) → length (words_at words place) ≤ max_locals

-- a local variable holds an object that is not initialized
abbrev pub holds : List (List ℕ) → Item → List Item → ℕ → Bool
holds names object locals k =
    unwrap_or (option_map (λ local. is_same_object (typed names object) (typed names local)) (slice_get locals k)) false
