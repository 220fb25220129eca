-- The frames of a stack map by words (JVMS 4.7.4, 4.10.1.4).
use Rattle.std.specs.Prelude.{◌≡◌, ℕ, Bool, List, [], ◌∷◌, get_or, map, reverse, take}
use Rattle.std.specs.List.{flat_map, list_any}
use Rattle.jv_stackmap.specs.declared.entry.FrameEntry.{FrameEntry}
use Rattle.jv_stackmap.specs.declared.entry.FrameEntry.TheVariants as entries
use Rattle.jv_stackmap.specs.declared.verification.VerificationTypeOf.TheVariants as types
use Rattle.jv_stackmap.specs.Types.{FrameType}
use Rattle.jv_stackmap.specs.Entries.{ReadFrame}
use Rattle.jv_stackmap.specs.Frames.{is_uninitialized_this}
use Rattle.jv_verify_types.specs.Mapped.{EntryTypes, type_of_entry}

-- for each frame of a map its local variables by words, up to the last local entry, and whether one is `this`, not initialized
pub record MapWords : Type 0 where
  pub frames : List (List FrameEntry)
  pub with_this : List Bool

-- an entry by words, by its type: a long is itself and top
abbrev pub words_by : FrameEntry → FrameType → List FrameEntry
words_by entry types.Long = entry ∷ entries.Top ∷ []
words_by entry _ = entry ∷ []

abbrev pub entry_by_words : EntryTypes → FrameEntry → List FrameEntry
entry_by_words types entry = words_by entry (type_of_entry types entry)

-- the words of local entries, the last of which comes first
abbrev pub locals_by_words : EntryTypes → List FrameEntry → List FrameEntry
locals_by_words types locals = flat_map (entry_by_words types) (reverse locals)

abbrev pub frame_by_words : EntryTypes → ReadFrame → List FrameEntry
frame_by_words types f = locals_by_words types f.locals

-- `this`, not initialized, is among the local entries of a frame
abbrev pub frame_has_this : EntryTypes → ReadFrame → Bool
frame_has_this types f = list_any (λ entry. is_uninitialized_this (type_of_entry types entry)) (reverse f.locals)

-- the frames of a map by words
abbrev pub map_by_words : EntryTypes → List ReadFrame → MapWords
map_by_words types frames = record { frames = map (frame_by_words types) frames; with_this = map (frame_has_this types) frames }

-- the words of the frame at a place
abbrev pub words_at : MapWords → ℕ → List FrameEntry
words_at map place = get_or map.frames place []

-- two frames have as many words, the first ones, alike
abbrev pub Agree : MapWords → ℕ → ℕ → ℕ → Type 0
Agree map place other count = take count (words_at map place) ≡ take count (words_at map other)
