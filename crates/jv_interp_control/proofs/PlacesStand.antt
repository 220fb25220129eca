-- Where an object is thrown: what is kept of the frames tells it (JVMS 2.6, 2.10; own).
use Rattle.std.proofs.Common.{◌≡◌, ℕ, zero, suc, List, [], ◌∷◌, Option, Some, drop, slice_get, refl, sym, ap, ◌∙◌}
use Rattle.std.specs.Option.{option_map, option_or}
use Rattle.jv_meaning_world.specs.Overriding.{Declared}
use Rattle.jv_meaning_world.proofs.Lists.{drop_there}
use Rattle.jv_meaning_machine.specs.Frames.{MethodFrame, Frame}
use Rattle.jv_meaning_machine.specs.Frames.Frame.{Runs, Initializes}
use Rattle.jv_meaning_machine.specs.State.{Program, ThrowPlace}
use Rattle.jv_meaning_machine.specs.Throws.{place_in}
use Rattle.jv_interp_words.specs.declared.records.MethodRecord.{MethodRecord}
use Rattle.jv_interp_words.specs.declared.records.FrameRecord.{FrameRecord}
use Rattle.jv_interp_words.specs.declared.records.FrameRecord.TheVariants as records
use Rattle.jv_interp_words.specs.FramesInWords.{MethodStands, AreFrames}
use Rattle.jv_interp_control.specs.declared.control.PlaceRecord.{PlaceRecord}
use Rattle.jv_interp_control.specs.ControlStands.{PlaceStands}
use Rattle.jv_interp_control.specs.Inside.Places.{record_place}
use Rattle.jv_interp_control.proofs.Entered.{is_entered}

-- the place in a method, by the method
abbrev place_at : Declared → ℕ → ThrowPlace
place_at d pc = record { class = d.by.class.name; method = d.method.name; descriptor = d.method.descriptor; offset = pc }

in_method :
    (program : Program) (addresses : List ℕ) (f : MethodFrame) (r : MethodRecord) (used under : List ℕ) (below : List Frame) (others : List FrameRecord)
    → MethodStands program addresses f r used under
    → PlaceStands program.world (place_in (Runs f ∷ below)) (record_place (records.Runs r ∷ others))
in_method program addresses f r used under below others h =
    let site = (is_entered program h.declared f.method h.entered).site_is in
    ap (option_map (λ d. place_at d r.pc)) h.has_number
    ∙ ap (λ (d : Declared). Some (place_at d r.pc)) (sym site)
    ∙ ap (λ (n : ℕ). Some (place_at f.method.site n)) h.pc_is

pub places_stand :
    (program : Program) (addresses : List ℕ) (frames : List Frame) (kept : List FrameRecord) (used : List ℕ) (k : ℕ)
    → AreFrames program addresses frames kept used → PlaceStands program.world (place_in (drop k frames)) (record_place (drop k kept))
places_stand program addresses [] [] used zero h = refl
places_stand program addresses [] [] used (suc k) h = refl
places_stand program addresses [] (r ∷ kept) used k h = absurd h
places_stand program addresses (Runs f ∷ frames) [] used k h = absurd h
places_stand program addresses (Initializes f ∷ frames) [] used k h = absurd h
places_stand program addresses (Runs f ∷ frames) (records.Initializes r ∷ kept) used k h = absurd h
places_stand program addresses (Initializes f ∷ frames) (records.Runs r ∷ kept) used k h = absurd h
places_stand program addresses (Runs f ∷ frames) (records.Runs r ∷ kept) used zero h = in_method program addresses f r used h.0 frames kept h.1
places_stand program addresses (Runs f ∷ frames) (records.Runs r ∷ kept) used (suc k) h = places_stand program addresses frames kept h.0 k h.2
places_stand program addresses (Initializes f ∷ frames) (records.Initializes r ∷ kept) used zero h = places_stand program addresses frames kept used zero h.1
places_stand program addresses (Initializes f ∷ frames) (records.Initializes r ∷ kept) used (suc k) h = places_stand program addresses frames kept used k h.1

-- and where none is a method's, another place
pub places_stand_or :
    (program : Program) (addresses : List ℕ) (frames : List Frame) (kept : List FrameRecord) (used : List ℕ) (k : ℕ) (place : Option ThrowPlace) (there : Option PlaceRecord)
    → AreFrames program addresses frames kept used → PlaceStands program.world place there
    → PlaceStands program.world (option_or (place_in (drop k frames)) place) (option_or (record_place (drop k kept)) there)
places_stand_or program addresses [] [] used zero place there h other = other
places_stand_or program addresses [] [] used (suc k) place there h other = other
places_stand_or program addresses [] (r ∷ kept) used k place there h other = absurd h
places_stand_or program addresses (Runs f ∷ frames) [] used k place there h other = absurd h
places_stand_or program addresses (Initializes f ∷ frames) [] used k place there h other = absurd h
places_stand_or program addresses (Runs f ∷ frames) (records.Initializes r ∷ kept) used k place there h other = absurd h
places_stand_or program addresses (Initializes f ∷ frames) (records.Runs r ∷ kept) used k place there h other = absurd h
places_stand_or program addresses (Runs f ∷ frames) (records.Runs r ∷ kept) used zero place there h other =
    in_method program addresses f r used h.0 frames kept h.1
places_stand_or program addresses (Runs f ∷ frames) (records.Runs r ∷ kept) used (suc k) place there h other =
    places_stand_or program addresses frames kept h.0 k place there h.2 other
places_stand_or program addresses (Initializes f ∷ frames) (records.Initializes r ∷ kept) used zero place there h other =
    places_stand_or program addresses frames kept used zero place there h.1 other
places_stand_or program addresses (Initializes f ∷ frames) (records.Initializes r ∷ kept) used (suc k) place there h other =
    places_stand_or program addresses frames kept used k place there h.1 other

-- ---- one by one

pub method_next :
    (kept : List FrameRecord) (k : ℕ) (r : MethodRecord) → slice_get kept k ≡ Some (records.Runs r)
    → Some (record { method = r.method; pc = r.pc }) ≡ record_place (drop k kept)
method_next kept k r e = sym (ap record_place (drop_there kept k (records.Runs r) e))

pub initialization_next :
    (kept : List FrameRecord) (k : ℕ) (r : _) → slice_get kept k ≡ Some (records.Initializes r)
    → record_place (drop k kept) ≡ record_place (drop (suc k) kept)
initialization_next kept k r e = ap record_place (drop_there kept k (records.Initializes r) e)
