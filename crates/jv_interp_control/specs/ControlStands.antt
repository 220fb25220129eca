-- How a guest's control is kept (JVMS 5.5; own): classes and methods are known by their numbers.
use Rattle.std.specs.Prelude.{◌≡◌, ℕ, ⊤, List, Option, Some, None, slice_get}
use Rattle.std.specs.Option.{option_and_then, option_map}
use Rattle.jv_meaning_world.specs.World.{World}
use Rattle.jv_meaning_machine.specs.State.{ThrowPlace, Control as ControlOfNames, End as EndOfNames}
use Rattle.jv_meaning_machine.specs.State.End.{Running, Returned, Threw, NoMain}
use Rattle.jv_meaning_machine.specs.Initialization.{main_method}
use Rattle.jv_interp_words.specs.FramesInWords.{methods_of}
use Rattle.jv_interp_heap.specs.ObjectsInBlocks.{HasNumber}
use Rattle.jv_interp_held.specs.ClassStates.{AreClassStates}
use Rattle.jv_interp_control.specs.declared.control.PlaceRecord.{PlaceRecord}
use Rattle.jv_interp_control.specs.declared.control.Control.{Control}
use Rattle.jv_interp_control.specs.declared.control.End.{End}
use Rattle.jv_interp_control.specs.declared.control.End.TheVariants as ends

-- a class that may be none
abbrev pub IsClassOf : World → Option (List ℕ) → Option ℕ → Type 0
IsClassOf world None None = ⊤
IsClassOf world (Some name) (Some number) = HasNumber world name number
IsClassOf world _ _ = ⊥

-- a method has a number among those of all classes
abbrev pub place_by : World → PlaceRecord → Option ThrowPlace
place_by world kept =
    option_map
    (λ d. record { class = d.by.class.name; method = d.method.name; descriptor = d.method.descriptor; offset = kept.pc })
    (slice_get (methods_of world) kept.method)

abbrev pub PlaceStands : World → Option ThrowPlace → Option PlaceRecord → Type 0
PlaceStands world place kept = option_and_then (place_by world) kept ≡ place

abbrev pub EndStands : World → EndOfNames → End → Type 0
EndStands world Running ends.Running = ⊤
EndStands world Returned ends.Returned = ⊤
EndStands world (Threw class) (ends.Threw number) = HasNumber world class number
EndStands world NoMain ends.NoMain = ⊤
EndStands world _ _ = ⊥

-- The words that are left are kept beside the frames.
pub record ControlStands (world : World) (control : ControlOfNames) (kept : Control) : Type 0 where
  pub states : AreClassStates world control.states kept.states.items
  pub throws : control.throws ≡ kept.throws
  pub last : IsClassOf world control.last kept.last
  pub place : PlaceStands world control.place kept.place
  pub main : option_and_then (slice_get (methods_of world)) kept.main ≡ main_method world control.main
  pub end : EndStands world control.end kept.end
