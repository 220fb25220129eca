-- The frames before the instructions of a method (JVMS 4.10.1.6): what falls into each, and what the stack map has there.
use Rattle.std.specs.Prelude.{◌≡◌, ℕ, List, Some, slice_get}
use Rattle.jv_class.specs.Class.{Method}
use Rattle.jv_stackmap.specs.Frames.{PlacedFrame}
use Rattle.jv_meaning_world.specs.World.{Loaded, World}
use Rattle.jv_meaning_world.specs.Verdicts.{declared_by}
use Rattle.jv_meaning_typing.specs.Environment.{Environment}
use Rattle.jv_meaning_typing.specs.Judgement.{WithFrames}
use Rattle.jv_verify_pass.specs.Before.{AreBefore, AreFramed, IsTypedBelow, IsTypedTo}
use Rattle.jv_verify_pass.specs.declared.before.FramesBefore.{FramesBefore}
use Rattle.jv_verify_pass.specs.declared.sink.FramedInsn.{FramedInsn}

-- this holds in an environment of the method with this number
pub record InMethod (world : World) (l : Loaded) (number : ℕ) (Holds : Environment → List PlacedFrame → Type 0) : Type 0 where
  pub method : Method
  pub at : slice_get l.class.methods number ≡ Some method
  pub holds : WithFrames world (declared_by l method) Holds

-- an instruction starts at an offset of it, and those below it are type safe
abbrev pub IsTypedIn : World → Loaded → (number pc : ℕ) → Type 0
IsTypedIn world l number pc = InMethod world l number (λ env maps. IsTypedTo env maps pc)

-- the same, or its code ends there
abbrev pub IsTypedBelowIn : World → Loaded → (number end : ℕ) → Type 0
IsTypedBelowIn world l number end = InMethod world l number (λ env maps. IsTypedBelow env maps end)

-- these frames stand before an instruction of it
abbrev pub AreBeforeIn : World → Loaded → (number pc : ℕ) → FramesBefore → Type 0
AreBeforeIn world l number pc found = InMethod world l number (λ env maps. AreBefore env maps pc found)

-- these are its instructions from the first on up to an offset, each with the frames before it
abbrev pub AreFramedIn : World → Loaded → (number stop : ℕ) → List FramedInsn → Type 0
AreFramedIn world l number stop all = InMethod world l number (λ env maps. AreFramed env maps 0 stop all)
