-- The handler that takes what is thrown (JVMS 2.10).
use Rattle.std.specs.Prelude.{◌≡◌, ℕ, List, Option}
use Rattle.std.specs.Option.{option_map}
use Rattle.jv_format.specs.declared.handlers.Handler.{Handler}
use Rattle.jv_meaning_world.specs.World.{World}
use Rattle.jv_meaning_machine.specs.Frames.{MethodFrame}
use Rattle.jv_meaning_machine.specs.State.{Program}
use Rattle.jv_meaning_machine.specs.Throws.{handler_for}
use Rattle.jv_interp_words.specs.declared.records.MethodRecord.{MethodRecord}
use Rattle.jv_interp_words.specs.FramesInWords.{MethodStands}
use Rattle.jv_interp_heap.specs.ObjectsInBlocks.{HasNumber}

abbrev pub pc_of : Handler → ℕ
pc_of handler = handler.handler_pc

-- ---- in a method that stands in a frame

-- an object of a class is thrown there
pub record Handling (world : World) (own : MethodRecord) (class : ℕ) (program : Program) (addresses : List ℕ)
    (frame : MethodFrame) (used below : List ℕ) (name : List ℕ) : Type 0 where
  pub world_is : program.world ≡ world
  pub stands : MethodStands program addresses frame own used below
  pub has_number : HasNumber program.world name class

pub record CanHandle (world : World) (own : MethodRecord) (class : ℕ) : Type 0 where
  pub program : Program
  pub addresses : List ℕ
  pub frame : MethodFrame
  pub used : List ℕ
  pub below : List ℕ
  pub name : List ℕ
  pub handling : Handling world own class program addresses frame used below name

abbrev pub IsHandled : World → MethodRecord → ℕ → Option ℕ → Type 0
IsHandled world own class pc =
    (program : Program) (addresses : List ℕ) (frame : MethodFrame) (used below : List ℕ) (name : List ℕ)
    → Handling world own class program addresses frame used below name → pc ≡ option_map pc_of (handler_for program.world name frame)
