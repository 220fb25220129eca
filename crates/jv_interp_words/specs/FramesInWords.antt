-- How frames stand in words (JVMS 2.5.2, 2.6): those of all frames are one list, the newest frame's behind the others'; of each frame
-- first the local variables, and then the stack. What a caller passes stands on its stack, and where it stands it is the first
-- local variables of what is called.
use Rattle.std.specs.Prelude.{◌≡◌, ℕ, ◌≤◌, List, [], ◌∷◌, ◌++◌, Some, Ok, drop, length, map, reverse, slice_get, take}
use Rattle.std.specs.List.{flat_map}
use Rattle.jv_meaning_world.specs.World.{World}
use Rattle.jv_meaning_world.specs.Overriding.{Declared}
use Rattle.jv_meaning_world.specs.Verdicts.{declared_by}
use Rattle.jv_meaning_machine.specs.Values.{Value, words_of_values}
use Rattle.jv_meaning_machine.specs.Frames.{MethodFrame, InitializationFrame, Frame}
use Rattle.jv_meaning_machine.specs.Frames.Frame.{Runs, Initializes}
use Rattle.jv_meaning_machine.specs.State.{Program, entered_method}
use Rattle.jv_meaning_machine.specs.Initialization.{tasks_of}
use Rattle.jv_interp_words.specs.declared.records.MethodRecord.{MethodRecord}
use Rattle.jv_interp_words.specs.declared.records.InitializationRecord.{InitializationRecord}
use Rattle.jv_interp_words.specs.declared.records.FrameRecord.{FrameRecord}
use Rattle.jv_interp_words.specs.declared.records.FrameRecord.TheVariants as records
use Rattle.jv_interp_words.specs.ValuesInWords.{AreOnTop, AreLocals}

-- the words that are in use, the newest first, where so many are
abbrev pub in_use : List ℕ → ℕ → List ℕ
in_use words top = reverse (take top words)

-- A frame stands on the words below it: its local variables, and on them its stack.
pub record FrameStands (addresses : List ℕ) (locals stack : List Value) (used below : List ℕ) : Type 0 where
  pub words : List ℕ
  pub stack_stands : AreOnTop addresses stack used (reverse words ++ below)
  pub locals_stand : AreLocals addresses locals words

-- ---- frames and what is kept of them beside their words

-- the methods of all classes of a world, class by class: a method's number is its place among them
abbrev pub methods_of : World → List Declared
methods_of world = flat_map (λ l. map (declared_by l) l.class.methods) world

-- A method that runs: it is the one with a number, its words are behind those below, and the record says where. Its receiver is
-- kept nowhere.
pub record MethodStands (program : Program) (addresses : List ℕ) (frame : MethodFrame) (kept : MethodRecord) (used below : List ℕ)
    : Type 0 where
  pub declared : Declared
  pub has_number : slice_get (methods_of program.world) kept.method ≡ Some declared
  pub entered : entered_method program declared ≡ Ok frame.method
  pub words : FrameStands addresses frame.locals frame.stack used below
  pub base_is : kept.base ≡ length below
  pub pc_is : kept.pc ≡ frame.offset
  pub locals_count : length frame.locals ≡ frame.method.code.max_locals
  pub stack_fits : words_of_values frame.stack ≤ frame.method.code.max_stack

-- An initialization (5.5): that of the class with a number, of whose tasks so many are done. It has no words.
pub record InitializationStands (program : Program) (frame : InitializationFrame) (kept : InitializationRecord) : Type 0 where
  pub has_number : slice_get program.world kept.class ≡ Some frame.class
  pub tasks_are : frame.tasks ≡ drop kept.done (tasks_of program.world frame.class)

-- Frames stand on one another, the newest first.
abbrev pub AreFrames : Program → List ℕ → List Frame → List FrameRecord → List ℕ → Type 0
AreFrames program addresses [] [] used = used ≡ []
AreFrames program addresses (Runs frame ∷ frames) (records.Runs kept ∷ others) used =
    (below : List ℕ) × MethodStands program addresses frame kept used below × AreFrames program addresses frames others below
AreFrames program addresses (Initializes frame ∷ frames) (records.Initializes kept ∷ others) used =
    InitializationStands program frame kept × AreFrames program addresses frames others used
AreFrames program addresses _ _ used = ⊥
