-- What the machine does to frames and control (JVMS 2.6, 2.10, 5.5), by the numbers and addresses that stand for classes, methods and
-- objects.
use Rattle.std.specs.Prelude.{◌≡◌, ℕ, ◌+◌, ◌≤◌, Bool, List, Option, Some, Ok, length, reverse, slice_get}
use Rattle.std.specs.List.{flat_map}
use Rattle.jv_meaning_world.specs.World.{Loaded}
use Rattle.jv_meaning_world.specs.Overriding.{Declared}
use Rattle.jv_meaning_machine.specs.Values.{Value}
use Rattle.jv_meaning_machine.specs.Frames.{local_words}
use Rattle.jv_meaning_machine.specs.Faults.{OrFault, found, ◌>>=◌}
use Rattle.jv_meaning_machine.specs.Faults.Fault.{OffsetFault}
use Rattle.jv_meaning_machine.specs.State.{Program, Memory, State}
use Rattle.jv_meaning_machine.specs.Costs.{code_words}
use Rattle.jv_meaning_machine.specs.Throws.{throw, raise}
use Rattle.jv_meaning_machine.specs.Entering.{within_words, passed_values, entered_above}
use Rattle.jv_meaning_machine.specs.Initialization.{is_verified, begin}
use Rattle.jv_interp_words.specs.ValuesInWords.{AreOnTop}
use Rattle.jv_interp_words.specs.FramesInWords.{in_use, methods_of}
use Rattle.jv_interp_heap.specs.ObjectsInBlocks.{Blocks, HasNumber}
use Rattle.jv_interp_held.specs.declared.held.Held.{Held}
use Rattle.jv_interp_held.specs.HeldInWords.{MemoryStands}
use Rattle.jv_interp_control.specs.declared.frames.Frames.{Frames}

-- the object at an address is thrown in the first of the frames
pub record Throwing (address : ℕ) (program : Program) (addresses : List ℕ) (s t : State) : Type 0 where
  pub object : ℕ
  pub at : slice_get addresses object ≡ Some address
  pub does : throw program.world s.memory s.frames s.control object ≡ Ok t

-- the machine throws a new exception of the class with a number
pub record Raising (class : ℕ) (program : Program) (addresses : List ℕ) (s t : State) : Type 0 where
  pub name : List ℕ
  pub has_number : HasNumber program.world name class
  pub does : raise program.world s.memory s.frames s.control name ≡ Ok t

-- of each class, by its number, whether it and all classes and interfaces above it were accepted (5.4.1)
abbrev pub AreVerified : Program → List Bool → Type 0
AreVerified program verified = (class : ℕ) (l : Loaded) → slice_get program.world class ≡ Some l
    → slice_get verified class ≡ Some (is_verified program l)

-- the initialization of the class with a number is begun
pub record Beginning (class : ℕ) (verified : List Bool) (program : Program) (addresses : List ℕ) (s t : State) : Type 0 where
  pub l : Loaded
  pub at : slice_get program.world class ≡ Some l
  pub are : AreVerified program verified
  pub does : begin program s.memory s.frames s.control l ≡ Ok t

-- what entering a method does (2.6), with a memory that goes on then
abbrev pub entering : Program → State → Declared → Option ℕ → List Value → Memory → OrFault State
entering program s d receiver arguments memory =
    found OffsetFault d.method.code >>= λ code.
    within_words program.world s.memory s.frames s.control (code_words code) (entered_above program s.frames d receiver arguments memory)

-- The method with a number is entered, and what is passed to it are so many words on those in use. The memory with which it goes on may
-- differ in what no word tells: an <init> is noted in its object (2.9).
pub record Entering (method : ℕ) (frames : Frames) (program : Program) (addresses : List ℕ) (s t : State) : Type 0 where
  pub d : Declared
  pub receiver : Option ℕ
  pub arguments : List Value
  pub has_number : slice_get (methods_of program.world) method ≡ Some d
  pub count : ℕ
  pub count_is : count ≡ length (flat_map local_words (passed_values receiver arguments))
  pub within : frames.top + count ≤ length frames.words.items
  pub on_top :
      AreOnTop addresses (reverse (passed_values receiver arguments)) (in_use frames.words.items (frames.top + count))
      (in_use frames.words.items frames.top)
  pub memory : Memory
  pub same_words :
      (texts : List (List ℕ)) (held : Held) (blocks : Blocks) → MemoryStands program.world texts s.memory addresses held blocks
      → MemoryStands program.world texts memory addresses held blocks
  pub does : entering program s d receiver arguments memory ≡ Ok t
