-- What the machine knows of a guest's classes, and its state (JVMS 2.5, 5.5).
use Rattle.std.specs.Prelude.{ℕ, Bool, true, false, ◌||◌, List, [], ◌∷◌, Option, Ok, if◌then◌else◌}
use Rattle.std.specs.List.{list_any}
use Rattle.std.specs.Str.{bytes_eq}
use Rattle.jv_text.specs.Types.{method_type_of}
use Rattle.jv_code.specs.Insns.{Instruction}
use Rattle.jv_meaning_world.specs.World.{Loaded, World}
use Rattle.jv_meaning_world.specs.Overriding.{Declared}
use Rattle.jv_meaning_typing.specs.Environment.{Environment}
use Rattle.jv_meaning_machine.specs.Faults.{OrFault, found, tested, ◌>>=◌}
use Rattle.jv_meaning_machine.specs.Faults.Fault.{OffsetFault, UnverifiedFault}
use Rattle.jv_meaning_machine.specs.Objects.{Object, Content}
use Rattle.jv_meaning_machine.specs.Frames.{Frame}

-- ---- what is known of the classes

-- the classes that the guest can name, the names of those of its loader that were accepted, and what bytes of code and of texts
-- are: instructions (4.9) and units (4.4.7)
pub record Program : Type 0 where
  pub world : World
  pub accepted : List (List ℕ)
  pub instructions : List ℕ → Option (List Instruction)
  pub units : List ℕ → Option (List ℕ)

-- all of the system's count as accepted
abbrev pub is_class_accepted : Program → Loaded → Bool
is_class_accepted program l = l.by_system || list_any (bytes_eq l.class.name) program.accepted

-- what is known of a method that can be entered, one with code of a class that was accepted
abbrev pub entered_method : Program → Declared → OrFault Environment
entered_method program d =
    tested UnverifiedFault (is_class_accepted program d.by) d >>= λ d. found OffsetFault d.method.code >>= λ code.
    found OffsetFault (method_type_of d.method.descriptor) >>= λ descriptor.
    found OffsetFault (program.instructions code.code) >>= λ instructions.
    Ok (record { world = program.world; site = d; descriptor = descriptor; code = code; instructions = instructions })

-- ---- what instructions change

-- the objects, what static fields hold, the objects of string literals by their texts, the cells and the bytes of output
-- that are left, what was written, and the input that waits: that came and was not read
pub record Memory : Type 0 where
  pub objects : List Object
  pub statics : Content
  pub literals : List (List ℕ × ℕ)
  pub cells : ℕ
  pub output_left : ℕ
  pub output : List ℕ
  pub input : List ℕ

-- ---- what calls, throws and initializations change, beside the frames

-- a class: not yet to be initialized, being initialized, initialized, or one whose initialization ended in a throw (5.5)
pub data ClassState : Type 0 where
  Untouched : ClassState
  Begun : ClassState
  Initialized : ClassState
  Erroneous : ClassState

-- of classes by their names, the newest first
abbrev pub ClassStates : Type 0
ClassStates = List (List ℕ × ClassState)

-- a class of which nothing is said is untouched; all of the system's are initialized from the start (own)
abbrev pub state_named : List ℕ → ClassStates → ClassState
state_named name [] = Untouched
state_named name (entry ∷ more) = if bytes_eq name entry.0 then entry.1 else state_named name more

abbrev pub class_state : ClassStates → Loaded → ClassState
class_state states l = if l.by_system then Initialized else state_named l.class.name states

-- an instruction that needs the class's initialization goes on: it is initialized, or being initialized by the guest's one
-- thread (5.5)
abbrev pub is_ready : ClassState → Bool
is_ready Untouched = false
is_ready Begun = true
is_ready Initialized = true
is_ready Erroneous = false

-- how a guest ended, if it did: main returned, an object of a class was thrown and not caught, or there was no main method
pub data End : Type 0 where
  Running : End
  Returned : End
  Threw : (class : List ℕ) → End
  NoMain : End

-- where an object is thrown: at the instruction at an offset of a method, which is that of its class with this name and descriptor (4.6)
pub record ThrowPlace : Type 0 where
  pub class : List ℕ
  pub method : List ℕ
  pub descriptor : List ℕ
  pub offset : ℕ

-- the main class's name; the states of classes; the words that are left for frames; how many throws there were, up to
-- 2^64 - 1, and of the last one the class and the place; and how the guest ended, if it did
pub record Control : Type 0 where
  pub main : List ℕ
  pub states : ClassStates
  pub words : ℕ
  pub throws : ℕ
  pub last : Option (List ℕ)
  pub place : Option ThrowPlace
  pub end : End

-- the frames, the current one first (2.5.2, 2.6), none where the guest has ended
pub record State : Type 0 where
  pub memory : Memory
  pub frames : List Frame
  pub control : Control

abbrev pub state_of : Memory → List Frame → Control → State
state_of memory frames control = record { memory = memory; frames = frames; control = control }

abbrev pub with_state : ClassState → Loaded → Control → Control
with_state state l control = record control { states = (l.class.name, state) ∷ control.states }
