-- A throw that goes up the frames (JVMS 2.10): what is thrown, and how far it has come.
use Rattle.std.specs.Prelude.{◌≡◌, ℕ, ◌+◌, ◌≤◌, true, false, List, [], ◌∷◌}
use Rattle.std.specs.Prelude.{◌++◌, Option, Some, None, Ok, drop, length, reverse, slice_get, take}
use Rattle.std.specs.Option.{option_or}
use Rattle.jv_format.specs.declared.handlers.Handler.{Handler}
use Rattle.jv_meaning_world.specs.World.{World}
use Rattle.jv_meaning_machine.specs.Frames.{MethodFrame, Frame}
use Rattle.jv_meaning_machine.specs.Frames.Frame.{Runs}
use Rattle.jv_meaning_machine.specs.State.{Program, Control as ControlOfNames, State}
use Rattle.jv_meaning_machine.specs.Throws.{Thrown as ThrownOfNames, handler_for, replacement_place, replacement, unwound}
use Rattle.jv_interp_words.specs.declared.records.FrameRecord.{FrameRecord}
use Rattle.jv_interp_words.specs.FramesInWords.{AreFrames}
use Rattle.jv_interp_heap.specs.ObjectsInBlocks.{Blocks, HasNumber}
use Rattle.jv_interp_held.specs.declared.held.Held.{Held}
use Rattle.jv_interp_heap.specs.declared.numbers.TheConstants.{IN_INITIALIZER}
use Rattle.jv_interp_held.specs.HeldInWords.{MemoryStands}
use Rattle.jv_interp_held.specs.Growing.{Grows}
use Rattle.jv_interp_heap.specs.SystemNumbers.{IsGuestsWorld}
use Rattle.jv_interp_control.specs.declared.throwing.Thrown.{Thrown}
use Rattle.jv_interp_control.specs.declared.throwing.Landing.{Landing}
use Rattle.jv_interp_control.specs.ControlStands.{PlaceStands}
use Rattle.jv_interp_control.specs.Inside.Passing.{all_passed}
use Rattle.jv_interp_control.specs.Inside.Places.{record_place}

-- a control with the throws of another one
abbrev pub with_throws : (other : ControlOfNames) → ControlOfNames → ControlOfNames
with_throws other control = record control { throws = other.throws; last = other.last; place = other.place }

-- An object stands for what is thrown, its class's number, the throws so far and the place are known, and the memory stands.
pub record ThrownStands (program : Program) (texts : List (List ℕ)) (t : ThrownOfNames) (addresses : List ℕ) (thrown : Thrown)
    (held : Held) (blocks : Blocks) : Type 0 where
  pub object : slice_get addresses t.object ≡ Some thrown.address
  pub class : HasNumber program.world t.class thrown.class
  pub throws : t.control.throws ≡ thrown.throws
  pub last : t.control.last ≡ Some t.class
  pub place : PlaceStands program.world t.control.place thrown.place
  pub memory : MemoryStands program.world texts t.memory addresses held blocks

-- An ExceptionInInitializerError that was made on the way is one.
abbrev pub IsKnown : Thrown → Type 0
IsKnown thrown = thrown.made ≡ true → thrown.class ≡ IN_INITIALIZER

-- ---- it passes the initialization of a class

-- It comes to these frames, which are those with these records, the newest last, behind so many.
pub record Replacing (world : World) (records : List FrameRecord) (passed : ℕ) (thrown : Thrown) (held : Held) (blocks : Blocks)
    (program : Program) (texts : List (List ℕ)) (t : ThrownOfNames) (below : List Frame) (behind : ThrownOfNames) (addresses : List ℕ)
    : Type 0 where
  pub world_is : program.world ≡ world
  pub guests : IsGuestsWorld program.world
  pub stands : ThrownStands program texts t addresses thrown held blocks
  pub place :
      PlaceStands program.world (replacement_place below t.control) (option_or (record_place (drop passed (reverse records))) thrown.place)
  pub goes : replacement program.world t below ≡ Ok behind

pub record CanReplace (world : World) (records : List FrameRecord) (passed : ℕ) (thrown : Thrown) (held : Held) (blocks : Blocks)
    : Type 0 where
  pub program : Program
  pub texts : List (List ℕ)
  pub t : ThrownOfNames
  pub below : List Frame
  pub behind : ThrownOfNames
  pub addresses : List ℕ
  pub replacing : Replacing world records passed thrown held blocks program texts t below behind addresses

pub record Replaced (program : Program) (texts : List (List ℕ)) (t behind : ThrownOfNames) (addresses : List ℕ) (before : Blocks)
    (thrown : Thrown) (held : Held) (blocks : Blocks) : Type 0 where
  pub more : List ℕ
  pub stands : ThrownStands program texts behind (addresses ++ more) thrown held blocks
  pub control_is : behind.control ≡ with_throws behind.control t.control
  pub grows : Grows addresses more before blocks

abbrev pub Replaces : World → List FrameRecord → ℕ → Thrown → Held → Blocks → Thrown → Held → Blocks → Type 0
Replaces world records passed thrown held blocks thrown_after held_after blocks_after =
    (program : Program) (texts : List (List ℕ)) (t : ThrownOfNames) (below : List Frame) (behind : ThrownOfNames) (addresses : List ℕ)
    → Replacing world records passed thrown held blocks program texts t below behind addresses
    → Replaced program texts t behind addresses blocks thrown_after held_after blocks_after

-- Where none is made now, all is as it was; and one that was made stays.
pub record StaysUnlessMade (thrown thrown_after : Thrown) (held : Held) (blocks : Blocks) (held_after : Held)
    (blocks_after : Blocks) : Type 0 where
  pub held_stays : thrown_after.made ≡ thrown.made → held_after ≡ held
  pub blocks_stay : thrown_after.made ≡ thrown.made → blocks_after ≡ blocks
  pub made_stays : thrown.made ≡ true → thrown_after.made ≡ true

-- ---- before

-- What is thrown goes up these frames.
pub record Walking (world : World) (records : List FrameRecord) (program : Program) (texts : List (List ℕ)) (frames : List Frame)
    (used : List ℕ) (t : ThrownOfNames) (goes_to : State) (addresses : List ℕ) (thrown : Thrown) (held : Held) (blocks : Blocks)
    : Type 0 where
  pub world_is : program.world ≡ world
  pub guests : IsGuestsWorld program.world
  pub frames_stand : AreFrames program addresses frames (reverse records) used
  pub thrown_stands : ThrownStands program texts t addresses thrown held blocks
  pub goes : unwound program.world t frames ≡ Ok goes_to

pub record CanWalk (world : World) (records : List FrameRecord) (thrown : Thrown) (held : Held) (blocks : Blocks) : Type 0 where
  pub program : Program
  pub texts : List (List ℕ)
  pub frames : List Frame
  pub used : List ℕ
  pub t : ThrownOfNames
  pub goes_to : State
  pub addresses : List ℕ
  pub walking : Walking world records program texts frames used t goes_to addresses thrown held blocks

-- ---- and when it passed so many

pub record Walked (count : ℕ) (program : Program) (texts : List (List ℕ)) (frames : List Frame) (t : ThrownOfNames)
    (goes_to : State) (addresses : List ℕ) (thrown : Thrown) (before : Blocks) (held : Held) (blocks : Blocks) : Type 0 where
  pub more : List ℕ
  pub now : ThrownOfNames
  pub stands : ThrownStands program texts now (addresses ++ more) thrown held blocks
  pub control_is : now.control ≡ with_throws now.control (all_passed (take count frames) t.control)
  pub goes : unwound program.world now (drop count frames) ≡ Ok goes_to
  pub grows : Grows addresses more before blocks

-- ---- where it stops: at a handler of the next frame, or where none is left

abbrev pub StopsAt : World → List ℕ → List Frame → Option ℕ → Type 0
StopsAt world class rest None = rest ≡ []
StopsAt world class rest (Some pc) =
    (frame : MethodFrame) × (below : List Frame) × (handler : Handler) × (rest ≡ Runs frame ∷ below)
    × (handler_for world class frame ≡ Some handler) × (pc ≡ handler.handler_pc)

pub record Landed (program : Program) (texts : List (List ℕ)) (frames : List Frame) (t : ThrownOfNames) (goes_to : State)
    (addresses : List ℕ) (before : Blocks) (landing : Landing) (held : Held) (blocks : Blocks) : Type 0 where
  pub walked : Walked landing.passed program texts frames t goes_to addresses landing.thrown before held blocks
  pub stops : StopsAt program.world walked.now.class (drop landing.passed frames) landing.handler
  pub within : landing.passed ≤ length frames

abbrev pub Lands : World → List FrameRecord → Thrown → Held → Blocks → Landing → Held → Blocks → Type 0
Lands world records thrown held blocks landing held_after blocks_after =
    (program : Program) (texts : List (List ℕ)) (frames : List Frame) (used : List ℕ) (t : ThrownOfNames) (goes_to : State)
    (addresses : List ℕ)
    → Walking world records program texts frames used t goes_to addresses thrown held blocks
    → Landed program texts frames t goes_to addresses blocks landing held_after blocks_after

-- ---- on the way: what is known when so many frames were passed

pub record OnTheWay (world : World) (records : List FrameRecord) (thrown : Thrown) (held : Held) (blocks : Blocks)
    (room count : ℕ) (now : Thrown) (held_now : Held) (blocks_now : Blocks) (room_now : ℕ) : Type 0 where
  pub walked :
      (program : Program) (texts : List (List ℕ)) (frames : List Frame) (used : List ℕ) (t : ThrownOfNames) (goes_to : State)
      (addresses : List ℕ)
      → Walking world records program texts frames used t goes_to addresses thrown held blocks
      → Walked count program texts frames t goes_to addresses now blocks held_now blocks_now
  pub known : IsKnown now
  pub held_stays : now.made ≡ false → held_now ≡ held
  pub blocks_stay : now.made ≡ false → blocks_now ≡ blocks
  pub held_is : held_now ≡ record held { cells = held_now.cells }
  pub fewer : held_now.cells ≤ held.cells
  pub room_is : room + held_now.cells ≡ room_now + held.cells
