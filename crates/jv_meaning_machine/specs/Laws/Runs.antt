-- Laws of runs (JVMS 2.5.3, 2.7; own): what stays from a state to each later one, and what a guest alone keeps of its budget.
use Rattle.std.specs.Prelude.{◌≡◌, ℕ, zero, suc, ◌+◌, ◌≤◌, true, List, map, length, Some, Ok, IsSome, slice_get, codes}
use Rattle.jv_meaning_world.specs.Library.{with_library}
use Rattle.jv_meaning_world.specs.FileContent.{FileContent}
use Rattle.jv_meaning_world.specs.World.{Loaded, class_named, world_of}
use Rattle.jv_class.specs.Class.{Class, Field}
use Rattle.jv_meaning_world.specs.LookUps.{field_by}
use Rattle.jv_meaning_typing.specs.Kind.{is_static_field}
use Rattle.jv_meaning_typing.specs.Layout.{instance_fields}
use Rattle.jv_meaning_machine.specs.Faults.{OrFault, ◌>>=◌}
use Rattle.jv_meaning_machine.specs.Objects.{Instance, Object, key_of}
use Rattle.jv_meaning_machine.specs.Objects.Object.{InstanceOf}
use Rattle.jv_meaning_machine.specs.Laws.Locations.{held_at}
use Rattle.jv_meaning_machine.specs.Laws.Locations.Location.{StaticField}
use Rattle.jv_meaning_machine.specs.State.{Program, State}
use Rattle.jv_meaning_machine.specs.Start.{Budget, start_cells}
use Rattle.jv_meaning_machine.specs.Step.{step, after_steps}
use Rattle.jv_meaning_machine.specs.Alone.{GuestFiles, Judged, IsJudged, Feed, came_at, fed, alone}
use Rattle.jv_meaning_machine.specs.Laws.Shapes.{keys_in, shape_of, used_cells, used_words, first_cells}
use Rattle.jv_meaning_machine.specs.Laws.Feeds.{NothingComes}
use Rattle.jv_meaning_machine.specs.Laws.Kept.{BeginsWith, KeepsState}

-- ---- from a state to a later one

-- What `KeepsState` names stays over a step.
abbrev pub StepKeeps : Type 0
StepKeeps = (program : Program) (before later : State) → step program before ≡ Ok later → KeepsState program.world before later

-- And over any number of steps.
abbrev pub RunKeeps : Type 0
RunKeeps =
    (program : Program) (n : ℕ) (before later : State) → after_steps program n before ≡ Ok later
    → KeepsState program.world before later

-- What was written stands at the front of all that is written later.
abbrev pub OutputGrows : Type 0
OutputGrows =
    (program : Program) (n : ℕ) (before later : State) → after_steps program n before ≡ Ok later
    → BeginsWith later.memory.output before.memory.output

-- An object keeps its number, its class and which fields it has, an array the type of its components and their count.
abbrev pub ObjectsStay : Type 0
ObjectsStay =
    (program : Program) (n : ℕ) (before later : State) → after_steps program n before ≡ Ok later → (number : ℕ) (object : Object)
    → slice_get before.memory.objects number ≡ Some object
    → (same : Object) × (slice_get later.memory.objects number ≡ Some same) × (shape_of same ≡ shape_of object)

-- Objects are never fewer. (Which number a new one gets is said in NewObjects, and that none is given twice in Steps.)
abbrev pub ObjectsAreNeverFewer : Type 0
ObjectsAreNeverFewer =
    (program : Program) (n : ℕ) (before later : State) → after_steps program n before ≡ Ok later
    → length before.memory.objects ≤ length later.memory.objects

-- ---- a guest alone

-- so many steps from a state that a guest has at an own step, and behind each what comes then
abbrev pub after_fed : Program → List Feed → ℕ → ℕ → State → OrFault State
after_fed program feeds from zero s = Ok s
after_fed program feeds from (suc n) s =
    after_fed program feeds from n s >>= step program >>= λ s. Ok (fed (came_at (suc (from + n)) feeds) s)

-- What a guest does alone goes on from each state that it was in.
abbrev pub AloneGoesOn : Type 0
AloneGoesOn =
    (judged : Judged) (g : GuestFiles) (b : Budget) (feeds : List Feed) (n more : ℕ) (s : State) → alone judged g b feeds n ≡ Ok s
    → alone judged g b feeds (n + more) ≡ after_fed judged.program feeds n more s

-- While nothing comes it takes steps, and does nothing else.
abbrev pub AloneStepsOn : Type 0
AloneStepsOn =
    (judged : Judged) (g : GuestFiles) (b : Budget) (feeds : List Feed) (n more : ℕ) (s : State) → alone judged g b feeds n ≡ Ok s
    → NothingComes n more feeds → alone judged g b feeds (n + more) ≡ after_steps judged.program more s

-- What it wrote and what it may still write are its budget's bytes of output together, always.
abbrev pub OutputIsBudgeted : Type 0
OutputIsBudgeted =
    (judged : Judged) (g : GuestFiles) (b : Budget) (feeds : List Feed) (n : ℕ) (s : State) → alone judged g b feeds n ≡ Ok s
    → length s.memory.output + s.memory.output_left ≡ b.output

-- So are the words that its frames have and those that are left.
abbrev pub WordsAreBudgeted : Type 0
WordsAreBudgeted =
    (judged : Judged) (g : GuestFiles) (b : Budget) (feeds : List Feed) (n : ℕ) (s : State) → alone judged g b feeds n ≡ Ok s
    → used_words s.frames + s.control.words ≡ b.words

-- So are the cells that its objects have and those that are left, where there were enough for the objects of the start.
abbrev pub CellsAreBudgeted : Type 0
CellsAreBudgeted =
    (judged : Judged) (g : GuestFiles) (b : Budget) (feeds : List Feed) (n : ℕ) (s : State) → IsJudged g.library g.files judged
    → first_cells ≤ b.cells → alone judged g b feeds n ≡ Ok s → used_cells s.memory + s.memory.cells ≡ b.cells

-- Each static field of each class of its world is there, always.
abbrev pub StaticsAreThere : Type 0
StaticsAreThere =
    (judged : Judged) (g : GuestFiles) (b : Budget) (feeds : List Feed) (n : ℕ) (s : State) → alone judged g b feeds n ≡ Ok s
    → (place : ℕ) (l : Loaded) → slice_get judged.program.world place ≡ Some l → (field : ℕ) (f : Field)
    → slice_get l.class.fields field ≡ Some f
    → is_static_field f ≡ true → IsSome (held_at s.memory (StaticField (key_of (field_by l f))))

-- An object has the fields of its class's layout, which is one of its world, always.
abbrev pub ObjectsHaveFields : Type 0
ObjectsHaveFields =
    (judged : Judged) (g : GuestFiles) (b : Budget) (feeds : List Feed) (n : ℕ) (s : State) → alone judged g b feeds n ≡ Ok s
    → (number : ℕ) (instance : Instance) → slice_get s.memory.objects number ≡ Some (InstanceOf instance)
    → (l : Loaded) × (class_named judged.program.world instance.class ≡ Some l)
    × (keys_in instance.fields ≡ map key_of (instance_fields judged.program.world l))

-- The objects of the start cost the same whatever the library and a guest's files are.
abbrev pub FirstObjectsCost : Type 0
FirstObjectsCost =
    (library : List Class) (contents : List FileContent) (error : Loaded)
    → class_named (world_of (with_library library) contents) (codes "java/lang/OutOfMemoryError") ≡ Some error
    → start_cells (world_of (with_library library) contents) error ≡ first_cells
