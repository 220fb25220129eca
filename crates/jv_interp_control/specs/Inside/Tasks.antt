-- The first task that an initialization has left (JVMS 5.5), by numbers and places.
use Rattle.std.specs.Prelude.{◌≡◌, ℕ, ◌<◌, List, [], ◌∷◌, ◌++◌, Option, Some, None, IsTrue, false, drop, length, map, slice_get, slice_index}
use Rattle.jv_class.specs.Class.{Field, InitialValue}
use Rattle.jv_meaning_world.specs.World.{Loaded, World}
use Rattle.jv_meaning_world.specs.Numbers.{classes_at, AreNumbers}
use Rattle.jv_meaning_world.specs.Overriding.{Declared}
use Rattle.jv_meaning_world.specs.LookUps.{field_by}
use Rattle.jv_meaning_world.specs.Verdicts.{is_loadable}
use Rattle.jv_lookups.specs.Places.{method_at}
use Rattle.jv_link_cache.specs.declared.linked.Linked.{Linked}
use Rattle.jv_link_cache.specs.Linked.{IsLinked}
use Rattle.jv_meaning_machine.specs.Frames.{Task as TaskOfNames, InitializationFrame}
use Rattle.jv_meaning_machine.specs.Frames.Task.{SetsField, InitializesFirst, RunsInitializer}
use Rattle.jv_meaning_machine.specs.State.{Program, ClassStates, class_state, is_ready}
use Rattle.jv_meaning_machine.specs.Initialization.{tasks_of, tasks_left}
use Rattle.jv_interp_words.specs.declared.records.InitializationRecord.{InitializationRecord}
use Rattle.jv_interp_words.specs.FramesInWords.{InitializationStands}
use Rattle.jv_interp_held.specs.declared.class_state.ClassState.{ClassState}
use Rattle.jv_interp_held.specs.ClassStates.{AreClassStates}
use Rattle.jv_interp_control.specs.declared.tasks.Task.{Task}
use Rattle.jv_interp_control.specs.declared.tasks.Task.TheVariants as tasks
use Rattle.jv_interp_control.specs.declared.tasks.Next.{Next}

-- A task of the class with a number is this one.
abbrev pub IsTask : World → ℕ → Task → TaskOfNames → Type 0
IsTask world class (tasks.Sets member) task =
    (l : Loaded) × (f : Field) × (constant : InitialValue) × (slice_get world class ≡ Some l) × (slice_get l.class.fields member ≡ Some f)
    × (f.initial ≡ Some constant) × (task ≡ SetsField (field_by l f) constant)
IsTask world class (tasks.Begins number) task = (l : Loaded) × (slice_get world number ≡ Some l) × (task ≡ InitializesFirst l)
IsTask world class (tasks.Runs member) task =
    (d : Declared) × (method_at world (record { class = class; member = member }) ≡ Some d) × (task ≡ RunsInitializer d)

-- An initialization stands in a record, and the states of the classes are known, of which there are fewer than 2^31 (own).
pub record Asking (world : World) (linked : Linked) (own : InitializationRecord) (states : List ClassState) (program : Program)
    (frame : InitializationFrame) (known : ClassStates) : Type 0 where
  pub world_is : program.world ≡ world
  pub linked_is : IsLinked program.world linked
  pub stands : InitializationStands program frame own
  pub states_are : AreClassStates program.world known states
  pub loadable : IsTrue (is_loadable program.world frame.class)
  pub few : length (tasks_of program.world frame.class) < 4294967296
  pub few_classes : length program.world < 2147483648

pub record CanAsk (world : World) (linked : Linked) (own : InitializationRecord) (states : List ClassState) : Type 0 where
  pub program : Program
  pub frame : InitializationFrame
  pub known : ClassStates
  pub asking : Asking world linked own states program frame known

-- Its first task is this one, where supers that are initialized or being initialized are passed over, and so many are done with it; or none
-- is left.
abbrev pub IsNext : Program → InitializationFrame → ClassStates → ℕ → Option Next → Type 0
IsNext program frame known class None = tasks_left known frame.tasks ≡ []
IsNext program frame known class (Some next) =
    (task : TaskOfNames) × (tasks_left known frame.tasks ≡ task ∷ drop next.done (tasks_of program.world frame.class))
    × IsTask program.world class next.task task

abbrev pub AreNext : World → Linked → InitializationRecord → List ClassState → Option Next → Type 0
AreNext world linked own states next =
    (program : Program) (frame : InitializationFrame) (known : ClassStates) → Asking world linked own states program frame known
    → IsNext program frame known own.class next

-- ---- supers

-- the tasks of supers with these numbers, and then others
abbrev pub supers_and : World → List ℕ → List TaskOfNames → List TaskOfNames
supers_and world numbers rest = map InitializesFirst (classes_at world numbers) ++ rest

-- Supers in front, from one place on to another, are initialized or being initialized.
pub record ArePassed (world : World) (known : ClassStates) (order : List ℕ) (start end : ℕ) : Type 0 where
  pub left :
      (rest : List TaskOfNames)
      → tasks_left known (supers_and world (drop start order) rest) ≡ tasks_left known (supers_and world (drop end order) rest)

abbrev pub PassesReady : List ClassState → List ℕ → ℕ → ℕ → Type 0
PassesReady states order start end =
    (world : World) (known : ClassStates) → AreClassStates world known states → AreNumbers world order
    → ArePassed world known order start end

-- The super at a place isn't, if one is there.
abbrev pub StopsAtUnready : List ClassState → List ℕ → ℕ → Type 0
StopsAtUnready states order place =
    (world : World) (known : ClassStates) (l : Loaded) → AreClassStates world known states → place < length order
    → slice_get world (slice_index order place) ≡ Some l → is_ready (class_state known l) ≡ false
