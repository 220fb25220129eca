-- The law: verified code meets no fault (JVMS 4.10). Whatever a guest's files hold, once they are judged, and the library stands in their
-- world, its machine has a state after every number of steps, for every budget and whatever is fed to it.
use Rattle.std.specs.Prelude.{◌≡◌, ℕ, List, [], Some, Ok, IsOk, IsTrue, slice_get}
use Rattle.std.specs.List.{Contains}
use Rattle.jv_meaning_world.specs.Library.{with_library}
use Rattle.jv_meaning_world.specs.World.{Loaded, World, class_named}
use Rattle.jv_meaning_world.specs.Verdicts.{is_loadable}
use Rattle.jv_meaning_machine.specs.Objects.{Object, Instance}
use Rattle.jv_meaning_machine.specs.Objects.Object.{InstanceOf}
use Rattle.jv_meaning_machine.specs.Frames.{InitializationFrame}
use Rattle.jv_meaning_machine.specs.Frames.Frame.{Initializes}
use Rattle.jv_meaning_machine.specs.State.{State}
use Rattle.jv_meaning_machine.specs.Start.{Budget}
use Rattle.jv_meaning_machine.specs.Alone.{Feed, GuestFiles, Judged, IsJudged, Stands, alone}

abbrev pub NeverFaults : Type 0
NeverFaults =
    (judged : Judged) (g : GuestFiles) (b : Budget) (feeds : List Feed) (n : ℕ) → (right : IsJudged g.library g.files judged)
    → Stands judged.program.world (with_library right.given) → IsOk (alone judged g b feeds n)

-- A law: where there is no library, the system's classes stand in the world of any guest.
abbrev pub NoLibraryStands : Type 0
NoLibraryStands = (judged : Judged) (library files : List (List ℕ)) → library ≡ [] → (right : IsJudged library files judged)
    → Stands judged.program.world (with_library right.given)

-- each of these objects is of a class that can be loaded (5.3.5)
abbrev pub AreOfLoadable : World → List Object → Type 0
AreOfLoadable world objects =
    (id : ℕ) (instance : Instance) (l : Loaded) → slice_get objects id ≡ Some (InstanceOf instance)
    → class_named world instance.class ≡ Some l
    → IsTrue (is_loadable world l)

-- A law: all objects of such a guest are, after every number of steps.
abbrev pub ObjectsAreLoadable : Type 0
ObjectsAreLoadable =
    (judged : Judged) (g : GuestFiles) (b : Budget) (feeds : List Feed) (n : ℕ) (s : State)
    → (right : IsJudged g.library g.files judged) → Stands judged.program.world (with_library right.given)
    → alone judged g b feeds n ≡ Ok s → AreOfLoadable judged.program.world s.memory.objects

-- A law: each initialization among its frames is of a class that can be loaded (5.3.5), after every number of steps.
abbrev pub InitializationsAreLoadable : Type 0
InitializationsAreLoadable =
    (judged : Judged) (g : GuestFiles) (b : Budget) (feeds : List Feed) (n : ℕ) (s : State)
    → (right : IsJudged g.library g.files judged) → Stands judged.program.world (with_library right.given)
    → alone judged g b feeds n ≡ Ok s → (frame : InitializationFrame) → Contains s.frames (Initializes frame)
    → IsTrue (is_loadable judged.program.world frame.class)
