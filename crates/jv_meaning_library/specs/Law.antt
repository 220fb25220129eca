-- The laws of closed libraries: their classes are judged once, for all guests.
use Rattle.std.specs.Prelude.{◌↔◌, ℕ, List, IsTrue}
use Rattle.std.specs.List.{Contains}
use Rattle.jv_class.specs.Class.{Class}
use Rattle.jv_meaning_world.specs.FileContent.{FileContent, AreContents}
use Rattle.jv_meaning_world.specs.Library.{IsLibrary, with_library}
use Rattle.jv_meaning_world.specs.World.{Loaded, World, world_of}
use Rattle.jv_meaning_typing.specs.declared.verdict.Verdict.{Verdict}
use Rattle.jv_meaning_typing.specs.Judgement.{IsVerdictOfClass}
use Rattle.jv_meaning_machine.specs.Alone.{Stands}
use Rattle.jv_meaning_library.specs.Closed.{world_alone, is_closed}

-- those classes with a guest's
abbrev pub world_with : List Class → List FileContent → World
world_with library contents = world_of (with_library library) contents

-- A law: each class that a host with a closed library gives has beside any guest's files the verdicts that it has alone.
abbrev pub ClosedIsJudgedOnce : Type 0
ClosedIsJudgedOnce =
    (given : List (List ℕ)) (library : List Class) → IsLibrary given library → IsTrue (is_closed library)
    → (files : List (List ℕ)) (contents : List FileContent) → AreContents files contents
    → (l : Loaded) → Contains (world_alone library) l → (verdict : Verdict)
    → IsVerdictOfClass (world_alone library) l verdict ↔ IsVerdictOfClass (world_with library contents) l verdict

-- A law: a closed library stands beside any guest's files exactly where it stands alone.
abbrev pub ClosedStandsOnce : Type 0
ClosedStandsOnce =
    (given : List (List ℕ)) (library : List Class) → IsLibrary given library → IsTrue (is_closed library)
    → (files : List (List ℕ)) (contents : List FileContent) → AreContents files contents
    → Stands (world_alone library) (with_library library) ↔ Stands (world_with library contents) (with_library library)
