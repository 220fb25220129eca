-- Laws of the main method (JVMS 5.2; own).
use Rattle.std.specs.Prelude.{◌≡◌, ℕ, false, List, [], None, Some}
use Rattle.jv_class.specs.Class.{Class}
use Rattle.jv_meaning_world.specs.FileContent.{FileContent}
use Rattle.jv_meaning_world.specs.Library.{IsLibrary, with_library}
use Rattle.jv_meaning_world.specs.World.{has_class, world_of}
use Rattle.jv_meaning_world.specs.Overriding.{Declared}
use Rattle.jv_meaning_machine.specs.Initialization.{main_method}

-- A guest without files and without a library has no main method, whatever its main class is called.
abbrev pub NoMainWithoutFiles : Type 0
NoMainWithoutFiles = (name : List ℕ) → main_method (world_of (with_library []) []) name ≡ None

-- A main method is one of the guest's own classes, whatever its files are: it is none of the system's and none of a library's.
abbrev pub MainIsItsOwn : Type 0
MainIsItsOwn =
    (files : List (List ℕ)) (library : List Class) (contents : List FileContent) (name : List ℕ) (d : Declared) → IsLibrary files library
    → main_method (world_of (with_library library) contents) name ≡ Some d
    → (d.by.by_system ≡ false) × (has_class library d.by.class.name ≡ false)
