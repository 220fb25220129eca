-- What is known of a library: that it stands beside one guest's files, or beside each one's.
use Rattle.std.specs.Prelude.{⊤, ℕ, List, Option, Some, None}
use Rattle.jv_meaning_machine.specs.Alone.{Stands}
use Rattle.jv_meaning_world.specs.Library.{with_library}
use Rattle.jv_verify.specs.Files.{Verified, AreFilesOf}
use Rattle.jv_library.specs.declared.known.Asked.{Asked}
use Rattle.jv_library.specs.declared.known.Found.{Found}
use Rattle.jv_library.specs.declared.known.Found.TheVariants.{Open, Once, Always}

-- the library of these files stands beside some guest's files
abbrev pub StandsBesideOne : List (List ℕ) → Type 0
StandsBesideOne library =
    (files : List (List ℕ)) × (verified : Verified) × (are : AreFilesOf library files verified)
    × Stands verified.world (with_library are.given)

-- and beside whichever files of a guest
abbrev pub StandsBesideAll : List (List ℕ) → Type 0
StandsBesideAll library =
    (files : List (List ℕ)) (verified : Verified) (are : AreFilesOf library files verified) → Stands verified.world (with_library are.given)

-- this was found of it
abbrev pub IsFoundOf : List (List ℕ) → Found → Type 0
IsFoundOf library Open = ⊤
IsFoundOf library Once = StandsBesideOne library
IsFoundOf library Always = StandsBesideAll library

-- of the library that was asked of, where one was
abbrev pub IsKnown : Option Asked → Type 0
IsKnown None = ⊤
IsKnown (Some asked) = IsFoundOf asked.system.now asked.found

-- its files
abbrev pub files_of : Option Asked → Option (List (List ℕ))
files_of None = None
files_of (Some asked) = Some asked.system.now
