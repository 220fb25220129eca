-- Files that join a world one by one.
use Rattle.std.specs.Prelude.{◌≡◌, ℕ, ◌||◌, false, List, [], ◌∷◌, ◌++◌, length, Option, Some, Result, Ok, Err, IfOk, ◌<◌, is_some, slice_get, if◌then◌else◌}
use Rattle.std.specs.Option.{option_and_then}
use Rattle.jv_class.specs.Class.{Class}
use Rattle.jv_meaning_world.specs.FileContent.{FileContent, AreContents, IsContent}
use Rattle.jv_meaning_world.specs.declared.content.Content.TheVariants.{OtherVersion, NoClassFile, MoreThanProfile, Holds}
use Rattle.jv_meaning_world.specs.declared.verdict.LoadVerdict.{LoadVerdict}
use Rattle.jv_meaning_world.specs.declared.verdict.LoadVerdict.TheVariants.{Version, Format, Unsupported, Reserved, Duplicate}
use Rattle.jv_meaning_world.specs.World.{World, loaded, is_reserved, world_of}
use Rattle.jv_meaning_world.specs.Library.{with_library}
use Rattle.jv_meaning_world.specs.Verdicts.{verdict_of_class}
use Rattle.jv_meaning_world.specs.Numbers.{number_named}

-- the world with what a file holds
abbrev pub with_file : World → FileContent → World
with_file world (Holds class) =
    if is_reserved class.name || is_some (number_named world class.name) then world else world ++ loaded false class ∷ []
with_file world _ = world

-- the number of the class of a file, or what is wrong with it by itself and beside those before it
abbrev pub entry_of : World → FileContent → Result ℕ LoadVerdict
entry_of world OtherVersion = Err Version
entry_of world NoClassFile = Err Format
entry_of world MoreThanProfile = Err Unsupported
entry_of world (Holds class) =
    if is_reserved class.name then Err Reserved
    else if is_some (number_named world class.name) then Err Duplicate
    else Ok (length world)

abbrev pub with_files : World → List FileContent → World
with_files world [] = world
with_files world (file ∷ files) = with_files (with_file world file) files

abbrev pub entries_from : World → List FileContent → List (Result ℕ LoadVerdict)
entries_from world [] = []
entries_from world (file ∷ files) = entry_of world file ∷ entries_from (with_file world file) files

-- files that were put into a world
pub record ArePut (files : List (List ℕ)) (before after : World) (entries : List (Result ℕ LoadVerdict)) : Type 0 where
  pub contents : List FileContent
  pub read : AreContents files contents
  pub world : after ≡ with_files before contents
  pub entry : entries ≡ entries_from before contents

-- the verdict on a file, where its entry is known
abbrev pub verdict_of_entry : World → Result ℕ LoadVerdict → Option LoadVerdict
verdict_of_entry world (Err verdict) = Some verdict
verdict_of_entry world (Ok number) = option_and_then (verdict_of_class world) (slice_get world number)

-- a class's number is that of a class
abbrev pub IsPlace : World → Result ℕ LoadVerdict → Type 0
IsPlace world entry = IfOk entry (λ number. number < length world)

-- the world of the system's classes, those of a library and those of some files
abbrev pub IsOfFiles : World → Type 0
IsOfFiles world = (library : List Class) × (contents : List FileContent) × (world ≡ world_of (with_library library) contents)

-- a file's content joins the list of classes, if it is a class of its own, and gets an entry
abbrev pub IsPut : List ℕ → World → World → Result ℕ LoadVerdict → Type 0
IsPut bytes old new entry =
    (content : FileContent) × IsContent bytes content × (new ≡ with_file old content) × (entry ≡ entry_of old content)
