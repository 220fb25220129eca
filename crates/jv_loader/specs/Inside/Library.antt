-- The files of a host's classes: its own, those of a library, and which of these lend and which stand in front.
use Rattle.std.specs.Prelude.{◌≡◌, ⊤, ℕ, ◌+◌, Bool, List, [], ◌∷◌, ◌++◌, map, Option, None, Some, get_or}
use Rattle.std.specs.Global.{Vec}
use Rattle.jv_class.specs.Class.{Class}
use Rattle.jv_meaning_world.specs.FileContent.{AreContents}
use Rattle.jv_meaning_world.specs.declared.content.Content.TheVariants.{Holds}
use Rattle.jv_meaning_world.specs.Library.{IsLibrary, borrowers, borrowers_more, lent, with_library}
use Rattle.jv_meaning_world.specs.Numbers.{number_named}
use Rattle.jv_meaning_world.specs.System.Classes.{classes_with_files, system_bytes}
use Rattle.jv_meaning_world.specs.World.{World, loaded}
use Rattle.jv_loader.specs.Inside.System.{host_world}

abbrev pub bytes_in : Vec ℕ → List ℕ
bytes_in file = file.items

abbrev pub bytes_of : List (Vec ℕ) → List (List ℕ)
bytes_of files = map bytes_in files

-- the system's classes that have files, in their order, host/Io aside
abbrev pub lent_classes : List Class → List Class
lent_classes [] = classes_with_files
lent_classes (first ∷ more) = map (lent (first ∷ more)) (borrowers ++ borrowers_more)

-- the file of the one at a place: that of the library that lends it methods, or the host's own
abbrev pub file_of : (own library : List (List ℕ)) → ℕ → Option ℕ → List ℕ
file_of own library place None = get_or own place []
file_of own library place (Some lender) = get_or library lender []

abbrev pub files_from : (own library : List (List ℕ)) → ℕ → List (Option ℕ) → List (List ℕ)
files_from own library place [] = []
files_from own library place (lender ∷ more) = file_of own library place lender ∷ files_from own library (place + 1) more

abbrev pub files_at : List (List ℕ) → List ℕ → List (List ℕ)
files_at files places = map (λ place. get_or files place []) places

-- what a host's files hold: those of the system's classes, and those in front
pub record AreHostFiles (lent front : List (List ℕ)) (given : List Class) : Type 0 where
  pub system : AreContents lent (map Holds (lent_classes given))
  pub others : AreContents front (map Holds (with_library given).front)

-- the tables are right
pub record IsHost (own library : List (List ℕ)) (lenders : List (Option ℕ)) (front : List ℕ) : Type 0 where
  pub own_is : own ≡ system_bytes
  pub given : List Class
  pub gives : IsLibrary library given
  pub files : AreHostFiles (files_from own library 0 lenders) (files_at library front) given

-- the list begins with the classes of a library, behind the system's
pub record IsHostList (library : List (List ℕ)) (list : World) : Type 0 where
  pub given : List Class
  pub gives : IsLibrary library given
  pub list_is : list ≡ host_world given

-- no class has the name of one before it
abbrev pub Joins : World → Bool → List Class → Type 0
Joins world by_system [] = ⊤
Joins world by_system (class ∷ classes) =
    (number_named world class.name ≡ None) × Joins (world ++ loaded by_system class ∷ []) by_system classes
