-- The classes of a library's files, one by one.
use Rattle.std.specs.Prelude.{◌≡◌, ⊤, ℕ, ◌++◌, Bool, false, not, List, [], ◌∷◌, map, IsNone, IsSome, IsTrue, None, Option, codes, nat_eq}
use Rattle.std.specs.List.{All, starts_with}
use Rattle.jv_class.specs.Class.{Class, Method, method_named}
use Rattle.jv_meaning_world.specs.FileContent.{AreContents, IsContent}
use Rattle.jv_meaning_world.specs.Library.{NamesDiffer, borrowers, borrowers_more, char_sequence, comparable, comparable_string}
use Rattle.jv_meaning_world.specs.Numbers.{number_named}
use Rattle.jv_meaning_world.specs.World.{World, loaded}
use Rattle.jv_meaning_world.specs.declared.content.Content.TheVariants.{OtherVersion, NoClassFile, MoreThanProfile, Holds}
use Rattle.jv_loader.specs.declared.library_fault.LibraryFault.{LibraryFault}
use Rattle.jv_loader.specs.declared.library_fault.LibraryFault.TheVariants.{Version, Format, Unsupported, Reserved, Duplicate, Main, NoString, NoComparable, NoCharSequence, OutOfMemory}

-- those that are lent methods
abbrev pub all_borrowers : List Class
all_borrowers = borrowers ++ borrowers_more

abbrev pub is_of_host : List ℕ → Bool
is_of_host name = starts_with nat_eq name (codes "host/")

abbrev pub main_of : Class → Option Method
main_of class = method_named class (codes "main") (codes "([Ljava/lang/String;)V")

-- a class that a library may give, by itself
pub record MayBeGiven (class : Class) : Type 0 where
  pub not_of_host : IsTrue (not (is_of_host class.name))
  pub no_main : IsNone (main_of class)

-- why not, where it stands at a place
abbrev pub IsOwnFault : ℕ → Class → LibraryFault → Type 0
IsOwnFault place class (Reserved p) = (p ≡ place) × IsTrue (is_of_host class.name)
IsOwnFault place class (Main p) = (p ≡ place) × IsSome (main_of class)
IsOwnFault place class _ = ⊥

-- a file more
pub record IsGivenBy (bytes : List ℕ) (old new : World) : Type 0 where
  pub class : Class
  pub holds : IsContent bytes (Holds class)
  pub may : MayBeGiven class
  pub is_new : number_named old class.name ≡ None
  pub joins : new ≡ old ++ loaded false class ∷ []

-- why not, of a class that a file holds
abbrev pub IsFaultOfClass : World → ℕ → Class → LibraryFault → Type 0
IsFaultOfClass world place class (Duplicate p) = (p ≡ place) × IsSome (number_named world class.name)
IsFaultOfClass world place class OutOfMemory = ⊤
IsFaultOfClass world place class fault = IsOwnFault place class fault

abbrev pub IsFaultOfFile : World → List ℕ → ℕ → LibraryFault → Type 0
IsFaultOfFile world bytes place (Version p) = (p ≡ place) × IsContent bytes OtherVersion
IsFaultOfFile world bytes place (Format p) = (p ≡ place) × IsContent bytes NoClassFile
IsFaultOfFile world bytes place (Unsupported p) = (p ≡ place) × IsContent bytes MoreThanProfile
IsFaultOfFile world bytes place OutOfMemory = ⊤
IsFaultOfFile world bytes place fault = (class : Class) × IsContent bytes (Holds class) × IsFaultOfClass world place class fault

-- what all files make
pub record AreGiven (files : List (List ℕ)) (world : World) : Type 0 where
  pub given : List Class
  pub held : AreContents files (map Holds given)
  pub world_is : world ≡ map (loaded false) given
  pub may : All MayBeGiven given
  pub differ : NamesDiffer given

-- java/lang/String and its interfaces are there
pub record HasThree (world : World) : Type 0 where
  pub string : IsSome (number_named world comparable_string.name)
  pub comparable : IsSome (number_named world comparable.name)
  pub char_sequence : IsSome (number_named world char_sequence.name)

abbrev pub IsLacking : World → LibraryFault → Type 0
IsLacking world NoString = number_named world comparable_string.name ≡ None
IsLacking world NoComparable = number_named world comparable.name ≡ None
IsLacking world NoCharSequence = number_named world char_sequence.name ≡ None
IsLacking world _ = ⊥
