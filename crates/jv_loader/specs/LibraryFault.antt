-- What is wrong with files that are no library (own): the case, and the place of the file, the first at 0.
use Rattle.std.specs.Prelude.{◌≡◌, ◌≢◌, ⊤, ℕ, ◌<◌, ◌||◌, ◌++◌, List, [], length, Some, IsSome, IsTrue, codes, nat_eq, slice_get}
use Rattle.std.specs.List.{Contains, starts_with}
use Rattle.std.specs.Str.{bytes_eq}
use Rattle.jv_class.specs.Class.{Class, method_named}
use Rattle.jv_meaning_world.specs.FileContent.{FileContent, IsContent}
use Rattle.jv_meaning_world.specs.declared.content.Content.TheVariants.{OtherVersion, NoClassFile, MoreThanProfile, Holds}
use Rattle.jv_meaning_world.specs.Library.{IsLibrary, borrowers, borrowers_more, char_sequence, comparable, comparable_string, with_methods_of}
use Rattle.jv_meaning_world.specs.System.Interfaces.{cloneable, serializable}
use Rattle.jv_loader.specs.declared.library_fault.LibraryFault.{LibraryFault}
use Rattle.jv_loader.specs.declared.library_fault.LibraryFault.TheVariants.{Version, Format, Unsupported, Reserved, Duplicate, Main, Header, Initializer, AboveArrays, NoString, NoComparable, NoCharSequence, OutOfMemory}

-- the file at a place has this content
pub record HasContentAt (files : List (List ℕ)) (place : ℕ) (content : FileContent) : Type 0 where
  pub bytes : List ℕ
  pub there : slice_get files place ≡ Some bytes
  pub has : IsContent bytes content

-- the file at a place holds a class of which something is so
abbrev pub HoldsAt : List (List ℕ) → ℕ → (Class → Type 0) → Type 0
HoldsAt files place P = (class : Class) × HasContentAt files place (Holds class) × P class

-- it has the name of one of the system's that are lent methods
pub record IsNamedAs (class by : Class) : Type 0 where
  pub borrows : Contains (borrowers ++ borrowers_more) class
  pub same : by.name ≡ class.name

-- there are files, and none holds a class of this one's name
pub record IsMissing (files : List (List ℕ)) (class : Class) : Type 0 where
  pub some : 0 < length files
  pub none : (place : ℕ) (c : Class) → HasContentAt files place (Holds c) → c.name ≢ class.name

-- arrays are below it
abbrev pub IsAboveArrays : Class → Type 0
IsAboveArrays class = IsTrue (bytes_eq class.name cloneable.name || bytes_eq class.name serializable.name)

abbrev pub IsLibraryFault : List (List ℕ) → LibraryFault → Type 0
IsLibraryFault files (Version place) = HasContentAt files place OtherVersion
IsLibraryFault files (Format place) = HasContentAt files place NoClassFile
IsLibraryFault files (Unsupported place) = HasContentAt files place MoreThanProfile
IsLibraryFault files (Reserved place) = HoldsAt files place (λ c. IsTrue (starts_with nat_eq c.name (codes "host/")))
IsLibraryFault files (Duplicate place) =
    HoldsAt files place (λ c. (earlier : ℕ) × (earlier < place) × HoldsAt files earlier (λ e. e.name ≡ c.name))
IsLibraryFault files (Main place) =
    HoldsAt files place (λ c. IsSome (method_named c (codes "main") (codes "([Ljava/lang/String;)V")))
IsLibraryFault files (Header place) =
    HoldsAt files place (λ by. (class : Class) × IsNamedAs class by × (by ≢ with_methods_of by class))
IsLibraryFault files (Initializer place) =
    HoldsAt files place (λ by. (class : Class) × IsNamedAs class by × IsSome (method_named by (codes "<clinit>") (codes "()V")))
IsLibraryFault files (AboveArrays place) =
    HoldsAt files place (λ by. (class : Class) × IsNamedAs class by × IsAboveArrays class × (by.methods ≢ []))
IsLibraryFault files NoString = IsMissing files comparable_string
IsLibraryFault files NoComparable = IsMissing files comparable
IsLibraryFault files NoCharSequence = IsMissing files char_sequence
IsLibraryFault files OutOfMemory = ⊤

-- ---- they are a library, or none

abbrev pub IsSomeLibrary : List (List ℕ) → Type 0
IsSomeLibrary files = (given : List Class) × IsLibrary files given

abbrev pub IsNoLibrary : List (List ℕ) → Type 0
IsNoLibrary files = (given : List Class) → IsLibrary files given → ⊥

-- but for want of memory
abbrev pub IsRefused : List (List ℕ) → LibraryFault → Type 0
IsRefused files fault = (fault ≢ OutOfMemory) → IsNoLibrary files

-- A law: files with a fault are no library, but for want of memory.
abbrev pub FaultsRefuse : Type 0
FaultsRefuse = (files : List (List ℕ)) (fault : LibraryFault) → IsLibraryFault files fault → IsRefused files fault
