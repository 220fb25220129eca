-- A library (own): class files that the owner of a host gives, the same for all its guests. A class with the name of one of the system's
-- lends that its methods; the others stand in front of a guest's own.
use Rattle.std.specs.Prelude.{◌≡◌, ⊤, ℕ, Bool, not, ◌&&◌, ◌||◌, ◌==◌, List, [], ◌∷◌, ◌++◌, map, codes, IsNone, IsTrue, if◌then◌else◌, nat_eq}
use Rattle.std.specs.List.{All, Contains, IsDistinct, find, starts_with}
use Rattle.std.specs.Option.{unwrap_or}
use Rattle.std.specs.Str.{bytes_eq}
use Rattle.jv_class.specs.Class.{Class, method_named}
use Rattle.jv_meaning_world.specs.FileContent.{AreContents}
use Rattle.jv_meaning_world.specs.declared.content.Content.TheVariants.{Holds}
use Rattle.jv_meaning_world.specs.System.Classes.{system_classes}
use Rattle.jv_meaning_world.specs.System.Interfaces.{cloneable, interface, serializable}
use Rattle.jv_meaning_world.specs.System.Io.{io}
use Rattle.jv_meaning_world.specs.System.Object.{object}
use Rattle.jv_meaning_world.specs.System.String.{string}
use Rattle.jv_meaning_world.specs.System.Throwable.{throwable}
use Rattle.jv_meaning_world.specs.System.Throwables.{throwable_class, throwable_rows}
use Rattle.jv_meaning_world.specs.World.{HostClasses, has_class}

-- ---- what is lent

-- a class of a library can lend its methods to one with its name and flags
abbrev pub can_lend : Class → Class → Bool
can_lend class by = bytes_eq by.name class.name && by.access_flags == class.access_flags

-- the first of a library that can, and else the class itself
abbrev pub lender : List Class → Class → Class
lender library class = unwrap_or (find (can_lend class) library) class

-- A class with the methods of another, and the constants that their code names. Its name, flags, supers and fields are its own.
abbrev pub with_methods_of : Class → Class → Class
with_methods_of by class = record class { major_version = by.major_version; methods = by.methods; constant_pool = by.constant_pool }

abbrev pub lent : List Class → Class → Class
lent library class = with_methods_of (lender library class) class

-- ---- the system's classes with a library

-- what java/lang/String is in Java, too
abbrev pub comparable : Class
comparable = interface (codes "java/lang/Comparable")

abbrev pub char_sequence : Class
char_sequence = interface (codes "java/lang/CharSequence")

abbrev pub comparable_string : Class
comparable_string = record string { interfaces = serializable.name ∷ comparable.name ∷ char_sequence.name ∷ [] }

-- Those that are lent methods, in two parts: before host/Io, which is lent nothing, and behind it.
abbrev pub borrowers : List Class
borrowers = cloneable ∷ serializable ∷ object ∷ comparable_string ∷ throwable ∷ map throwable_class throwable_rows

abbrev pub borrowers_more : List Class
borrowers_more = comparable ∷ char_sequence ∷ []

-- They have the places that they have without a library.
abbrev pub system_with : List Class → List Class
system_with [] = system_classes
system_with library = map (lent library) borrowers ++ io ∷ map (lent library) borrowers_more

-- ---- what a host with a library gives its guests

-- one class more of a library: it stands in front where neither the system nor an earlier one has its name
abbrev pub with_class_more : (library front : List Class) → Class → List Class
with_class_more library front class =
    if has_class (system_with library) class.name || has_class front class.name then front else front ++ class ∷ []

abbrev pub front_of : (library front : List Class) → List Class → List Class
front_of library front [] = front
front_of library front (class ∷ more) = front_of library (with_class_more library front class) more

abbrev pub with_library : List Class → HostClasses
with_library library = record { system = system_with library; front = front_of library [] library }

-- ---- what a library is

-- A class of a library with the name of a class of the system's has its flags, supers and fields. It has no `<clinit>`, since all of the
-- system's are initialized from the start; and no methods where arrays are below the class, since calls on arrays find java/lang/Object's
-- alone here (5.4.6).
pub record Lends (class by : Class) : Type 0 where
  pub same : by ≡ with_methods_of by class
  pub initialized : IsNone (method_named by (codes "<clinit>") (codes "()V"))
  pub above_arrays : IsTrue (bytes_eq class.name cloneable.name || bytes_eq class.name serializable.name) → by.methods ≡ []

-- no two of a library's classes have one name
abbrev pub NamesDiffer : List Class → Type 0
NamesDiffer library = IsDistinct bytes_eq (map (λ c. c.name) library)

-- where a library has classes, java/lang/String and its two interfaces are among them
abbrev pub HasString : List Class → Type 0
HasString [] = ⊤
HasString (first ∷ more) = All (λ c. IsTrue (has_class (first ∷ more) c.name)) (comparable_string ∷ borrowers_more)

-- These files are a library, of these classes: none in a package of the host's, and none with a main method, for that is the guest's.
pub record IsLibrary (files : List (List ℕ)) (library : List Class) : Type 0 where
  pub held : AreContents files (map Holds library)
  pub differ : NamesDiffer library
  pub none_of_host : All (λ c. IsTrue (not (starts_with nat_eq c.name (codes "host/")))) library
  pub none_is_main : All (λ c. IsNone (method_named c (codes "main") (codes "([Ljava/lang/String;)V"))) library
  pub lends :
      (class by : Class) → Contains (borrowers ++ borrowers_more) class → Contains library by → by.name ≡ class.name → Lends class by
  pub string : HasString library
