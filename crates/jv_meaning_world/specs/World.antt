-- The classes that a guest can name (JVMS 5.3): those that its host gives, and those of its own files.
use Rattle.std.specs.Prelude.{ℕ, Bool, true, false, not, ◌&&◌, ◌||◌, ◌==◌, List, [], ◌∷◌, ◌++◌, map, reverse, Option, codes, if◌then◌else◌, nat_eq}
use Rattle.std.specs.List.{find, list_any, starts_with}
use Rattle.std.specs.Str.{bytes_eq}
use Rattle.jv_class_structure.specs.Flags.{has, acc_public}
use Rattle.jv_class.specs.Class.{Class}
use Rattle.jv_meaning_world.specs.FileContent.{FileContent}
use Rattle.jv_meaning_world.specs.declared.content.Content.TheVariants.{Holds}

-- a class with its defining loader: the system's, or the guest's, which those in front of the guest's own have too (own)
pub record Loaded : Type 0 where
  pub class : Class
  pub by_system : Bool

abbrev pub World : Type 0
World = List Loaded

-- the class of a name; names differ in a world
abbrev pub class_named : World → List ℕ → Option Loaded
class_named world name = find (λ l. bytes_eq l.class.name name) world

-- ---- the guest's files

-- What a host gives each of its guests (own): the system's classes, whose names differ and are reserved, and those that stand in front of
-- the guest's own.
pub record HostClasses : Type 0 where
  pub system : List Class
  pub front : List Class

abbrev pub without_front : List Class → HostClasses
without_front system = record { system = system; front = [] }

-- names that no file of a guest may take (own)
abbrev pub is_reserved : List ℕ → Bool
is_reserved name = starts_with nat_eq name (codes "java/") || starts_with nat_eq name (codes "host/")

abbrev pub has_class : List Class → List ℕ → Bool
has_class classes name = list_any (λ c. bytes_eq c.name name) classes

-- one file more: its class joins where its name is neither reserved nor taken by a class in front or by an earlier file (own)
abbrev pub with_class_of : List Class → FileContent → List Class
with_class_of classes (Holds class) =
    if is_reserved class.name || has_class classes class.name then classes else classes ++ class ∷ []
with_class_of classes _ = classes

abbrev pub joined_all : List Class → List FileContent → List Class
joined_all classes [] = classes
joined_all classes (file ∷ files) = joined_all (with_class_of classes file) files

-- those in front, and the classes of a guest's files, in the order of the files
abbrev pub classes_in : HostClasses → List FileContent → List Class
classes_in host files = joined_all host.front files

abbrev pub loaded : Bool → Class → Loaded
loaded by_system class = record { class = class; by_system = by_system }

abbrev pub world_of : HostClasses → List FileContent → World
world_of host files = map (loaded true) host.system ++ map (loaded false) (classes_in host files)

-- ---- run-time packages (5.3): the package's name together with the loader

-- of a name from its end: what follows the first `/` (47)
abbrev pub behind_last_part : List ℕ → List ℕ
behind_last_part [] = []
behind_last_part (byte ∷ rest) = if byte == 47 then rest else behind_last_part rest

-- what stands before the last `/`, nothing where there is none
abbrev pub package_of : List ℕ → List ℕ
package_of name = reverse (behind_last_part (reverse name))

abbrev pub same_loader : Bool → Bool → Bool
same_loader true b = b
same_loader false b = not b

abbrev pub same_package : Loaded → Loaded → Bool
same_package a b = same_loader a.by_system b.by_system && bytes_eq (package_of a.class.name) (package_of b.class.name)

-- a class can name another: it is public, or in the same run-time package (5.4.4)
abbrev pub can_name : Loaded → Loaded → Bool
can_name from to = has to.class.access_flags acc_public || same_package from to
