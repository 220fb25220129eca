-- Which methods override others (JVMS 5.4.5).
use Rattle.std.specs.Prelude.{◌+◌, Bool, not, ◌&&◌, ◌||◌, List, [], ◌∷◌, ◌++◌, Option, Some, None, if◌then◌else◌}
use Rattle.std.specs.List.{list_any}
use Rattle.jv_text.specs.Name.{is_init}
use Rattle.jv_class_structure.specs.Flags.{has, acc_public, acc_private, acc_protected, acc_static}
use Rattle.jv_class.specs.Class.{Method, method_named}
use Rattle.jv_meaning_world.specs.World.{Loaded, same_package}

-- an instance method that can override and be overridden; `<init>` does neither
abbrev pub is_instance : Method → Bool
is_instance m = not (has m.access_flags acc_static) && not (is_init m.name)

-- a method with the class that declares it
pub record Declared : Type 0 where
  pub by : Loaded
  pub method : Method

abbrev pub is_package_private : Method → Bool
is_package_private m = not (has m.access_flags (acc_public + acc_protected + acc_private))

-- a method that a class below declares overrides this one itself: it is not private, and this one is public, protected,
-- or package-private in the same run-time package
abbrev pub overrides_itself : Declared → Declared → Bool
overrides_itself d e =
    not (has d.method.access_flags acc_private)
    && (has e.method.access_flags (acc_public + acc_protected) || (is_package_private e.method && same_package d.by e.by))

-- the method of a class with the name and descriptor of another
abbrev pub declared_if : Loaded → Option Method → Option Declared
declared_if l None = None
declared_if l (Some m) = if is_instance m then Some (record { by = l; method = m }) else None

abbrev pub alike_in : Loaded → Method → Option Declared
alike_in l m = declared_if l (method_named l.class m.name m.descriptor)

-- One class further down the chain: its method joins those that override where it overrides one of them itself. So a
-- method also overrides what a third between them overrides, where it overrides that third.
abbrev pub with_declared : List Declared → Option Declared → List Declared
with_declared found None = found
with_declared found (Some d) = if list_any (overrides_itself d) found then found ++ d ∷ [] else found

-- a method, and those that override it along the classes below its own, the nearest first
abbrev pub overriding : List Declared → Method → List Loaded → List Declared
overriding found m [] = found
overriding found m (l ∷ below) = overriding (with_declared found (alike_in l m)) m below
