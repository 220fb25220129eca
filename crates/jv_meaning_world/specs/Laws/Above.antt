-- What holds of the classes above a class (JVMS 5.3.5), and of those that are loadable.
use Rattle.std.specs.Prelude.{◌↔◌, Bool, true, not, ◌&&◌, ◌||◌, List, [], ◌∷◌, IsTrue}
use Rattle.std.specs.List.{Contains}
use Rattle.jv_class.specs.Class.{Class}
use Rattle.jv_meaning_world.specs.World.{Loaded, World}
use Rattle.jv_meaning_world.specs.Above.{supers_in, above, is_circular}
use Rattle.jv_meaning_world.specs.Verdicts.{each_super, have_right_kind, can_name_supers, is_loadable}

-- a way up: each class on it is a direct super of the one before
abbrev pub IsWayUp : World → Class → List Loaded → Loaded → Type 0
IsWayUp world class [] to = Contains (supers_in world class) to
IsWayUp world class (by ∷ more) to = Contains (supers_in world class) by × IsWayUp world by.class more to

-- A law: a class is above another exactly where a way leads up to it, however long.
abbrev pub AboveByWays : Type 0
AboveByWays = (world : World) (class : Class) (to : Loaded) → Contains (above world class) to
    ↔ ((between : List Loaded) × IsWayUp world class between to)

-- A law: what is above a class that is above another is above the other.
abbrev pub AboveIsTransitive : Type 0
AboveIsTransitive =
    (world : World) (class : Class) (by to : Loaded) → Contains (above world class) by → Contains (above world by.class) to
    → Contains (above world class) to

-- ---- loadable classes

-- a class of the system; or one that is not circular, and whose direct supers are there, of the right kind and open to it
abbrev pub stands_itself : World → Loaded → Bool
stands_itself world l =
    l.by_system
    || (not (is_circular world l.class) && each_super world (λ s. true) l.class && have_right_kind world l.class && can_name_supers world l)

-- the direct supers of the system's classes are the system's
abbrev pub SystemStandsAlone : World → Type 0
SystemStandsAlone world = (l s : Loaded) → Contains world l → IsTrue l.by_system → Contains (supers_in world l.class) s → IsTrue s.by_system

-- A law: a class is loadable exactly where it and all classes above it stand themselves.
abbrev pub LoadableByAll : Type 0
LoadableByAll =
    (world : World) (l : Loaded) → SystemStandsAlone world → Contains world l
    → IsTrue (is_loadable world l)
    ↔ (IsTrue (stands_itself world l) × ((s : Loaded) → Contains (above world l.class) s → IsTrue (stands_itself world s)))
