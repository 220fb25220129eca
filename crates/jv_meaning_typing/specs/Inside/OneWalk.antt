-- What overrides a method (JVMS 5.4.5), found in one walk down the classes that keeps one bit: for the code that selects
-- methods, whose loop is such a walk. The rules speak of `overriding`.
use Rattle.std.specs.Prelude.{◌≡◌, Bool, not, IsTrue, ◌+◌, ◌&&◌, ◌||◌, List, [], ◌∷◌, map, Option, Some, None, if◌then◌else◌}
use Rattle.jv_class_structure.specs.Flags.{has, acc_public, acc_private, acc_protected}
use Rattle.jv_class.specs.Class.{Method}
use Rattle.jv_meaning_world.specs.World.{Loaded, same_package}
use Rattle.jv_meaning_world.specs.Overriding.{Declared, alike_in, overriding}

-- every class's method can override it, where it is not private
abbrev pub is_open : Declared → Bool
is_open d = has d.method.access_flags (acc_public + acc_protected)

-- a method overrides the first, or one that overrides it, where an open one is among these, or else in the first's package
abbrev pub joins : Bool → Declared → Declared → Bool
joins open_before e d = not (has d.method.access_flags acc_private) && (open_before || same_package d.by e.by)

-- those that override it, of the methods of its name and descriptor in the classes below, the nearest first
abbrev pub walked : Declared → Bool → List (Option Declared) → List Declared
walked e open_before [] = []
walked e open_before (None ∷ more) = walked e open_before more
walked e open_before (Some d ∷ more) =
    if joins open_before e d then d ∷ walked e (open_before || is_open d) more else walked e open_before more

-- A law: these are what overrides a method that is not private.
abbrev pub OverridingInOneWalk : Type 0
OverridingInOneWalk =
    (e : Declared) (m : Method) (ls : List Loaded) → IsTrue (not (has e.method.access_flags acc_private))
    → overriding (e ∷ []) m ls ≡ e ∷ walked e (is_open e) (map (λ l. alike_in l m) ls)
