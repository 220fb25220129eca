-- What overrides a method (JVMS 5.4.5), asked of the classes of a chain from the lowest up: for the code that selects methods,
-- which goes up once. The rules speak of `overriding`.
use Rattle.std.specs.Prelude.{◌≡◌, Bool, false, not, ◌&&◌, ◌||◌, List, [], ◌∷◌, reverse, Option, Some, None}
use Rattle.std.specs.List.{list_any}
use Rattle.jv_class_structure.specs.Flags.{has, acc_private}
use Rattle.jv_class.specs.Class.{Method}
use Rattle.jv_meaning_world.specs.World.{Loaded, same_package}
use Rattle.jv_meaning_world.specs.Overriding.{Declared, overrides_itself, alike_in, overriding}
use Rattle.jv_meaning_typing.specs.Inside.OneWalk.{is_open}

abbrev pub is_private : Declared → Bool
is_private d = has d.method.access_flags acc_private

-- in the package of a method that is not private
abbrev pub is_near : Declared → Declared → Bool
is_near e d = not (is_private e) && same_package d.by e.by

-- it overrides a method from that one's package, and those below can override it, wherever they are
abbrev pub opens : Declared → Declared → Bool
opens e d = not (is_private d) && (is_open d && is_near e d)

abbrev pub opened_by : Declared → Option Declared → Bool
opened_by e None = false
opened_by e (Some d) = opens e d

-- so does the method of its name and descriptor in a class
abbrev pub opened_in : Declared → Method → Loaded → Bool
opened_in e m l = opened_by e (alike_in l m)

-- A law: a method below these classes, the lowest first, overrides a method above them, or one of them that overrides that, where
-- it is not private, and that is open, or one of them opens it, or it is near.
abbrev pub OverridingUpward : Type 0
OverridingUpward =
    (e : Declared) (m : Method) (ls : List Loaded) (d : Declared)
    → list_any (overrides_itself d) (overriding (e ∷ []) m (reverse ls))
    ≡ (not (is_private d) && ((is_open e || list_any (opened_in e m) ls) || is_near e d))
