-- What a method overrides, from its class up (JVMS 5.4.5): a method overrides one further up exactly where that is public or
-- protected, or package-private in the package of a method that it overrides so far.
use Rattle.std.specs.Prelude.{◌+◌, Bool, false, not, ◌&&◌, ◌||◌, List, [], ◌∷◌, Option, Some, None, if◌then◌else◌}
use Rattle.std.specs.List.{list_any}
use Rattle.jv_class_structure.specs.Flags.{has, acc_public, acc_private, acc_protected, acc_final}
use Rattle.jv_class.specs.Class.{Method}
use Rattle.jv_meaning_world.specs.World.{Loaded, same_package}
use Rattle.jv_meaning_world.specs.Overriding.{Declared, is_instance, is_package_private, alike_in}

-- an instance method that is not private
abbrev pub can_override : Method → Bool
can_override m = is_instance m && not (has m.access_flags acc_private)

-- one of the classes found so far is in the package of this one
abbrev pub have_package : List Loaded → Loaded → Bool
have_package found l = list_any (λ f. same_package f l) found

-- from one of these classes, or one of their packages
abbrev pub is_overridden : List Loaded → Declared → Bool
is_overridden found e =
    has e.method.access_flags (acc_public + acc_protected) || (is_package_private e.method && have_package found e.by)

-- one class further up: it is found where its method is overridden and can override
abbrev pub with_overridden : List Loaded → Option Declared → List Loaded
with_overridden found None = found
with_overridden found (Some e) =
    if is_overridden found e && not (has e.method.access_flags acc_private) then e.by ∷ found else found

abbrev pub overrides_final : List Loaded → Option Declared → Bool
overrides_final found None = false
overrides_final found (Some e) = has e.method.access_flags acc_final && is_overridden found e

-- a final method of these superclasses is overridden, the nearest to those found first
abbrev pub overrides_final_above : Method → List Loaded → List Loaded → Bool
overrides_final_above m found [] = false
overrides_final_above m found (s ∷ more) =
    overrides_final found (alike_in s m) || overrides_final_above m (with_overridden found (alike_in s m)) more

-- a method of the class overrides a final one of these superclasses, the direct one first
abbrev pub breaks_final_by : Loaded → List Loaded → Method → Bool
breaks_final_by l chain m = can_override m && overrides_final_above m (l ∷ []) chain
