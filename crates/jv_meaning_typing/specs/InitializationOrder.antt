-- Which classes and interfaces are initialized before a class, and in which order (JVMS 5.5, step 7).
use Rattle.std.specs.Prelude.{ℕ, zero, suc, ◌+◌, Bool, not, List, [], ◌∷◌, ◌++◌, length, filter, if◌then◌else◌}
use Rattle.std.specs.List.{filter_map, fold, list_any}
use Rattle.jv_class_structure.specs.Flags.{has, acc_static, acc_abstract}
use Rattle.jv_class.specs.Class.{Class, Method}
use Rattle.jv_meaning_world.specs.World.{Loaded, World, class_named}
use Rattle.jv_meaning_world.specs.Above.{superclass_names}
use Rattle.jv_meaning_world.specs.Verdicts.{is_interface}
use Rattle.jv_meaning_world.specs.LookUps.{is_among}

abbrev pub interfaces_in : World → Class → List Loaded
interfaces_in world class = filter_map (class_named world) class.interfaces

-- An interface behind those that were given: its superinterfaces first, and then it; none twice, where none is above itself
abbrev pub given_within : World → ℕ → List Loaded → Loaded → List Loaded
given_within world zero given l = given
given_within world (suc k) given l =
    if is_among given l then given else fold (given_within world k) given (interfaces_in world l.class) ++ l ∷ []

-- those of a class, in the order of the file; of a class that can be loaded, ways up are no longer than there are classes
abbrev pub enumerated : World → Class → List Loaded
enumerated world class = fold (given_within world (length world)) [] (interfaces_in world class)

-- it declares a method that is neither abstract nor static; a private one counts
abbrev pub is_default : Method → Bool
is_default m = not (has m.access_flags (acc_abstract + acc_static))

abbrev pub declares_default : Loaded → Bool
declares_default l = list_any is_default l.class.methods

-- of a class its superclass, and then the interfaces that have defaults; of an interface none
abbrev pub init_order : World → Loaded → List Loaded
init_order world l =
    if is_interface l then []
    else filter_map (class_named world) (superclass_names l.class.super_class) ++ filter declares_default (enumerated world l.class)
