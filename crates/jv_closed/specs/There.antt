-- Whether a world has the classes that a part of a class names.
use Rattle.std.specs.Prelude.{ℕ, zero, suc, Bool, true, ◌&&◌, List, Option, Some, None}
use Rattle.std.specs.List.{flat_map, list_all}
use Rattle.jv_text.specs.declared.descriptor.FieldTypeOf.{FieldTypeOf}
use Rattle.jv_pool.specs.Constants.{Entry, at_index}
use Rattle.jv_meaning_world.specs.World.{World}
use Rattle.jv_meaning_library.specs.Closed.{element_names, constant_names, is_there}

-- all these names
abbrev pub are_there : World → List (List ℕ) → Bool
are_there world names = list_all (is_there world) names

abbrev pub types_are_there : World → List (FieldTypeOf (List ℕ)) → Bool
types_are_there world types = are_there world (flat_map (λ type. element_names type.element) types)

-- those of the constant that an index names
abbrev pub constant_is_there : World → List Entry → Option Entry → Bool
constant_is_there world pool None = true
constant_is_there world pool (Some entry) = are_there world (constant_names pool entry)

-- those of the constants that the indices below a number name
abbrev pub constants_are_there : World → List Entry → ℕ → Bool
constants_are_there world pool zero = true
constants_are_there world pool (suc n) = constants_are_there world pool n && constant_is_there world pool (at_index pool n)
