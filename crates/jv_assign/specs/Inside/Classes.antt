-- Which class flows to which (JVMS 4.10.1.2), by what is looked up of it.
use Rattle.std.specs.Prelude.{◌≡◌, ℕ, Bool, false, ◌||◌, List, Option}
use Rattle.std.specs.Borrow.{Bor}
use Rattle.std.specs.Str.{bytes_eq}
use Rattle.jv_text.specs.declared.descriptor.FieldTypeOf.{FieldTypeOf}
use Rattle.jv_text.specs.Seen.{seen_element}
use Rattle.jv_meaning_world.specs.World.{World, class_named}
use Rattle.jv_meaning_world.specs.Numbers.{number_named}
use Rattle.jv_meaning_world.specs.Flow.{is_loadable_interface, is_loadable_below, class_flows, component_flows}

-- to a loadable interface, or, from a loadable class, to its superclass
abbrev pub flows_to_other : World → List ℕ → List ℕ → Bool
flows_to_other world from to = is_loadable_interface world (class_named world to) || is_loadable_below world to (class_named world from)

-- two names have these numbers, and are not the same: the answer is whether the one flows to the other
abbrev pub IsFlowOfOthers : World → Option ℕ → Option ℕ → Bool → Type 0
IsFlowOfOthers world from to answer =
    (x y : List ℕ) → from ≡ number_named world x → to ≡ number_named world y → bytes_eq x y ≡ false → answer ≡ class_flows world x y

-- the components of an array flow to those of another
abbrev pub components_flow : World → FieldTypeOf (Bor (List ℕ)) → FieldTypeOf (Bor (List ℕ)) → Bool
components_flow world from to = component_flows world from.dimensions (seen_element from.element) to.dimensions (seen_element to.element)
