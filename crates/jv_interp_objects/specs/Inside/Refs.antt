-- What constants were resolved to, before its type is told by numbers (JVMS 5.4.3.1).
use Rattle.std.specs.Prelude.{ℕ, ◌+◌, ◌<◌, ⊤, List, length, IsSome}
use Rattle.jv_text.specs.declared.descriptor.Element.{Element}
use Rattle.jv_text.specs.declared.descriptor.Element.TheVariants as elements
use Rattle.jv_meaning_world.specs.World.{World, class_named}
use Rattle.jv_meaning_typing.specs.ClassResolution.{ResolvedClass}
use Rattle.jv_meaning_typing.specs.ClassResolution.ResolvedClass.{ClassOf, ArrayOf}
use Rattle.jv_interp_objects.specs.declared.types.NumberedType.{NumberedType}

-- an element's class is in the world
abbrev pub IsThere : World → Element (List ℕ) → Type 0
IsThere world (elements.Base base) = ⊤
IsThere world (elements.Class name) = IsSome (class_named world name)

-- an array's is
abbrev pub HasElement : World → ResolvedClass → Type 0
HasElement world (ClassOf l) = ⊤
HasElement world (ArrayOf type) = IsThere world type.element

-- a type has as many dimensions as a byte tells at most, and its element is a base type's or a class's
pub record AreFew (world : World) (numbers : NumberedType) : Type 0 where
  pub dimensions : numbers.dimensions < 256
  pub element : numbers.element < 8 + length world
