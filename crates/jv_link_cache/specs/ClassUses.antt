-- Classes and arrays as steps use them (JVMS 5.4.3.1): what a Class constant resolves to, and the number of the class of the elements.
use Rattle.std.specs.Prelude.{◌≡◌, ℕ, List, Option, None, Result, Ok, Err}
use Rattle.jv_text.specs.declared.descriptor.Element.{Element}
use Rattle.jv_text.specs.declared.descriptor.Element.TheVariants as elements
use Rattle.jv_text.specs.Seen.{seen_element}
use Rattle.jv_meaning_world.specs.World.{World}
use Rattle.jv_meaning_world.specs.Numbers.{number_named}
use Rattle.jv_link.specs.declared.error.LinkError.{LinkError}
use Rattle.jv_link.specs.declared.target.ClassRef.{ClassRef}
use Rattle.jv_link.specs.declared.target.ClassRef.TheVariants as refs
use Rattle.jv_link.specs.UseRules.{IsRefWithin}
use Rattle.jv_link_cache.specs.declared.class_use.ClassUse.{ClassUse}

-- a base type has none
abbrev pub class_of_element : World → Element (List ℕ) → Option ℕ
class_of_element world (elements.Base base) = None
class_of_element world (elements.Class name) = number_named world name

abbrev pub class_of_elements : World → ClassRef → Option ℕ
class_of_elements world (refs.Class number) = None
class_of_elements world (refs.Array type) = class_of_element world (seen_element type.element)

-- it is of a class, or of an array with the number of its elements' class
pub record IsClassUse (world : World) (use_of : ClassUse) : Type 0 where
  pub within : IsRefWithin world use_of.found
  pub element : use_of.element ≡ class_of_elements world use_of.found

-- the class or the array that is used, or the error
abbrev pub used_ref : Result ClassUse LinkError → Result ClassRef LinkError
used_ref (Ok use_of) = Ok use_of.found
used_ref (Err error) = Err error
