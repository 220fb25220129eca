-- What values of the code stand for in the definitions on descriptors (JVMS 4.3): the same types, with
-- lists of bytes in place of slices.
use Rattle.std.specs.Prelude.{◌≡◌, ℕ, Bool, List, map, Option, Some, None}
use Rattle.std.specs.Borrow.{Bor}
use Rattle.jv_text.specs.declared.descriptor.Element.{Element}
use Rattle.jv_text.specs.declared.descriptor.Element.TheVariants as elements
use Rattle.jv_text.specs.declared.descriptor.FieldTypeOf.{FieldTypeOf}
use Rattle.jv_text.specs.declared.descriptor.MethodType.{MethodType}
use Rattle.jv_text.specs.Descriptor.{MethodDescriptor, slots, is_floating_method, IsMethod}

abbrev pub seen_element : Element (Bor (List ℕ)) → Element (List ℕ)
seen_element (elements.Base base) = elements.Base base
seen_element (elements.Class name) = elements.Class name.now

abbrev pub seen_field_type : FieldTypeOf (Bor (List ℕ)) → FieldTypeOf (List ℕ)
seen_field_type t = record { dimensions = t.dimensions; element = seen_element t.element }

abbrev pub seen_result : Option (FieldTypeOf (Bor (List ℕ))) → Option (FieldTypeOf (List ℕ))
seen_result None = None
seen_result (Some t) = Some (seen_field_type t)

abbrev pub seen_method_type : MethodType → MethodDescriptor
seen_method_type m = record { parameters = map seen_field_type m.parameters.items; result = seen_result m.result }

-- The text is the descriptor of a method type with these slots and this result, and floating or not.
pub record HasShape (text : List ℕ) (count : ℕ) (floating : Bool) (result : Option (FieldTypeOf (List ℕ))) : Type 0 where
  pub method : MethodDescriptor
  pub described : IsMethod text method
  pub counted : count ≡ slots method
  pub floats : floating ≡ is_floating_method method
  pub given : result ≡ method.result
