-- Descriptors of fields and methods (JVMS 4.3.2, 4.3.3): the text that each type has.
use Rattle.std.specs.Prelude.{◌≡◌, ℕ, ◌≤◌, Bool, true, false, List, [], ◌∷◌, ◌++◌, replicate, sum_by, nat_le, IsTrue, Option, Some, None, ◌==◌, ◌&&◌, ◌||◌, if◌then◌else◌}
use Rattle.std.specs.List.{list_all, list_any, flat_map}
use Rattle.jv_text.specs.declared.descriptor.Base.{Base}
use Rattle.jv_text.specs.declared.descriptor.Base.TheVariants.{Byte, Char, Double, Float, Int, Long, Short, Boolean}
use Rattle.jv_text.specs.declared.descriptor.Element.{Element}
use Rattle.jv_text.specs.declared.descriptor.Element.TheVariants as elements
use Rattle.jv_text.specs.declared.descriptor.FieldTypeOf.{FieldTypeOf}
use Rattle.jv_text.specs.Name.{is_class_name}

-- a letter for each primitive type
abbrev pub base_letter : Base → ℕ
base_letter Byte = 66  -- B
base_letter Char = 67  -- C
base_letter Double = 68  -- D
base_letter Float = 70  -- F
base_letter Int = 73  -- I
base_letter Long = 74  -- J
base_letter Short = 83  -- S
base_letter Boolean = 90  -- Z

-- that letter, or `L` (76), the class's name and `;` (59)
abbrev pub element_text : Element (List ℕ) → List ℕ
element_text (elements.Base base) = base_letter base ∷ []
element_text (elements.Class name) = 76 ∷ (name ++ (59 ∷ []))

-- what names a class is a class name
abbrev pub is_element : Element (List ℕ) → Bool
is_element (elements.Base base) = true
is_element (elements.Class name) = is_class_name name

-- a `[` (91) for each dimension, and the element
abbrev pub field_text : FieldTypeOf (List ℕ) → List ℕ
field_text t = replicate t.dimensions 91 ++ element_text t.element

-- there are at most 255 dimensions
abbrev pub is_field_type : FieldTypeOf (List ℕ) → Bool
is_field_type t = nat_le t.dimensions 255 && is_element t.element

-- The text is the type's descriptor.
pub record IsField (text : List ℕ) (t : FieldTypeOf (List ℕ)) : Type 0 where
  pub fits : IsTrue (is_field_type t)
  pub spelled : text ≡ field_text t

-- The types of a method's parameters, without its receiver, and of its result, None for void.
pub record MethodDescriptor : Type 0 where
  pub parameters : List (FieldTypeOf (List ℕ))
  pub result : Option (FieldTypeOf (List ℕ))

-- `V` (86) for void
abbrev pub result_text : Option (FieldTypeOf (List ℕ)) → List ℕ
result_text None = 86 ∷ []
result_text (Some t) = field_text t

abbrev pub is_result_type : Option (FieldTypeOf (List ℕ)) → Bool
is_result_type None = true
is_result_type (Some t) = is_field_type t

-- the parameters in parentheses (40, 41), and the result
abbrev pub method_text : MethodDescriptor → List ℕ
method_text m = 40 ∷ (flat_map field_text m.parameters ++ (41 ∷ result_text m.result))

-- long and double
abbrev pub is_wide : Element (List ℕ) → Bool
is_wide (elements.Base Long) = true
is_wide (elements.Base Double) = true
is_wide _ = false

-- the slots of a parameter: two for a long or a double, one for every other type
abbrev pub field_slots : FieldTypeOf (List ℕ) → ℕ
field_slots t = if t.dimensions == 0 && is_wide t.element then 2 else 1

-- the slots of a method's parameters
abbrev pub slots : MethodDescriptor → ℕ
slots m = sum_by field_slots m.parameters

-- ---- types of floating point numbers, and arrays of them

abbrev pub is_floating_element : Element (List ℕ) → Bool
is_floating_element (elements.Base Float) = true
is_floating_element (elements.Base Double) = true
is_floating_element _ = false

abbrev pub is_floating : FieldTypeOf (List ℕ) → Bool
is_floating t = is_floating_element t.element

abbrev pub is_floating_result : Option (FieldTypeOf (List ℕ)) → Bool
is_floating_result None = false
is_floating_result (Some t) = is_floating t

-- a parameter or the result is one
abbrev pub is_floating_method : MethodDescriptor → Bool
is_floating_method m = list_any is_floating m.parameters || is_floating_result m.result

-- The text is the method type's descriptor.
pub record IsMethod (text : List ℕ) (m : MethodDescriptor) : Type 0 where
  pub parameters : IsTrue (list_all is_field_type m.parameters)
  pub result : IsTrue (is_result_type m.result)
  pub few : slots m ≤ 255
  pub spelled : text ≡ method_text m

-- A law: a text is the descriptor of one type at most.
abbrev pub OneField : Type 0
OneField = (text : List ℕ) (one other : FieldTypeOf (List ℕ)) → IsField text one → IsField text other → one ≡ other

-- A law: a text is the descriptor of one method type at most.
abbrev pub OneMethod : Type 0
OneMethod = (text : List ℕ) (one other : MethodDescriptor) → IsMethod text one → IsMethod text other → one ≡ other
