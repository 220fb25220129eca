-- The types that descriptors describe (JVMS 4.3.2, 4.3.3), as functions of the texts: what `IsField` and `IsMethod` say
-- as relations.
use Rattle.std.specs.Prelude.{◌≡◌, ◌↔◌, ℕ, zero, suc, ◌==◌, ◌&&◌, nat_le, List, [], ◌∷◌, length, drop, Option, Some, None, codes, if◌then◌else◌}
use Rattle.std.specs.List.{list_all}
use Rattle.std.specs.Option.{option_map, option_and_then}
use Rattle.std.specs.Str.{bytes_eq}
use Rattle.jv_text.specs.declared.descriptor.Base.{Base}
use Rattle.jv_text.specs.declared.descriptor.Base.TheVariants.{Byte, Char, Double, Float, Int, Long, Short, Boolean}
use Rattle.jv_text.specs.declared.descriptor.Element.{Element}
use Rattle.jv_text.specs.declared.descriptor.Element.TheVariants as elements
use Rattle.jv_text.specs.declared.descriptor.FieldTypeOf.{FieldTypeOf}
use Rattle.jv_text.specs.Descriptor.{is_field_type, IsField, MethodDescriptor, slots, IsMethod}

-- the primitive type of a letter (table 4.3-A)
abbrev pub base_of_letter : ℕ → Option Base
base_of_letter letter =
    if letter == 66 then Some Byte else if letter == 67 then Some Char else if letter == 68 then Some Double
    else if letter == 70 then Some Float else if letter == 73 then Some Int else if letter == 74 then Some Long
    else if letter == 83 then Some Short else if letter == 90 then Some Boolean else None

-- one byte more in front of the first part
abbrev pub before : ℕ → List ℕ × List ℕ → List ℕ × List ℕ
before byte parts = (byte ∷ parts.0, parts.1)

-- what stands before the first `;` (59), and what stands behind it
abbrev pub to_semicolon : List ℕ → Option (List ℕ × List ℕ)
to_semicolon [] = None
to_semicolon (byte ∷ rest) = if byte == 59 then Some ([], rest) else option_map (before byte) (to_semicolon rest)

abbrev pub class_behind : List ℕ × List ℕ → Element (List ℕ) × List ℕ
class_behind parts = (elements.Class parts.0, parts.1)

abbrev pub base_before : List ℕ → Base → Element (List ℕ) × List ℕ
base_before rest base = (elements.Base base, rest)

-- the element at the front of a text, and what follows it: a letter, or `L` (76), a name and `;`
abbrev pub element_at : List ℕ → Option (Element (List ℕ) × List ℕ)
element_at [] = None
element_at (letter ∷ rest) =
    if letter == 76 then option_map class_behind (to_semicolon rest) else option_map (base_before rest) (base_of_letter letter)

-- how many brackets, `[` (91), a text begins with
abbrev pub brackets : List ℕ → ℕ
brackets [] = 0
brackets (byte ∷ rest) = if byte == 91 then suc (brackets rest) else 0

abbrev pub with_dimensions : ℕ → Element (List ℕ) × List ℕ → FieldTypeOf (List ℕ) × List ℕ
with_dimensions count found = (record { dimensions = count; element = found.0 }, found.1)

-- the type at the front of a text, and what follows it
abbrev pub type_at : List ℕ → Option (FieldTypeOf (List ℕ) × List ℕ)
type_at text = option_map (with_dimensions (brackets text)) (element_at (drop (brackets text) text))

abbrev pub type_alone : FieldTypeOf (List ℕ) × List ℕ → Option (FieldTypeOf (List ℕ))
type_alone found = if length found.1 == 0 && is_field_type found.0 then Some found.0 else None

-- the type of a field descriptor (4.3.2)
abbrev pub field_type_of : List ℕ → Option (FieldTypeOf (List ℕ))
field_type_of text = option_and_then type_alone (type_at text)

abbrev pub with_parameter : FieldTypeOf (List ℕ) → List (FieldTypeOf (List ℕ)) × List ℕ → List (FieldTypeOf (List ℕ)) × List ℕ
with_parameter type found = (type ∷ found.0, found.1)

-- the types of parameters up to `)` (41), fewer than the number says, and what follows it
abbrev pub parameters_at : ℕ → List ℕ → Option (List (FieldTypeOf (List ℕ)) × List ℕ)
parameters_at zero text = None
parameters_at (suc n) [] = None
parameters_at (suc n) (byte ∷ rest) =
    if byte == 41 then Some ([], rest)
    else option_and_then (λ found. option_map (with_parameter found.0) (parameters_at n found.1)) (type_at (byte ∷ rest))

-- the type of a result, none for `V` (86)
abbrev pub result_of : List ℕ → Option (Option (FieldTypeOf (List ℕ)))
result_of text = if bytes_eq text (codes "V") then Some None else option_map Some (field_type_of text)

abbrev pub method_with : List (FieldTypeOf (List ℕ)) → Option (FieldTypeOf (List ℕ)) → MethodDescriptor
method_with parameters result = record { parameters = parameters; result = result }

abbrev pub method_alone : MethodDescriptor → Option MethodDescriptor
method_alone method = if list_all is_field_type method.parameters && nat_le (slots method) 255 then Some method else None

abbrev pub method_behind : List (FieldTypeOf (List ℕ)) × List ℕ → Option MethodDescriptor
method_behind found = option_and_then method_alone (option_map (method_with found.0) (result_of found.1))

-- the type of a method descriptor (4.3.3), which begins with `(` (40)
abbrev pub method_type_of : List ℕ → Option MethodDescriptor
method_type_of [] = None
method_type_of (byte ∷ rest) = if byte == 40 then option_and_then method_behind (parameters_at (length rest) rest) else None

-- A law: a text is the descriptor of the type that the function gives, and of no other.
pub record TypesAgree : Type 0 where
  pub field : (text : List ℕ) (type : FieldTypeOf (List ℕ)) → IsField text type ↔ (field_type_of text ≡ Some type)
  pub method : (text : List ℕ) (type : MethodDescriptor) → IsMethod text type ↔ (method_type_of text ≡ Some type)
