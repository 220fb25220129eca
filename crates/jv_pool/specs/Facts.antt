-- What is known of a text (JVMS 4.2, 4.3, 4.4.1, 4.7.2).
use Rattle.std.specs.Prelude.{◌≡◌, ◌↔◌, ℕ, ◌==◌, if◌then◌else◌, List, Option, Some, None, is_none, IsTrue, codes}
use Rattle.std.specs.Str.{bytes_eq}
use Rattle.jv_text.specs.declared.descriptor.Base.{Base}
use Rattle.jv_text.specs.declared.descriptor.Base.TheVariants as bases
use Rattle.jv_text.specs.declared.descriptor.Element.{Element}
use Rattle.jv_text.specs.declared.descriptor.Element.TheVariants as elements
use Rattle.jv_text.specs.declared.descriptor.FieldTypeOf.{FieldTypeOf}
use Rattle.jv_text.specs.Name.{is_unqualified_name, is_method_name}
use Rattle.jv_text.specs.Descriptor.{IsField, is_floating, is_floating_method, MethodDescriptor, slots, IsMethod}
use Rattle.jv_pool.specs.declared.facts.ConstantValueKind.{ConstantValueKind}
use Rattle.jv_pool.specs.declared.facts.ConstantValueKind.TheVariants as values
use Rattle.jv_pool.specs.declared.facts.FieldFacts.{FieldFacts}
use Rattle.jv_pool.specs.declared.facts.MethodFacts.{MethodFacts}
use Rattle.jv_pool.specs.declared.facts.TextFacts.{TextFacts}
use Rattle.jv_pool.specs.Rules.{NamesClass}

-- ---- which constant may be the value of a static field of a type (4.7.2, table 4.7.2-A)

abbrev pub value_of_base : Base → ConstantValueKind
value_of_base bases.Long = values.Long
value_of_base bases.Float = values.Floating
value_of_base bases.Double = values.Floating
value_of_base bases.Int = values.Integer
value_of_base bases.Short = values.Integer
value_of_base bases.Char = values.Integer
value_of_base bases.Byte = values.Integer
value_of_base bases.Boolean = values.Integer

abbrev pub value_of_element : Element (List ℕ) → ConstantValueKind
value_of_element (elements.Base base) = value_of_base base
value_of_element (elements.Class name) = if bytes_eq name (codes "java/lang/String") then values.String else values.Nothing

-- of an array none
abbrev pub value_of_type : FieldTypeOf (List ℕ) → ConstantValueKind
value_of_type type = if type.dimensions == 0 then value_of_element type.element else values.Nothing

-- ---- what is known

pub record AreFieldFacts (text : List ℕ) (facts : FieldFacts) : Type 0 where
  pub type : FieldTypeOf (List ℕ)
  pub described : IsField text type
  pub value : facts.value ≡ value_of_type type
  pub floating : facts.floating ≡ is_floating type

-- facts where it is a field descriptor, and none where it isn't
abbrev pub IsFieldKnown : List ℕ → Option FieldFacts → Type 0
IsFieldKnown text (Some facts) = AreFieldFacts text facts
IsFieldKnown text None = (type : FieldTypeOf (List ℕ)) → IsField text type → ⊥

pub record AreMethodFacts (text : List ℕ) (facts : MethodFacts) : Type 0 where
  pub type : MethodDescriptor
  pub described : IsMethod text type
  pub slots : facts.slots ≡ slots type
  pub void : facts.void ≡ is_none type.result
  pub floating : facts.floating ≡ is_floating_method type

abbrev pub IsMethodKnown : List ℕ → Option MethodFacts → Type 0
IsMethodKnown text (Some facts) = AreMethodFacts text facts
IsMethodKnown text None = (type : MethodDescriptor) → IsMethod text type → ⊥

pub record AreFacts (text : List ℕ) (facts : TextFacts) : Type 0 where
  pub names_class : IsTrue facts.names_class ↔ NamesClass text
  pub unqualified : facts.unqualified ≡ is_unqualified_name text
  pub method_name : facts.method_name ≡ is_method_name text
  pub field : IsFieldKnown text facts.field
  pub method : IsMethodKnown text facts.method
