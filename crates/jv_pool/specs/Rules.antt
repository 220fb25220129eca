-- Which lists of constants are pools (JVMS 4.4).
use Rattle.std.specs.Prelude.{◌≡◌, ◌⊎◌, ⊤, ℕ, Bool, true, ◌&&◌, List, ◌++◌, Option, is_none, IsSome, IsTrue, if◌then◌else◌}
use Rattle.std.specs.List.{All}
use Rattle.std.specs.Option.{IsSomeAnd}
use Rattle.jv_text.specs.declared.descriptor.FieldTypeOf.{FieldTypeOf}
use Rattle.jv_text.specs.Text.{IsText}
use Rattle.jv_text.specs.Name.{is_unqualified_name, is_class_name, is_plain_name, is_method_name, begins_with, is_array_name, is_init}
use Rattle.jv_text.specs.Descriptor.{IsField, MethodDescriptor, IsMethod}
use Rattle.jv_pool.specs.declared.constant.Constant.TheVariants.{Utf8, Integer, Float, Long, Double, Class, String, Fieldref, Methodref, InterfaceMethodref, NameAndType, MethodHandle, MethodType, InvokeDynamic}
use Rattle.jv_pool.specs.Constants.{Entry, NameAndDescriptor, pool_bytes, pool_fits, utf8_at, class_name_at, name_and_type_at}

-- ---- texts

abbrev pub IsFieldDescriptor : List ℕ → Type 0
IsFieldDescriptor text = (type : FieldTypeOf (List ℕ)) × IsField text type

abbrev pub IsMethodDescriptor : List ℕ → Type 0
IsMethodDescriptor text = (type : MethodDescriptor) × IsMethod text type

-- ---- the rules

-- what a Class constant names: a class, or an array type by its descriptor (4.4.1)
pub record IsArrayDescriptor (text : List ℕ) : Type 0 where
  pub array : IsTrue (is_array_name text)
  pub described : IsFieldDescriptor text

abbrev pub NamesClass : List ℕ → Type 0
NamesClass text = IsTrue (is_class_name text) ⊎ IsArrayDescriptor text

-- what a NameAndType constant names: an unqualified name, and the descriptor of a field or a method (4.4.6)
abbrev pub IsUnqualified : List ℕ → Type 0
IsUnqualified text = IsTrue (is_unqualified_name text)

abbrev pub IsDescriptor : List ℕ → Type 0
IsDescriptor text = IsFieldDescriptor text ⊎ IsMethodDescriptor text

-- what a Fieldref constant names beside its class: the descriptor of a field (4.4.2)
abbrev pub NamesField : NameAndDescriptor → Type 0
NamesField member = IsFieldDescriptor member.descriptor

-- a name that begins with `<` (60) is `<init>`, whose result is void (4.4.2)
abbrev pub special_name_keeps_rules : List ℕ → Option (FieldTypeOf (List ℕ)) → Bool
special_name_keeps_rules name result = if begins_with 60 name then is_init name && is_none result else true

-- what a Methodref constant names beside its class: a method name, and the descriptor of a method (4.4.2)
pub record IsMethodMember (name descriptor : List ℕ) : Type 0 where
  pub named : IsTrue (is_method_name name)
  pub type : MethodDescriptor
  pub described : IsMethod descriptor type
  pub special : IsTrue (special_name_keeps_rules name type.result)

abbrev pub NamesMethod : NameAndDescriptor → Type 0
NamesMethod member = IsMethodMember member.name member.descriptor

-- what an InterfaceMethodref constant names beside its class: a method name without `<` (own: neither `<init>` nor
-- `<clinit>` can be called through it), and the descriptor of a method (4.4.2)
pub record IsInterfaceMethodMember (name descriptor : List ℕ) : Type 0 where
  pub named : IsTrue (is_method_name name)
  pub plain : IsTrue (is_plain_name name)
  pub described : IsMethodDescriptor descriptor

abbrev pub NamesInterfaceMethod : NameAndDescriptor → Type 0
NamesInterfaceMethod member = IsInterfaceMethodMember member.name member.descriptor

-- a Class constant's index names a Utf8 constant (4.4.1)
abbrev pub IsClassIn : List Entry → ℕ → Type 0
IsClassIn pool name = IsSomeAnd (utf8_at pool name) NamesClass

-- The indices of a Fieldref, Methodref or InterfaceMethodref constant name a Class and a NameAndType constant; each of
-- the three asks its own of what the second names (4.4.2).
pub record IsMemberIn (NamesIt : NameAndDescriptor → Type 0) (pool : List Entry) (class name_and_type : ℕ) : Type 0 where
  pub owner : IsSome (class_name_at pool class)
  pub member : IsSomeAnd (name_and_type_at pool name_and_type) NamesIt

-- a NameAndType constant's indices name Utf8 constants (4.4.6)
pub record IsNameAndTypeIn (pool : List Entry) (name descriptor : ℕ) : Type 0 where
  pub named : IsSomeAnd (utf8_at pool name) IsUnqualified
  pub described : IsSomeAnd (utf8_at pool descriptor) IsDescriptor

-- A constant keeps the rules of its kind: a Utf8 constant is text (4.4.7), and so on. Numbers may be any, and what a
-- MethodHandle, a MethodType and an InvokeDynamic constant hold is not looked at (own).
abbrev pub KeepsRules : List Entry → Entry → Type 0
KeepsRules pool (Utf8 text) = IsText text
KeepsRules pool (Integer bits) = ⊤
KeepsRules pool (Float bits) = ⊤
KeepsRules pool (Long high low) = ⊤
KeepsRules pool (Double high low) = ⊤
KeepsRules pool (Class name) = IsClassIn pool name
KeepsRules pool (String text) = IsSome (utf8_at pool text)
KeepsRules pool (Fieldref class name_and_type) = IsMemberIn NamesField pool class name_and_type
KeepsRules pool (Methodref class name_and_type) = IsMemberIn NamesMethod pool class name_and_type
KeepsRules pool (InterfaceMethodref class name_and_type) = IsMemberIn NamesInterfaceMethod pool class name_and_type
KeepsRules pool (NameAndType name descriptor) = IsNameAndTypeIn pool name descriptor
KeepsRules pool (MethodHandle kind index) = ⊤
KeepsRules pool (MethodType descriptor) = ⊤
KeepsRules pool (InvokeDynamic bootstrap name_and_type) = ⊤

-- ---- pools

-- the bytes are the pool's, its count and numbers fit their fields, and each constant keeps its rules
pub record IsPool (bytes : List ℕ) (pool : List Entry) : Type 0 where
  pub spelled : bytes ≡ pool_bytes pool
  pub fits : IsTrue (pool_fits pool)
  pub rules : All (KeepsRules pool) pool

-- A law: bytes begin with one pool at most, and so are cut there in one way.
abbrev pub OnePool : Type 0
OnePool =
    (front other rest after : List ℕ) (p q : List Entry) → front ++ rest ≡ other ++ after
    → IsPool front p → IsPool other q → (p ≡ q) × (front ≡ other) × (rest ≡ after)
