-- The rules on the names, types and flags of a class, its fields and its methods (JVMS 4.1, 4.5, 4.6, 4.7.2, 4.7.3).
use Rattle.std.specs.Prelude.{◌≢◌, ⊤, ℕ, ◌+◌, Bool, true, false, not, ◌&&◌, ◌==◌, nat_le, List, [], ◌∷◌, map, Option, Some, None, is_some, is_none, IsTrue, codes, if◌then◌else◌}
use Rattle.std.specs.List.{All, AllByRecursion}
use Rattle.std.specs.Option.{IsSomeAnd}
use Rattle.std.specs.Str.{bytes_eq}
use Rattle.jv_text.specs.declared.descriptor.FieldTypeOf.{FieldTypeOf}
use Rattle.jv_text.specs.Name.{is_unqualified_name, is_method_name}
use Rattle.jv_text.specs.Descriptor.{IsField, MethodDescriptor, slots, IsMethod}
use Rattle.jv_pool.specs.declared.constant.Kind.{Kind}
use Rattle.jv_pool.specs.declared.constant.Kind.TheVariants as kinds
use Rattle.jv_pool.specs.declared.facts.ConstantValueKind.{ConstantValueKind}
use Rattle.jv_pool.specs.declared.facts.ConstantValueKind.TheVariants as values
use Rattle.jv_pool.specs.Constants.{Entry, NameAndDescriptor, named_at, kind_at, class_name_at}
use Rattle.jv_text.specs.Name.{is_array_name, is_init}
use Rattle.jv_pool.specs.Facts.{value_of_type}
use Rattle.jv_class_structure.specs.Structure.{FieldInfo, MethodInfo, ClassStructure}
use Rattle.jv_class_structure.specs.Attributes.{some_and, sole, static_value, codes_of}
use Rattle.jv_class_structure.specs.Flags.{has, acc_static, acc_native, acc_interface, acc_abstract, class_flags_keep_rules, visibility_keeps_rules, volatile_keeps_rules, interface_field_keeps_rules, abstract_keeps_rules, interface_method_keeps_rules, older_interface_method_keeps_rules, init_flags_keep_rules}

-- ---- names

abbrev pub is_object : List ℕ → Bool
is_object name = bytes_eq name (codes "java/lang/Object")

abbrev pub is_clinit : List ℕ → Bool
is_clinit name = bytes_eq name (codes "<clinit>")

abbrev pub is_no_arguments_void : List ℕ → Bool
is_no_arguments_void descriptor = bytes_eq descriptor (codes "()V")

-- ---- the class and its supers (4.1)

abbrev pub is_no_array_name : List ℕ → Bool
is_no_array_name name = not (is_array_name name)

-- the index of a Class constant that names no array
abbrev pub is_class_at : List Entry → ℕ → Bool
is_class_at pool index = some_and is_no_array_name (class_name_at pool index)

abbrev pub IsClassAt : List Entry → ℕ → Type 0
IsClassAt pool index = IsTrue (is_class_at pool index)

-- java/lang/Object alone has no superclass; that of any other class is a Class constant and no array
abbrev pub super_keeps_rules : List Entry → List ℕ → ℕ → Bool
super_keeps_rules pool name super_class = if is_object name then super_class == 0 else is_class_at pool super_class

-- the superclass of an interface is java/lang/Object
abbrev pub interface_super_keeps_rules : List Entry → ℕ → ℕ → Bool
interface_super_keeps_rules pool class_flags super_class =
    if has class_flags acc_interface then some_and is_object (class_name_at pool super_class) else true

-- the name of a class is none of an array, and goes with its superclass
pub record KeepsRulesAsName (pool : List Entry) (super_class : ℕ) (name : List ℕ) : Type 0 where
  pub no_array : IsTrue (is_no_array_name name)
  pub superclass : IsTrue (super_keeps_rules pool name super_class)

-- ---- its fields (4.5)

abbrev pub interface_field_flags_keep_rules : Bool → ℕ → Bool
interface_field_flags_keep_rules in_interface flags = if in_interface then interface_field_keeps_rules flags else true

abbrev pub field_flags_keep_rules : Bool → ℕ → Bool
field_flags_keep_rules in_interface flags =
    visibility_keeps_rules flags && volatile_keeps_rules flags && interface_field_flags_keep_rules in_interface flags

abbrev pub is_integer : Option Kind → Bool
is_integer (Some kinds.Integer) = true
is_integer _ = false

abbrev pub is_long : Option Kind → Bool
is_long (Some kinds.Long) = true
is_long _ = false

abbrev pub is_string : Option Kind → Bool
is_string (Some kinds.String) = true
is_string _ = false

-- the constant that the value of a static field may be, by the field's type (4.7.2, table 4.7.2-A); that of a float or a
-- double is not looked at, since such a field makes the class unsupported (own)
abbrev pub takes : ConstantValueKind → Option Kind → Bool
takes values.Integer constant = is_integer constant
takes values.Long constant = is_long constant
takes values.String constant = is_string constant
takes values.Floating constant = true
takes values.Nothing constant = false

abbrev pub value_keeps_rules : List Entry → ConstantValueKind → Option ℕ → Bool
value_keeps_rules pool value None = true
value_keeps_rules pool value (Some index) = takes value (kind_at pool index)

-- what a field's name, descriptor, flags and the index of its constant value, if it has one, have to do with one another
pub record KeepsRulesAsField (pool : List Entry) (class_flags flags : ℕ) (value : Option ℕ) (texts : NameAndDescriptor) : Type 0 where
  pub named : IsTrue (is_unqualified_name texts.name)
  pub type : FieldTypeOf (List ℕ)
  pub described : IsField texts.descriptor type
  pub flags_keep_rules : IsTrue (field_flags_keep_rules (has class_flags acc_interface) flags)
  pub value_kind : IsTrue (value_keeps_rules pool (value_of_type type) value)

-- the name and the descriptor that a field's indices name
abbrev pub field_texts : List Entry → FieldInfo → Option NameAndDescriptor
field_texts pool f = named_at pool f.name_index f.descriptor_index

abbrev pub KeepsFieldRules : List Entry → ℕ → FieldInfo → Type 0
KeepsFieldRules pool class_flags f =
    IsSomeAnd (field_texts pool f) (KeepsRulesAsField pool class_flags f.access_flags (static_value pool f))

-- ---- its methods (4.6)

-- a method of an interface, in a class file of this major version
abbrev pub interface_flags_keep_rules : ℕ → Bool → ℕ → Bool
interface_flags_keep_rules major in_interface flags =
    if in_interface then interface_method_keeps_rules flags && older_interface_method_keeps_rules major flags else true

abbrev pub named_flags_keep_rules : List ℕ → ℕ → Bool
named_flags_keep_rules name flags = if is_init name then init_flags_keep_rules flags else true

-- of `<clinit>` only whether it is static is looked at (own), by `clinit_keeps_rules`
abbrev pub method_flags_keep_rules : ℕ → Bool → List ℕ → ℕ → Bool
method_flags_keep_rules major in_interface name flags =
    if is_clinit name then true
    else visibility_keeps_rules flags && abstract_keeps_rules flags && interface_flags_keep_rules major in_interface flags
    && named_flags_keep_rules name flags

-- `<init>` is void (4.4.2, here of the declared method too) and in no interface (own)
abbrev pub init_keeps_rules : Bool → List ℕ → Bool → Bool
init_keeps_rules in_interface name void = if is_init name then not in_interface && void else true

-- `<clinit>` is static and `()V` (2.9) (own)
abbrev pub clinit_keeps_rules : List ℕ → List ℕ → ℕ → Bool
clinit_keeps_rules name descriptor flags = if is_clinit name then has flags acc_static && is_no_arguments_void descriptor else true

-- the receiver of an instance method and the parameters fill at most 255 slots (4.3.3)
abbrev pub slots_keep_rules : ℕ → ℕ → Bool
slots_keep_rules flags count = nat_le ((if has flags acc_static then 0 else 1) + count) 255

-- a method has no code where it is abstract or native, `<clinit>` aside (own), and else has it (4.7.3)
abbrev pub is_bodiless : List ℕ → ℕ → Bool
is_bodiless name flags = not (is_clinit name) && has flags (acc_abstract + acc_native)

-- it has one Code attribute
abbrev pub has_code : MethodInfo → Bool
has_code m = is_some (sole (codes_of m))

abbrev pub code_presence_keeps_rules : List ℕ → ℕ → Bool → Bool
code_presence_keeps_rules name flags code = if is_bodiless name flags then not code else code

-- what a method's name, descriptor, flags and whether it has code have to do with one another, in a class file of this
-- major version
pub record KeepsRulesAsMethod (major class_flags flags : ℕ) (code : Bool) (texts : NameAndDescriptor) : Type 0 where
  pub named : IsTrue (is_method_name texts.name)
  pub type : MethodDescriptor
  pub described : IsMethod texts.descriptor type
  pub flags_keep_rules : IsTrue (method_flags_keep_rules major (has class_flags acc_interface) texts.name flags)
  pub init : IsTrue (init_keeps_rules (has class_flags acc_interface) texts.name (is_none type.result))
  pub clinit : IsTrue (clinit_keeps_rules texts.name texts.descriptor flags)
  pub few_slots : IsTrue (slots_keep_rules flags (slots type))
  pub code_there : IsTrue (code_presence_keeps_rules texts.name flags code)

-- the name and the descriptor that a method's indices name
abbrev pub method_texts : List Entry → MethodInfo → Option NameAndDescriptor
method_texts pool m = named_at pool m.name_index m.descriptor_index

abbrev pub KeepsMethodRules : List Entry → ℕ → ℕ → MethodInfo → Type 0
KeepsMethodRules pool major class_flags m =
    IsSomeAnd (method_texts pool m) (KeepsRulesAsMethod major class_flags m.access_flags (has_code m))

-- ---- no two fields, and no two methods, have the same name and descriptor (4.5, 4.6)

-- none is like a later one
abbrev pub NoTwoAlike : List (Option NameAndDescriptor) → Type 0
NoTwoAlike [] = ⊤
NoTwoAlike (texts ∷ others) = AllByRecursion (λ other. texts ≢ other) others × NoTwoAlike others

-- ---- the whole

pub record SupersKeepRules (c : ClassStructure) : Type 0 where
  pub interface_super : IsTrue (interface_super_keeps_rules c.constant_pool c.access_flags c.super_class)
  pub interfaces : All (IsClassAt c.constant_pool) c.interfaces

pub record ItselfKeepsRules (c : ClassStructure) : Type 0 where
  pub flags : IsTrue (class_flags_keep_rules c.access_flags)
  pub named : IsSomeAnd (class_name_at c.constant_pool c.this_class) (KeepsRulesAsName c.constant_pool c.super_class)
  pub supers : SupersKeepRules c

pub record MembersKeepRules (c : ClassStructure) : Type 0 where
  pub fields : All (KeepsFieldRules c.constant_pool c.access_flags) c.fields
  pub methods : All (KeepsMethodRules c.constant_pool c.major_version c.access_flags) c.methods

pub record AreMembersUnlike (c : ClassStructure) : Type 0 where
  pub fields : NoTwoAlike (map (field_texts c.constant_pool) c.fields)
  pub methods : NoTwoAlike (map (method_texts c.constant_pool) c.methods)

pub record KeepsClassRules (c : ClassStructure) : Type 0 where
  pub itself : ItselfKeepsRules c
  pub members : MembersKeepRules c
  pub unlike : AreMembersUnlike c
