-- Which attributes a class file's structures may have (JVMS 4.7).
-- Code, StackMapTable and ConstantValue are looked at; every other attribute is passed over by its length (4.7.1) (own).
use Rattle.std.specs.Prelude.{ℕ, ◌+◌, ◌*◌, Bool, true, false, not, ◌&&◌, nat_lt, List, [], ◌∷◌, length, filter, Option, Some, None, is_some, codes, if◌then◌else◌}
use Rattle.std.specs.List.{list_all, flat_map}
use Rattle.std.specs.Str.{bytes_eq}
use Rattle.jv_format.specs.Format.{◌>>=◌}
use Rattle.jv_pool.specs.Constants.{Entry, utf8_at}
use Rattle.jv_class_structure.specs.Structure.{AttributeInfo, CodeAttribute, MethodAttribute, FieldInfo, MethodInfo, ClassStructure}
use Rattle.jv_class_structure.specs.Structure.MethodAttribute.{Code, Other}
use Rattle.jv_class_structure.specs.Flags.{has, acc_static}

-- a test of a text that may be there
abbrev pub some_and : (List ℕ → Bool) → Option (List ℕ) → Bool
some_and test None = false
some_and test (Some text) = test text

-- the text at an index is this one
abbrev pub is_text_at : List Entry → List ℕ → ℕ → Bool
is_text_at pool text index = some_and (λ t. bytes_eq t text) (utf8_at pool index)

abbrev pub has_attribute_name : List Entry → List ℕ → AttributeInfo → Bool
has_attribute_name pool name a = is_text_at pool name a.attribute_name_index

abbrev pub at_most_one : {A : Type 0} → List A → Bool
at_most_one [] = true
at_most_one (x ∷ []) = true
at_most_one (x ∷ y ∷ more) = false

-- the one item of a list
abbrev pub sole : {A : Type 0} → List A → Option A
sole (x ∷ []) = Some x
sole _ = None

-- the index of an attribute's name is that of a Utf8 constant (4.7)
abbrev pub has_utf8_name : List Entry → AttributeInfo → Bool
has_utf8_name pool a = is_some (utf8_at pool a.attribute_name_index)

abbrev pub all_named : List Entry → List AttributeInfo → Bool
all_named pool attributes = list_all (has_utf8_name pool) attributes

-- ---- ConstantValue (4.7.2)

abbrev pub constant_values : List Entry → FieldInfo → List AttributeInfo
constant_values pool f = filter (has_attribute_name pool (codes "ConstantValue")) f.attributes

-- two bytes are an index
abbrev pub index_in : List ℕ → Option ℕ
index_in (high ∷ low ∷ []) = Some (high * 256 + low)
index_in _ = None

abbrev pub value_index : AttributeInfo → Option ℕ
value_index a = index_in a.info

-- the index of the constant that a static field has as its value, where it has one; on other fields the attribute is
-- passed over (own)
abbrev pub static_value : List Entry → FieldInfo → Option ℕ
static_value pool f =
    if has f.access_flags acc_static then sole (constant_values pool f) >>= value_index else None

-- a static field has at most one, which holds two bytes
abbrev pub values_keep_rules_of : List Entry → FieldInfo → Bool
values_keep_rules_of pool f =
    if has f.access_flags acc_static
    then at_most_one (constant_values pool f) && list_all (λ a. is_some (value_index a)) (constant_values pool f)
    else true

abbrev pub field_attributes_keep_rules : List Entry → FieldInfo → Bool
field_attributes_keep_rules pool f = all_named pool f.attributes && values_keep_rules_of pool f

-- ---- Code (4.7.3)

-- the code has 1 to 65,535 bytes
abbrev pub code_length_keeps_rules : List ℕ → Bool
code_length_keeps_rules code = nat_lt 0 (length code) && nat_lt (length code) 65536

-- StackMapTable (4.7.4): at most one
abbrev pub stack_maps : List Entry → CodeAttribute → List AttributeInfo
stack_maps pool c = filter (has_attribute_name pool (codes "StackMapTable")) c.attributes

abbrev pub code_keeps_rules : List Entry → CodeAttribute → Bool
code_keeps_rules pool c = code_length_keeps_rules c.code && all_named pool c.attributes && at_most_one (stack_maps pool c)

-- the attribute named `Code` is the code, and every other is passed over
abbrev pub method_attribute_keeps_rules : List Entry → MethodAttribute → Bool
method_attribute_keeps_rules pool (Code name code) = is_text_at pool (codes "Code") name && code_keeps_rules pool code
method_attribute_keeps_rules pool (Other a) = has_utf8_name pool a && not (has_attribute_name pool (codes "Code") a)

abbrev pub code_in : MethodAttribute → List CodeAttribute
code_in (Code name code) = code ∷ []
code_in (Other a) = []

abbrev pub codes_of : MethodInfo → List CodeAttribute
codes_of m = flat_map code_in m.attributes

-- a method has at most one Code attribute; whether it has one is asked with its name and flags
abbrev pub method_attributes_keep_rules : List Entry → MethodInfo → Bool
method_attributes_keep_rules pool m = list_all (method_attribute_keeps_rules pool) m.attributes && at_most_one (codes_of m)

-- ---- all attributes of a class file

abbrev pub attributes_keep_rules : ClassStructure → Bool
attributes_keep_rules c =
    list_all (field_attributes_keep_rules c.constant_pool) c.fields
    && list_all (method_attributes_keep_rules c.constant_pool) c.methods
    && all_named c.constant_pool c.attributes
