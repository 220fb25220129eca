-- The structures that make up a class file, and the bytes that each one has (4.1, 4.6, 4.7).
-- A structure holds what stands in the file, indices as they stand there; what makes it well formed is said by rules over it.
use Rattle.std.specs.Prelude.{ℕ, Bool, ◌&&◌, nat_lt, List, [], ◌∷◌, ◌++◌, length}
use Rattle.std.specs.List.{flat_map, list_all}
use Rattle.jv_format.specs.Format.{half, quad}
use Rattle.jv_format.specs.declared.handlers.Handler.{Handler}
use Rattle.jv_format.specs.Handlers.{handler_bytes, handler_fits}
use Rattle.jv_pool.specs.Constants.{Entry, pool_bytes}

-- an attribute that is passed over (4.7): the index of its name, and its contents
pub record AttributeInfo : Type 0 where
  pub attribute_name_index : ℕ
  pub info : List ℕ

-- what a Code attribute holds (4.7.3)
pub record CodeAttribute : Type 0 where
  pub max_stack : ℕ
  pub max_locals : ℕ
  pub code : List ℕ
  pub exception_table : List Handler
  pub attributes : List AttributeInfo

-- an attribute of a method: its code behind the index of the name, or one that is passed over
pub data MethodAttribute : Type 0 where
  Code : (attribute_name_index : ℕ) → (code : CodeAttribute) → MethodAttribute
  Other : (attribute : AttributeInfo) → MethodAttribute

-- a field (4.5)
pub record FieldInfo : Type 0 where
  pub access_flags : ℕ
  pub name_index : ℕ
  pub descriptor_index : ℕ
  pub attributes : List AttributeInfo

-- a method (4.6)
pub record MethodInfo : Type 0 where
  pub access_flags : ℕ
  pub name_index : ℕ
  pub descriptor_index : ℕ
  pub attributes : List MethodAttribute

-- a whole class file (4.1)
pub record ClassStructure : Type 0 where
  pub minor_version : ℕ
  pub major_version : ℕ
  pub constant_pool : List Entry
  pub access_flags : ℕ
  pub this_class : ℕ
  pub super_class : ℕ
  pub interfaces : List ℕ
  pub fields : List FieldInfo
  pub methods : List MethodInfo
  pub attributes : List AttributeInfo

-- ---- bytes

-- how many items there are, in two bytes, and the items one after the other
abbrev pub table_bytes : {A : Type 0} → (A → List ℕ) → List A → List ℕ
table_bytes bytes_of items = half.spelling (length items) ++ flat_map bytes_of items

-- contents behind their length in four bytes
abbrev pub contents_bytes : List ℕ → List ℕ
contents_bytes contents = quad.spelling (length contents) ++ contents

abbrev pub attribute_bytes : AttributeInfo → List ℕ
attribute_bytes a = half.spelling a.attribute_name_index ++ contents_bytes a.info

abbrev pub code_bytes : CodeAttribute → List ℕ
code_bytes c =
    half.spelling c.max_stack ++ half.spelling c.max_locals ++ contents_bytes c.code
    ++ table_bytes handler_bytes c.exception_table ++ table_bytes attribute_bytes c.attributes

abbrev pub method_attribute_bytes : MethodAttribute → List ℕ
method_attribute_bytes (Code name code) = half.spelling name ++ contents_bytes (code_bytes code)
method_attribute_bytes (Other attribute) = attribute_bytes attribute

abbrev pub field_bytes : FieldInfo → List ℕ
field_bytes f =
    half.spelling f.access_flags ++ half.spelling f.name_index ++ half.spelling f.descriptor_index
    ++ table_bytes attribute_bytes f.attributes

abbrev pub method_bytes : MethodInfo → List ℕ
method_bytes m =
    half.spelling m.access_flags ++ half.spelling m.name_index ++ half.spelling m.descriptor_index
    ++ table_bytes method_attribute_bytes m.attributes

-- what stands behind the constant pool
abbrev pub body_bytes : ClassStructure → List ℕ
body_bytes c =
    half.spelling c.access_flags ++ half.spelling c.this_class ++ half.spelling c.super_class
    ++ table_bytes half.spelling c.interfaces ++ table_bytes field_bytes c.fields
    ++ table_bytes method_bytes c.methods ++ table_bytes attribute_bytes c.attributes

-- the four bytes that every class file begins with: CAFEBABE in hexadecimal
abbrev pub magic : List ℕ
magic = 202 ∷ 254 ∷ 186 ∷ 190 ∷ []

abbrev pub class_bytes : ClassStructure → List ℕ
class_bytes c =
    magic ++ half.spelling c.minor_version ++ half.spelling c.major_version ++ pool_bytes c.constant_pool ++ body_bytes c

-- ---- the numbers fit their fields: counts and indices two bytes, lengths four

abbrev pub table_fits : {A : Type 0} → (A → Bool) → List A → Bool
table_fits item_fits items = nat_lt (length items) 65536 && list_all item_fits items

abbrev pub attribute_fits : AttributeInfo → Bool
attribute_fits a = half.fits a.attribute_name_index && quad.fits (length a.info)

abbrev pub code_fits : CodeAttribute → Bool
code_fits c =
    half.fits c.max_stack && half.fits c.max_locals && quad.fits (length c.code)
    && table_fits handler_fits c.exception_table && table_fits attribute_fits c.attributes

abbrev pub method_attribute_fits : MethodAttribute → Bool
method_attribute_fits (Code name code) = half.fits name && quad.fits (length (code_bytes code)) && code_fits code
method_attribute_fits (Other attribute) = attribute_fits attribute

abbrev pub field_fits : FieldInfo → Bool
field_fits f =
    half.fits f.access_flags && half.fits f.name_index && half.fits f.descriptor_index
    && table_fits attribute_fits f.attributes

abbrev pub method_fits : MethodInfo → Bool
method_fits m =
    half.fits m.access_flags && half.fits m.name_index && half.fits m.descriptor_index
    && table_fits method_attribute_fits m.attributes

-- those behind the constant pool
abbrev pub body_fits : ClassStructure → Bool
body_fits c =
    half.fits c.access_flags && half.fits c.this_class && half.fits c.super_class
    && table_fits half.fits c.interfaces && table_fits field_fits c.fields
    && table_fits method_fits c.methods && table_fits attribute_fits c.attributes
