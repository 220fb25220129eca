-- The constants of a class file (JVMS 4.4): their bytes, and what an index names.
use Rattle.std.specs.Prelude.{ℕ, zero, suc, ◌+◌, ◌*◌, Bool, true, false, ◌&&◌, nat_lt, List, [], ◌∷◌, ◌++◌, length, Option, Some, None, slice_get, if◌then◌else◌}
use Rattle.std.specs.Option.{option_map}
use Rattle.std.specs.List.{flat_map, list_all}
use Rattle.jv_format.specs.Format.{◌>>=◌, byte, half, quad, text}
use Rattle.jv_pool.specs.declared.constant.Constant.{Constant}
use Rattle.jv_pool.specs.declared.constant.Constant.TheVariants.{Utf8, Integer, Float, Long, Double, Class, String, Fieldref, Methodref, InterfaceMethodref, NameAndType, MethodHandle, MethodType, InvokeDynamic}
use Rattle.jv_pool.specs.declared.constant.Kind.{Kind}
use Rattle.jv_pool.specs.declared.constant.Kind.TheVariants as kinds

-- a constant whose text is a list of bytes
abbrev pub Entry : Type 0
Entry = Constant (List ℕ)

-- the bytes of a constant: a tag (table 4.4-A) and what it holds
abbrev pub constant_bytes : Entry → List ℕ
constant_bytes (Utf8 t) = 1 ∷ text.spelling t
constant_bytes (Integer bits) = 3 ∷ quad.spelling bits
constant_bytes (Float bits) = 4 ∷ quad.spelling bits
constant_bytes (Long high low) = 5 ∷ (quad.spelling high ++ quad.spelling low)
constant_bytes (Double high low) = 6 ∷ (quad.spelling high ++ quad.spelling low)
constant_bytes (Class name) = 7 ∷ half.spelling name
constant_bytes (String t) = 8 ∷ half.spelling t
constant_bytes (Fieldref class name_and_type) = 9 ∷ (half.spelling class ++ half.spelling name_and_type)
constant_bytes (Methodref class name_and_type) = 10 ∷ (half.spelling class ++ half.spelling name_and_type)
constant_bytes (InterfaceMethodref class name_and_type) = 11 ∷ (half.spelling class ++ half.spelling name_and_type)
constant_bytes (NameAndType name descriptor) = 12 ∷ (half.spelling name ++ half.spelling descriptor)
constant_bytes (MethodHandle kind index) = 15 ∷ (byte.spelling kind ++ half.spelling index)
constant_bytes (MethodType descriptor) = 16 ∷ half.spelling descriptor
constant_bytes (InvokeDynamic bootstrap name_and_type) = 18 ∷ (half.spelling bootstrap ++ half.spelling name_and_type)

-- the numbers of a constant fit their fields
abbrev pub constant_fits : Entry → Bool
constant_fits (Utf8 t) = text.fits t
constant_fits (Integer bits) = quad.fits bits
constant_fits (Float bits) = quad.fits bits
constant_fits (Long high low) = quad.fits high && quad.fits low
constant_fits (Double high low) = quad.fits high && quad.fits low
constant_fits (Class name) = half.fits name
constant_fits (String t) = half.fits t
constant_fits (Fieldref class name_and_type) = half.fits class && half.fits name_and_type
constant_fits (Methodref class name_and_type) = half.fits class && half.fits name_and_type
constant_fits (InterfaceMethodref class name_and_type) = half.fits class && half.fits name_and_type
constant_fits (NameAndType name descriptor) = half.fits name && half.fits descriptor
constant_fits (MethodHandle kind index) = byte.fits kind && half.fits index
constant_fits (MethodType descriptor) = half.fits descriptor
constant_fits (InvokeDynamic bootstrap name_and_type) = half.fits bootstrap && half.fits name_and_type

-- ---- the table of constants (4.1, 4.4.5)

-- Long and Double take two entries of the table
abbrev pub takes_two : {T : Type 0} → Constant T → Bool
takes_two (Long high low) = true
takes_two (Double high low) = true
takes_two _ = false

-- the second of them is valid, but unusable (4.4.5)
abbrev pub entries_of : {T : Type 0} → Constant T → List (Option (Constant T))
entries_of c = if takes_two c then Some c ∷ None ∷ [] else Some c ∷ []

abbrev pub table_of : {T : Type 0} → List (Constant T) → List (Option (Constant T))
table_of pool = flat_map entries_of pool

-- one more than the entries of the table (4.1)
abbrev pub pool_count : {T : Type 0} → List (Constant T) → ℕ
pool_count pool = length (table_of pool) + 1

-- the bytes of a pool: the count, and the constants one after the other (4.1)
abbrev pub pool_bytes : List Entry → List ℕ
pool_bytes pool = half.spelling (pool_count pool) ++ flat_map constant_bytes pool

-- the count and the numbers of all constants fit their fields
abbrev pub pool_fits : List Entry → Bool
pool_fits pool = nat_lt (pool_count pool) 65536 && list_all constant_fits pool

-- ---- what an index names; the first entry of the table has index 1 (4.1)

abbrev pub usable : {T : Type 0} → Option (Option (Constant T)) → Option (Constant T)
usable (Some entry) = entry
usable None = None

abbrev pub at_index : {T : Type 0} → List (Constant T) → ℕ → Option (Constant T)
at_index pool zero = None
at_index pool (suc n) = usable (slice_get (table_of pool) n)

abbrev pub kind_of : {T : Type 0} → Constant T → Kind
kind_of (Utf8 t) = kinds.Utf8
kind_of (Integer bits) = kinds.Integer
kind_of (Float bits) = kinds.Float
kind_of (Long high low) = kinds.Long
kind_of (Double high low) = kinds.Double
kind_of (Class name) = kinds.Class
kind_of (String t) = kinds.String
kind_of (Fieldref class name_and_type) = kinds.Fieldref
kind_of (Methodref class name_and_type) = kinds.Methodref
kind_of (InterfaceMethodref class name_and_type) = kinds.InterfaceMethodref
kind_of (NameAndType name descriptor) = kinds.NameAndType
kind_of (MethodHandle kind index) = kinds.MethodHandle
kind_of (MethodType descriptor) = kinds.MethodType
kind_of (InvokeDynamic bootstrap name_and_type) = kinds.InvokeDynamic

abbrev pub kind_at : List Entry → ℕ → Option Kind
kind_at pool index = option_map kind_of (at_index pool index)

-- the text of the Utf8 constant at an index (4.4.7)
abbrev pub utf8_in : Option Entry → Option (List ℕ)
utf8_in (Some (Utf8 t)) = Some t
utf8_in _ = None

abbrev pub utf8_at : List Entry → ℕ → Option (List ℕ)
utf8_at pool index = utf8_in (at_index pool index)

-- the bits of the Integer constant at an index (4.4.4)
abbrev pub integer_in : Option Entry → Option ℕ
integer_in (Some (Integer bits)) = Some bits
integer_in _ = None

abbrev pub integer_at : List Entry → ℕ → Option ℕ
integer_at pool index = integer_in (at_index pool index)

-- the bits of the Long constant at an index, the high ones first (4.4.5)
abbrev pub long_in : Option Entry → Option ℕ
long_in (Some (Long high low)) = Some (high * 4294967296 + low)
long_in _ = None

abbrev pub long_at : List Entry → ℕ → Option ℕ
long_at pool index = long_in (at_index pool index)

-- the text that the Class constant at an index names (4.4.1)
abbrev pub class_name_in : List Entry → Option Entry → Option (List ℕ)
class_name_in pool (Some (Class name)) = utf8_at pool name
class_name_in pool _ = None

abbrev pub class_name_at : List Entry → ℕ → Option (List ℕ)
class_name_at pool index = class_name_in pool (at_index pool index)

-- the text of the String constant at an index (4.4.3)
abbrev pub string_in : List Entry → Option Entry → Option (List ℕ)
string_in pool (Some (String t)) = utf8_at pool t
string_in pool _ = None

abbrev pub string_at : List Entry → ℕ → Option (List ℕ)
string_at pool index = string_in pool (at_index pool index)

-- a member's name and its descriptor
pub record NameAndDescriptor : Type 0 where
  pub name : List ℕ
  pub descriptor : List ℕ

abbrev pub name_and_descriptor : List ℕ → List ℕ → NameAndDescriptor
name_and_descriptor name descriptor = record { name = name; descriptor = descriptor }

abbrev pub named_at : List Entry → ℕ → ℕ → Option NameAndDescriptor
named_at pool name descriptor =
    utf8_at pool name >>= λ n. utf8_at pool descriptor >>= λ d. Some (name_and_descriptor n d)

-- the texts that the NameAndType constant at an index names (4.4.6)
abbrev pub name_and_type_in : List Entry → Option Entry → Option NameAndDescriptor
name_and_type_in pool (Some (NameAndType name descriptor)) = named_at pool name descriptor
name_and_type_in pool _ = None

abbrev pub name_and_type_at : List Entry → ℕ → Option NameAndDescriptor
name_and_type_at pool index = name_and_type_in pool (at_index pool index)

-- a member of a class: the text of its Class constant, its name and its descriptor
pub record MemberReference : Type 0 where
  pub class : List ℕ
  pub name : List ℕ
  pub descriptor : List ℕ

abbrev pub member_of : List ℕ → NameAndDescriptor → MemberReference
member_of class member = record { class = class; name = member.name; descriptor = member.descriptor }

abbrev pub member_at : List Entry → ℕ → ℕ → Option MemberReference
member_at pool class name_and_type =
    class_name_at pool class >>= λ c. name_and_type_at pool name_and_type >>= λ m. Some (member_of c m)

-- the field that the Fieldref constant at an index names (4.4.2)
abbrev pub field_reference_in : List Entry → Option Entry → Option MemberReference
field_reference_in pool (Some (Fieldref class name_and_type)) = member_at pool class name_and_type
field_reference_in pool _ = None

abbrev pub field_reference_at : List Entry → ℕ → Option MemberReference
field_reference_at pool index = field_reference_in pool (at_index pool index)

-- the method that the Methodref constant at an index names (4.4.2)
abbrev pub method_reference_in : List Entry → Option Entry → Option MemberReference
method_reference_in pool (Some (Methodref class name_and_type)) = member_at pool class name_and_type
method_reference_in pool _ = None

abbrev pub method_reference_at : List Entry → ℕ → Option MemberReference
method_reference_at pool index = method_reference_in pool (at_index pool index)

-- the method that the InterfaceMethodref constant at an index names (4.4.2)
abbrev pub interface_method_reference_in : List Entry → Option Entry → Option MemberReference
interface_method_reference_in pool (Some (InterfaceMethodref class name_and_type)) = member_at pool class name_and_type
interface_method_reference_in pool _ = None

abbrev pub interface_method_reference_at : List Entry → ℕ → Option MemberReference
interface_method_reference_at pool index = interface_method_reference_in pool (at_index pool index)
