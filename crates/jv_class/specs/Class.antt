-- A class by its names (JVMS 4.1, 4.5, 4.6): what a class structure says, with the indices of names, supers and members
-- followed to their texts. Whatever is said of classes beyond their own files is said of these.
use Rattle.std.specs.Prelude.{◌≡◌, ℕ, ◌+◌, ◌*◌, ℤ, ◌&&◌, ◌==◌, List, [], ◌∷◌, Option, Some, None, IsSome, if◌then◌else◌, slice_get}
use Rattle.std.specs.Int.{cast_signed, w32, w64}
use Rattle.std.specs.List.{find}
use Rattle.std.specs.Option.{option_map}
use Rattle.std.specs.Str.{bytes_eq}
use Rattle.jv_format.specs.Format.{◌>>=◌}
use Rattle.jv_pool.specs.declared.constant.Constant.TheVariants.{Integer, Long, String}
use Rattle.jv_pool.specs.Constants.{Entry, at_index, named_at, utf8_at, class_name_at}
use Rattle.jv_class_structure.specs.Structure.{FieldInfo, MethodInfo, ClassStructure}
use Rattle.jv_class_structure.specs.Attributes.{static_value}
use Rattle.jv_class_structure.specs.Parts.{CodeSeen, method_shown}
use Rattle.jv_class.specs.ClassFile.{class_name, IsWellFormed}

-- the constant that a static field has as its value (4.7.2), before the store into the field narrows it: an int of 32
-- bits, also of a short, char, byte or boolean; a long of 64; or the bytes of a string's text. That of a field of a
-- floating point type, which no supported class has, may be any.
pub data InitialValue : Type 0 where
  IntValue : ℤ → InitialValue
  LongValue : ℤ → InitialValue
  StringValue : List ℕ → InitialValue

-- a field (4.5)
pub record Field : Type 0 where
  pub access_flags : ℕ
  pub name : List ℕ
  pub descriptor : List ℕ
  pub initial : Option InitialValue

-- a method (4.6), with its code where it has one
pub record Method : Type 0 where
  pub access_flags : ℕ
  pub name : List ℕ
  pub descriptor : List ℕ
  pub code : Option CodeSeen

-- a class; java/lang/Object alone has no superclass. Its code names other classes, fields and methods by the constants
-- of its own pool. The minor version of its file is 0.
pub record Class : Type 0 where
  pub major_version : ℕ
  pub access_flags : ℕ
  pub name : List ℕ
  pub super_class : Option (List ℕ)
  pub interfaces : List (List ℕ)
  pub fields : List Field
  pub methods : List Method
  pub constant_pool : List Entry

-- ---- the class that a structure is

-- what is found of each item, where something is found of all
abbrev pub all_found : {A B : Type 0} → (A → Option B) → List A → Option (List B)
all_found find [] = Some []
all_found find (a ∷ more) = find a >>= λ b. all_found find more >>= λ others. Some (b ∷ others)

-- the value that a constant is
abbrev pub value_of_constant : List Entry → Entry → Option InitialValue
value_of_constant pool (Integer bits) = Some (IntValue (cast_signed w32 bits))
value_of_constant pool (Long high low) = Some (LongValue (cast_signed w64 (high * 4294967296 + low)))
value_of_constant pool (String text) = option_map StringValue (utf8_at pool text)
value_of_constant pool _ = None

abbrev pub initial_value : List Entry → FieldInfo → Option InitialValue
initial_value pool field = static_value pool field >>= λ index. at_index pool index >>= value_of_constant pool

abbrev pub field_of : List Entry → FieldInfo → Option Field
field_of pool field =
    option_map
    (λ texts. record {
      access_flags = field.access_flags;
      name = texts.name;
      descriptor = texts.descriptor;
      initial = initial_value pool field;
    })
    (named_at pool field.name_index field.descriptor_index)

abbrev pub method_of : List Entry → MethodInfo → Option Method
method_of pool method =
    option_map
    (λ texts. record {
      access_flags = method.access_flags;
      name = texts.name;
      descriptor = texts.descriptor;
      code = (method_shown pool method).code;
    })
    (named_at pool method.name_index method.descriptor_index)

-- none where the index is 0, and else the name of the Class constant there
abbrev pub super_of : ClassStructure → Option (Option (List ℕ))
super_of c = if c.super_class == 0 then Some None else option_map Some (class_name_at c.constant_pool c.super_class)

abbrev pub class_of : ClassStructure → Option Class
class_of c =
    class_name c >>= λ name. super_of c >>= λ super_class.
    all_found (class_name_at c.constant_pool) c.interfaces >>= λ interfaces.
    all_found (field_of c.constant_pool) c.fields >>= λ fields. all_found (method_of c.constant_pool) c.methods >>= λ methods.
    Some (record {
      major_version = c.major_version;
      access_flags = c.access_flags;
      name = name;
      super_class = super_class;
      interfaces = interfaces;
      fields = fields;
      methods = methods;
      constant_pool = c.constant_pool;
    })

-- ---- its members

abbrev pub field_named : Class → List ℕ → List ℕ → Option Field
field_named class name descriptor = find (λ f. bytes_eq f.name name && bytes_eq f.descriptor descriptor) class.fields

abbrev pub method_named : Class → List ℕ → List ℕ → Option Method
method_named class name descriptor = find (λ m. bytes_eq m.name name && bytes_eq m.descriptor descriptor) class.methods

-- ---- laws

-- A well-formed structure is a class.
abbrev pub IsSomeClass : Type 0
IsSomeClass = (c : ClassStructure) → IsWellFormed c → IsSome (class_of c)

-- A class has one field and one method of a name and a descriptor at most: each is the one that its own find.
pub record EachIsNamed (class : Class) : Type 0 where
  pub field : (place : ℕ) (f : Field) → slice_get class.fields place ≡ Some f → field_named class f.name f.descriptor ≡ Some f
  pub method : (place : ℕ) (m : Method) → slice_get class.methods place ≡ Some m → method_named class m.name m.descriptor ≡ Some m

abbrev pub OneOfEachName : Type 0
OneOfEachName = (c : ClassStructure) (class : Class) → IsWellFormed c → class_of c ≡ Some class → EachIsNamed class
