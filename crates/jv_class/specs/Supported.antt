-- Which class files this host's integer profile supports, code aside (own): none with floating point numbers, method
-- handles, method types or dynamic call sites (JVMS 4.4), and none with native or synchronized methods (4.6), `<clinit>` aside.
use Rattle.std.specs.Prelude.{⊤, ℕ, ◌+◌, Bool, not, ◌||◌, List, IsTrue}
use Rattle.std.specs.List.{All}
use Rattle.std.specs.Option.{IsSomeAnd}
use Rattle.jv_text.specs.declared.descriptor.FieldTypeOf.{FieldTypeOf}
use Rattle.jv_text.specs.Descriptor.{IsField, is_floating, is_floating_method, MethodDescriptor, IsMethod}
use Rattle.jv_pool.specs.declared.constant.Constant.TheVariants.{Utf8, Integer, Float, Long, Double, Class, String, Fieldref, Methodref, InterfaceMethodref, NameAndType, MethodHandle, MethodType, InvokeDynamic}
use Rattle.jv_pool.specs.Constants.{Entry, utf8_at}
use Rattle.jv_text.specs.Name.{is_array_name}
use Rattle.jv_class_structure.specs.Structure.{ClassStructure}
use Rattle.jv_class_structure.specs.Flags.{has, acc_native, acc_synchronized}
use Rattle.jv_class.specs.Rules.{is_clinit}

-- no field descriptor of float, double or an array of these
abbrev pub HasNoFloatingField : List ℕ → Type 0
HasNoFloatingField text = (type : FieldTypeOf (List ℕ)) → IsField text type → IsTrue (not (is_floating type))

-- and no method descriptor with such a type
abbrev pub HasNoFloatingMethod : List ℕ → Type 0
HasNoFloatingMethod text = (type : MethodDescriptor) → IsMethod text type → IsTrue (not (is_floating_method type))

pub record HasNoFloating (text : List ℕ) : Type 0 where
  pub field : HasNoFloatingField text
  pub method : HasNoFloatingMethod text

-- an array's name is its descriptor; the name of a class is none
pub record IsNoFloatingArray (text : List ℕ) : Type 0 where
  pub array : IsTrue (is_array_name text) → HasNoFloating text

abbrev pub IsSupportedConstant : List Entry → Entry → Type 0
IsSupportedConstant pool (Utf8 text) = ⊤
IsSupportedConstant pool (Integer bits) = ⊤
IsSupportedConstant pool (Float bits) = ⊥
IsSupportedConstant pool (Long high low) = ⊤
IsSupportedConstant pool (Double high low) = ⊥
IsSupportedConstant pool (Class name) = IsSomeAnd (utf8_at pool name) IsNoFloatingArray
IsSupportedConstant pool (String text) = ⊤
IsSupportedConstant pool (Fieldref class name_and_type) = ⊤
IsSupportedConstant pool (Methodref class name_and_type) = ⊤
IsSupportedConstant pool (InterfaceMethodref class name_and_type) = ⊤
IsSupportedConstant pool (NameAndType name descriptor) = IsSomeAnd (utf8_at pool descriptor) HasNoFloating
IsSupportedConstant pool (MethodHandle kind index) = ⊥
IsSupportedConstant pool (MethodType descriptor) = ⊥
IsSupportedConstant pool (InvokeDynamic bootstrap name_and_type) = ⊥

-- the descriptor at an index
abbrev pub IsSupportedType : List Entry → ℕ → Type 0
IsSupportedType pool descriptor_index = IsSomeAnd (utf8_at pool descriptor_index) HasNoFloating

-- a method other than `<clinit>` is neither native nor synchronized
abbrev pub is_supported_method : List ℕ → ℕ → Bool
is_supported_method name flags = is_clinit name || not (has flags (acc_native + acc_synchronized))

abbrev pub AreSupportedFlags : List Entry → ℕ → ℕ → Type 0
AreSupportedFlags pool name_index flags = IsSomeAnd (utf8_at pool name_index) (λ name. IsTrue (is_supported_method name flags))

pub record IsSupported (c : ClassStructure) : Type 0 where
  pub constants : All (IsSupportedConstant c.constant_pool) c.constant_pool
  pub fields : All (λ f. IsSupportedType c.constant_pool f.descriptor_index) c.fields
  pub methods : All (λ m. IsSupportedType c.constant_pool m.descriptor_index
      × AreSupportedFlags c.constant_pool m.name_index m.access_flags) c.methods
