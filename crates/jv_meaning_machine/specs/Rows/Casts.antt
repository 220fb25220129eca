-- Worked rows (JVMS 6.5): checkcast and instanceof, over classes, interfaces and arrays, computed.
use Rattle.std.specs.Prelude.{◌≡◌, ℕ, Bool, true, false, List, [], ◌∷◌, Some, None, Err, codes}
use Rattle.jv_text.specs.declared.descriptor.Base.{Base}
use Rattle.jv_text.specs.declared.descriptor.Base.TheVariants as bases
use Rattle.jv_text.specs.declared.descriptor.Element.TheVariants as elements
use Rattle.jv_code.specs.declared.insn.Insn.TheVariants as insns
use Rattle.jv_pool.specs.declared.constant.Constant.TheVariants as constants
use Rattle.jv_class.specs.Class.{Class}
use Rattle.jv_meaning_world.specs.Rows.Files.{object_name, class_with, interface, package_class, public_class}
use Rattle.jv_meaning_machine.specs.Faults.{OrFault}
use Rattle.jv_meaning_machine.specs.Faults.Fault.{OffsetFault, TagFault, ConstructionFault}
use Rattle.jv_meaning_machine.specs.Values.{Value}
use Rattle.jv_meaning_machine.specs.Values.Value.{Null, Reference}
use Rattle.jv_meaning_machine.specs.Objects.{Object}
use Rattle.jv_meaning_machine.specs.Objects.Object.{InstanceOf, ArrayWith}
use Rattle.jv_meaning_machine.specs.Effects.{Effect}
use Rattle.jv_meaning_machine.specs.Rows.InstructionSamples.{Setting, effect, follows, raised, with_objects, int}

-- ---- a class A implements I, whose superinterface is J, and B is below A; p/Hidden is not public

abbrev pub I : Class
I = class_with 1537 (codes "I") (Some object_name) (codes "J" ∷ []) []

abbrev pub A : Class
A = class_with 1 (codes "A") (Some object_name) (codes "I" ∷ []) []

abbrev pub classes : List Class
classes =
    A ∷ public_class (codes "B") (codes "A") ∷ I ∷ interface (codes "J") ∷ package_class (codes "p/Hidden") object_name ∷ []

abbrev pub instance : Bool → List ℕ → Object
instance constructed name = InstanceOf (record { class = name; entered = None; constructed = constructed; fields = [] })

abbrev pub of : List ℕ → Object
of name = instance true name

-- an array with one more dimension than is given
abbrev pub array_of : ℕ → List ℕ → Object
array_of dimensions name = ArrayWith (record { dimensions = dimensions; element = elements.Class name }) []

abbrev pub array : ℕ → Base → Object
array dimensions base = ArrayWith (record { dimensions = dimensions; element = elements.Base base }) []

-- ---- object 0, or another value, and the class or array that is named

abbrev pub setting : List ℕ → Object → Value → Setting
setting name object value =
    record (with_objects (object ∷ []) (value ∷ [])) {
      classes = classes;
      constants = constants.Utf8 name ∷ constants.Class 1 ∷ [];
    }

abbrev pub casts : List ℕ → Object → OrFault Effect
casts name object = effect (setting name object (Reference 0)) (insns.CheckCast 2)

abbrev pub passed : OrFault Effect
passed = follows 3 [] (Reference 0 ∷ [])

abbrev pub class_cast : OrFault Effect
class_cast = raised (codes "ClassCastException")

abbrev pub tests : List ℕ → Object → OrFault Effect
tests name object = effect (setting name object (Reference 0)) (insns.InstanceOf 2)

abbrev pub yes : OrFault Effect
yes = follows 3 [] (int 1 ∷ [])

abbrev pub no : OrFault Effect
no = follows 3 [] (int 0 ∷ [])

pub record CastRows : Type 0 where
  pub itself : casts (codes "B") (of (codes "B")) ≡ passed
  pub superclass : casts (codes "A") (of (codes "B")) ≡ passed
  pub superinterface : casts (codes "J") (of (codes "B")) ≡ passed
  pub subclass : casts (codes "B") (of (codes "A")) ≡ class_cast
  pub other_interface : casts (codes "java/lang/Cloneable") (of (codes "B")) ≡ class_cast
  pub system_interface : casts (codes "java/io/Serializable") (of (codes "java/lang/Error")) ≡ passed
  pub array_to_object : casts object_name (array 0 bases.Int) ≡ passed
  pub array_to_cloneable : casts (codes "java/lang/Cloneable") (array 0 bases.Int) ≡ passed
  pub array_to_interface : casts (codes "I") (array_of 0 (codes "A")) ≡ class_cast
  pub array_covariant : casts (codes "[LA;") (array_of 0 (codes "B")) ≡ passed
  pub array_contravariant : casts (codes "[LB;") (array_of 0 (codes "A")) ≡ class_cast
  pub array_of_interface : casts (codes "[LJ;") (array_of 0 (codes "B")) ≡ passed
  pub arrays_to_objects : casts (codes "[Ljava/lang/Object;") (array 1 bases.Int) ≡ passed
  pub ints_to_objects : casts (codes "[Ljava/lang/Object;") (array 0 bases.Int) ≡ class_cast
  pub ints_to_bytes : casts (codes "[B") (array 0 bases.Int) ≡ class_cast
  pub object_to_array : casts (codes "[I") (of object_name) ≡ class_cast
  -- null passes, and nothing is resolved for it
  pub null : effect (setting (codes "Gone") (of object_name) Null) (insns.CheckCast 2) ≡ follows 3 [] (Null ∷ [])
  -- but its constant is looked at
  pub null_of_text : effect (setting (codes "A") (of object_name) Null) (insns.CheckCast 1) ≡ Err OffsetFault
  pub not_there : casts (codes "Gone") (of object_name) ≡ raised (codes "NoClassDefFoundError")
  pub array_not_there : casts (codes "[LGone;") (of object_name) ≡ raised (codes "NoClassDefFoundError")
  pub hidden : casts (codes "p/Hidden") (of object_name) ≡ raised (codes "IllegalAccessError")
  pub not_constructed :
      effect (setting (codes "A") (instance false (codes "A")) (Reference 0)) (insns.CheckCast 2) ≡ Err ConstructionFault
  pub number : effect (setting (codes "A") (of (codes "A")) (int 0)) (insns.CheckCast 2) ≡ Err TagFault

pub record InstanceOfRows : Type 0 where
  pub superclass : tests (codes "A") (of (codes "B")) ≡ yes
  pub subclass : tests (codes "B") (of (codes "A")) ≡ no
  pub superinterface : tests (codes "J") (of (codes "A")) ≡ yes
  pub other_interface : tests (codes "java/io/Serializable") (of (codes "A")) ≡ no
  pub array_to_serializable : tests (codes "java/io/Serializable") (array_of 1 (codes "A")) ≡ yes
  pub array_covariant : tests (codes "[LI;") (array_of 0 (codes "B")) ≡ yes
  pub more_dimensions : tests (codes "[[LA;") (array_of 0 (codes "A")) ≡ no
  pub fewer_dimensions : tests (codes "[LA;") (array_of 1 (codes "A")) ≡ no
  pub arrays_to_cloneables : tests (codes "[Ljava/lang/Cloneable;") (array 1 bases.Int) ≡ yes
  pub same_base : tests (codes "[[I") (array 1 bases.Int) ≡ yes
  pub other_base : tests (codes "[[I") (array 1 bases.Char) ≡ no
  pub null : effect (setting (codes "Gone") (of object_name) Null) (insns.InstanceOf 2) ≡ no
  pub null_of_text : effect (setting (codes "A") (of object_name) Null) (insns.InstanceOf 1) ≡ Err OffsetFault
  pub not_there : tests (codes "Gone") (of object_name) ≡ raised (codes "NoClassDefFoundError")
  pub hidden : tests (codes "[Lp/Hidden;") (of object_name) ≡ raised (codes "IllegalAccessError")
