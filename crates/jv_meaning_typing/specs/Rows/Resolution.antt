-- Worked rows: what classes, fields and methods resolve to, and each error, computed.
use Rattle.std.specs.Prelude.{◌≡◌, ℕ, List, [], ◌∷◌, Some, None, Ok, Err, codes}
use Rattle.jv_class.specs.Class.{Class}
use Rattle.jv_meaning_world.specs.Rows.Files.{object_name, class_with, package_class}
use Rattle.jv_meaning_typing.specs.Uses.Use.{Getstatic, Putstatic, Getfield, Putfield, Invokevirtual, Invokespecial, Invokestatic, Invokeinterface, New}
use Rattle.jv_meaning_typing.specs.LinkErrors.LinkError.{NoClassDefFoundError, ClassCircularityError, IncompatibleClassChangeError, IllegalAccessError, NoSuchFieldError, NoSuchMethodError, InstantiationError}
use Rattle.jv_meaning_typing.specs.Operands.MethodConstant.{Methodref, InterfaceMethodref}
use Rattle.jv_meaning_typing.specs.Operands.{through}
use Rattle.jv_meaning_typing.specs.Rows.LinkingSamples.{x, m, constructor, class, with_fields, implementing, interface, in_m, in_init, in_clinit, class_from, member, x_from, m_from, method_from}

-- A is public, L extends a class that is not there, M extends L, O is above itself, U extends O, S extends an interface,
-- q/N extends p/P, which is not public; F is final, G extends it, T is abstract, p/T is too and not public, p/L is like L and
-- not public, and java/X takes a reserved name
abbrev pub A : Class
A = class (codes "A") object_name []

abbrev pub several : List Class
several =
    A
    ∷ class (codes "L") (codes "Missing") []
    ∷ class (codes "M") (codes "L") []
    ∷ class (codes "O") (codes "O") []
    ∷ class (codes "U") (codes "O") []
    ∷ interface (codes "I") [] []
    ∷ class (codes "S") (codes "I") []
    ∷ package_class (codes "p/P") object_name
    ∷ class (codes "q/N") (codes "p/P") []
    ∷ class_with 17 (codes "F") (Some object_name) [] []
    ∷ class (codes "G") (codes "F") []
    ∷ class_with 1025 (codes "T") (Some object_name) [] []
    ∷ class_with 1024 (codes "p/T") (Some object_name) [] []
    ∷ package_class (codes "p/L") (codes "Missing")
    ∷ class (codes "java/X") object_name []
    ∷ []

abbrev pub other_p : Class
other_p = class (codes "p/A") object_name []

pub record ClassRows : Type 0 where
  pub public_class : class_from several A None (codes "A") ≡ Ok (codes "A")
  pub of_system : class_from several A None object_name ≡ Ok object_name
  -- not there, though a file has it, or with a super that is not there or is not loadable
  pub missing : class_from several A None (codes "Missing") ≡ Err NoClassDefFoundError
  pub reserved : class_from several A None (codes "java/X") ≡ Err NoClassDefFoundError
  pub no_super : class_from several A None (codes "L") ≡ Err NoClassDefFoundError
  pub unloadable_super : class_from several A None (codes "M") ≡ Err NoClassDefFoundError
  pub circular : class_from several A None (codes "O") ≡ Err ClassCircularityError
  pub below_circle : class_from several A None (codes "U") ≡ Err NoClassDefFoundError
  pub wrong_kind : class_from several A None (codes "S") ≡ Err IncompatibleClassChangeError
  pub no_access_to_super : class_from several A None (codes "q/N") ≡ Err IllegalAccessError
  -- a class that breaks a final one is loadable
  pub final_broken : class_from several A None (codes "G") ≡ Ok (codes "G")
  -- one that is not public, from another package and from its own; and one of the system's, from a package of the same name
  pub other_package : class_from several A None (codes "p/P") ≡ Err IllegalAccessError
  pub own_package : class_from several other_p None (codes "p/P") ≡ Ok (codes "p/P")
  pub other_loader : class_from several other_p None (codes "p/Hidden") ≡ Err IllegalAccessError
  -- what is wrong with the class comes before access to it
  pub loading_before_access : class_from several A None (codes "p/L") ≡ Err NoClassDefFoundError
  -- an array's element class is resolved, with its access
  pub ints : class_from several A None (codes "[I") ≡ Ok (codes "[I")
  pub array : class_from several A None (codes "[[LA;") ≡ Ok (codes "[[LA;")
  pub array_of_missing : class_from several A None (codes "[LMissing;") ≡ Err NoClassDefFoundError
  pub array_of_hidden : class_from several A None (codes "[Lp/P;") ≡ Err IllegalAccessError
  -- `new` of a class, of an interface, of an abstract class; access comes first, and the rule is that of `new` alone
  pub created : class_from several A (Some New) (codes "A") ≡ Ok (codes "A")
  pub created_interface : class_from several A (Some New) (codes "I") ≡ Err InstantiationError
  pub created_abstract : class_from several A (Some New) (codes "T") ≡ Err InstantiationError
  pub access_before_create : class_from several A (Some New) (codes "p/T") ≡ Err IllegalAccessError
  pub created_missing : class_from several A (Some New) (codes "Missing") ≡ Err NoClassDefFoundError
  pub created_array : class_from several A (Some New) (codes "[I") ≡ Err InstantiationError
  pub cast_to_interface : class_from several A None (codes "I") ≡ Ok (codes "I")

-- ---- fields

-- p/P, public, has a field x with these flags, q/C extends it, q/D extends q/C, and q/E extends p/P; q/B is no subclass
abbrev pub C : Class
C = class (codes "q/C") (codes "p/P") []

abbrev pub B : Class
B = class (codes "q/B") object_name []

abbrev pub P : ℕ → Class
P flags = with_fields (codes "p/P") object_name (x flags)

abbrev pub family : Class → List Class
family parent = parent ∷ other_p ∷ C ∷ class (codes "q/D") (codes "q/C") [] ∷ class (codes "q/E") (codes "p/P") [] ∷ B ∷ []

pub record FieldRows : Type 0 where
  pub own : x_from (family (P 2)) (in_m (P 2)) Getfield (codes "p/P") ≡ Ok (codes "p/P")
  pub inherited : x_from (family (P 1)) (in_m B) Getfield (codes "q/D") ≡ Ok (codes "p/P")
  pub none : x_from (family (P 1)) (in_m B) Getfield (codes "q/B") ≡ Err NoSuchFieldError
  pub of_array : x_from (family (P 1)) (in_m B) Getfield (codes "[Lp/P;") ≡ Err NoSuchFieldError
  -- errors of the class
  pub missing : x_from several (in_m A) Getfield (codes "Missing") ≡ Err NoClassDefFoundError
  pub circular : x_from several (in_m A) Getfield (codes "O") ≡ Err ClassCircularityError
  pub wrong_kind : x_from several (in_m A) Getfield (codes "S") ≡ Err IncompatibleClassChangeError
  pub class_before_field : x_from several (in_m A) Getfield (codes "p/P") ≡ Err IllegalAccessError
  -- private, package-private, and protected from the same package
  pub private : x_from (family (P 2)) (in_m C) Getfield (codes "p/P") ≡ Err IllegalAccessError
  pub own_package : x_from (family (P 0)) (in_m other_p) Getfield (codes "p/P") ≡ Ok (codes "p/P")
  pub other_package : x_from (family (P 0)) (in_m C) Getfield (codes "p/P") ≡ Err IllegalAccessError
  pub other_loader : x_from (family (P 0)) (in_m other_p) Getfield (codes "p/Open") ≡ Err IllegalAccessError
  pub protected_in_package : x_from (family (P 4)) (in_m other_p) Getfield (codes "q/E") ≡ Ok (codes "p/P")
  -- protected from a subclass of another package: the named class is above it, the same, below it, and beside it
  pub above : x_from (family (P 4)) (in_m C) Getfield (codes "p/P") ≡ Ok (codes "p/P")
  pub same : x_from (family (P 4)) (in_m C) Getfield (codes "q/C") ≡ Ok (codes "p/P")
  pub below : x_from (family (P 4)) (in_m C) Getfield (codes "q/D") ≡ Ok (codes "p/P")
  pub beside : x_from (family (P 4)) (in_m C) Getfield (codes "q/E") ≡ Err IllegalAccessError
  pub static_beside : x_from (family (P 12)) (in_m C) Getstatic (codes "q/E") ≡ Ok (codes "p/P")
  pub no_subclass : x_from (family (P 12)) (in_m B) Getstatic (codes "p/P") ≡ Err IllegalAccessError
  -- kind, behind access
  pub get_of_static : x_from (family (P 9)) (in_m C) Getfield (codes "p/P") ≡ Err IncompatibleClassChangeError
  pub put_of_static : x_from (family (P 9)) (in_m C) Putfield (codes "p/P") ≡ Err IncompatibleClassChangeError
  pub getstatic_of_object : x_from (family (P 1)) (in_m C) Getstatic (codes "p/P") ≡ Err IncompatibleClassChangeError
  pub putstatic_of_object : x_from (family (P 1)) (in_m C) Putstatic (codes "p/P") ≡ Err IncompatibleClassChangeError
  pub access_before_kind : x_from (family (P 10)) (in_m C) Getfield (codes "p/P") ≡ Err IllegalAccessError
  -- final fields are written by `<init>` or `<clinit>` of their own class, also where the constant names a subclass, and read
  -- by all
  pub final_in_init : x_from (family (P 17)) (in_init (P 17)) Putfield (codes "p/P") ≡ Ok (codes "p/P")
  pub final_in_m : x_from (family (P 17)) (in_m (P 17)) Putfield (codes "p/P") ≡ Err IllegalAccessError
  pub final_through_subclass : x_from (family (P 17)) (in_init (P 17)) Putfield (codes "q/C") ≡ Ok (codes "p/P")
  pub final_below : x_from (family (P 17)) (in_init C) Putfield (codes "p/P") ≡ Err IllegalAccessError
  pub final_in_clinit : x_from (family (P 17)) (in_clinit (P 17)) Putfield (codes "p/P") ≡ Err IllegalAccessError
  pub final_read : x_from (family (P 17)) (in_m C) Getfield (codes "p/P") ≡ Ok (codes "p/P")
  pub static_final_in_clinit : x_from (family (P 25)) (in_clinit (P 25)) Putstatic (codes "p/P") ≡ Ok (codes "p/P")
  pub static_final_in_init : x_from (family (P 25)) (in_init (P 25)) Putstatic (codes "p/P") ≡ Err IllegalAccessError
  pub static_final_below : x_from (family (P 25)) (in_clinit C) Putstatic (codes "p/P") ≡ Err IllegalAccessError
  pub kind_before_final : x_from (family (P 25)) (in_m C) Putfield (codes "p/P") ≡ Err IncompatibleClassChangeError

-- ---- methods

-- the same family, with a method m in p/P
abbrev pub with_m : ℕ → Class
with_m flags = class (codes "p/P") object_name (m flags)

abbrev pub with_constructor : ℕ → Class
with_constructor flags = class (codes "p/P") object_name (constructor flags)

-- interfaces: I and K have a default m, V a private one, W a static one, B and N an abstract one, E has none; J extends I with
-- none, and Z with a static one. The class P has a private m and H extends it, F implements B, and G extends F
abbrev pub V : Class
V = interface (codes "V") [] (m 2)

abbrev pub interfaces : List Class
interfaces =
    A
    ∷ interface (codes "I") [] (m 1)
    ∷ interface (codes "K") [] (m 1)
    ∷ V
    ∷ interface (codes "W") [] (m 9)
    ∷ interface (codes "E") [] []
    ∷ interface (codes "B") [] (m 1025)
    ∷ interface (codes "N") [] (m 1025)
    ∷ interface (codes "J") (codes "I" ∷ []) []
    ∷ interface (codes "Z") (codes "I" ∷ []) (m 9)
    ∷ class (codes "P") object_name (m 2)
    ∷ implementing (codes "H") (codes "P") (codes "I" ∷ []) []
    ∷ implementing (codes "F") object_name (codes "B" ∷ []) []
    ∷ implementing (codes "G") (codes "F") (codes "N" ∷ []) []
    ∷ implementing (codes "C") object_name (codes "I" ∷ codes "K" ∷ []) []
    ∷ implementing (codes "D") object_name (codes "V" ∷ codes "W" ∷ []) []
    ∷ []

pub record MethodRows : Type 0 where
  pub own : m_from (family (with_m 2)) (in_m (with_m 2)) Invokevirtual Methodref (codes "p/P") ≡ Ok (codes "p/P")
  pub inherited : m_from (family (with_m 1)) (in_m B) Invokevirtual Methodref (codes "q/D") ≡ Ok (codes "p/P")
  pub none : m_from (family (with_m 1)) (in_m B) Invokevirtual Methodref (codes "q/B") ≡ Err NoSuchMethodError
  -- of two unrelated defaults the first; neither a private nor a static one of an interface is inherited
  pub first_default : m_from interfaces (in_m A) Invokevirtual Methodref (codes "C") ≡ Ok (codes "I")
  pub not_inherited : m_from interfaces (in_m A) Invokevirtual Methodref (codes "D") ≡ Err NoSuchMethodError
  -- of two abstract ones that of the class's own interfaces, before its superclass's
  pub first_abstract : m_from interfaces (in_m A) Invokevirtual Methodref (codes "G") ≡ Ok (codes "N")
  -- a private method of a superclass comes before a default
  pub private_before_default : m_from interfaces (in_m A) Invokevirtual Methodref (codes "H") ≡ Err IllegalAccessError
  -- of an interface, from a superinterface; a static one of its own comes before that
  pub from_superinterface : m_from interfaces (in_m A) Invokeinterface InterfaceMethodref (codes "J") ≡ Ok (codes "I")
  pub static_before_default : m_from interfaces (in_m A) Invokeinterface InterfaceMethodref (codes "Z") ≡ Err IncompatibleClassChangeError
  -- the constant is that of the named class's kind
  pub method_of_interface : m_from interfaces (in_m A) Invokestatic Methodref (codes "W") ≡ Err IncompatibleClassChangeError
  pub interface_method_of_class : m_from interfaces (in_m A) Invokeinterface InterfaceMethodref (codes "C")
      ≡ Err IncompatibleClassChangeError
  pub static_of_interface : m_from interfaces (in_m A) Invokestatic InterfaceMethodref (codes "W") ≡ Ok (codes "W")
  pub none_in_interface : m_from interfaces (in_m A) Invokeinterface InterfaceMethodref (codes "E") ≡ Err NoSuchMethodError
  -- arrays, and interfaces, have java/lang/Object's public methods
  pub of_array : method_from interfaces (in_m A) Invokevirtual
      (through Methodref (member (codes "[I") (codes "equals") (codes "(Ljava/lang/Object;)Z"))) ≡ Ok object_name
  pub of_object : method_from interfaces (in_m A) Invokeinterface
      (through InterfaceMethodref (member (codes "E") (codes "equals") (codes "(Ljava/lang/Object;)Z"))) ≡ Ok object_name
  -- errors of the class
  pub missing : m_from several (in_m A) Invokevirtual Methodref (codes "Missing") ≡ Err NoClassDefFoundError
  pub missing_element : m_from several (in_m A) Invokevirtual Methodref (codes "[LMissing;") ≡ Err NoClassDefFoundError
  pub circular : m_from several (in_m A) Invokevirtual Methodref (codes "O") ≡ Err ClassCircularityError
  pub wrong_kind : m_from several (in_m A) Invokevirtual Methodref (codes "S") ≡ Err IncompatibleClassChangeError
  pub class_before_method : m_from several (in_m A) Invokevirtual Methodref (codes "p/P") ≡ Err IllegalAccessError
  -- access
  pub private : m_from (family (with_m 2)) (in_m C) Invokevirtual Methodref (codes "p/P") ≡ Err IllegalAccessError
  pub other_package : m_from (family (with_m 0)) (in_m C) Invokevirtual Methodref (codes "q/C") ≡ Err IllegalAccessError
  pub other_loader : m_from (family (with_m 0)) (in_m other_p) Invokevirtual Methodref (codes "p/Open") ≡ Err IllegalAccessError
  pub private_in_interface : m_from interfaces (in_m A) Invokeinterface InterfaceMethodref (codes "V") ≡ Err IllegalAccessError
  pub above : m_from (family (with_m 4)) (in_m C) Invokevirtual Methodref (codes "p/P") ≡ Ok (codes "p/P")
  pub same : m_from (family (with_m 4)) (in_m C) Invokevirtual Methodref (codes "q/C") ≡ Ok (codes "p/P")
  pub below : m_from (family (with_m 4)) (in_m C) Invokevirtual Methodref (codes "q/D") ≡ Ok (codes "p/P")
  pub beside : m_from (family (with_m 4)) (in_m C) Invokevirtual Methodref (codes "q/E") ≡ Err IllegalAccessError
  pub static_beside : m_from (family (with_m 12)) (in_m C) Invokestatic Methodref (codes "q/E") ≡ Ok (codes "p/P")
  -- kind, behind access
  pub invokestatic_of_object : m_from (family (with_m 1)) (in_m C) Invokestatic Methodref (codes "p/P") ≡ Err IncompatibleClassChangeError
  pub invokevirtual_of_static : m_from (family (with_m 9)) (in_m C) Invokevirtual Methodref (codes "p/P") ≡ Err IncompatibleClassChangeError
  pub invokespecial_of_static : m_from (family (with_m 9)) (in_m C) Invokespecial Methodref (codes "p/P") ≡ Err IncompatibleClassChangeError
  pub invokeinterface_of_static : m_from interfaces (in_m A) Invokeinterface InterfaceMethodref (codes "W")
      ≡ Err IncompatibleClassChangeError
  pub invokeinterface_of_private : m_from interfaces (in_m V) Invokeinterface InterfaceMethodref (codes "V")
      ≡ Err IncompatibleClassChangeError
  pub invokespecial_of_private : m_from interfaces (in_m V) Invokespecial InterfaceMethodref (codes "V") ≡ Ok (codes "V")
  pub access_before_kind : m_from (family (with_m 10)) (in_m C) Invokevirtual Methodref (codes "p/P") ≡ Err IllegalAccessError
  -- a private method of the current class
  pub own_private : m_from (family (with_m 2)) (in_m (with_m 2)) Invokespecial Methodref (codes "p/P") ≡ Ok (codes "p/P")
  -- an `<init>` that the named class declares, and one that only its superclass has, behind access
  pub own_constructor : method_from (family (with_constructor 1)) (in_m C) Invokespecial
      (through Methodref (member (codes "p/P") (codes "<init>") (codes "()V"))) ≡ Ok (codes "p/P")
  pub inherited_constructor : method_from (family (with_constructor 1)) (in_m C) Invokespecial
      (through Methodref (member (codes "q/C") (codes "<init>") (codes "()V"))) ≡ Err NoSuchMethodError
  -- a protected `<init>` of another package, from a subclass and from another class
  pub protected_constructor : method_from (family (with_constructor 4)) (in_init C) Invokespecial
      (through Methodref (member (codes "p/P") (codes "<init>") (codes "()V"))) ≡ Ok (codes "p/P")
  pub protected_from_other : method_from (family (with_constructor 4)) (in_m B) Invokespecial
      (through Methodref (member (codes "p/P") (codes "<init>") (codes "()V"))) ≡ Err IllegalAccessError
  pub access_before_constructor : method_from (family (with_constructor 2)) (in_m C) Invokespecial
      (through Methodref (member (codes "q/C") (codes "<init>") (codes "()V"))) ≡ Err IllegalAccessError
