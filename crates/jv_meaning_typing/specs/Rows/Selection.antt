-- Worked rows: which method a call runs, computed. Each row resolves the call and then selects; what is shown is the class
-- that declares the method.
use Rattle.std.specs.Prelude.{◌≡◌, ℕ, Bool, true, false, List, [], ◌∷◌, ◌++◌, Option, Some, None, Ok, Err, codes}
use Rattle.jv_class.specs.Class.{Class, Method}
use Rattle.jv_meaning_world.specs.Rows.Files.{object_name, method_m}
use Rattle.jv_meaning_typing.specs.Uses.Use.{Invokevirtual, Invokespecial, Invokestatic, Invokeinterface}
use Rattle.jv_meaning_typing.specs.LinkErrors.{OrError}
use Rattle.jv_meaning_typing.specs.LinkErrors.LinkError.{IncompatibleClassChangeError, IllegalAccessError, AbstractMethodError}
use Rattle.jv_meaning_typing.specs.Selection.{overrides}
use Rattle.jv_meaning_typing.specs.Operands.MethodConstant.{Methodref, InterfaceMethodref}
use Rattle.jv_meaning_typing.specs.Operands.{MethodConstant, MethodReference, through}
use Rattle.jv_meaning_typing.specs.Rows.LinkingSamples.{m, method, constructor, equals, open_class, class, implementing, interface, in_m, in_system, in_init, world_with, guest, member, m_of, m_run, run_from}

-- ---- invokevirtual along a chain of classes, each with an m of these flags

abbrev pub first : ℕ → Class
first flags = class (codes "p/A") object_name (m flags)

abbrev pub below : Class → List ℕ → ℕ → Class
below parent name flags = class name parent.name (m flags)

-- called from a class, through the class itself, on an object of a class
abbrev pub virtual_run : List Class → Class → Class → OrError (List ℕ)
virtual_run classes from object = m_run classes (in_m from) Invokevirtual Methodref from.name object

-- p/A, q/B below it and p/C below that
abbrev pub pA : Class
pA = first 0

abbrev pub qB : Class
qB = below pA (codes "q/B") 1

abbrev pub pC : Class
pC = below qB (codes "p/C") 1

abbrev pub across : List Class
across = pA ∷ qB ∷ pC ∷ []

-- p/A, p/B below it, protected, and q/C below that
abbrev pub pB : Class
pB = below pA (codes "p/B") 4

abbrev pub qC : Class
qC = below pB (codes "q/C") 1

abbrev pub by_way : List Class
by_way = pA ∷ pB ∷ qC ∷ []

-- p/A, q/D below it, package-private, r/E below that, and p/F below that
abbrev pub qD : Class
qD = below pA (codes "q/D") 0

abbrev pub rE : Class
rE = below qD (codes "r/E") 1

abbrev pub pF : Class
pF = below rE (codes "p/F") 1

abbrev pub packages : List Class
packages = pA ∷ qD ∷ rE ∷ pF ∷ []

-- p/A, public, p/G below it with these flags, and p/H below that
abbrev pub pG : ℕ → Class
pG flags = below (first 1) (codes "p/G") flags

abbrev pub pH : Class
pH = below (pG 1) (codes "p/H") 1

abbrev pub around : ℕ → List Class
around flags = first 1 ∷ pG flags ∷ pH ∷ []

-- p/Open of the system, and p/K of the guest below it
abbrev pub pK : Class
pK = below open_class (codes "p/K") 1

-- p/A, private, and p/G below it
abbrev pub beside_private : List Class
beside_private = first 2 ∷ pG 1 ∷ []

-- whether a method of a class overrides p/A's, which is public; p/M is below p/A
abbrev pub two_methods : Class
two_methods = class (codes "p/M") (codes "p/A") (m 1 ++ method 1 (codes "other") (codes "()V") ∷ [])

abbrev pub overrides_first : Class → Method → Bool
overrides_first by called =
    overrides (world_with (first 1 ∷ two_methods ∷ [])) (record { by = guest by; method = called })
    (record { by = guest (first 1); method = method_m 1 })

pub record VirtualRows : Type 0 where
  -- p/A's m is package-private: q/B's doesn't override it, p/C's does
  pub on_first : virtual_run across pA pA ≡ Ok (codes "p/A")
  pub on_second : virtual_run across pA qB ≡ Ok (codes "p/A")
  pub on_third : virtual_run across pA pC ≡ Ok (codes "p/C")
  -- q/C overrides p/B's, which overrides p/A's: so it overrides p/A's too
  pub by_third : virtual_run by_way pA qC ≡ Ok (codes "q/C")
  -- three packages: r/E overrides neither p/A's nor q/D's; p/F overrides p/A's and r/E's, and not q/D's
  pub first_on_third : virtual_run packages pA rE ≡ Ok (codes "p/A")
  pub first_on_fourth : virtual_run packages pA pF ≡ Ok (codes "p/F")
  pub second_on_fourth : virtual_run packages qD pF ≡ Ok (codes "q/D")
  pub third_on_fourth : virtual_run packages rE pF ≡ Ok (codes "p/F")
  -- packages of one name and of two loaders are two
  pub of_system : m_run (pK ∷ []) (in_system open_class) Invokevirtual Methodref (codes "p/Open") pK ≡ Ok (codes "p/Open")
  -- a private or static method between overrides nothing, and is passed over
  pub on_private : virtual_run (around 2) (first 1) (pG 2) ≡ Ok (codes "p/A")
  pub past_private : virtual_run (around 2) (first 1) pH ≡ Ok (codes "p/H")
  pub on_static : virtual_run (around 9) (first 1) (pG 9) ≡ Ok (codes "p/A")
  -- a private method that is called is run itself
  pub private_target : virtual_run beside_private (first 2) (pG 1) ≡ Ok (codes "p/A")
  -- the first that overrides is abstract
  pub abstract : virtual_run (around 1025) (first 1) (pG 1025) ≡ Err AbstractMethodError
  pub below_abstract : virtual_run (around 1025) (first 1) pH ≡ Ok (codes "p/H")
  -- of one class's methods the one of that name overrides, and no other
  pub same_name : overrides_first two_methods (method_m 1) ≡ true
  pub other_name : overrides_first two_methods (method 1 (codes "other") (codes "()V")) ≡ false

-- ---- invokevirtual and invokeinterface with methods of superinterfaces

-- I and K have a default m; J and L extend I with a default, R with an abstract one, S and T with none; B has an abstract m
-- alone, V a private one, E none. The classes P, Q, Y and Z have an m: public, package-private, private, and package-private
-- and abstract.
abbrev pub I : Class
I = interface (codes "I") [] (m 1)

abbrev pub V : Class
V = interface (codes "V") [] (m 2)

abbrev pub above : List ℕ → List (List ℕ)
above name = name ∷ []

abbrev pub interfaces : List Class
interfaces =
    I
    ∷ interface (codes "K") [] (m 1)
    ∷ interface (codes "J") (above (codes "I")) (m 1)
    ∷ interface (codes "L") (above (codes "I")) (m 1)
    ∷ interface (codes "R") (above (codes "I")) (m 1025)
    ∷ interface (codes "S") (above (codes "I")) []
    ∷ interface (codes "T") (above (codes "I")) []
    ∷ interface (codes "B") [] (m 1025)
    ∷ V
    ∷ interface (codes "E") [] []
    ∷ class (codes "P") object_name (m 1)
    ∷ class (codes "Q") object_name (m 0)
    ∷ class (codes "Y") object_name (m 2)
    ∷ class (codes "Z") object_name (m 1024)
    ∷ []

-- a class C of these supers, without methods
abbrev pub C : List ℕ → List (List ℕ) → Class
C super_name supers = implementing (codes "C") super_name supers []

-- C.m of an object of C
abbrev pub default_run : List (List ℕ) → OrError (List ℕ)
default_run supers =
    m_run (C object_name supers ∷ interfaces) (in_m (C object_name supers)) Invokevirtual Methodref (codes "C") (C object_name supers)

-- C.m of an object of D, which extends C and has an m of these flags; C implements I
abbrev pub below_C : ℕ → Class
below_C flags = class (codes "D") (codes "C") (m flags)

abbrev pub below_run : ℕ → OrError (List ℕ)
below_run flags =
    m_run (below_C flags ∷ C object_name (codes "I" ∷ []) ∷ interfaces) (in_m I) Invokevirtual Methodref (codes "C") (below_C flags)

-- m of the interface of a name, of an object of C
abbrev pub interface_run : List ℕ → Class → OrError (List ℕ)
interface_run name object = m_run (object ∷ interfaces) (in_m I) Invokeinterface InterfaceMethodref name object

-- equals through the interface of a name, and through java/lang/Object
abbrev pub equals_of : MethodConstant → List ℕ → MethodReference
equals_of constant name = through constant (member name (codes "equals") (codes "(Ljava/lang/Object;)Z"))

abbrev pub equals_run : List Class → List ℕ → Option Class → OrError (List ℕ)
equals_run classes name object = run_from classes (in_m I) Invokeinterface (equals_of InterfaceMethodref name) object

-- a class C that implements E, with these methods
abbrev pub with_E : List Method → Class
with_E methods = implementing (codes "C") object_name (codes "E" ∷ []) methods

pub record DefaultRows : Type 0 where
  -- the one maximally specific default; of two that are unrelated, none
  pub specific : default_run (codes "I" ∷ codes "J" ∷ []) ≡ Ok (codes "J")
  pub unrelated : default_run (codes "I" ∷ codes "K" ∷ []) ≡ Err IncompatibleClassChangeError
  -- diamonds: of none, one and two defaults below I, and of one that was made abstract again
  pub diamond : default_run (codes "S" ∷ codes "T" ∷ []) ≡ Ok (codes "I")
  pub diamond_of_one : default_run (codes "S" ∷ codes "J" ∷ []) ≡ Ok (codes "J")
  pub diamond_of_two : default_run (codes "J" ∷ codes "L" ∷ []) ≡ Err IncompatibleClassChangeError
  pub abstract_again : default_run (codes "S" ∷ codes "R" ∷ []) ≡ Err AbstractMethodError
  pub abstract_and_default : default_run (codes "R" ∷ codes "K" ∷ []) ≡ Ok (codes "K")
  pub abstract_alone : default_run (codes "B" ∷ []) ≡ Err AbstractMethodError
  -- a superclass's method comes first
  pub class_first : m_run (C (codes "P") (codes "K" ∷ []) ∷ interfaces) (in_m I) Invokevirtual Methodref (codes "P")
      (C (codes "P") (codes "K" ∷ [])) ≡ Ok (codes "P")
  -- a class below C overrides the default, unless its method is private
  pub overridden : below_run 1 ≡ Ok (codes "D")
  pub overridden_package_private : below_run 0 ≡ Ok (codes "D")
  pub not_overridden : below_run 2 ≡ Ok (codes "I")

pub record InterfaceRows : Type 0 where
  pub default : interface_run (codes "I") (C object_name (codes "S" ∷ [])) ≡ Ok (codes "I")
  pub specific : interface_run (codes "I") (C object_name (codes "S" ∷ codes "J" ∷ [])) ≡ Ok (codes "J")
  pub unrelated : interface_run (codes "I") (C object_name (codes "I" ∷ codes "K" ∷ [])) ≡ Err IncompatibleClassChangeError
  pub abstract_again : interface_run (codes "I") (C object_name (codes "R" ∷ [])) ≡ Err AbstractMethodError
  pub class_first : interface_run (codes "I") (C (codes "P") (codes "I" ∷ [])) ≡ Ok (codes "P")
  -- the object's class has to implement the interface, though it has the method
  pub not_implemented : interface_run (codes "I") (C (codes "P") []) ≡ Err IncompatibleClassChangeError
  -- the class's method has to be public, which is asked before whether it is abstract
  pub package_private : interface_run (codes "I") (C (codes "Q") (codes "I" ∷ [])) ≡ Err IllegalAccessError
  pub private : interface_run (codes "I") (C (codes "Y") (codes "I" ∷ [])) ≡ Err IllegalAccessError
  pub abstract_and_not_public : interface_run (codes "I") (C (codes "Z") (codes "I" ∷ [])) ≡ Err IllegalAccessError
  -- a private method of an interface is no default
  pub private_of_interface : interface_run (codes "B") (C object_name (codes "B" ∷ codes "V" ∷ [])) ≡ Err AbstractMethodError
  -- java/lang/Object's public methods through an interface, and a class's own
  pub equals_of_object : equals_run (with_E [] ∷ interfaces) (codes "E") (Some (with_E [])) ≡ Ok object_name
  pub own_equals : equals_run (with_E (equals ∷ []) ∷ interfaces) (codes "E") (Some (with_E (equals ∷ []))) ≡ Ok (codes "C")
  -- arrays implement two interfaces, and have java/lang/Object's methods
  pub array_as_cloneable : equals_run interfaces (codes "java/lang/Cloneable") None ≡ Ok object_name
  pub array_as_serializable : equals_run interfaces (codes "java/io/Serializable") None ≡ Ok object_name
  pub array_as_other : equals_run interfaces (codes "E") None ≡ Err IncompatibleClassChangeError
  pub array_virtual : run_from interfaces (in_m I) Invokevirtual (equals_of Methodref (codes "[I")) None ≡ Ok object_name
  pub array_as_object : run_from interfaces (in_m I) Invokevirtual (equals_of Methodref object_name) None ≡ Ok object_name

-- ---- invokespecial and invokestatic

-- F extends G, which extends H, each with a constructor and an m; F implements I and W, which extends I and K
abbrev pub H : Class
H = class (codes "H") object_name (m 1 ++ constructor 1)

abbrev pub G : Class
G = class (codes "G") (codes "H") (m 1 ++ constructor 1)

abbrev pub F : Class
F = implementing (codes "F") (codes "G") (codes "I" ∷ codes "W" ∷ []) (m 1 ++ constructor 1)

-- N extends M, whose m is abstract
abbrev pub M : Class
M = class (codes "M") object_name (m 1025)

abbrev pub N : Class
N = class (codes "N") (codes "M") (m 1)

-- D extends O, which extends G, and neither has an m
abbrev pub O : Class
O = class (codes "O") (codes "G") []

abbrev pub D : Class
D = class (codes "D") (codes "O") []

-- X extends A, whose m is private, and A extends H
abbrev pub A : Class
A = class (codes "A") (codes "H") (m 2)

abbrev pub X : Class
X = class (codes "X") (codes "A") []

-- a class with a static m
abbrev pub with_static : Class
with_static = class (codes "U") object_name (m 9)

abbrev pub special : List Class
special = H ∷ G ∷ F ∷ M ∷ N ∷ O ∷ D ∷ A ∷ X ∷ with_static ∷ interface (codes "W") (codes "I" ∷ codes "K" ∷ []) [] ∷ interfaces

abbrev pub special_run : Class → MethodConstant → List ℕ → OrError (List ℕ)
special_run current constant name = m_run special (in_m current) Invokespecial constant name current

abbrev pub constructor_run : Class → List ℕ → OrError (List ℕ)
constructor_run current name =
    run_from special (in_init current) Invokespecial (through Methodref (member name (codes "<init>") (codes "()V"))) (Some current)

pub record SpecialRows : Type 0 where
  -- a superclass further up is named: the search begins at the direct one
  pub direct_superclass : special_run F Methodref (codes "G") ≡ Ok (codes "G")
  pub further_up : special_run F Methodref (codes "H") ≡ Ok (codes "G")
  pub inherited : special_run D Methodref (codes "O") ≡ Ok (codes "G")
  -- a private method of the direct superclass is run, without a look at access
  pub private_above : special_run X Methodref (codes "H") ≡ Ok (codes "A")
  -- a private method of the current class
  pub own_private : special_run A Methodref (codes "A") ≡ Ok (codes "A")
  pub itself : special_run F Methodref (codes "F") ≡ Ok (codes "F")
  pub abstract : special_run N Methodref (codes "M") ≡ Err AbstractMethodError
  -- a direct superinterface's default; a private one of the interface itself; two that are unrelated; one of
  -- java/lang/Object through an interface
  pub default : special_run F InterfaceMethodref (codes "I") ≡ Ok (codes "I")
  pub private : special_run V InterfaceMethodref (codes "V") ≡ Ok (codes "V")
  pub unrelated : special_run F InterfaceMethodref (codes "W") ≡ Err IncompatibleClassChangeError
  pub equals_through_interface : run_from special (in_m F) Invokespecial (equals_of InterfaceMethodref (codes "I")) (Some F)
      ≡ Ok object_name
  -- code of an interface calls a method of java/lang/Object
  pub equals_in_interface : run_from special (in_m I) Invokespecial (equals_of Methodref object_name) (Some F) ≡ Ok object_name
  -- the constructor of the named class, though the direct superclass has one
  pub super_constructor : constructor_run F (codes "G") ≡ Ok (codes "G")
  pub constructor_further_up : constructor_run F (codes "H") ≡ Ok (codes "H")
  -- invokestatic runs its target
  pub static_target : run_from special (in_m with_static) Invokestatic (m_of Methodref (codes "U")) None ≡ Ok (codes "U")
