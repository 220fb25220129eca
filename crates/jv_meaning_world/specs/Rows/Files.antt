-- Worked rows: files of a guest, what is wrong with them, and what is found from their classes, computed. Beside the files
-- there are two classes of the system in each world, java/lang/Object and host/Io, which is final.
use Rattle.std.specs.Prelude.{◌≡◌, ℕ, List, [], ◌∷◌, Option, Some, None, codes}
use Rattle.jv_class.specs.Class.{Class, Field, Method}
use Rattle.jv_meaning_world.specs.FileContent.{FileContent}
use Rattle.jv_meaning_world.specs.declared.content.Content.TheVariants.{OtherVersion, NoClassFile, MoreThanProfile, Holds}
use Rattle.std.specs.Prelude.{map}
use Rattle.std.specs.Option.{option_map, option_and_then}
use Rattle.jv_meaning_world.specs.World.{HostClasses, World, without_front, world_of, class_named}
use Rattle.jv_meaning_world.specs.LookUps.{lookup_field, lookup_method, superinterfaces}
use Rattle.jv_meaning_world.specs.Verdicts.{load_verdict}
use Rattle.jv_meaning_world.specs.declared.verdict.LoadVerdict.{LoadVerdict}
use Rattle.jv_meaning_world.specs.declared.verdict.LoadVerdict.TheVariants.{Version, Format, Unsupported, Reserved, Duplicate, Circular, NoSuper, WrongKind, NoAccess, FinalBroken}

-- ---- classes

abbrev pub object_name : List ℕ
object_name = codes "java/lang/Object"

abbrev pub class_with : ℕ → List ℕ → Option (List ℕ) → List (List ℕ) → List Method → Class
class_with flags name super_class interfaces methods = record {
  major_version = 52;
  access_flags = flags;
  name = name;
  super_class = super_class;
  interfaces = interfaces;
  fields = [];
  methods = methods;
  constant_pool = [];
}

-- public classes (1), an interface (1 + 512 + 1024), a final class (1 + 16) and one that is not public
abbrev pub object : Class
object = class_with 1 object_name None [] []

abbrev pub public_class : List ℕ → List ℕ → Class
public_class name super_name = class_with 1 name (Some super_name) [] []

abbrev pub interface : List ℕ → Class
interface name = class_with 1537 name (Some object_name) [] []

abbrev pub package_class : List ℕ → List ℕ → Class
package_class name super_name = class_with 0 name (Some super_name) [] []

abbrev pub final_class : List ℕ → Class
final_class name = class_with 17 name (Some object_name) [] []

-- a method m()V with these flags: public 1, private 2, static 8, final 16, and package-private 0
abbrev pub method_m : ℕ → Method
method_m flags = record { access_flags = flags; name = codes "m"; descriptor = codes "()V"; code = None }

abbrev pub with_m : List ℕ → List ℕ → ℕ → Class
with_m name super_name flags = class_with 1 name (Some super_name) [] (method_m flags ∷ [])

abbrev pub with_interface : List ℕ → List ℕ → Class
with_interface name interface_name = class_with 1 name (Some object_name) (interface_name ∷ []) []

abbrev pub host : HostClasses
host = without_front (object ∷ final_class (codes "host/Io") ∷ [])

abbrev pub verdict : List FileContent → ℕ → Option LoadVerdict
verdict files place = load_verdict host files place

abbrev pub interface_with : List ℕ → List (List ℕ) → List Method → List Field → Class
interface_with name supers methods fields = record {
  major_version = 52;
  access_flags = 1537;
  name = name;
  super_class = Some object_name;
  interfaces = supers;
  fields = fields;
  methods = methods;
  constant_pool = [];
}

abbrev pub field_x : Field
field_x = record { access_flags = 25; name = codes "x"; descriptor = codes "I"; initial = None }

abbrev pub class_between : List ℕ → List ℕ → List (List ℕ) → List Field → Class
class_between name super_name supers fields = record {
  major_version = 52;
  access_flags = 1;
  name = name;
  super_class = Some super_name;
  interfaces = supers;
  fields = fields;
  methods = [];
  constant_pool = [];
}

abbrev pub holding : List Class → World
holding classes = world_of host (map (λ c. Holds c) classes)

-- the class that declares what m()V, or the int x, is from the class of a name
abbrev pub method_from : List Class → List ℕ → Option (List ℕ)
method_from classes name =
    option_and_then (λ l. option_map (λ d. d.by.class.name) (lookup_method (holding classes) l (codes "m") (codes "()V")))
    (class_named (holding classes) name)

abbrev pub field_from : List Class → List ℕ → Option (List ℕ)
field_from classes name =
    option_and_then (λ l. option_map (λ d. d.by.class.name) (lookup_field (holding classes) l (codes "x") (codes "I")))
    (class_named (holding classes) name)

abbrev pub interfaces_from : List Class → List ℕ → Option (List (List ℕ))
interfaces_from classes name =
    option_map (λ l. map (λ i. i.class.name) (superinterfaces (holding classes) l)) (class_named (holding classes) name)

-- I and J have a default m, J extends I; K has one of its own
abbrev pub I : Class
I = interface_with (codes "I") [] (method_m 1 ∷ []) []

abbrev pub J : Class
J = interface_with (codes "J") (codes "I" ∷ []) (method_m 1 ∷ []) []

abbrev pub K : Class
K = interface_with (codes "K") [] (method_m 1 ∷ []) []

-- A extends P, which has a field x and implements X, and A implements Y; X and Y have a field x
abbrev pub X : Class
X = interface_with (codes "X") [] [] (field_x ∷ [])

abbrev pub Y : Class
Y = interface_with (codes "Y") [] [] (field_x ∷ [])

-- an interface above itself, by way of another
abbrev pub V : Class
V = interface_with (codes "V") (codes "W" ∷ codes "Y" ∷ []) [] []

abbrev pub W : Class
W = interface_with (codes "W") (codes "V" ∷ codes "X" ∷ []) [] []

-- ---- rows

pub record WorkedRows : Type 0 where
  -- a file that is no class
  pub version : verdict (OtherVersion ∷ []) 0 ≡ Some Version
  pub format : verdict (NoClassFile ∷ []) 0 ≡ Some Format
  pub unsupported : verdict (MoreThanProfile ∷ []) 0 ≡ Some Unsupported
  -- a class named java/lang/Foo
  pub reserved : verdict (Holds (public_class (codes "java/lang/Foo") object_name) ∷ []) 0 ≡ Some Reserved
  -- two files of class A: the first is open, the second is a duplicate
  pub first_of_two : verdict (Holds (public_class (codes "A") object_name) ∷ Holds (public_class (codes "A") object_name) ∷ []) 0 ≡ None
  pub second_of_two : verdict (Holds (public_class (codes "A") object_name) ∷ Holds (public_class (codes "A") object_name) ∷ []) 1
      ≡ Some Duplicate
  -- a reserved name comes before a duplicate
  pub reserved_twice : verdict
      (Holds (public_class (codes "host/A") object_name) ∷ Holds (public_class (codes "host/A") object_name) ∷ []) 1 ≡ Some Reserved
  -- B extends B; and C extends B, which is not circular itself
  pub circular : verdict (Holds (public_class (codes "B") (codes "B")) ∷ []) 0 ≡ Some Circular
  pub below_circle : verdict (Holds (public_class (codes "B") (codes "B")) ∷ Holds (public_class (codes "C") (codes "B")) ∷ []) 1
      ≡ Some NoSuper
  -- a superclass that is not there
  pub missing : verdict (Holds (public_class (codes "A") (codes "Missing")) ∷ []) 0 ≡ Some NoSuper
  -- a superclass that is an interface, and a superinterface that is a class
  pub interface_above : verdict (Holds (interface (codes "I")) ∷ Holds (public_class (codes "A") (codes "I")) ∷ []) 1 ≡ Some WrongKind
  pub class_as_interface : verdict (Holds (public_class (codes "P") object_name) ∷ Holds (with_interface (codes "A") (codes "P")) ∷ []) 1
      ≡ Some WrongKind
  -- a superclass of another package that is not public, and one of the same package
  pub other_package : verdict (Holds (package_class (codes "p/A") object_name) ∷ Holds (public_class (codes "q/B") (codes "p/A")) ∷ []) 1
      ≡ Some NoAccess
  pub same_package : verdict (Holds (package_class (codes "p/A") object_name) ∷ Holds (public_class (codes "p/B") (codes "p/A")) ∷ []) 1
      ≡ None
  -- a final superclass
  pub final_above : verdict (Holds (final_class (codes "F")) ∷ Holds (public_class (codes "A") (codes "F")) ∷ []) 1 ≡ Some FinalBroken
  -- a final method that is overridden; a private one, a static one, and one of another package are not
  pub final_method : verdict (Holds (with_m (codes "A") object_name 17) ∷ Holds (with_m (codes "B") (codes "A") 1) ∷ []) 1
      ≡ Some FinalBroken
  pub private_final : verdict (Holds (with_m (codes "A") object_name 18) ∷ Holds (with_m (codes "B") (codes "A") 1) ∷ []) 1 ≡ None
  pub static_final : verdict (Holds (with_m (codes "A") object_name 25) ∷ Holds (with_m (codes "B") (codes "A") 9) ∷ []) 1 ≡ None
  pub other_package_final : verdict (Holds (with_m (codes "p/A") object_name 16) ∷ Holds (with_m (codes "q/B") (codes "p/A") 1) ∷ []) 1
      ≡ None
  -- p/A has a final package-private m, q/B has its own, p/C overrides p/A's across it
  pub across : verdict (Holds (with_m (codes "p/A") object_name 16) ∷ Holds (with_m (codes "q/B") (codes "p/A") 1)
      ∷ Holds (with_m (codes "p/C") (codes "q/B") 1) ∷ []) 2 ≡ Some FinalBroken
  -- p/B overrides p/A's final m, and q/C overrides p/B's: so it overrides p/A's too, by way of a third
  pub third : verdict (Holds (with_m (codes "p/A") object_name 16) ∷ Holds (with_m (codes "p/B") (codes "p/A") 1)
      ∷ Holds (with_m (codes "q/C") (codes "p/B") 1) ∷ []) 2 ≡ Some FinalBroken
  -- a class that extends host/Io, and one below a class that breaks a final method, which is loadable
  pub final_of_system : verdict (Holds (public_class (codes "A") (codes "host/Io")) ∷ []) 0 ≡ Some FinalBroken
  pub below_broken : verdict
      (Holds (with_m (codes "A") object_name 17) ∷ Holds (with_m (codes "B") (codes "A") 1) ∷ Holds (public_class (codes "C") (codes "B"))
      ∷ []) 2 ≡ None
  -- of the wrong kind and not open: the kind comes first
  pub kind_first : verdict
      (Holds (class_with 1536 (codes "p/I") (Some object_name) [] []) ∷ Holds (public_class (codes "q/A") (codes "p/I")) ∷ []) 1
      ≡ Some WrongKind
  -- the one maximally specific m, of J; of two that are unrelated the first
  pub specific : method_from (I ∷ J ∷ class_between (codes "C") object_name (codes "I" ∷ codes "J" ∷ []) [] ∷ []) (codes "C")
      ≡ Some (codes "J")
  pub unrelated : method_from (I ∷ K ∷ class_between (codes "C") object_name (codes "I" ∷ codes "K" ∷ []) [] ∷ []) (codes "C")
      ≡ Some (codes "I")
  -- of an abstract one and one that is not, both maximally specific, the latter, wherever it stands
  pub concrete : method_from
      (interface_with (codes "B") [] (method_m 1025 ∷ []) [] ∷ K ∷ class_between (codes "C") object_name (codes "B" ∷ codes "K" ∷ []) []
      ∷ []) (codes "C") ≡ Some (codes "K")
  -- an interface above itself is not below itself
  pub own_circle : method_from
      (interface_with (codes "B") [] (method_m 1025 ∷ []) [] ∷ interface_with (codes "D") (codes "D" ∷ []) (method_m 1 ∷ []) []
      ∷ class_between (codes "C") object_name (codes "B" ∷ codes "D" ∷ []) [] ∷ []) (codes "C") ≡ Some (codes "D")
  -- a superclass's method comes before a superinterface's
  pub class_first : method_from (K ∷ with_m (codes "P") object_name 1 ∷ class_between (codes "C") (codes "P") (codes "K" ∷ []) [] ∷ [])
      (codes "C") ≡ Some (codes "P")
  -- a field of the own interface comes before the superclass's, and the superclass's own before its interfaces'
  pub own_interface : field_from
      (X ∷ Y ∷ class_between (codes "P") object_name (codes "X" ∷ []) (field_x ∷ [])
      ∷ class_between (codes "A") (codes "P") (codes "Y" ∷ []) [] ∷ []) (codes "A") ≡ Some (codes "Y")
  pub own_superclass : field_from
      (X ∷ class_between (codes "P") object_name (codes "X" ∷ []) (field_x ∷ []) ∷ class_between (codes "A") (codes "P") [] [] ∷ [])
      (codes "A") ≡ Some (codes "P")
  -- a search ends on a circle, and passes over what it has begun
  pub circle : field_from (X ∷ Y ∷ V ∷ W ∷ []) (codes "V") ≡ Some (codes "X")
  pub circle_order : interfaces_from (X ∷ Y ∷ V ∷ W ∷ []) (codes "V") ≡ Some (codes "W" ∷ codes "X" ∷ codes "Y" ∷ [])
