-- Classes and calls for worked rows. The system's classes are java/lang/Object, with its constructor and `equals`, the two
-- interfaces of arrays, p/Hidden, which is not public, and p/Open, with a field x and a method m that are package-private.
use Rattle.std.specs.Prelude.{ℕ, true, false, List, [], ◌∷◌, map, Option, Some, None, Ok, codes}
use Rattle.std.specs.Option.{option_map}
use Rattle.jv_text.specs.Descriptor.{field_text}
use Rattle.jv_pool.specs.Constants.{MemberReference, member_of, name_and_descriptor}
use Rattle.jv_class.specs.Class.{Class, Field, Method}
use Rattle.jv_meaning_world.specs.declared.content.Content.TheVariants.{Holds}
use Rattle.jv_meaning_world.specs.World.{Loaded, World, loaded, without_front, world_of}
use Rattle.jv_meaning_world.specs.Rows.Files.{object_name, method_m, class_with, public_class, package_class, interface_with}
use Rattle.jv_meaning_typing.specs.Uses.{Use, Site}
use Rattle.jv_meaning_typing.specs.LinkErrors.{OrError, ◌>>=◌}
use Rattle.jv_meaning_typing.specs.Operands.{MethodConstant, MethodReference, through}
use Rattle.jv_meaning_typing.specs.ClassResolution.{ResolvedClass, resolve_class}
use Rattle.jv_meaning_typing.specs.ClassResolution.ResolvedClass.{ClassOf, ArrayOf}
use Rattle.jv_meaning_typing.specs.FieldResolution.{resolve_field}
use Rattle.jv_meaning_typing.specs.MethodResolution.{MethodTarget, resolve_method}
use Rattle.jv_meaning_typing.specs.Selection.{select}

-- ---- members: x of type int, m and `<init>` of no arguments and no result, `equals` of an object, with a boolean result.
-- Flags: public 1, private 2, protected 4, static 8, final 16, abstract 1024, package-private 0.

abbrev pub x : ℕ → List Field
x flags = record { access_flags = flags; name = codes "x"; descriptor = codes "I"; initial = None } ∷ []

abbrev pub m : ℕ → List Method
m flags = method_m flags ∷ []

abbrev pub method : ℕ → List ℕ → List ℕ → Method
method flags name descriptor = record { access_flags = flags; name = name; descriptor = descriptor; code = None }

abbrev pub constructor : ℕ → List Method
constructor flags = method flags (codes "<init>") (codes "()V") ∷ []

abbrev pub equals : Method
equals = method 1 (codes "equals") (codes "(Ljava/lang/Object;)Z")

-- ---- classes

-- public classes by their names, their superclasses' and their members
abbrev pub class : List ℕ → List ℕ → List Method → Class
class name super_name methods = class_with 1 name (Some super_name) [] methods

abbrev pub with_fields : List ℕ → List ℕ → List Field → Class
with_fields name super_name fields = record (public_class name super_name) { fields = fields }

abbrev pub implementing : List ℕ → List ℕ → List (List ℕ) → List Method → Class
implementing name super_name interfaces methods = class_with 1 name (Some super_name) interfaces methods

abbrev pub interface : List ℕ → List (List ℕ) → List Method → Class
interface name supers methods = interface_with name supers methods []

abbrev pub open_class : Class
open_class = record (class (codes "p/Open") object_name (m 0)) { fields = x 0 }

abbrev pub system : List Class
system =
    class_with 1 object_name None [] (method 1 (codes "<init>") (codes "()V") ∷ equals ∷ [])
    ∷ interface (codes "java/lang/Cloneable") [] []
    ∷ interface (codes "java/io/Serializable") [] []
    ∷ package_class (codes "p/Hidden") object_name
    ∷ open_class
    ∷ []

abbrev pub world_with : List Class → World
world_with classes = world_of (without_front system) (map (λ c. Holds c) classes)

abbrev pub guest : Class → Loaded
guest class = loaded false class

-- ---- sites

-- in m of a class of the system
abbrev pub in_system : Class → Site
in_system class = record { by = loaded true class; method = method 1 (codes "m") (codes "()V") }

-- in m, in `<init>` and in `<clinit>` of a class of the guest
abbrev pub in_method : List ℕ → Class → Site
in_method name class = record { by = guest class; method = method 1 name (codes "()V") }

abbrev pub in_m : Class → Site
in_m class = in_method (codes "m") class

abbrev pub in_init : Class → Site
in_init class = in_method (codes "<init>") class

abbrev pub in_clinit : Class → Site
in_clinit class = in_method (codes "<clinit>") class

-- ---- what a class resolves to, by its name or its descriptor

abbrev pub text_of_resolved : ResolvedClass → List ℕ
text_of_resolved (ClassOf l) = l.class.name
text_of_resolved (ArrayOf type) = field_text type

abbrev pub class_from : List Class → Class → Option Use → List ℕ → OrError (List ℕ)
class_from classes current how text = resolve_class (world_with classes) (in_m current) how text >>= (λ c. Ok (text_of_resolved c))

-- ---- which class declares the field or the method that a site uses, by way of a class's name

abbrev pub member : List ℕ → List ℕ → List ℕ → MemberReference
member class_name name descriptor = member_of class_name (name_and_descriptor name descriptor)

abbrev pub x_from : List Class → Site → Use → List ℕ → OrError (List ℕ)
x_from classes site how class_name =
    resolve_field (world_with classes) site how (member class_name (codes "x") (codes "I")) >>= (λ d. Ok d.by.class.name)

abbrev pub declares : MethodTarget → OrError (List ℕ)
declares t = Ok t.declared.by.class.name

abbrev pub method_from : List Class → Site → Use → MethodReference → OrError (List ℕ)
method_from classes site how reference = resolve_method (world_with classes) site how reference >>= declares

abbrev pub m_of : MethodConstant → List ℕ → MethodReference
m_of constant class_name = through constant (member class_name (codes "m") (codes "()V"))

abbrev pub m_from : List Class → Site → Use → MethodConstant → List ℕ → OrError (List ℕ)
m_from classes site how constant class_name = method_from classes site how (m_of constant class_name)

-- ---- which class declares the method that runs, on an object of a class or on an array, None

abbrev pub call_in : World → Site → Use → MethodReference → Option Loaded → OrError (List ℕ)
call_in world site how reference object =
    resolve_method world site how reference >>= (λ t. select world site how t object) >>= declares

abbrev pub run_from : List Class → Site → Use → MethodReference → Option Class → OrError (List ℕ)
run_from classes site how reference object = call_in (world_with classes) site how reference (option_map guest object)

abbrev pub m_run : List Class → Site → Use → MethodConstant → List ℕ → Class → OrError (List ℕ)
m_run classes site how constant class_name object = run_from classes site how (m_of constant class_name) (Some object)
