-- Where a field or a method is found from a class (JVMS 5.4.3.2 to 5.4.3.4), without access and kind.
use Rattle.std.specs.Prelude.{ℕ, zero, suc, Bool, not, ◌&&◌, ◌+◌, List, [], ◌∷◌, ◌++◌, length, filter, Option, Some, None, codes, if◌then◌else◌}
use Rattle.std.specs.List.{filter_map, fold, list_any}
use Rattle.std.specs.Option.{option_map}
use Rattle.std.specs.Str.{bytes_eq}
use Rattle.jv_class_structure.specs.Flags.{has, acc_public, acc_private, acc_static, acc_abstract}
use Rattle.jv_class.specs.Class.{Class, Field, field_named, method_named}
use Rattle.jv_meaning_world.specs.World.{Loaded, World, class_named}
use Rattle.jv_meaning_world.specs.Above.{superclass_names, superclasses, is_above}
use Rattle.jv_meaning_world.specs.Overriding.{Declared}
use Rattle.jv_meaning_world.specs.Verdicts.{is_interface, declared_by}

-- ---- the order of a search: a class, what its own superinterfaces lead to, and what its superclass leads to. A class that
-- the search has begun before is passed over.

abbrev pub is_among : List Loaded → Loaded → Bool
is_among begun l = list_any (λ b. bytes_eq b.class.name l.class.name) begun

abbrev pub next_in : World → Class → List Loaded
next_in world class = filter_map (class_named world) (class.interfaces ++ superclass_names class.super_class)

abbrev pub searched_within : World → ℕ → List Loaded → Loaded → List Loaded
searched_within world zero begun l = begun
searched_within world (suc k) begun l =
    if is_among begun l then begun
    else fold (searched_within world k) (begun ++ l ∷ []) (next_in world l.class)

-- each step down the search begins a class more, so it is no deeper than there are classes
abbrev pub searched_from : World → Loaded → List Loaded
searched_from world l = searched_within world (suc (length world)) [] l

-- what is found first
abbrev pub else_option : {B : Type 0} → Option B → Option B → Option B
else_option (Some b) other = Some b
else_option None other = other

abbrev pub first_found : {A B : Type 0} → (A → Option B) → List A → Option B
first_found look [] = None
first_found look (a ∷ more) = else_option (look a) (first_found look more)

-- ---- fields (5.4.3.2)

-- a field with the class that declares it
pub record DeclaredField : Type 0 where
  pub by : Loaded
  pub field : Field

abbrev pub field_by : Loaded → Field → DeclaredField
field_by l f = record { by = l; field = f }

abbrev pub lookup_field : World → Loaded → List ℕ → List ℕ → Option DeclaredField
lookup_field world l name descriptor =
    first_found (λ c. option_map (field_by c) (field_named c.class name descriptor)) (searched_from world l)

-- ---- methods

abbrev pub method_in : List ℕ → List ℕ → Loaded → Option Declared
method_in name descriptor l = option_map (declared_by l) (method_named l.class name descriptor)

abbrev pub without_itself : Loaded → Loaded → Bool
without_itself l c = is_interface c && not (bytes_eq c.class.name l.class.name)

-- the superinterfaces, in the order of the search: those that the class's own interfaces lead to before those that only
-- its superclass leads to. Of a class whose supers are of the wrong kind these are the interfaces among what the search
-- meets.
abbrev pub superinterfaces : World → Loaded → List Loaded
superinterfaces world l = filter (without_itself l) (searched_from world l)

-- a method that a class can inherit from a superinterface is neither private nor static
abbrev pub is_inheritable : Declared → Bool
is_inheritable d = not (has d.method.access_flags (acc_private + acc_static))

abbrev pub candidates : World → Loaded → List ℕ → List ℕ → List Declared
candidates world l name descriptor = filter is_inheritable (filter_map (method_in name descriptor) (superinterfaces world l))

-- no other such method stands in an interface below its own (5.4.3.3)
abbrev pub is_below : World → Declared → Declared → Bool
is_below world d other =
    not (bytes_eq d.by.class.name other.by.class.name) && is_above world d.by.class.name other.by.class

abbrev pub maximally_specific : World → List Declared → List Declared
maximally_specific world all = filter (λ d. not (list_any (is_below world d) all)) all

abbrev pub is_concrete : Declared → Bool
is_concrete d = not (has d.method.access_flags acc_abstract)

-- the one item of a list
abbrev pub only : {A : Type 0} → List A → Option A
only (a ∷ []) = Some a
only _ = None

abbrev pub itself : {A : Type 0} → A → Option A
itself a = Some a

-- the one maximally specific method that is not abstract, else the first in order (own: the first)
abbrev pub superinterface_method : World → Loaded → List ℕ → List ℕ → Option Declared
superinterface_method world l name descriptor =
    let all = candidates world l name descriptor in
    else_option (only (filter is_concrete (maximally_specific world all))) (first_found itself all)

-- from a class: its own, its superclasses', and those of its superinterfaces (5.4.3.3)
abbrev pub lookup_class_method : World → Loaded → List ℕ → List ℕ → Option Declared
lookup_class_method world l name descriptor =
    else_option (first_found (method_in name descriptor) (l ∷ superclasses world l.class)) (superinterface_method world l name descriptor)

-- from an interface: its own, a public instance method of java/lang/Object, and those of its superinterfaces (5.4.3.4)
abbrev pub is_public_instance : Declared → Bool
is_public_instance d = has d.method.access_flags acc_public && not (has d.method.access_flags acc_static)

abbrev pub method_if : (Declared → Bool) → Option Declared → Option Declared
method_if test None = None
method_if test (Some d) = if test d then Some d else None

abbrev pub method_if_loaded : List ℕ → List ℕ → Option Loaded → Option Declared
method_if_loaded name descriptor None = None
method_if_loaded name descriptor (Some l) = method_in name descriptor l

abbrev pub lookup_interface_method : World → Loaded → List ℕ → List ℕ → Option Declared
lookup_interface_method world l name descriptor =
    else_option (method_in name descriptor l)
    (else_option (method_if is_public_instance (method_if_loaded name descriptor (class_named world (codes "java/lang/Object"))))
    (superinterface_method world l name descriptor))

-- from a class or an interface
abbrev pub lookup_method : World → Loaded → List ℕ → List ℕ → Option Declared
lookup_method world l name descriptor =
    if is_interface l then lookup_interface_method world l name descriptor
    else lookup_class_method world l name descriptor

-- ---- subclasses

-- a class is its own subclass, and one of each of its superclasses
abbrev pub is_subclass : World → Loaded → Loaded → Bool
is_subclass world l of = is_among (l ∷ superclasses world l.class) of
