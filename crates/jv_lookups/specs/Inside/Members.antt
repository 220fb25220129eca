-- Members of one class.
use Rattle.std.specs.Prelude.{ℕ, Bool, not, ◌&&◌, ◌||◌, ◌<◌, false, List, Option, None, is_some, if◌then◌else◌, ◌≡◌, suc, codes, slice_get, get_or, length}
use Rattle.std.specs.List.{list_any, filter_map}
use Rattle.std.specs.Option.{option_map, IsSomeAnd}
use Rattle.std.specs.Str.{bytes_eq}
use Rattle.jv_class.specs.Class.{field_named}
use Rattle.jv_classes.specs.declared.member.Member.{Member}
use Rattle.jv_classes.specs.Members.{IsMethod}
use Rattle.jv_meaning_world.specs.World.{Loaded, World, class_named}
use Rattle.jv_meaning_world.specs.Above.{is_above, superclasses}
use Rattle.jv_meaning_world.specs.Overriding.{Declared}
use Rattle.jv_meaning_world.specs.LookUps.{DeclaredField, field_by, method_in, without_itself, is_inheritable, is_concrete, is_below, method_if, first_found, only, method_if_loaded, is_public_instance, lookup_field, searched_from, searched_within}
use Rattle.jv_meaning_world.specs.Numbers.{classes_at, HoldsAtNumber, HoldsAtBoth}
use Rattle.jv_lookups.specs.Defaults.{AreDefaults}
use Rattle.jv_lookups.specs.declared.defaults.Defaults.{Defaults}
use Rattle.jv_lookups.specs.Places.{IsMethodFound, IsFieldFound}
use Rattle.jv_lookups.specs.declared.place.Place.{Place}

-- it is a method of this class
abbrev pub IsMethodOf : Loaded → Member → Type 0
IsMethodOf l member = (place : ℕ) × IsSomeAnd (slice_get l.class.methods place) (IsMethod member)

-- the field of a name and a descriptor that a class declares (JVMS 5.4.3.2)
abbrev pub field_named_in : List ℕ → List ℕ → Loaded → Option DeclaredField
field_named_in name descriptor l = option_map (field_by l) (field_named l.class name descriptor)

-- the method that a superinterface declares and a class can inherit (JVMS 5.4.3.3)
abbrev pub candidate_in : List ℕ → List ℕ → Loaded → Loaded → Option Declared
candidate_in name descriptor l c = if without_itself l c then method_if is_inheritable (method_in name descriptor c) else None

-- such methods of all classes with these numbers
abbrev pub candidates_at : World → List ℕ → List ℕ → List ℕ → Loaded → List Declared
candidates_at world searched name descriptor l = filter_map (candidate_in name descriptor l) (classes_at world searched)

-- a class is another than this one, and above it
abbrev pub is_other_above : World → Loaded → Loaded → Bool
is_other_above world by c = not (bytes_eq by.class.name c.class.name) && is_above world by.class.name c.class

-- a class is below another and declares such a method
abbrev pub below_in : World → List ℕ → List ℕ → Loaded → Loaded → Loaded → Bool
below_in world name descriptor l by c = is_other_above world by c && is_some (candidate_in name descriptor l c)

-- such a method that is not abstract, and has none below it
abbrev pub is_specific : World → List Declared → Declared → Bool
is_specific world all d = is_concrete d && not (list_any (is_below world d) all)

abbrev pub specific_in : World → List Declared → List ℕ → List ℕ → Loaded → Loaded → Option Declared
specific_in world all name descriptor l c = method_if (is_specific world all) (candidate_in name descriptor l c)

-- all of these
abbrev pub specifics_at : World → List ℕ → List ℕ → List ℕ → Loaded → List Declared
specifics_at world searched name descriptor l =
    filter_map (specific_in world (candidates_at world searched name descriptor l) name descriptor l) (classes_at world searched)

-- ---- by numbers

-- such a method of the first class that has one, of those that a search meets
abbrev pub IsFirstCandidate : World → ℕ → List ℕ → List ℕ → List ℕ → Option Place → Type 0
IsFirstCandidate world from searched name descriptor answer =
    HoldsAtNumber world from (λ l. IsMethodFound world answer (first_found (candidate_in name descriptor l) (classes_at world searched)))

-- a class, or one of those that a search meets, is below another and declares such a method
abbrev pub IsBelowIn : World → ℕ → ℕ → ℕ → List ℕ → List ℕ → Bool → Type 0
IsBelowIn world from class other name descriptor answer =
    HoldsAtBoth world from class (λ l by. HoldsAtNumber world other (λ c. answer ≡ below_in world name descriptor l by c))

abbrev pub IsAnyBelowIn : World → ℕ → ℕ → List ℕ → List ℕ → List ℕ → Bool → Type 0
IsAnyBelowIn world from class searched name descriptor answer =
    HoldsAtBoth world from class (λ l by. answer ≡ list_any (below_in world name descriptor l by) (classes_at world searched))

-- the maximally specific one that a class declares, all of them, or the only one
abbrev pub IsSpecificIn : World → ℕ → ℕ → List ℕ → List ℕ → List ℕ → Option Place → Type 0
IsSpecificIn world from class searched name descriptor answer =
    HoldsAtBoth world from class
    (λ l c. IsMethodFound world answer (specific_in world (candidates_at world searched name descriptor l) name descriptor l c))

abbrev pub AreSpecifics : World → ℕ → List ℕ → List ℕ → List ℕ → Defaults → Type 0
AreSpecifics world from searched name descriptor answer =
    HoldsAtNumber world from (λ l. AreDefaults world answer (specifics_at world searched name descriptor l))

abbrev pub IsOnlySpecific : World → ℕ → List ℕ → List ℕ → List ℕ → Option Place → Type 0
IsOnlySpecific world from searched name descriptor answer =
    HoldsAtNumber world from (λ l. IsMethodFound world answer (only (specifics_at world searched name descriptor l)))

-- ---- marks of classes that have such a method below them (JVMS 5.4.3.3)

-- each class that has a mark is marked exactly where one that a search meets is below it and declares such a method
abbrev pub TellsBelow : World → ℕ → List ℕ → List ℕ → List ℕ → List Bool → Type 0
TellsBelow world from searched name descriptor marks =
    (class : ℕ) → class < length marks → IsAnyBelowIn world from class searched name descriptor (get_or marks class false)

-- what was marked still is, and each other class above one; where that declares such a method; and so for each that a search meets
abbrev pub MarksOthersAbove : World → ℕ → List Bool → List Bool → Type 0
MarksOthersAbove world class old new =
    (to : ℕ) → HoldsAtBoth world class to (λ c by. get_or new to false ≡ (get_or old to false || is_other_above world by c))

abbrev pub MarksAboveCandidate : World → ℕ → ℕ → List ℕ → List ℕ → List Bool → List Bool → Type 0
MarksAboveCandidate world from class name descriptor old new =
    (to : ℕ) → HoldsAtBoth world from to
    (λ l by. HoldsAtNumber world class (λ c. get_or new to false ≡ (get_or old to false || below_in world name descriptor l by c)))

abbrev pub MarksAboveCandidates : World → ℕ → List ℕ → List ℕ → List ℕ → List Bool → List Bool → Type 0
MarksAboveCandidates world from searched name descriptor old new =
    (to : ℕ) → HoldsAtBoth world from to
    (λ l by. get_or new to false ≡ (get_or old to false || list_any (below_in world name descriptor l by) (classes_at world searched)))

-- what a class and its superclasses declare, and what java/lang/Object gives to interfaces
abbrev pub IsFirstAbove : World → ℕ → List ℕ → List ℕ → Option Place → Type 0
IsFirstAbove world from name descriptor answer =
    HoldsAtNumber world from (λ l. IsMethodFound world answer (first_found (method_in name descriptor) (superclasses world l.class)))

abbrev pub method_of_object : World → List ℕ → List ℕ → Option Declared
method_of_object world name descriptor =
    method_if is_public_instance (method_if_loaded name descriptor (class_named world (codes "java/lang/Object")))

-- the field that a class whose search goes by these numbers has or inherits
abbrev pub FindsField : World → List ℕ → List ℕ → List ℕ → Option Place → Type 0
FindsField world searched name descriptor answer =
    (l : Loaded) → classes_at world searched ≡ searched_from world l → IsFieldFound world answer (lookup_field world l name descriptor)

-- a search goes on with a class, behind those that it has begun
abbrev pub SearchesOn : World → ℕ → ℕ → List ℕ → List ℕ → Type 0
SearchesOn world deeper number old new =
    HoldsAtNumber world number (λ l. classes_at world new ≡ searched_within world (suc deeper) (classes_at world old) l)
