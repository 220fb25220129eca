-- The direct super, or the final method, that a class is refused for (JVMS 5.3.5, 4.10), as text (own).
use Rattle.std.specs.Prelude.{◌≡◌, ℕ, Bool, true, false, not, ◌||◌, is_some, List, [], ◌∷◌, ◌++◌, codes, map, Option, Some, None, if◌then◌else◌}
use Rattle.std.specs.List.{find}
use Rattle.std.specs.Str.{bytes_eq}
use Rattle.jv_class_structure.specs.Flags.{has, acc_final}
use Rattle.jv_class.specs.Class.{Class}
use Rattle.jv_meaning_world.specs.Above.{is_above, superclass_names}
use Rattle.jv_meaning_world.specs.FileContent.{FileContent}
use Rattle.jv_meaning_world.specs.declared.content.Content.TheVariants.{Holds}
use Rattle.jv_meaning_world.specs.Verdicts.{is_interface, is_loadable}
use Rattle.jv_meaning_world.specs.World.{Loaded, World, can_name, class_named}
use Rattle.jv_meaning_world.specs.declared.verdict.LoadVerdict.{LoadVerdict}
use Rattle.jv_meaning_world.specs.declared.verdict.LoadVerdict.TheVariants.{Circular, NoSuper, WrongKind, NoAccess, FinalBroken}
use Rattle.jv_program_base.specs.Escape.{escaped_text}
use Rattle.jv_explain.specs.Finals.{finals_text}
use Rattle.jv_explain.specs.Names.{name_text}
use Rattle.jv_explain.specs.declared.supers.SuperFault.{SuperFault}
use Rattle.jv_explain.specs.declared.supers.SuperFault.TheVariants.{Missing, Unloadable, Below, Interface, NoInterface, Closed, Final}

-- ---- direct supers, the superclass first

-- by its name, as the superclass or as a superinterface
pub record Super : Type 0 where
  pub name : List ℕ
  pub as_interface : Bool

abbrev pub superclass : List ℕ → Super
superclass name = record { name = name; as_interface = false }

abbrev pub superinterface : List ℕ → Super
superinterface name = record { name = name; as_interface = true }

abbrev pub direct_supers : Class → List Super
direct_supers class = map superclass (superclass_names class.super_class) ++ map superinterface class.interfaces

-- ---- what a verdict on a class finds wrong with one

abbrev pub fault_if : SuperFault → Bool → Option SuperFault
fault_if fault wrong = if wrong then Some fault else None

-- with the class of its name, where there is one; the verdict is on this class
abbrev pub fault_of : World → Loaded → LoadVerdict → (as_interface : Bool) → Option Loaded → Option SuperFault
fault_of world l Circular as_interface (Some s) = fault_if Below (bytes_eq s.class.name l.class.name || is_above world l.class.name s.class)
fault_of world l NoSuper as_interface None = Some Missing
fault_of world l NoSuper as_interface (Some s) = fault_if Unloadable (not (is_loadable world s))
fault_of world l WrongKind false (Some s) = fault_if Interface (is_interface s)
fault_of world l WrongKind true (Some s) = fault_if NoInterface (not (is_interface s))
fault_of world l NoAccess as_interface (Some s) = fault_if Closed (not (can_name l s))
fault_of world l FinalBroken as_interface (Some s) = fault_if Final (has s.class.access_flags acc_final)
fault_of world l why as_interface found = None

abbrev pub super_fault : World → Loaded → LoadVerdict → Super → Option SuperFault
super_fault world l why s = fault_of world l why s.as_interface (class_named world s.name)

-- ---- as text: the first of which that is found

abbrev pub fault_text : SuperFault → List ℕ
fault_text Missing = codes " is neither among the guest's classes nor the system's"
fault_text Unloadable = codes " cannot be loaded"
fault_text Below = codes " is the class itself or below it"
fault_text Interface = codes " is an interface"
fault_text NoInterface = codes " is no interface"
fault_text Closed = codes " is not public, and in another package"
fault_text Final = codes " is final"

abbrev pub kind_text : (as_interface : Bool) → List ℕ
kind_text true = codes "  superinterface "
kind_text false = codes "  superclass "

abbrev pub line_text : Super → Option SuperFault → List ℕ
line_text s None = []
line_text s (Some fault) = kind_text s.as_interface ++ escaped_text s.name ++ fault_text fault ++ 10 ∷ []

abbrev pub blamed_text : World → Loaded → LoadVerdict → Option Super → List ℕ
blamed_text world l why None = []
blamed_text world l why (Some s) = line_text s (super_fault world l why s)

abbrev pub supers_text : World → LoadVerdict → Option Loaded → List ℕ
supers_text world why None = []
supers_text world why (Some l) =
    blamed_text world l why (find (λ s. is_some (super_fault world l why s)) (direct_supers l.class)) ++ finals_text world why l

-- of a class of this name: its name, where the verdict is about that; and of the one in the world the direct super that is blamed, and
-- the final method that is overridden, where there are these
abbrev pub refusal_text : World → (name : List ℕ) → LoadVerdict → List ℕ
refusal_text world name why = name_text why name ++ supers_text world why (class_named world name)

-- of a file whose class has this verdict
abbrev pub IsRefusalTold : World → FileContent → LoadVerdict → List ℕ → Type 0
IsRefusalTold world (Holds class) why text = text ≡ refusal_text world class.name why
IsRefusalTold world content why text = text ≡ []
