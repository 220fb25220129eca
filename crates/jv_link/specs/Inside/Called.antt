-- Methods with the name and the descriptor of the one that is called.
use Rattle.std.specs.Prelude.{Option, ◌≡◌, ℕ, Bool, false, List, length, get_or, Some, None, Result, slice_get}
use Rattle.jv_meaning_world.specs.World.{Loaded, World}
use Rattle.jv_meaning_world.specs.Overriding.{Declared, alike_in}
use Rattle.jv_class.specs.Class.{method_named}
use Rattle.jv_meaning_world.specs.LookUps.{method_in, first_found}
use Rattle.jv_class_structure.specs.Flags.{has, acc_public}
use Rattle.jv_meaning_typing.specs.LinkErrors.{OrError, ◌>>=◌, provided}
use Rattle.jv_meaning_typing.specs.LinkErrors.LinkError.{IncompatibleClassChangeError, IllegalAccessError}
use Rattle.jv_meaning_typing.specs.MethodResolution.{MethodTarget}
use Rattle.jv_meaning_typing.specs.Selection.{not_abstract, object_class, implements, select_virtual, select_interface, selected, select_special, found_or_default, public_or_default, superinterface_default}
use Rattle.jv_meaning_world.specs.Numbers.{HoldsAtNumber}
use Rattle.jv_lookups.specs.Places.{method_at, HoldsAtCall, IsMethodFound, HoldsAtMethod}
use Rattle.jv_lookups.specs.declared.place.Place.{Place}
use Rattle.jv_meaning_typing.specs.Uses.{Site}
use Rattle.jv_link.specs.Seen.{seen_use}
use Rattle.jv_link.specs.Objects.{object_class_at}
use Rattle.jv_link.specs.Answers.{AnswersMethod}
use Rattle.jv_link.specs.declared.error.LinkError.{LinkError}
use Rattle.jv_link.specs.declared.site.Use.{Use}
use Rattle.jv_link.specs.declared.target.MethodTarget.{MethodTarget as TargetByNumber}
use Rattle.std.specs.Option.{option_and_then}
use Rattle.jv_meaning_world.specs.Above.{superclasses}

abbrev pub method_named_as : Declared → Loaded → Option Declared
method_named_as e l = method_in e.method.name e.method.descriptor l

-- one of its name and descriptor may be declared by the classes that are marked: by one that is not there is none
pub record AreMarksAs (world : World) (called : Place) (marks : List Bool) : Type 0 where
  pub size : length marks ≡ length world
  pub none : (number : ℕ) → get_or marks number false ≡ false
      → HoldsAtCall world called number (λ l e. method_named l.class e.method.name e.method.descriptor ≡ None)

-- it has to be public, which is asked before whether it is abstract (JVMS 6.5)
abbrev pub public_one : Declared → OrError Declared
public_one d = provided (has d.method.access_flags acc_public) IllegalAccessError d >>= not_abstract

-- what invokevirtual and invokeinterface run, on an object or on an array
abbrev pub virtual_of : World → Declared → Option Loaded → OrError Declared
virtual_of world e object = object_class world object >>= select_virtual world e

abbrev pub interface_of : World → MethodTarget → Option Loaded → OrError Declared
interface_of world t object =
    provided (implements world object t.named) IncompatibleClassChangeError object
    >>= object_class world
    >>= select_interface world t.declared.method

-- ---- calls by numbers

-- the target of an interface's method, on an object
abbrev pub AnswersInterface : World → TargetByNumber → Option ℕ → Result Place LinkError → Type 0
AnswersInterface world target object answer =
    (t : MethodTarget) → slice_get world target.named ≡ Some t.named → method_at world target.declared ≡ Some t.declared
    → AnswersMethod world answer (interface_of world t (object_class_at world object))

-- of any use, from the class at a site
abbrev pub AnswersCall : World → ℕ → Use → TargetByNumber → Option ℕ → Result Place LinkError → Type 0
AnswersCall world current how target object answer =
    (s : Site) (t : MethodTarget) → slice_get world current ≡ Some s.by → slice_get world target.named ≡ Some t.named
    → method_at world target.declared ≡ Some t.declared
    → AnswersMethod world answer (selected world s (seen_use how) t (object_class_at world object))

-- of invokespecial
abbrev pub AnswersSpecial : World → ℕ → TargetByNumber → Result Place LinkError → Type 0
AnswersSpecial world current target answer =
    HoldsAtNumber world current (λ c. (t : MethodTarget) → slice_get world target.named ≡ Some t.named
    → method_at world target.declared ≡ Some t.declared → AnswersMethod world answer (select_special world c t))

-- what runs where nothing was found by name, or what was found is abstract
abbrev pub RunsFound : World → Place → ℕ → Option Place → Result Place LinkError → Type 0
RunsFound world called class found answer =
    HoldsAtCall world called class
    (λ l e. AnswersMethod world answer (found_or_default world l e.method (option_and_then (method_at world) found)))

abbrev pub RunsPublic : World → Place → ℕ → Option Place → Result Place LinkError → Type 0
RunsPublic world called class found answer =
    HoldsAtCall world called class
    (λ l e. AnswersMethod world answer (public_or_default world l e.method (option_and_then (method_at world) found)))

abbrev pub RunsDefault : World → Place → ℕ → Result Place LinkError → Type 0
RunsDefault world called class answer =
    HoldsAtCall world called class (λ l e. AnswersMethod world answer (superinterface_default world l e.method))

-- the nearest superclass's method of the name and descriptor
abbrev pub IsAlikeAbove : World → Place → ℕ → Option Place → Type 0
IsAlikeAbove world called from answer =
    HoldsAtCall world called from (λ l e. IsMethodFound world answer (first_found (λ s. alike_in s e.method) (superclasses world l.class)))

-- what invokevirtual runs on an object
abbrev pub AnswersVirtual : World → Place → Option ℕ → Result Place LinkError → Type 0
AnswersVirtual world called object answer =
    HoldsAtMethod world called (λ e. AnswersMethod world answer (virtual_of world e (object_class_at world object)))
