-- The system's classes have typings, and are accepted, in the world of any guest.
use Rattle.std.proofs.Common.{◌≡◌, zero, suc, Bool, true, false, List, [], ◌∷◌, map, Option, Some, None, refl, sym, ap, subst, ◌⊎◌, inl, inr, arith}
use Rattle.std.specs.Prelude.{IsTrue, IsSome, is_none}
use Rattle.std.specs.List.{Contains, list_all}
use Rattle.std.proofs.lemmas.Bool.{and_parts}
use Rattle.std.proofs.lemmas.List.Elements.{All-nil, All-cons, Contains-append_cases}
use Rattle.jv_class.specs.Class.{Class, Method}
use Rattle.jv_meaning_world.specs.FileContent.{FileContent}
use Rattle.jv_meaning_world.specs.Library.{with_library}
use Rattle.jv_meaning_world.specs.System.Classes.{system_classes}
use Rattle.jv_meaning_world.specs.declared.verdict.LoadVerdict.{LoadVerdict}
use Rattle.jv_meaning_world.specs.World.{Loaded, World, loaded, world_of, classes_in}
use Rattle.jv_meaning_world.specs.Verdicts.{declared_by, verdict_of_class}
use Rattle.jv_meaning_typing.specs.declared.verdict.Verdict.TheVariants.{Accepted, Verify}
use Rattle.jv_meaning_typing.specs.Typing.{HasTyping}
use Rattle.jv_meaning_typing.specs.Laws.{OneJudgement}
use Rattle.jv_meaning_typing.specs.Judgement.{AreTyped, IsVerdictBehind}
use Rattle.jv_sound_system.specs.Walk.{Shown, types_method}
use Rattle.jv_sound_system.specs.Table.{system_shown, types_methods, types_class, types_classes}
use Rattle.jv_sound_system.specs.Law.{SystemIsTyped, SystemIsAccepted, SystemIsUnbroken}
use Rattle.jv_sound_system.proofs.Typed.{method_typed}
use Rattle.jv_sound_system.proofs.Computed.{system_types, system_is_plain}

-- ---- lists

-- a class of one loader is one of its classes
of_loader : (by_system : Bool) (classes : List Class) (l : Loaded) → Contains (map (loaded by_system) classes) l → l.by_system ≡ by_system
of_loader by_system [] l (k, less, e) = absurd (omega (arith, less))
of_loader by_system (c ∷ classes) l (zero, less, e) = sym (ap (λ (x : Loaded). x.by_system) e)
of_loader by_system (c ∷ classes) l (suc k, less, e) = of_loader by_system classes l (k, omega (arith, less), e)

methods_typed : (world : World) (l : Loaded) (shown : List Shown) (methods : List Method) → IsTrue (types_methods world l shown methods)
    → AreTyped world l methods
methods_typed world l shown [] h = All-nil (λ (m : Method). IsSome m.code → HasTyping world (declared_by l m))
methods_typed world l [] (m ∷ methods) h = absurd cc
methods_typed world l (s ∷ shown) (m ∷ methods) h =
    let parts = and_parts (types_method world l s m) (types_methods world l shown methods) h in
    All-cons (λ (m : Method). IsSome m.code → HasTyping world (declared_by l m)) m methods (method_typed world l s m parts.0)
    (methods_typed world l shown methods parts.1)

classes_typed : (world : World) (shown : List (List Shown)) (classes : List Class) → IsTrue (types_classes world shown classes)
    → (l : Loaded) → Contains (map (loaded true) classes) l → AreTyped world l l.class.methods
classes_typed world shown [] h l (k, less, e) = absurd (omega (arith, less))
classes_typed world [] (c ∷ classes) h l at = absurd cc
classes_typed world (s ∷ shown) (c ∷ classes) h l (zero, less, e) =
    subst (λ (x : Loaded). AreTyped world x x.class.methods) e (methods_typed world (loaded true c) s c.methods
    (and_parts (types_class world s c) (types_classes world shown classes) h).0)
classes_typed world (s ∷ shown) (c ∷ classes) h l (suc k, less, e) =
    classes_typed world shown classes (and_parts (types_class world s c) (types_classes world shown classes) h).1 l
    (k, omega (arith, less), e)

none_of : (why : Option LoadVerdict) → IsTrue (is_none why) → why ≡ None
none_of None h = refl
none_of (Some why) h = absurd cc

classes_plain : (world : World) (classes : List Class) → IsTrue (list_all
    (λ (c : Class). is_none (verdict_of_class world (loaded true c))) classes)
    → (l : Loaded) → Contains (map (loaded true) classes) l → verdict_of_class world l ≡ None
classes_plain world [] h l (k, less, e) = absurd (omega (arith, less))
classes_plain world (c ∷ classes) h l (zero, less, e) =
    subst (λ (x : Loaded). verdict_of_class world x ≡ None) e
    (none_of (verdict_of_class world (loaded true c)) (and_parts (is_none (verdict_of_class world (loaded true c)))
    (list_all (λ (c : Class). is_none (verdict_of_class world (loaded true c))) classes) h).0)
classes_plain world (c ∷ classes) h l (suc k, less, e) =
    classes_plain world classes (and_parts (is_none (verdict_of_class world (loaded true c)))
    (list_all (λ (c : Class). is_none (verdict_of_class world (loaded true c))) classes) h).1 l (k, omega (arith, less), e)

-- ---- a class of the system stands among the first

among_first : (files : List FileContent) (l : Loaded) → Contains (world_of (with_library []) files) l → IsTrue l.by_system
    → Contains (map (loaded true) system_classes) l
among_first files l there by_system = by_part (Contains-append_cases (map (loaded true) system_classes)
    (map (loaded false) (classes_in (with_library []) files)) l there)
  where
    unlike : (b : Bool) → IsTrue b → b ≡ false → ⊥
    unlike true h e = absurd cc
    unlike false h e = absurd cc

    by_part : Contains (map (loaded true) system_classes) l ⊎ Contains (map (loaded false) (classes_in (with_library []) files)) l
        → Contains (map (loaded true) system_classes) l
    by_part (inl first) = first
    by_part (inr guest) = absurd (unlike l.by_system by_system (of_loader false (classes_in (with_library []) files) l guest))

-- ---- laws

pub system_is_typed : SystemIsTyped
system_is_typed files l there by_system =
    classes_typed (world_of (with_library []) files) system_shown system_classes (system_types (map (loaded false) (classes_in (with_library []) files))) l
    (among_first files l there by_system)

pub system_is_accepted : SystemIsAccepted
system_is_accepted files l there by_system =
    subst (λ (why : Option LoadVerdict). IsVerdictBehind (world_of (with_library []) files) l why Accepted)
    (sym (classes_plain (world_of (with_library []) files) system_classes (system_is_plain (map (loaded false) (classes_in (with_library []) files))) l
    (among_first files l there by_system)))
    (system_is_typed files l there by_system)

-- `one` is a law of jv_meaning_typing
pub system_is_unbroken : OneJudgement → SystemIsUnbroken
system_is_unbroken one files l fault there by_system broken =
    unlike (one (world_of (with_library []) files) l Accepted (Verify fault) (system_is_accepted files l there by_system) broken)
  where
    unlike : Accepted ≡ Verify fault → ⊥
    unlike e = cc
