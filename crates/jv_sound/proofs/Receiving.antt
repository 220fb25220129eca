-- Methods that are selected can be entered, and their objects can receive them.
use Rattle.std.proofs.Common.{◌≡◌, ◌⊎◌, inl, inr, ℕ, Bool, true, false, not, List, [], ◌∷◌, Option, Some, Ok, refl, sym, ap, subst, ◌∙◌}
use Rattle.std.specs.Prelude.{IsTrue, IsSome}
use Rattle.std.specs.List.{Contains, list_all}
use Rattle.std.specs.Str.{bytes_eq}
use Rattle.std.specs.Cmp.Lexicographic.{nat_list_eq_equiv}
use Rattle.std.proofs.lemmas.Bool.{and_from, or_left, or_right}
use Rattle.std.proofs.lemmas.List.Elements.{Contains-append_cases}
use Rattle.jv_class.specs.Class.{method_named}
use Rattle.jv_meaning_world.specs.World.{Loaded, class_named}
use Rattle.jv_meaning_world.specs.Above.{above, superclasses}
use Rattle.jv_meaning_world.specs.Overriding.{Declared}
use Rattle.jv_meaning_world.specs.Verdicts.{is_interface}
use Rattle.jv_meaning_world.specs.LookUps.{is_concrete}
use Rattle.jv_meaning_world.proofs.Up.{first, later, single, above_by_ways, above_is_transitive}
use Rattle.jv_meaning_typing.specs.Kind.{is_static_method}
use Rattle.jv_meaning_typing.specs.LinkingLaws.{IsRun}
use Rattle.jv_meaning_typing.specs.MethodResolution.{MethodTarget}
use Rattle.jv_meaning_typing.specs.Selection.{upward, select}
use Rattle.jv_meaning_typing.specs.Uses.{Use, Site}
use Rattle.jv_meaning_typing.specs.Uses.Use.{Invokevirtual, Invokeinterface}
use Rattle.jv_meaning_typing.proofs.Run.{selected_is_run}
use Rattle.jv_meaning_typing.proofs.Searched.{superclass_is_above}
use Rattle.jv_meaning_world.proofs.Up.{has_name}
use Rattle.jv_meaning_world.proofs.OrderChains.{any_made, all_at}
use Rattle.jv_meaning_machine.specs.Objects.{Instance, Object, is_below, is_at_or_below}
use Rattle.jv_meaning_machine.specs.Objects.Object.{InstanceOf}
use Rattle.jv_meaning_machine.specs.State.{Program, is_class_accepted}
use Rattle.jv_meaning_machine.specs.Calls.{can_receive}
use Rattle.jv_meaning_machine.specs.Initialization.{is_verified}
use Rattle.jv_sound.specs.Memory.{IsTypedInstance}
use Rattle.jv_sound.specs.Sound.{IsEnterable}
use Rattle.jv_sound.proofs.Taking.{and_parts}
use Rattle.jv_sound.proofs.Subtypes.{above_is_named}

all_made : {A : Type 0} (test : A → Bool) (xs : List A) → ((x : A) → Contains xs x → test x ≡ true) → list_all test xs ≡ true
all_made test [] h = refl
all_made test (x ∷ xs) h = and_from (test x) (list_all test xs) (h x (first x xs)) (all_made test xs (λ y k. h y (later x xs y k)))

-- what is above a verified class is verified
pub above_verified : (program : Program) (l by : Loaded) → IsTrue (is_verified program l) → Contains (above program.world l.class) by
    → IsTrue (is_verified program by)
above_verified program l by v h =
    let parts = and_parts (is_class_accepted program l) (list_all (is_class_accepted program) (above program.world l.class)) v in
    and_from (is_class_accepted program by) (list_all (is_class_accepted program) (above program.world by.class))
    (all_at (is_class_accepted program) (above program.world l.class) by parts.1 h)
    (all_made (is_class_accepted program) (above program.world by.class)
    (λ x k. all_at (is_class_accepted program) (above program.world l.class) x parts.1
    (above_is_transitive program.world l.class by x h k)))

-- where a class is: the class itself, or above it
pub record IsAt (program : Program) (l by : Loaded) : Type 0 where
  pub named : class_named program.world by.class.name ≡ Some by
  pub verified : IsTrue (is_verified program by)

module _ (program : Program) (l : Loaded) (l_named : class_named program.world l.class.name ≡ Some l)
    (l_verified : IsTrue (is_verified program l)) where
  pub at_above : (by : Loaded) → Contains (above program.world l.class) by → IsAt program l by
  at_above by h = record { named = above_is_named program.world l.class by h; verified = above_verified program l by l_verified h }

  pub at_upward : (by : Loaded) → Contains (upward program.world l) by → IsAt program l by
  at_upward by h = by_part (Contains-append_cases (l ∷ []) (superclasses program.world l.class) by h)
    where
      by_part : Contains (l ∷ []) by ⊎ Contains (superclasses program.world l.class) by → IsAt program l by
      by_part (inl k) = subst (λ (x : Loaded). IsAt program l x) (single l by k) (record { named = l_named; verified = l_verified })
      by_part (inr k) = at_above by (superclass_is_above above_by_ways above_is_transitive program.world l.class by k)

  -- an object of the class is one of each class upward
  pub is_one : (i : Instance) → i.class ≡ l.class.name → (by : Loaded) → Contains (upward program.world l) by
      → is_at_or_below program.world i.class by.class.name ≡ true
  is_one i e by h = by_part (Contains-append_cases (l ∷ []) (superclasses program.world l.class) by h)
    where
      found : class_named program.world i.class ≡ Some l
      found = ap (class_named program.world) e ∙ l_named

      by_part : Contains (l ∷ []) by ⊎ Contains (superclasses program.world l.class) by
          → is_at_or_below program.world i.class by.class.name ≡ true
      by_part (inl k) =
          or_left (bytes_eq i.class by.class.name) (is_below program.world (class_named program.world i.class) by.class.name)
          (subst (λ (n : List ℕ). bytes_eq i.class n ≡ true) (e ∙ ap (λ (x : Loaded). x.class.name) (single l by k))
          (nat_list_eq_equiv.refl i.class))
      by_part (inr k) =
          or_right (bytes_eq i.class by.class.name) (is_below program.world (class_named program.world i.class) by.class.name)
          (subst (λ (o : Option Loaded). is_below program.world o by.class.name ≡ true) (sym found)
          (any_made (λ (s : Loaded). bytes_eq s.class.name by.class.name) (above program.world l.class) by
          (superclass_is_above above_by_ways above_is_transitive program.world l.class by k) (nat_list_eq_equiv.refl by.class.name)))

  -- a method that runs from the class on can be entered
  pub run_enterable :
      (called ran : Declared) → ((d : Declared) → class_named program.world d.by.class.name ≡ Some d.by
      → method_named d.by.class d.method.name d.method.descriptor ≡ Some d.method → is_concrete d ≡ true
      → is_static_method d.method ≡ false → IsSome d.method.code)
      → IsRun program.world l called ran → IsEnterable program ran
  run_enterable called ran coded h = enterable (place h.place)
    where
      place : Contains (upward program.world l) ran.by ⊎ (IsTrue (is_interface ran.by) × Contains (above program.world l.class) ran.by)
          → IsAt program l ran.by
      place (inl k) = at_upward ran.by k
      place (inr k) = at_above ran.by k.1

      declared : method_named ran.by.class ran.method.name ran.method.descriptor ≡ Some ran.method
      declared =
          subst (λ (n : List ℕ). method_named ran.by.class n ran.method.descriptor ≡ Some ran.method) (sym h.name)
          (subst (λ (t : List ℕ). method_named ran.by.class called.method.name t ≡ Some ran.method) (sym h.descriptor) h.declared)

      no_static : (b : Bool) → not b ≡ true → b ≡ false
      no_static false k = refl
      no_static true k = absurd cc

      enterable : IsAt program l ran.by → IsEnterable program ran
      enterable at = record {
        here = at.named;
        declared = declared;
        verified = at.verified;
        code = coded ran at.named declared h.concrete
            (no_static (is_static_method ran.method) h.instance);
      }

  pub run_received : (i : Instance) → i.class ≡ l.class.name → (called ran : Declared) → IsRun program.world l called ran
      → can_receive program.world ran (InstanceOf i) ≡ true
  run_received i e called ran h = by_place h.place
    where
      by_place : Contains (upward program.world l) ran.by ⊎ (IsTrue (is_interface ran.by) × Contains (above program.world l.class) ran.by)
          → can_receive program.world ran (InstanceOf i) ≡ true
      by_place (inl k) = or_right (is_interface ran.by) (is_at_or_below program.world i.class ran.by.class.name) (is_one i e ran.by k)
      by_place (inr k) = or_left (is_interface ran.by) (is_at_or_below program.world i.class ran.by.class.name) k.0

-- what invokevirtual and invokeinterface select for an instance
pub record IsSelected (program : Program) (i : Instance) (s : MethodTarget) (called : Declared) : Type 0 where
  pub enterable : IsEnterable program s.declared
  pub received : can_receive program.world s.declared (InstanceOf i) ≡ true
  pub name : s.declared.method.name ≡ called.method.name
  pub descriptor : s.declared.method.descriptor ≡ called.method.descriptor
  pub instance : is_static_method s.declared.method ≡ false

pub selected_ok :
    (program : Program) (objects : List Object) (i : Instance) (h : IsTypedInstance program objects i) (site : Site) (how : Use)
    (t s : MethodTarget) → (how ≡ Invokevirtual) ⊎ (how ≡ Invokeinterface)
    → ((d : Declared) → class_named program.world d.by.class.name ≡ Some d.by
    → method_named d.by.class d.method.name d.method.descriptor ≡ Some d.method → is_concrete d ≡ true → is_static_method d.method ≡ false
    → IsSome d.method.code)
    → select program.world site how t (Some h.l) ≡ Ok s → IsSelected program i s t.declared
selected_ok program objects i h site how t s one coded e =
    let name : h.l.class.name ≡ i.class = has_name program.world i.class h.l h.named in
    let named : class_named program.world h.l.class.name ≡ Some h.l = ap (class_named program.world) name ∙ h.named in
    let run = (selected_is_run above_by_ways above_is_transitive program.world site how t s (Some h.l) h.l one refl e).1 in
    record {
      enterable = run_enterable program h.l named h.verified t.declared s.declared coded run;
      received = run_received program h.l named h.verified i (sym name) t.declared s.declared run;
      name = run.name;
      descriptor = run.descriptor;
      instance = no_static (is_static_method s.declared.method) run.instance;
    }
  where
    no_static : (b : Bool) → not b ≡ true → b ≡ false
    no_static false k = refl
    no_static true k = absurd cc
