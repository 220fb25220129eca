-- Methods that invokespecial runs, `<init>` aside: they can be entered, and the object can receive them.
use Rattle.std.proofs.Common.{◌≡◌, ◌⊎◌, inl, inr, Bool, true, false, ◌||◌, List, [], ◌∷◌, Option, Some, None, refl, sym, ap, subst, ◌∙◌}
use Rattle.std.specs.Prelude.{IsTrue, IsSome, unwrap_or, if◌then◌else◌}
use Rattle.std.specs.List.{Contains}
use Rattle.std.specs.Str.{bytes_eq}
use Rattle.std.specs.Cmp.Lexicographic.{nat_list_eq_equiv}
use Rattle.std.proofs.lemmas.Bool.{or_left}
use Rattle.jv_stackmap.specs.declared.verification.VerificationTypeOf.TheVariants as types
use Rattle.jv_class.specs.Class.{method_named}
use Rattle.jv_meaning_world.specs.World.{Loaded, class_named}
use Rattle.jv_meaning_world.specs.Above.{above, superclass_in, superclasses}
use Rattle.jv_meaning_world.specs.Overriding.{Declared}
use Rattle.jv_meaning_world.specs.Verdicts.{is_interface, is_loadable}
use Rattle.jv_meaning_world.specs.LookUps.{is_concrete}
use Rattle.jv_meaning_world.proofs.Up.{above_by_ways, above_is_transitive}
use Rattle.jv_meaning_typing.specs.Kind.{is_static_method}
use Rattle.jv_meaning_typing.specs.LinkingLaws.{IsRun}
use Rattle.jv_meaning_typing.specs.Selection.{upward, begins_above, special_start}
use Rattle.jv_meaning_typing.proofs.Searched.{superclass_is_super, superclass_is_above}
use Rattle.jv_meaning_world.proofs.OrderChains.{any_made, superclasses_are_named}
use Rattle.jv_meaning_world.proofs.OrderNames.{IsSuperclassOf, flow_cases, same_some}
use Rattle.jv_meaning_world.proofs.Order.{below_is_reflexive, below_is_transitive}
use Rattle.jv_meaning_world.proofs.OrderAbove.{above_is_below}
use Rattle.jv_meaning_world.specs.Flow.{class_flows}
use Rattle.jv_meaning_world.specs.Laws.Order.{IsBelow, IsRooted, names_interface}
use Rattle.jv_meaning_machine.specs.Objects.{Object, is_instance_of}
use Rattle.jv_meaning_machine.specs.Calls.{can_receive}
use Rattle.jv_meaning_machine.specs.State.{Program}
use Rattle.jv_meaning_machine.specs.Initialization.{is_verified}
use Rattle.jv_meaning_typing.specs.Named.{class_components}
use Rattle.jv_sound.specs.Values.{object_type}
use Rattle.jv_sound.specs.Memory.{IsTypedObject}
use Rattle.jv_sound.specs.Sound.{IsEnterable}
use Rattle.jv_sound.proofs.Members.{below_is_one}
use Rattle.jv_sound.proofs.Receiving.{IsAt, at_above, at_upward, run_enterable}

module _ (program : Program) (rooted : IsRooted program.world) (current : Loaded)
    (current_named : class_named program.world current.class.name ≡ Some current)
    (current_verified : IsTrue (is_verified program current)) (current_loadable : IsTrue (is_loadable program.world current)) where
  direct_is_above : (s : Loaded) → superclass_in program.world current.class ≡ Some s → Contains (above program.world current.class) s
  direct_is_above s e = (above_by_ways program.world current.class s).1 ([], superclass_is_super program.world current.class s e)

  pub start_ok :
      (named : Loaded) → class_named program.world named.class.name ≡ Some named
      → IsTrue (class_flows program.world current.class.name named.class.name)
      -- an interface is the current class or a direct superinterface
      → (IsTrue (names_interface program.world named.class.name) → (current ≡ named) ⊎ Contains (above program.world current.class) named)
      → (current ≡ special_start program.world current named) ⊎ Contains (above program.world current.class)
      (special_start program.world current named)
  start_ok named there flow near = by_begin (begins_above program.world current named)
    where
      at_named : (current ≡ named) ⊎ Contains (above program.world current.class) named
      at_named = by_flow (flow_cases program.world current.class.name named.class.name flow)
        where
          by_flow : (current.class.name ≡ named.class.name) ⊎ (IsTrue
              (names_interface program.world named.class.name) ⊎ IsSuperclassOf program.world current.class.name named.class.name)
              → (current ≡ named) ⊎ Contains (above program.world current.class) named
          by_flow (inl e) = inl (same_some current named (sym current_named ∙ ap (class_named program.world) e ∙ there))
          by_flow (inr (inl i)) = near i
          by_flow (inr (inr s)) =
              let same_from : s.from ≡ current = same_some s.from current (sym s.found ∙ current_named) in
              let chain : Contains (superclasses program.world current.class) s.to = subst
              (λ (x : Loaded). Contains (superclasses program.world x.class) s.to) same_from s.on_chain in
              let same_to : s.to ≡ named = same_some s.to named (sym (superclasses_are_named program.world current.class s.to chain) ∙ ap
              (class_named program.world) s.named ∙ there) in
              inr (superclass_is_above above_by_ways above_is_transitive program.world current.class named
              (subst (λ (x : Loaded). Contains (superclasses program.world current.class) x) same_to chain))

      by_super : (o : Option Loaded) → superclass_in program.world current.class ≡ o
          → (current ≡ unwrap_or o named) ⊎ Contains (above program.world current.class) (unwrap_or o named)
      by_super None e = at_named
      by_super (Some s) e = inr (direct_is_above s e)

      by_begin : (b : Bool) → (current ≡ (if b then unwrap_or (superclass_in program.world current.class) named else named)) ⊎ Contains
          (above program.world current.class) (if b then unwrap_or (superclass_in program.world current.class) named else named)
      by_begin true = by_super (superclass_in program.world current.class) refl
      by_begin false = at_named

  -- what runs from there
  module _ (start : Loaded) (at : (current ≡ start) ⊎ Contains (above program.world current.class) start) where
    start_at : IsAt program current start
    start_at = by_place at
      where
        by_place : (current ≡ start) ⊎ Contains (above program.world current.class) start → IsAt program current start
        by_place (inl e) = subst (λ (x : Loaded). IsAt program current x) e (record { named = current_named; verified = current_verified })
        by_place (inr h) = at_above program current current_named current_verified start h

    pub special_enterable :
        (called ran : Declared) → ((d : Declared) → class_named program.world d.by.class.name ≡ Some d.by
        → method_named d.by.class d.method.name d.method.descriptor ≡ Some d.method → is_concrete d ≡ true
        → is_static_method d.method ≡ false → IsSome d.method.code)
        → IsRun program.world start called ran → IsEnterable program ran
    special_enterable called ran coded run = run_enterable program start start_at.named start_at.verified called ran coded run

    -- a class upward from there is one that the current class is below
    current_below : (by : Loaded) → Contains (upward program.world start) by
        → IsBelow program.world (types.Class current.class.name) (types.Class by.class.name)
    current_below by h = by_start at (by_upward (Rattle.std.proofs.lemmas.List.Elements.Contains-append_cases (start ∷ [])
        (superclasses program.world start.class) by h))
      where
        below_above : (x : Loaded) → Contains (above program.world current.class) x
            → IsBelow program.world (types.Class current.class.name) (types.Class x.class.name)
        below_above x k =
            above_is_below program.world rooted current.class.name x.class.name current current_named current_loadable
            (any_made (λ (s : Loaded). bytes_eq s.class.name x.class.name) (above program.world current.class) x k
            (nat_list_eq_equiv.refl x.class.name))

        by_upward : Contains (start ∷ []) by ⊎ Contains (superclasses program.world start.class) by
            → (start ≡ by) ⊎ Contains (above program.world start.class) by
        by_upward (inl k) = inl (Rattle.jv_meaning_world.proofs.Up.single start by k)
        by_upward (inr k) = inr (superclass_is_above above_by_ways above_is_transitive program.world start.class by k)

        by_start : (current ≡ start) ⊎ Contains (above program.world current.class) start
            → (start ≡ by) ⊎ Contains (above program.world start.class) by
            → IsBelow program.world (types.Class current.class.name) (types.Class by.class.name)
        by_start (inl e) (inl k) = subst (λ (x : Loaded). IsBelow program.world (types.Class current.class.name) (types.Class x.class.name))
            (e ∙ k) (below_is_reflexive program.world (types.Class current.class.name))
        by_start (inl e) (inr k) = below_above by (subst (λ (x : Loaded). Contains (above program.world x.class) by) (sym e) k)
        by_start (inr h) (inl k) = below_above by (subst (λ (x : Loaded). Contains (above program.world current.class) x) k h)
        by_start (inr h) (inr k) = below_above by (above_is_transitive program.world current.class start by h k)

    -- so an object of the current class can receive what runs
    pub special_received :
        (objects : List Object) (o : Object) → IsTypedObject program objects o
        → IsBelow program.world (object_type o) (types.Class current.class.name) → (called ran : Declared)
        → IsRun program.world start called ran
        → can_receive program.world ran o ≡ true
    special_received objects o typed b called ran run = by_place run.place
      where
        by_kind : (k : Bool) → is_interface ran.by ≡ k → Contains (upward program.world start) ran.by
            → (k || is_instance_of program.world o (class_components ran.by.class.name)) ≡ true
        by_kind true e h = refl
        by_kind false e h =
            below_is_one program rooted objects o ran.by typed (at_upward program start start_at.named start_at.verified ran.by h).named e
            (below_is_transitive program.world rooted (object_type o) (types.Class current.class.name) (types.Class ran.by.class.name) b
            (current_below ran.by h))

        by_place : Contains (upward program.world start) ran.by ⊎ (IsTrue (is_interface ran.by)
            × Contains (above program.world start.class) ran.by) → can_receive program.world ran o ≡ true
        by_place (inl h) = by_kind (is_interface ran.by) refl h
        by_place (inr h) = or_left (is_interface ran.by) (is_instance_of program.world o (class_components ran.by.class.name)) h.0
