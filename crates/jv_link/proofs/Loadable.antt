-- A loadable class has no error, and that of another is told by its supers.
use Rattle.std.proofs.Common.{◌≡◌, ℕ, zero, suc, Bool, true, false, not, ◌&&◌, ◌||◌, List, [], ◌∷◌, length, Option, Some, None, refl, sym, ap, ◌∙◌, subst}
use Rattle.std.specs.Prelude.{IsTrue, slice_get, if◌then◌else◌}
use Rattle.std.specs.List.{list_all}
use Rattle.std.specs.Option.{option_and_then}
use Rattle.std.proofs.lemmas.Bool.{and_parts, and_from}
use Rattle.jv_meaning_world.specs.World.{Loaded, World, class_named}
use Rattle.jv_meaning_world.specs.Above.{super_names, is_circular, superclasses}
use Rattle.jv_meaning_world.specs.declared.verdict.LoadVerdict.{LoadVerdict}
use Rattle.jv_meaning_world.specs.declared.verdict.LoadVerdict.TheVariants.{Circular, NoSuper, WrongKind, NoAccess}
use Rattle.jv_meaning_world.specs.Verdicts.{passes, each_super, have_right_kind, can_name_supers, is_loadable_within, is_loadable, has_final_super, breaks_final, verdict_of_class}
use Rattle.jv_classes.specs.Faults.{fault_of_supers}
use Rattle.jv_meaning_typing.specs.LinkErrors.{LinkError}
use Rattle.jv_meaning_typing.specs.ClassResolution.{loading_error, error_of_class}
use Rattle.jv_meaning_typing.proofs.Loading.{verdict_by, right}

-- ---- by the four tests and that of finals

abbrev fault_by : Bool → Bool → Bool → Bool → Option LoadVerdict
fault_by circular supers kind names =
    if circular then Some Circular else if not supers then Some NoSuper else if not kind then Some WrongKind else if not names then Some NoAccess
    else None

without_finals : (circular supers kind names final : Bool) → option_and_then loading_error (fault_by circular supers kind names) ≡
    option_and_then loading_error (verdict_by circular supers kind names final)
without_finals true supers kind names final = refl
without_finals false false kind names final = refl
without_finals false true false names final = refl
without_finals false true true false final = refl
without_finals false true true true true = refl
without_finals false true true true false = refl

-- ---- more steps tell no less

module _ (world : World) where
  passes_more : (p q : Loaded → Bool) → ((s : Loaded) → IsTrue (p s) → IsTrue (q s)) → (o : Option Loaded) → IsTrue (passes p o) → IsTrue (passes q o)
  passes_more p q more None h = absurd cc
  passes_more p q more (Some s) h = more s h

  all_more : (p q : Loaded → Bool) → ((s : Loaded) → IsTrue (p s) → IsTrue (q s)) → (names : List (List ℕ)) →
      IsTrue (list_all (λ n. passes p (class_named world n)) names) → IsTrue (list_all (λ n. passes q (class_named world n)) names)
  all_more p q more [] h = refl
  all_more p q more (n ∷ names) h =
      let parts = and_parts (passes p (class_named world n)) (list_all (λ m. passes p (class_named world m)) names) h in
      and_from (passes q (class_named world n)) (list_all (λ m. passes q (class_named world m)) names) (passes_more p q more (class_named world n) parts.0) (all_more p q more names parts.1)

  abbrev stands_on : (Loaded → Bool) → Loaded → Bool
  stands_on test l = not (is_circular world l.class) && each_super world test l.class && have_right_kind world l.class && can_name_supers world l

  stands_more : (p q : Loaded → Bool) → ((s : Loaded) → IsTrue (p s) → IsTrue (q s)) → (l : Loaded) → IsTrue (stands_on p l) → IsTrue (stands_on q l)
  stands_more p q more l h =
      let d = and_parts (not (is_circular world l.class) && each_super world p l.class && have_right_kind world l.class) (can_name_supers world l) h in
      let c = and_parts (not (is_circular world l.class) && each_super world p l.class) (have_right_kind world l.class) d.0 in
      let b = and_parts (not (is_circular world l.class)) (each_super world p l.class) c.0 in
      and_from (not (is_circular world l.class) && each_super world q l.class && have_right_kind world l.class) (can_name_supers world l)
      (and_from (not (is_circular world l.class) && each_super world q l.class) (have_right_kind world l.class)
      (and_from (not (is_circular world l.class)) (each_super world q l.class) b.0 (all_more p q more (super_names l.class) b.1)) c.1) d.1

  either : (a b c : Bool) → (IsTrue b → IsTrue c) → IsTrue (a || b) → IsTrue (a || c)
  either true b c f h = refl
  either false b c f h = f h

  one_more : (k : ℕ) (l : Loaded) → IsTrue (is_loadable_within world k l) → IsTrue (is_loadable_within world (suc k) l)
  one_more zero l h = ap (λ b. b || stands_on (is_loadable_within world zero) l) h
  one_more (suc k) l h =
      either l.by_system (stands_on (is_loadable_within world k) l) (stands_on (is_loadable_within world (suc k)) l)
      (stands_more (is_loadable_within world k) (is_loadable_within world (suc k)) (λ s t. one_more k s t) l) h

  -- ---- errors

  in_world : (k : ℕ) (l : Loaded) → slice_get world k ≡ Some l → (n : ℕ) × (length world ≡ suc n)
  in_world k l at = by_world world at
    where
      empty : (j : ℕ) → slice_get [] j ≡ Some l → ⊥
      empty zero e = absurd cc
      empty (suc j) e = absurd cc

      by_world : (w : World) → slice_get w k ≡ Some l → (n : ℕ) × (length w ≡ suc n)
      by_world [] e = absurd (empty k e)
      by_world (x ∷ w) e = (length w, refl)

  abbrev by_verdict : Loaded → Bool → Option LinkError
  by_verdict l system = if system then None else option_and_then loading_error (verdict_of_class world l)

  pub loadable_is_right : (k : ℕ) (l : Loaded) → slice_get world k ≡ Some l → is_loadable world l ≡ true → None ≡ error_of_class world l
  loadable_is_right k l at h = by_loader l.by_system refl
    where
      size : (n : ℕ) × (length world ≡ suc n)
      size = in_world k l at

      stands : l.by_system ≡ false → IsTrue (stands_on (is_loadable world) l)
      stands e =
          let tested = ap (λ b. b || stands_on (is_loadable_within world size.0) l) (sym e) ∙ (sym (ap (λ n. is_loadable_within world n l) size.1) ∙ h) in
          stands_more (is_loadable_within world size.0) (is_loadable world) (λ s t. subst (λ n. IsTrue (is_loadable_within world n s)) (sym size.1) (one_more size.0 s t)) l tested

      by_loader : (b : Bool) → l.by_system ≡ b → None ≡ error_of_class world l
      by_loader true e = ap (by_verdict l) (sym e)
      by_loader false e =
          sym (right (is_circular world l.class) (each_super world (is_loadable world) l.class) (have_right_kind world l.class)
          (can_name_supers world l) (has_final_super world l.class || breaks_final l [] (superclasses world l.class)) (stands e))
          ∙ ap (by_verdict l) (sym e)

  system_is_loadable : (k : ℕ) (l : Loaded) → l.by_system ≡ true → is_loadable_within world k l ≡ true
  system_is_loadable zero l e = e
  system_is_loadable (suc k) l e = ap (λ b. b || stands_on (is_loadable_within world k) l) e

  pub error_by_supers : (l : Loaded) → is_loadable world l ≡ false → option_and_then loading_error (fault_of_supers world l) ≡ error_of_class world l
  error_by_supers l h = by_loader l.by_system refl
    where
      clash : (b : Bool) → b ≡ true → b ≡ false → ⊥
      clash true e f = absurd cc
      clash false e f = absurd cc

      by_loader : (b : Bool) → l.by_system ≡ b → option_and_then loading_error (fault_of_supers world l) ≡ error_of_class world l
      by_loader true e = absurd (clash (is_loadable world l) (system_is_loadable (length world) l e) h)
      by_loader false e =
          without_finals (is_circular world l.class) (each_super world (is_loadable world) l.class) (have_right_kind world l.class)
          (can_name_supers world l) (has_final_super world l.class || breaks_final l [] (superclasses world l.class))
          ∙ ap (by_verdict l) (sym e)
