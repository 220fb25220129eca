-- Superclasses behind the last one that declares a final instance method change nothing.
use Rattle.std.proofs.Common.{◌≡◌, ℕ, suc, ◌<◌, Bool, true, false, ◌||◌, ◌&&◌, List, [], ◌∷◌, ◌++◌, length, take, drop, map, get_or, nat_eq, Option, Some, None, refl, sym, ap, ◌∙◌, subst, arith}
use Rattle.std.specs.Prelude.{slice_get, not}
use Rattle.std.specs.List.{All, cons_option, list_any, list_all}
use Rattle.std.specs.Str.{bytes_eq}
use Rattle.std.proofs.lemmas.Bool.{and_parts, eqb-true}
use Rattle.std.proofs.lemmas.List.{get_or-map, take-append-drop}
use Rattle.std.proofs.lemmas.List.Elements.{All-drop, All-take, filter_map-append}
use Rattle.std.proofs.lemmas.List.Folds.{list_all-append}
use Rattle.std.proofs.lemmas.Option.{get_or_from_slice_get}
use Rattle.jv_class.specs.Class.{EachIsNamed}
use Rattle.jv_meaning_world.specs.World.{Loaded}
use Rattle.jv_meaning_world.specs.Verdicts.{passes, is_final_instance, breaks_final_of, breaks_final, overrides_in, declared_by}
use Rattle.jv_meaning_world.specs.Numbers.{classes_at, AreNumbers}
use Rattle.jv_lookups.specs.Finals.{declares_final, have_other_names, AreUnlike, breaks_final_at}
use Rattle.jv_lookups.specs.Inside.Fronts.{AreNamed, IsUpToMarked}
use Rattle.jv_lookups.specs.Inside.Overridden.{breaks_final_by}
use Rattle.jv_lookups.proofs.Passing.{some_at}
use Rattle.jv_lookups.proofs.Upward.{breaks_final_same}

-- ---- classes without final methods

none_of_both : {X : Type 0} (p q : X → Bool) (xs : List X) → list_any p xs ≡ false → list_any (λ x. p x && q x) xs ≡ false
none_of_both p q [] h = refl
none_of_both p q (x ∷ xs) h = by_first (p x) h (λ k. none_of_both p q xs k)
  where
    by_first : (b : Bool) → (b || list_any p xs) ≡ false → (list_any p xs ≡ false → list_any (λ y. p y && q y) xs ≡ false) → ((b && q x) || list_any (λ y. p y && q y) xs) ≡ false
    by_first true h again = absurd cc
    by_first false h again = again h

abbrev declare_none : List Loaded → Bool
declare_none classes = list_all (λ s. not (declares_final s)) classes

is_not : (b : Bool) → not b ≡ true → b ≡ false
is_not true h = absurd cc
is_not false h = refl

breaks_none : (l : Loaded) (passed behind : List Loaded) → declare_none behind ≡ true → breaks_final l passed behind ≡ false
breaks_none l passed [] none = refl
breaks_none l passed (s ∷ behind) none =
    let parts = and_parts (not (declares_final s)) (declare_none behind) none in
    ap (λ b. b || breaks_final l (s ∷ passed) behind) (none_of_both is_final_instance (λ m. overrides_in l passed (declared_by s m)) s.class.methods (is_not (declares_final s) parts.0))
    ∙ breaks_none l (s ∷ passed) behind parts.1

breaks_front : (l : Loaded) (passed front behind : List Loaded) → declare_none behind ≡ true → breaks_final l passed (front ++ behind) ≡ breaks_final l passed front
breaks_front l passed [] behind none = breaks_none l passed behind none
breaks_front l passed (s ∷ front) behind none = ap (λ b. breaks_final_of l passed s || b) (breaks_front l (s ∷ passed) front behind none)

-- ---- the same by numbers

no_items : (xs : List ℕ) → length xs ≡ 0 → xs ≡ []
no_items [] e = refl
no_items (x ∷ xs) e = absurd (omega (arith, e))

none_declared : (classes : List Loaded) (finals : List Bool) (behind : List ℕ) → finals ≡ map declares_final classes → AreNumbers classes behind →
    All (λ number. get_or finals number false ≡ false) behind
    → declare_none (classes_at classes behind) ≡ true
none_declared classes finals [] e numbers none = refl
none_declared classes finals (n ∷ behind) e numbers none =
    one_first (some_at classes n (numbers 0 0 (omega arith)))
    (none_declared classes finals behind e (λ k d less. numbers (suc k) d (omega (arith, less))) (λ k d less. none (suc k) d (omega (arith, less))))
  where
    one_first : (s : Loaded) × (slice_get classes n ≡ Some s) → declare_none (classes_at classes behind) ≡ true → declare_none (cons_option (slice_get classes n) (classes_at classes behind)) ≡ true
    one_first found rest =
        let s = found.0 in
        let here : n < length classes = numbers 0 0 (omega arith) in
        let unsaid : declares_final s ≡ false =
        sym (ap declares_final (get_or_from_slice_get classes n s s found.1))
        ∙ (sym (get_or-map declares_final classes n s false here) ∙ (ap (λ fs. get_or fs n false) (sym e) ∙ none 0 0 (omega arith)))
        in
        ap (λ o. declare_none (cons_option o (classes_at classes behind))) found.1 ∙ (ap (λ b. not b && declare_none (classes_at classes behind)) unsaid ∙ rest)

module _ (classes : List Loaded) (finals : List Bool) (of : ℕ) (chain front : List ℕ) (numbers : AreNumbers classes chain)
    (are : finals ≡ map declares_final classes) (upto : IsUpToMarked finals chain front) where
  front_and_rest : classes_at classes chain ≡ classes_at classes front ++ classes_at classes (drop upto.many chain)
  front_and_rest =
      ap (classes_at classes) (sym (take-append-drop upto.many chain))
      ∙ (filter_map-append (slice_get classes) (take upto.many chain) (drop upto.many chain) ∙ ap (λ f. classes_at classes f ++ classes_at classes (drop upto.many chain)) (sym upto.is))

  of_front : (l : Loaded) → breaks_final l [] (classes_at classes chain) ≡ breaks_final l [] (classes_at classes front)
  of_front l =
      ap (breaks_final l []) front_and_rest
      ∙ breaks_front l [] (classes_at classes front) (classes_at classes (drop upto.many chain))
      (none_declared classes finals (drop upto.many chain) are (All-drop (λ number. number < length classes) upto.many chain numbers) upto.none_behind)

  -- the front is of classes
  pub front_numbers : AreNumbers classes front
  front_numbers = subst (AreNumbers classes) (sym upto.is) (All-take (λ number. number < length classes) upto.many chain numbers)

  -- there is none where the front is empty
  pub none_in_front : true ≡ nat_eq (length front) 0 → false ≡ breaks_final_at classes of chain
  none_in_front h = by_class (slice_get classes of)
    where
      by_class : (o : Option Loaded) → false ≡ passes (λ l. breaks_final l [] (classes_at classes chain)) o
      by_class None = refl
      by_class (Some l) = sym (of_front l ∙ ap (λ f. breaks_final l [] (classes_at classes f)) (no_items front (eqb-true (length front) 0 (sym h))))

  -- the front's names are other ones too
  front_others : (l : Loaded) → slice_get classes of ≡ Some l → AreUnlike classes of chain → have_other_names l (classes_at classes front) ≡ true
  front_others l at unlike =
      (and_parts (have_other_names l (classes_at classes front)) (have_other_names l (classes_at classes (drop upto.many chain)))
      (sym (list_all-append (λ s. not (bytes_eq s.class.name l.class.name)) (classes_at classes front) (classes_at classes (drop upto.many chain)))
      ∙ (sym (ap (have_other_names l) front_and_rest) ∙ (sym (ap (passes (λ k. have_other_names k (classes_at classes chain))) at) ∙ unlike)))).0

  -- else the methods of the class say it
  pub front_says : (l : Loaded) (b : Bool) → slice_get classes of ≡ Some l → AreUnlike classes of chain → EachIsNamed l.class → AreNamed (classes_at classes front)
      → b ≡ passes (λ k. list_any (breaks_final_by k (classes_at classes front)) k.class.methods) (slice_get classes of) → b ≡ breaks_final_at classes of chain
  front_says l b at unlike own named h =
      h ∙ (ap (passes (λ k. list_any (breaks_final_by k (classes_at classes front)) k.class.methods)) at
      ∙ (sym (of_front l ∙ breaks_final_same l (classes_at classes front) own named (front_others l at unlike)) ∙ sym (ap (passes (λ k. breaks_final k [] (classes_at classes chain))) at)))
