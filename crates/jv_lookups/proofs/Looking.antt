-- Looking at the methods of a class one by one, as members, and at classes by their numbers.
use Rattle.std.proofs.Common.{◌≡◌, ℕ, ◌+◌, ◌<◌, ◌≤◌, Bool, true, false, ◌||◌, ◌&&◌, List, [], ◌∷◌, ◌++◌, length, take, get_or, Option, Some, None, refl, sym, ap, ◌∙◌, subst}
use Rattle.std.specs.Prelude.{slice_get, not}
use Rattle.std.specs.List.{cons_option, list_any}
use Rattle.std.specs.Option.{IsSomeAnd}
use Rattle.std.proofs.lemmas.List.{take_more, take_all}
use Rattle.std.proofs.lemmas.List.Elements.{filter_map-append}
use Rattle.std.proofs.lemmas.List.Folds.{list_any-append}
use Rattle.std.proofs.lemmas.Option.{slice_get_read, get_or_from_slice_get, slice_get_within}
use Rattle.jv_text.specs.Name.{is_init}
use Rattle.jv_class_structure.specs.Flags.{has, acc_private, acc_static, acc_final}
use Rattle.jv_class.specs.Class.{Method, EachIsNamed}
use Rattle.jv_classes.specs.declared.member.Member.{Member}
use Rattle.jv_classes.specs.Members.{IsMethod}
use Rattle.jv_meaning_world.specs.World.{Loaded}
use Rattle.jv_meaning_world.specs.Overriding.{is_instance, alike_in}
use Rattle.jv_meaning_world.specs.Verdicts.{passes, is_final_instance}
use Rattle.jv_meaning_world.specs.Numbers.{classes_at, AreNumbers}
use Rattle.jv_lookups.specs.Inside.Fronts.{AreNamed}
use Rattle.jv_lookups.specs.Inside.Overridden.{can_override, with_overridden, overrides_final, overrides_final_above, breaks_final_by}
use Rattle.jv_lookups.specs.Inside.Steps.{as_method}
use Rattle.jv_lookups.proofs.Passing.{item_passes}
use Rattle.jv_lookups.proofs.Upward.{alike_same}

-- ---- what a member shows

pub instance_same : (member : Member) (m : Method) → IsMethod member m → is_instance (as_method member) ≡ is_instance m
instance_same member m h = ap (λ f. not (has f acc_static) && not (is_init member.name.now)) h.access_flags ∙ ap (λ n. not (has m.access_flags acc_static) && not (is_init n)) h.name

pub final_same : (member : Member) (m : Method) → IsMethod member m → is_final_instance m ≡ is_final_instance (as_method member)
final_same member m h = sym (ap (λ f. has f acc_final && is_instance (as_method member)) h.access_flags ∙ ap (λ b. has m.access_flags acc_final && b) (instance_same member m h))

above_same : (m n : Method) → m.name ≡ n.name → m.descriptor ≡ n.descriptor → (found chain : List Loaded) → overrides_final_above m found chain ≡ overrides_final_above n found chain
above_same m n same also found [] = refl
above_same m n same also found (s ∷ chain) =
    ap (λ o. overrides_final found o || overrides_final_above m (with_overridden found o) chain) (alike_same s m n same also)
    ∙ ap (λ b. overrides_final found (alike_in s n) || b) (above_same m n same also (with_overridden found (alike_in s n)) chain)

pub breaks_same : (l : Loaded) (chain : List Loaded) (member : Member) (m : Method) → IsMethod member m → breaks_final_by l chain m ≡ breaks_final_by l chain (as_method member)
breaks_same l chain member m h =
    sym (ap (λ f. (is_instance (as_method member) && not (has f acc_private)) && overrides_final_above (as_method member) (l ∷ []) chain) h.access_flags
    ∙ (ap (λ b. (b && not (has m.access_flags acc_private)) && overrides_final_above (as_method member) (l ∷ []) chain) (instance_same member m h)
    ∙ ap (λ b. can_override m && b) (above_same (as_method member) m h.name h.descriptor (l ∷ []) chain)))

-- ---- one method after another

module _ (test : Method → Bool) (methods : List Method) (place : ℕ) (member : Member) (same : (m : Method) → IsMethod member m → test m ≡
    test (as_method member)) (there : IsSomeAnd (slice_get methods place) (IsMethod member)) where
  the_method : (m : Method) × (slice_get methods place ≡ Some m) × IsMethod member m
  the_method = of_option (slice_get methods place) refl there
    where
      of_option : (o : Option Method) → slice_get methods place ≡ o → IsSomeAnd o (IsMethod member) → (m : Method) × (slice_get methods place ≡ Some m) × IsMethod member m
      of_option None e h = absurd h
      of_option (Some m) e h = (m, e, h)

  pub one_passes : test (as_method member) ≡ true → true ≡ list_any test methods
  one_passes h = let m = the_method in sym (item_passes test methods place m.0 m.1 (same m.0 m.2 ∙ h))

  pub one_more_fails : list_any test (take place methods) ≡ false → test (as_method member) ≡ false → list_any test (take (place + 1) methods) ≡ false
  one_more_fails before h =
      let m = the_method in
      ap (list_any test) (take_more methods place m.0 (slice_get_within methods place m.0 m.1))
      ∙ (list_any-append test (take place methods) (get_or methods place m.0 ∷ [])
      ∙ (ap (λ b. b || (test (get_or methods place m.0) || false)) before
      ∙ (ap (λ n. test n || false) (get_or_from_slice_get methods place m.0 m.0 m.1) ∙ ap (λ b. b || false) (same m.0 m.2 ∙ h))))

-- ---- of a class by its number

pub if_passes : (b : Bool) (test : Loaded → Bool) (o : Option Loaded) → (b && passes test o) ≡ passes (λ l. b && test l) o
if_passes true test None = refl
if_passes false test None = refl
if_passes b test (Some l) = refl

pub passes_there : (test : Loaded → Bool) (classes : List Loaded) (of : ℕ) (l : Loaded) → of < length classes → l ≡ get_or classes of l → passes test (slice_get classes of) ≡ test l
passes_there test classes of l h e = ap (passes test) (slice_get_read classes (length classes) of l refl h e)

named-append : (xs ys : List Loaded) → AreNamed xs → AreNamed ys → AreNamed (xs ++ ys)
named-append [] ys h k = k
named-append (x ∷ xs) ys h k = (h.0, named-append xs ys h.1 k)

pub named_more : (classes : List Loaded) (chain : List ℕ) (i : ℕ) (s : Loaded) → AreNumbers classes chain → i < length chain → s ≡ get_or classes (get_or chain i 0) s
    → AreNamed (classes_at classes (take i chain)) → EachIsNamed s.class → AreNamed (classes_at classes (take (i + 1) chain))
named_more classes chain i s numbers h e named one =
    subst AreNamed (sym (ap (classes_at classes) (take_more chain i 0 h) ∙ filter_map-append (slice_get classes) (take i chain) (get_or chain i 0 ∷ [])))
    (named-append (classes_at classes (take i chain)) (classes_at classes (get_or chain i 0 ∷ [])) named
    (subst (λ o. AreNamed (cons_option o [])) (sym (slice_get_read classes (length classes) (get_or chain i 0) s refl (numbers i 0 h) e)) (one, tt)))

-- ---- the methods of the class with a number

module _ (classes : List Loaded) (of : ℕ) (l : Loaded) (others : List Loaded) (here : of < length classes) (is : l ≡ get_or classes of l) where
  by_its : (test : Loaded → Bool) → passes test (slice_get classes of) ≡ test l
  by_its test = passes_there test classes of l here is

  pub some_breaks : (place : ℕ) (member : Member) → IsSomeAnd (slice_get l.class.methods place) (IsMethod member) → true ≡
      passes (λ k. breaks_final_by k others (as_method member)) (slice_get classes of)
      → true ≡ passes (λ k. list_any (breaks_final_by k others) k.class.methods) (slice_get classes of)
  some_breaks place member there h =
      one_passes (breaks_final_by l others) l.class.methods place member (breaks_same l others member) there (sym (h ∙ by_its (λ k. breaks_final_by k others (as_method member))))
      ∙ sym (by_its (λ k. list_any (breaks_final_by k others) k.class.methods))

  pub none_breaks : (place : ℕ) (member : Member) → IsSomeAnd (slice_get l.class.methods place) (IsMethod member) → false ≡
      passes (λ k. breaks_final_by k others (as_method member)) (slice_get classes of)
      → list_any (breaks_final_by l others) (take place l.class.methods) ≡ false → list_any (breaks_final_by l others) (take (place + 1) l.class.methods) ≡ false
  none_breaks place member there h before =
      one_more_fails (breaks_final_by l others) l.class.methods place member (breaks_same l others member) there before (sym (h ∙ by_its (λ k. breaks_final_by k others (as_method member))))

  pub none_breaks_of_all : (place : ℕ) → length l.class.methods ≤ place → list_any (breaks_final_by l others) (take place l.class.methods) ≡ false →
      false ≡ passes (λ k. list_any (breaks_final_by k others) k.class.methods) (slice_get classes of)
  none_breaks_of_all place past none =
      sym none ∙ (ap (list_any (breaks_final_by l others)) (take_all place l.class.methods past) ∙ sym (by_its (λ k. list_any (breaks_final_by k others) k.class.methods)))
