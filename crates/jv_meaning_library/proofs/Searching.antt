-- A search from a known class meets the same classes in two worlds that agree, and finds the same members (JVMS 5.4.3.2 to 5.4.3.4).
use Rattle.std.proofs.Common.{◌≡◌, ℕ, zero, suc, ◌+◌, ◌≤◌, ◌<◌, Bool, true, false, ◌&&◌, ◌||◌, not, List, [], ◌∷◌, ◌++◌, length, Option, Some, None, refl, sym, ap, ◌∙◌, subst, inl, inr, arith}
use Rattle.std.specs.Prelude.{◌⊎◌, IsTrue, filter, if◌then◌else◌}
use Rattle.std.specs.List.{Contains, filter_map, fold, list_all, list_any}
use Rattle.std.specs.Option.{option_map}
use Rattle.std.specs.Str.{bytes_eq}
use Rattle.std.specs.Cmp.Lexicographic.{nat_list_eq_equiv}
use Rattle.std.proofs.lemmas.Bool.{and_parts, and_from, cases_lt, or_left, or_right}
use Rattle.std.proofs.lemmas.List.Folds.{list_all-append, list_any-append}
use Rattle.jv_class.specs.Class.{Class, Method, field_named, method_named}
use Rattle.jv_meaning_world.specs.World.{Loaded, World, class_named}
use Rattle.jv_meaning_world.specs.Above.{superclass_names, superclass_in, superclasses}
use Rattle.jv_meaning_world.specs.Overriding.{Declared}
use Rattle.jv_meaning_world.specs.Verdicts.{is_interface, is_loadable, declared_by}
use Rattle.jv_meaning_world.specs.LookUps.{is_among, next_in, searched_within, searched_from, first_found, else_option, field_by, lookup_field, method_in, without_itself, superinterfaces, is_inheritable, candidates, is_below, maximally_specific, is_concrete, only, itself, superinterface_method, lookup_class_method, method_if, is_public_instance, method_if_loaded, lookup_interface_method, lookup_method}
use Rattle.jv_meaning_world.specs.Laws.Order.{object_name}
use Rattle.jv_meaning_world.proofs.Up.{none, first, later, named_stands}
use Rattle.jv_meaning_world.proofs.OrderChains.{all_at}
use Rattle.jv_meaning_typing.proofs.Found.{split, in_filter, in_found}
use Rattle.jv_meaning_typing.proofs.Searched.{AllOf, of_searched}
use Rattle.jv_meaning_library.proofs.Worlds.{Agree, IsKnown, known_by, known_too, own_supers, listed_same, super_known, is_above_same}
use Rattle.jv_meaning_library.proofs.Loading.{chain_same}

-- ---- what a search has begun stays begun

module _ (world : World) where
  fold_keeps : (step : List Loaded → Loaded → List Loaded)
      → ((begun : List Loaded) (l x : Loaded) → is_among begun x ≡ true → is_among (step begun l) x ≡ true)
      → (ls begun : List Loaded) (x : Loaded) → is_among begun x ≡ true → is_among (fold step begun ls) x ≡ true
  fold_keeps step keeps [] begun x h = h
  fold_keeps step keeps (l ∷ ls) begun x h = fold_keeps step keeps ls (step begun l) x (keeps begun l x h)

  joined_keeps : (begun more : List Loaded) (x : Loaded) → is_among begun x ≡ true → is_among (begun ++ more) x ≡ true
  joined_keeps begun more x h =
      list_any-append (λ b. bytes_eq b.class.name x.class.name) begun more ∙ or_left (is_among begun x) (is_among more x) h

  search_keeps : (k : ℕ) (begun : List Loaded) (l x : Loaded) → is_among begun x ≡ true → is_among (searched_within world k begun l) x ≡ true
  search_keeps zero begun l x h = h
  search_keeps (suc k) begun l x h = by_test (is_among begun l) (λ b m y j. search_keeps k b m y j)
    where
      by_test : (b : Bool) → ((begun : List Loaded) (m y : Loaded) → is_among begun y ≡ true → is_among (searched_within world k begun m) y ≡ true)
          → is_among (if b then begun else fold (searched_within world k) (begun ++ l ∷ []) (next_in world l.class)) x ≡ true
      by_test true again = h
      by_test false again = fold_keeps (searched_within world k) again (next_in world l.class) (begun ++ l ∷ []) x (joined_keeps begun (l ∷ []) x h)

-- ---- how many classes of a world are not begun

abbrev left : List Loaded → List Loaded → ℕ
left [] begun = 0
left (x ∷ ls) begun = (if is_among begun x then 0 else 1) + left ls begun

left_none : (ls : List Loaded) → left ls [] ≡ length ls
left_none [] = refl
left_none (x ∷ ls) = let e = left_none ls in omega (arith, e)

left_fewer : (ls begun more : List Loaded) → ((x : Loaded) → is_among begun x ≡ true → is_among more x ≡ true) → left ls more ≤ left ls begun
left_fewer [] begun more keeps = omega arith
left_fewer (x ∷ ls) begun more keeps = by_tests (is_among begun x) (is_among more x) (keeps x) (left_fewer ls begun more keeps)
  where
    by_tests : (a b : Bool) → (a ≡ true → b ≡ true) → left ls more ≤ left ls begun → (if b then 0 else 1) + left ls more ≤ (if a then 0 else 1) + left ls begun
    by_tests true true h le = omega (arith, le)
    by_tests true false h le = let e : false ≡ true = h refl in absurd cc
    by_tests false true h le = omega (arith, le)
    by_tests false false h le = omega (arith, le)

left_less : (ls begun : List Loaded) (l : Loaded) → Contains ls l → is_among begun l ≡ false → left ls (begun ++ l ∷ []) < left ls begun
left_less [] begun l there new = absurd (none l there)
left_less (x ∷ ls) begun l there new = by_part (split x ls l there) (λ k. left_less ls begun l k new)
  where
    keeps : (y : Loaded) → is_among begun y ≡ true → is_among (begun ++ l ∷ []) y ≡ true
    keeps y h = joined_keeps [] begun (l ∷ []) y h

    its_own : is_among (begun ++ l ∷ []) l ≡ true
    its_own =
        list_any-append (λ b. bytes_eq b.class.name l.class.name) begun (l ∷ [])
        ∙ or_right (is_among begun l) (is_among (l ∷ []) l) (or_left (bytes_eq l.class.name l.class.name) false (nat_list_eq_equiv.refl l.class.name))

    here : is_among begun x ≡ false → is_among (begun ++ l ∷ []) x ≡ true
        → (if is_among (begun ++ l ∷ []) x then 0 else 1) + left ls (begun ++ l ∷ []) < (if is_among begun x then 0 else 1) + left ls begun
    here a b =
        let le : left ls (begun ++ l ∷ []) ≤ left ls begun = left_fewer ls begun (begun ++ l ∷ []) keeps in
        subst (λ t. (if t then 0 else 1) + left ls (begun ++ l ∷ []) < (if is_among begun x then 0 else 1) + left ls begun) (sym b)
        (subst (λ t. 0 + left ls (begun ++ l ∷ []) < (if t then 0 else 1) + left ls begun) (sym a) (omega (arith, le)))

    by_tests : (a b : Bool) → (a ≡ true → b ≡ true) → left ls (begun ++ l ∷ []) < left ls begun
        → (if b then 0 else 1) + left ls (begun ++ l ∷ []) < (if a then 0 else 1) + left ls begun
    by_tests true true h lt = omega (arith, lt)
    by_tests true false h lt = let e : false ≡ true = h refl in absurd cc
    by_tests false true h lt = omega (arith, lt)
    by_tests false false h lt = omega (arith, lt)

    by_part : (x ≡ l) ⊎ Contains ls l → (Contains ls l → left ls (begun ++ l ∷ []) < left ls begun)
        → (if is_among (begun ++ l ∷ []) x then 0 else 1) + left ls (begun ++ l ∷ []) < (if is_among begun x then 0 else 1) + left ls begun
    by_part (inl e) again = here (ap (is_among begun) e ∙ new) (ap (is_among (begun ++ l ∷ [])) e ∙ its_own)
    by_part (inr k) again = by_tests (is_among begun x) (is_among (begun ++ l ∷ []) x) (keeps x) (again k)

-- ---- so a search that may go as deep as there are such classes is the whole one

module _ (world : World) where
  in_world : (class : Class) (s : Loaded) → Contains (next_in world class) s → Contains world s
  in_world class s h =
      let found = in_found (class_named world) (class.interfaces ++ superclass_names class.super_class) s h in
      named_stands world found.0 s found.2

  fold_deep : (k j : ℕ)
      → ((begun : List Loaded) (l : Loaded) → left world begun < k → left world begun < j → Contains world l → searched_within world k begun l ≡ searched_within world j begun l)
      → (ls : List Loaded) → AllOf (Contains world) ls → (begun : List Loaded) → left world begun < k → left world begun < j
      → fold (searched_within world k) begun ls ≡ fold (searched_within world j) begun ls
  fold_deep k j again [] there begun a b = refl
  fold_deep k j again (l ∷ ls) there begun a b =
      let le : left world (searched_within world j begun l) ≤ left world begun =
      left_fewer world begun (searched_within world j begun l) (λ x h. search_keeps world j begun l x h) in
      ap (λ c. fold (searched_within world k) c ls) (again begun l a b (there l (first l ls)))
      ∙ fold_deep k j again ls (λ c h. there c (later l ls c h)) (searched_within world j begun l) (omega (arith, le, a)) (omega (arith, le, b))

  deep : (k j : ℕ) (begun : List Loaded) (l : Loaded) → left world begun < k → left world begun < j → Contains world l
      → searched_within world k begun l ≡ searched_within world j begun l
  deep zero j begun l a b there = absurd (omega (arith, a))
  deep (suc k) zero begun l a b there = absurd (omega (arith, b))
  deep (suc k) (suc j) begun l a b there = by_test (is_among begun l) refl (λ more m c d at. deep k j more m c d at)
    where
      by_test : (t : Bool) → is_among begun l ≡ t
          → ((more : List Loaded) (m : Loaded) → left world more < k → left world more < j → Contains world m → searched_within world k more m ≡ searched_within world j more m)
          → (if t then begun else fold (searched_within world k) (begun ++ l ∷ []) (next_in world l.class))
          ≡ (if t then begun else fold (searched_within world j) (begun ++ l ∷ []) (next_in world l.class))
      by_test true e again = refl
      by_test false e again =
          let lt = left_less world begun l there e in
          fold_deep k j again (next_in world l.class) (in_world l.class) (begun ++ l ∷ []) (omega (arith, lt, a)) (omega (arith, lt, b))

  pub whole : (n : ℕ) (l : Loaded) → Contains world l → length world ≤ n → searched_from world l ≡ searched_within world (suc n) [] l
  whole n l there le =
      let all = left_none world in
      deep (suc (length world)) (suc n) [] l (omega (arith, all)) (omega (arith, all, le)) there

-- ---- lists

module _ {X : Type 0} (one other : X → Bool) where
  any_same : (xs : List X) → ((x : X) → Contains xs x → one x ≡ other x) → list_any one xs ≡ list_any other xs
  any_same [] same = refl
  any_same (x ∷ xs) same =
      ap (λ b. b || list_any one xs) (same x (first x xs)) ∙ ap (λ b. other x || b) (any_same xs (λ y h. same y (later x xs y h)))

  filter_same : (xs : List X) → ((x : X) → Contains xs x → one x ≡ other x) → filter one xs ≡ filter other xs
  filter_same [] same = refl
  filter_same (x ∷ xs) same =
      ap (λ b. if b then x ∷ filter one xs else filter one xs) (same x (first x xs))
      ∙ ap (λ ls. if other x then x ∷ ls else ls) (filter_same xs (λ y h. same y (later x xs y h)))

-- ---- in two worlds

module _ (known : List ℕ → Bool) (v w : World) (agree : Agree known v w) where
  next_known : (l : Loaded) → IsKnown known v l → IsTrue (list_all known (l.class.interfaces ++ superclass_names l.class.super_class))
  next_known l k =
      let parts = and_parts (list_all known (superclass_names l.class.super_class)) (list_all known l.class.interfaces)
      (sym (list_all-append known (superclass_names l.class.super_class) l.class.interfaces) ∙ own_supers known v w agree l k) in
      list_all-append known l.class.interfaces (superclass_names l.class.super_class)
      ∙ and_from (list_all known l.class.interfaces) (list_all known (superclass_names l.class.super_class)) parts.1 parts.0

  each_next_known : (l : Loaded) → IsKnown known v l → AllOf (IsKnown known v) (next_in v l.class)
  each_next_known l k s h =
      let found = in_found (class_named v) (l.class.interfaces ++ superclass_names l.class.super_class) s h in
      known_by known v w agree found.0 s (all_at known (l.class.interfaces ++ superclass_names l.class.super_class) found.0 (next_known l k) found.1) found.2

  fold_same : (k : ℕ) → ((begun : List Loaded) (l : Loaded) → IsKnown known v l → searched_within v k begun l ≡ searched_within w k begun l)
      → (ls : List Loaded) → AllOf (IsKnown known v) ls → (begun : List Loaded) → fold (searched_within v k) begun ls ≡ fold (searched_within w k) begun ls
  fold_same k again [] all begun = refl
  fold_same k again (l ∷ ls) all begun =
      ap (λ c. fold (searched_within v k) c ls) (again begun l (all l (first l ls)))
      ∙ fold_same k again ls (λ c h. all c (later l ls c h)) (searched_within w k begun l)

  within_same : (k : ℕ) (begun : List Loaded) (l : Loaded) → IsKnown known v l → searched_within v k begun l ≡ searched_within w k begun l
  within_same zero begun l i = refl
  within_same (suc k) begun l i =
      ap (λ ls. if is_among begun l then begun else ls)
      (fold_same k (λ b m j. within_same k b m j) (next_in v l.class) (each_next_known l i) (begun ++ l ∷ [])
      ∙ ap (fold (searched_within w k) (begun ++ l ∷ []))
      (listed_same known v w agree (l.class.interfaces ++ superclass_names l.class.super_class) (next_known l i)))

  pub searched_same : (l : Loaded) → IsKnown known v l → searched_from v l ≡ searched_from w l
  searched_same l k = by_size (cases_lt (length v) (length w))
    where
      here : Contains v l
      here = named_stands v l.class.name l k.found

      there : Contains w l
      there = named_stands w l.class.name l (known_too known v w agree l k).found

      by_size : (length v < length w) ⊎ (length w ≤ length v) → searched_from v l ≡ searched_from w l
      by_size (inl lt) = whole v (length w) l here (omega (arith, lt)) ∙ within_same (suc (length w)) [] l k
      by_size (inr le) = within_same (suc (length v)) [] l k ∙ sym (whole w (length v) l there le)

  searched_known : (l : Loaded) → IsKnown known v l → AllOf (IsKnown known v) (searched_from v l)
  searched_known l k = of_searched v (IsKnown known v) (λ m s i h. super_known known v w agree m s i h) l k

  -- ---- fields

  pub field_same : (l : Loaded) → IsKnown known v l → (name descriptor : List ℕ) → lookup_field v l name descriptor ≡ lookup_field w l name descriptor
  field_same l k name descriptor = ap (first_found (λ c. option_map (field_by c) (field_named c.class name descriptor))) (searched_same l k)

  -- ---- methods of superinterfaces

  declared_there : (name descriptor : List ℕ) (c : Loaded) (d : Declared) → method_in name descriptor c ≡ Some d → c ≡ d.by
  declared_there name descriptor c d e = by_method (method_named c.class name descriptor) e
    where
      by_method : (o : Option Method) → option_map (declared_by c) o ≡ Some d → c ≡ d.by
      by_method None f = absurd cc
      by_method (Some m) f = ap (λ (x : Declared). x.by) (same f)
        where
          same : Some (declared_by c m) ≡ Some d → declared_by c m ≡ d
          same g = cc

  candidate_known : (l : Loaded) → IsKnown known v l → (name descriptor : List ℕ) (d : Declared) → Contains (candidates v l name descriptor) d → IsKnown known v d.by
  candidate_known l k name descriptor d h =
      let inherited = in_filter is_inheritable (filter_map (method_in name descriptor) (superinterfaces v l)) d h in
      let found = in_found (method_in name descriptor) (superinterfaces v l) d inherited.0 in
      let met = in_filter (without_itself l) (searched_from v l) found.0 found.1 in
      subst (IsKnown known v) (declared_there name descriptor found.0 d found.2) (searched_known l k found.0 met.0)

  below_same : (d other : Declared) → IsKnown known v other.by → is_below v d other ≡ is_below w d other
  below_same d other k =
      ap (λ b. not (bytes_eq d.by.class.name other.by.class.name) && b) (is_above_same known v w agree d.by.class.name other.by k)

  specific_same : (all : List Declared) → ((d : Declared) → Contains all d → IsKnown known v d.by) → maximally_specific v all ≡ maximally_specific w all
  specific_same all k =
      filter_same (λ d. not (list_any (is_below v d) all)) (λ d. not (list_any (is_below w d) all)) all
      (λ d h. ap not (any_same (is_below v d) (is_below w d) all (λ other j. below_same d other (k other j))))

  candidates_same : (l : Loaded) → IsKnown known v l → (name descriptor : List ℕ) → candidates v l name descriptor ≡ candidates w l name descriptor
  candidates_same l k name descriptor =
      ap (λ ls. filter is_inheritable (filter_map (method_in name descriptor) (filter (without_itself l) ls))) (searched_same l k)

  interface_method_same : (l : Loaded) → IsKnown known v l → (name descriptor : List ℕ) → superinterface_method v l name descriptor ≡ superinterface_method w l name descriptor
  interface_method_same l k name descriptor =
      ap (λ ms. else_option (only (filter is_concrete ms)) (first_found itself (candidates v l name descriptor)))
      (specific_same (candidates v l name descriptor) (candidate_known l k name descriptor))
      ∙ ap (λ all. else_option (only (filter is_concrete (maximally_specific w all))) (first_found itself all)) (candidates_same l k name descriptor)

  -- ---- methods, of a class whose superclass is loadable

  pub method_same : (l : Loaded) → IsKnown known v l → ((s : Loaded) → superclass_in v l.class ≡ Some s → IsTrue (is_loadable v s))
      → (name descriptor : List ℕ) → lookup_method v l name descriptor ≡ lookup_method w l name descriptor
  method_same l k loadable name descriptor =
      ap (λ o. if is_interface l then o else lookup_class_method v l name descriptor) of_interface
      ∙ ap (λ o. if is_interface l then lookup_interface_method w l name descriptor else o) of_class
    where
      of_interface : lookup_interface_method v l name descriptor ≡ lookup_interface_method w l name descriptor
      of_interface =
          ap (λ o. else_option (method_in name descriptor l) (else_option (method_if is_public_instance (method_if_loaded name descriptor o)) (superinterface_method v l name descriptor)))
          (agree.named object_name agree.object)
          ∙ ap (λ o. else_option (method_in name descriptor l) (else_option (method_if is_public_instance (method_if_loaded name descriptor (class_named w object_name))) o))
          (interface_method_same l k name descriptor)

      of_class : lookup_class_method v l name descriptor ≡ lookup_class_method w l name descriptor
      of_class =
          ap (λ ls. else_option (first_found (method_in name descriptor) (l ∷ ls)) (superinterface_method v l name descriptor)) (chain_same known v w agree l k loadable)
          ∙ ap (λ o. else_option (first_found (method_in name descriptor) (l ∷ superclasses w l.class)) o) (interface_method_same l k name descriptor)
