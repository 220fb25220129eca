-- Classes as a list keeps them.
use Rattle.std.proofs.Common.{◌≡◌, ℕ, suc, ◌+◌, ◌<◌, Bool, true, false, cond, Option, List, [], ◌∷◌, ◌++◌, ◌||◌, length, take, drop, nat_lt, Some, None, refl, sym, ap, ◌∙◌, subst, append_assoc, arith, inl, inr}
use Rattle.std.specs.Prelude.{slice_get, IfSome, IsTrue, ◌⊎◌}
use Rattle.std.specs.List.{position, position_or_len, position_from, list_any}
use Rattle.std.proofs.lemmas.Iterator.Adapters.{position_from-zero}
use Rattle.std.specs.Str.{bytes_eq}
use Rattle.std.specs.Cmp.Lexicographic.{nat_list_eq_equiv}
use Rattle.std.proofs.lemmas.List.{length-map, map-append, append-nil, take-append-drop, length-take}
use Rattle.std.proofs.lemmas.List.Recursion.{is_position_or_len}
use Rattle.indexmap.specs.IndexSet.{insert_key}
use Rattle.std.specs.Borrow.{Bor}
use Rattle.jv_classes.specs.Inside.KeptNames.{text_of, texts_of}
use Rattle.jv_classes.proofs.Places.{place_within}
use Rattle.jv_classes.proofs.Pushed.{in_two_parts}
use Rattle.jv_class.specs.Rules.{is_no_array_name}
use Rattle.jv_meaning_world.specs.World.{Loaded}
use Rattle.jv_meaning_world.specs.Numbers.{number_named, IsNumbered, AreNoArrays}
use Rattle.jv_classes.specs.Inside.Listed.{name_of, names_of}

-- ---- positions by recursion

module _ {X : Type 0} (test : X → Bool) where
  before_from : (i : ℕ) (xs : List X) (y : X) (k : ℕ) → position_from test i xs ≡ Some k → position_from test i (xs ++ y ∷ []) ≡ Some k
  before_from i [] y k e = absurd cc
  before_from i (x ∷ xs) y k e = by_test (test x) (λ h. before_from (i + 1) xs y k h) e
    where
      by_test : (b : Bool) → (position_from test (i + 1) xs ≡ Some k → position_from test (i + 1) (xs ++ y ∷ []) ≡ Some k)
          → cond b (Some i) (position_from test (i + 1) xs) ≡ Some k → cond b (Some i) (position_from test (i + 1) (xs ++ y ∷ [])) ≡ Some k
      by_test true again h = h
      by_test false again h = again h

  last_from : (i : ℕ) (xs : List X) (y : X) → position_from test i xs ≡ None → test y ≡ true → position_from test i (xs ++ y ∷ []) ≡ Some (i + length xs)
  last_from i [] y e t = here (test y) t
    where
      here : (b : Bool) → b ≡ true → cond b (Some i) None ≡ Some (i + 0)
      here true t = ap (λ n. Some n) (omega arith)
      here false t = absurd cc
  last_from i (x ∷ xs) y e t = by_test (test x) (λ h. last_from (i + 1) xs y h t) e
    where
      more : (n : ℕ) → i + 1 + n ≡ i + suc n
      more n = omega arith

      by_test : (b : Bool) → (position_from test (i + 1) xs ≡ None → position_from test (i + 1) (xs ++ y ∷ []) ≡ Some (i + 1 + length xs))
          → cond b (Some i) (position_from test (i + 1) xs) ≡ None → cond b (Some i) (position_from test (i + 1) (xs ++ y ∷ [])) ≡ Some (i + suc (length xs))
      by_test true again h = absurd cc
      by_test false again h = again h ∙ ap (λ n. Some n) (more (length xs))

  none_from : (i : ℕ) (xs : List X) → position_from test i xs ≡ None → list_any test xs ≡ false
  none_from i [] e = refl
  none_from i (x ∷ xs) e = by_test (test x) (λ h. none_from (i + 1) xs h) e
    where
      by_test : (b : Bool) → (position_from test (i + 1) xs ≡ None → list_any test xs ≡ false) → cond b (Some i) (position_from test (i + 1) xs) ≡ None → (b || list_any test xs) ≡ false
      by_test true again h = absurd cc
      by_test false again h = again h

  pub found_before : (xs : List X) (y : X) (k : ℕ) → position test xs ≡ Some k → position test (xs ++ y ∷ []) ≡ Some k
  found_before xs y k e = position_from-zero test (xs ++ y ∷ []) ∙ before_from 0 xs y k (sym (position_from-zero test xs) ∙ e)

  pub found_last : (xs : List X) (y : X) → position test xs ≡ None → test y ≡ true → position test (xs ++ y ∷ []) ≡ Some (length xs)
  found_last xs y e t = (position_from-zero test (xs ++ y ∷ []) ∙ last_from 0 xs y (sym (position_from-zero test xs) ∙ e) t) ∙ ap (λ n. Some n) (same (length xs))
    where
      same : (n : ℕ) → 0 + n ≡ n
      same n = omega arith

  pub none_passes : (xs : List X) → position test xs ≡ None → list_any test xs ≡ false
  none_passes xs e = none_from 0 xs (sym (position_from-zero test xs) ∙ e)

-- ---- names

pub number_of_name : (ls : List Loaded) (name : List ℕ) → position (bytes_eq name) (names_of ls) ≡ number_named ls name
number_of_name ls name =
    ap (λ n. cond (nat_lt n (length (names_of ls))) (Some n) None) same
    ∙ ap (λ m. cond (nat_lt (position_or_len (λ l. bytes_eq l.class.name name) ls) m) (Some (position_or_len (λ l. bytes_eq l.class.name name) ls)) None) (length-map ls name_of)
  where
    move : (l : Loaded) (rest : List Loaded) → position_or_len (bytes_eq name) (names_of (l ∷ rest)) ≡ cond (bytes_eq l.class.name name) 0 (1 + position_or_len (bytes_eq name) (names_of rest))
    move l rest = by_test (bytes_eq l.class.name name) refl
      where
        by_test : (b : Bool) → bytes_eq l.class.name name ≡ b → position_or_len (bytes_eq name) (names_of (l ∷ rest)) ≡ cond b 0 (1 + position_or_len (bytes_eq name) (names_of rest))
        by_test true e = rw (nat_list_eq_equiv.symm name l.class.name ∙ e) refl
        by_test false e = rw (nat_list_eq_equiv.symm name l.class.name ∙ e) refl

    same : position_or_len (bytes_eq name) (names_of ls) ≡ position_or_len (λ l. bytes_eq l.class.name name) ls
    same = is_position_or_len (λ rest. position_or_len (bytes_eq name) (names_of rest)) (λ l. bytes_eq l.class.name name) refl move ls

-- ---- keys of a set, each of which lends a name

key_place : (keys : List (Bor (List ℕ))) (name : List ℕ) → position (λ k. bytes_eq name k.now) keys ≡ position (bytes_eq name) (texts_of keys)
key_place keys name =
    ap (λ n. cond (nat_lt n (length keys)) (Some n) None) (sym same)
    ∙ ap (λ m. cond (nat_lt (position_or_len (bytes_eq name) (texts_of keys)) m) (Some (position_or_len (bytes_eq name) (texts_of keys))) None) (sym (length-map keys text_of))
  where
    move : (k : Bor (List ℕ)) (rest : List (Bor (List ℕ))) → position_or_len (bytes_eq name) (texts_of (k ∷ rest)) ≡ cond (bytes_eq name k.now) 0 (1 + position_or_len (bytes_eq name) (texts_of rest))
    move k rest = by_test (bytes_eq name k.now) refl
      where
        by_test : (b : Bool) → bytes_eq name k.now ≡ b → position_or_len (bytes_eq name) (texts_of (k ∷ rest)) ≡ cond b 0 (1 + position_or_len (bytes_eq name) (texts_of rest))
        by_test true e = rw e refl
        by_test false e = rw e refl

    same : position_or_len (bytes_eq name) (texts_of keys) ≡ position_or_len (λ k. bytes_eq name k.now) keys
    same = is_position_or_len (λ rest. position_or_len (bytes_eq name) (texts_of rest)) (λ k. bytes_eq name k.now) refl move keys

module _ (keys : List (Bor (List ℕ))) (ls : List Loaded) (kept : texts_of keys ≡ names_of ls) where
  pub number_of_key : (name : List ℕ) → position (λ k. bytes_eq name k.now) keys ≡ number_named ls name
  number_of_key name = key_place keys name ∙ (ap (position (bytes_eq name)) kept ∙ number_of_name ls name)

  -- a key more, of a class that is not there yet
  pub key_more :
      (k : Bor (List ℕ)) (c : Loaded) → k.now ≡ c.class.name → number_named ls c.class.name ≡ None
      → texts_of (insert_key (λ x y. bytes_eq x.now y.now) keys k) ≡ names_of (ls ++ c ∷ [])
  key_more k c named none =
      ap (λ b. texts_of (cond b keys (keys ++ k ∷ []))) absent
      ∙ (map-append text_of keys (k ∷ [])
      ∙ (ap (λ ns. ns ++ k.now ∷ []) kept ∙ (ap (λ n. names_of ls ++ n ∷ []) named ∙ sym (map-append name_of ls (c ∷ [])))))
    where
      absent : list_any (λ y. bytes_eq k.now y.now) keys ≡ false
      absent = none_passes (λ y. bytes_eq k.now y.now) keys (number_of_key k.now ∙ (ap (number_named ls) named ∙ none))

-- ---- a class more

pub numbered_more : (ls : List Loaded) (c : Loaded) → number_named ls c.class.name ≡ None → IsNumbered ls → IsNumbered (ls ++ c ∷ [])
numbered_more ls c none numbers place l e = by_part (in_two_parts ls c l place e)
  where
    by_part : (slice_get ls place ≡ Some l) ⊎ ((place ≡ length ls) × (c ≡ l)) → number_named (ls ++ c ∷ []) l.class.name ≡ Some place
    by_part (inl at) = found_before (λ m. bytes_eq m.class.name l.class.name) ls c place (numbers place l at)
    by_part (inr h) =
        subst (λ (m : Loaded). number_named (ls ++ c ∷ []) m.class.name ≡ Some place) h.1
        (found_last (λ m. bytes_eq m.class.name c.class.name) ls c none (nat_list_eq_equiv.refl c.class.name) ∙ ap (λ n. Some n) (sym h.0))

pub no_arrays_more : (ls : List Loaded) (c : Loaded) → IsTrue (is_no_array_name c.class.name) → AreNoArrays ls → AreNoArrays (ls ++ c ∷ [])
no_arrays_more ls c last others place l e = by_part (in_two_parts ls c l place e)
  where
    by_part : (slice_get ls place ≡ Some l) ⊎ ((place ≡ length ls) × (c ≡ l)) → IsTrue (is_no_array_name l.class.name)
    by_part (inl at) = others place l at
    by_part (inr h) = subst (λ (m : Loaded). IsTrue (is_no_array_name m.class.name)) h.1 last

-- ---- the first classes of a list

found_front : (test : Loaded → Bool) (ls more : List Loaded) (k : ℕ) → position test ls ≡ Some k → position test (ls ++ more) ≡ Some k
found_front test ls [] k e = subst (λ all. position test all ≡ Some k) (sym (append-nil ls)) e
found_front test ls (l ∷ more) k e =
    subst (λ all. position test all ≡ Some k) (append_assoc ls (l ∷ []) more) (found_front test (ls ++ l ∷ []) more k (found_before test ls l k e))

-- none of them has the name of the next
pub free_in_front : (ls : List Loaded) → IsNumbered ls → (i : ℕ) (l : Loaded) → slice_get ls i ≡ Some l → number_named (take i ls) l.class.name ≡ None
free_in_front ls numbers i l at = by_place (number_named (take i ls) l.class.name) refl
  where
    is_named : Loaded → Bool
    is_named m = bytes_eq m.class.name l.class.name

    by_place : (o : Option ℕ) → number_named (take i ls) l.class.name ≡ o → o ≡ None
    by_place None e = refl
    by_place (Some k) e =
        let whole : position is_named ls ≡ Some k = subst (λ all. position is_named all ≡ Some k) (take-append-drop i ls) (found_front is_named (take i ls) (drop i ls) k e) in
        let one : Some k ≡ Some i = sym whole ∙ numbers i l at in
        let same : k ≡ i = cc in
        let below : k < length (take i ls) = subst (λ (o : Option ℕ). IfSome o (λ place. place < length (take i ls))) e (place_within is_named (take i ls)) in
        absurd (omega (arith, same, below, length-take i ls))
