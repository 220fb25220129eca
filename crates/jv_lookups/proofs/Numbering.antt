-- How packages get their numbers.
use Rattle.std.proofs.Common.{◌≡◌, ℕ, zero, suc, ◌+◌, ◌*◌, ◌<◌, ◌≤◌, Bool, true, false, cond, List, [], ◌∷◌, ◌++◌, length, take, get_or, nat_eq, nat_lt, Some, None, refl, sym, ap, ◌∙◌, subst, inl, inr, arith}
use Rattle.std.specs.Prelude.{◌⊎◌, slice_get, position}
use Rattle.std.specs.List.{list_any, position_or_len}
use Rattle.std.specs.Str.{bytes_eq}
use Rattle.std.proofs.lemmas.Bool.{and_parts, and_from, ltb-false, eqb-true, eq-eqb, cases_order}
use Rattle.std.proofs.lemmas.List.{get_or_append_left, length-append, take_more}
use Rattle.std.proofs.lemmas.List.Folds.{list_any_at}
use Rattle.std.proofs.lemmas.List.Quantifiers.{position-Some}
use Rattle.std.proofs.lemmas.List.Sums.{fails_before_first}
use Rattle.std.proofs.Math.Seq.{get_or-append_seam}
use Rattle.std.proofs.lemmas.Slice.Eq.{bytes_eq-Decides}
use Rattle.jv_classes.specs.Names.{has_name, with_name}
use Rattle.jv_meaning_world.specs.World.{Loaded, package_of, same_loader, same_package}
use Rattle.jv_lookups.specs.Packages.{AreNumbered}
use Rattle.jv_lookups.specs.Inside.FinalNumbers.{IsFirstAt, number_at, IsNumber, AreTheirs}
use Rattle.jv_lookups.proofs.Passing.{both_ways}

-- ---- the first place of a text

pub found_first : (names : List (List ℕ)) (text : List ℕ) (place : ℕ) → position (bytes_eq text) names ≡ Some place → IsFirstAt names text place
found_first names text place e =
    let found = position-Some (bytes_eq text) names place [] e in
    record { within = found.0; here = found.1; not_before = found.2 }

pub nothing_new : (names : List (List ℕ)) (text : List ℕ) (place : ℕ) → IsFirstAt names text place → names ≡ with_name names text
nothing_new names text place first = sym (ap (λ b. cond b names (names ++ text ∷ [])) (list_any_at (bytes_eq text) names place [] first.within first.here))

not_there : (names : List (List ℕ)) (text : List ℕ) → position (bytes_eq text) names ≡ None → (k : ℕ) → k < length names → bytes_eq text (get_or names k []) ≡ false
not_there names text e k less = by_test (nat_lt (position_or_len (bytes_eq text) names) (length names)) refl e
  where
    by_test : (b : Bool) → nat_lt (position_or_len (bytes_eq text) names) (length names) ≡ b → cond b (Some (position_or_len (bytes_eq text) names))
        None ≡ None → bytes_eq text (get_or names k []) ≡ false
    by_test true t e = absurd cc
    by_test false t e =
        let past : length names ≤ position_or_len (bytes_eq text) names = ltb-false (position_or_len (bytes_eq text) names) (length names) t in
        fails_before_first (bytes_eq text) names k [] (omega (arith, past, less))

none_passes : (p : List ℕ → Bool) (names : List (List ℕ)) → ((k : ℕ) → k < length names → p (get_or names k []) ≡ false) → list_any p names ≡ false
none_passes p [] h = refl
none_passes p (name ∷ names) h = first (p name) (h 0 (omega arith)) (none_passes p names (λ k less. h (suc k) (omega (arith, less))))
  where
    first : (b : Bool) → b ≡ false → list_any p names ≡ false → list_any p (name ∷ names) ≡ false
    first b e rest = rw (h 0 (omega arith)) rest

pub added_first : (names : List (List ℕ)) (text : List ℕ) → position (bytes_eq text) names ≡ None → IsFirstAt (with_name names text) text (length names)
added_first names text e = subst (λ all. IsFirstAt all text (length names)) (sym (ap (λ b. cond b names (names ++ text ∷ [])) new)) at_end
  where
    new : has_name names text ≡ false
    new = none_passes (bytes_eq text) names (not_there names text e)

    at_end : IsFirstAt (names ++ text ∷ []) text (length names)
    at_end = record {
      within = omega (arith, length-append names (text ∷ []));
      here = (bytes_eq-Decides text (get_or (names ++ text ∷ []) (length names) [])).1 (sym (get_or-append_seam names text [] []));
      not_before = λ k less. ap (bytes_eq text) (get_or_append_left names (text ∷ []) [] k less) ∙ not_there names text e k less;
    }

first_grown : (names more : List (List ℕ)) (text : List ℕ) (place : ℕ) → IsFirstAt names text place → IsFirstAt (names ++ more) text place
first_grown names more text place first = record {
  within = let less : place < length names = first.within in omega (arith, less, length-append names more);
  here = ap (bytes_eq text) (get_or_append_left names more [] place first.within) ∙ first.here;
  not_before = λ k less. let below : place < length names = first.within in ap (bytes_eq text) (get_or_append_left names more [] k (omega (arith, less, below))) ∙ first.not_before k less;
}

first_kept : (names : List (List ℕ)) (new text : List ℕ) (place : ℕ) → IsFirstAt names text place → IsFirstAt (with_name names new) text place
first_kept names new text place first = by_test (has_name names new)
  where
    by_test : (b : Bool) → IsFirstAt (cond b names (names ++ new ∷ [])) text place
    by_test true = first
    by_test false = first_grown names (new ∷ []) text place first

-- ---- the numbers so far

theirs_kept : (names : List (List ℕ)) (new : List ℕ) (classes : List Loaded) (numbers : List ℕ) → AreTheirs names classes numbers → AreTheirs (with_name names new) classes numbers
theirs_kept names new [] [] h = tt
theirs_kept names new [] (n ∷ numbers) h = absurd h
theirs_kept names new (l ∷ classes) [] h = absurd h
theirs_kept names new (l ∷ classes) (n ∷ numbers) h =
    let first : IsNumber (with_name names new) l n =
    record { place = h.0.place; first = first_kept names new (package_of l.class.name) h.0.place h.0.first; is = h.0.is }
    in (
      first,
      theirs_kept names new classes numbers h.1,
    )

theirs_more : (names : List (List ℕ)) (classes : List Loaded) (numbers : List ℕ) (l : Loaded) (n : ℕ) → AreTheirs names classes numbers →
    IsNumber names l n → AreTheirs names (classes ++ l ∷ []) (numbers ++ n ∷ [])
theirs_more names [] [] l n h k = (k, tt)
theirs_more names [] (m ∷ numbers) l n h k = absurd h
theirs_more names (c ∷ classes) [] l n h k = absurd h
theirs_more names (c ∷ classes) (m ∷ numbers) l n h k = (h.0, theirs_more names classes numbers l n h.1 k)

pub numbered_more : (names : List (List ℕ)) (classes : List Loaded) (i : ℕ) (l : Loaded) (numbers : List ℕ) (place n : ℕ) →
    AreTheirs names (take i classes) numbers → i < length classes → l ≡ get_or classes i l
    → IsFirstAt (with_name names (package_of l.class.name)) (package_of l.class.name) place → n ≡ number_at place l.by_system
    → AreTheirs (with_name names (package_of l.class.name)) (take (i + 1) classes) (numbers ++ n ∷ [])
numbered_more names classes i l numbers place n h less at first e =
    let new = with_name names (package_of l.class.name) in
    let number : IsNumber new l n = record { place = place; first = first; is = e } in
    subst (λ cs. AreTheirs new cs (numbers ++ n ∷ [])) (sym (take_more classes i l less ∙ ap (λ c. take i classes ++ c ∷ []) (sym at)))
    (theirs_more new (take i classes) numbers l n (theirs_kept names (package_of l.class.name) (take i classes) numbers h) number)

pub few_more : (names : List (List ℕ)) (new : List ℕ) (i : ℕ) → length names ≤ i → length (with_name names new) ≤ i + 1
few_more names new i h = by_test (has_name names new)
  where
    by_test : (b : Bool) → length (cond b names (names ++ new ∷ [])) ≤ i + 1
    by_test true = omega (arith, h)
    by_test false = omega (arith, h, length-append names (new ∷ []))

pub as_many : (names : List (List ℕ)) (classes : List Loaded) (numbers : List ℕ) → AreTheirs names classes numbers → length numbers ≡ length classes
as_many names [] [] h = refl
as_many names [] (n ∷ numbers) h = absurd h
as_many names (l ∷ classes) [] h = absurd h
as_many names (l ∷ classes) (n ∷ numbers) h = ap suc (as_many names classes numbers h.1)

-- ---- all numbers

number_of_some : (names : List (List ℕ)) (classes : List Loaded) (numbers : List ℕ) (k d : ℕ) → AreTheirs names classes numbers → k < length numbers →
    (l : Loaded) × IsNumber names l (get_or numbers k d)
number_of_some names [] [] k d h less = absurd (omega (arith, less))
number_of_some names [] (n ∷ numbers) k d h less = absurd h
number_of_some names (l ∷ classes) [] k d h less = absurd h
number_of_some names (l ∷ classes) (n ∷ numbers) zero d h less = (l, h.0)
number_of_some names (l ∷ classes) (n ∷ numbers) (suc k) d h less = number_of_some names classes numbers k d h.1 (omega (arith, less))

number_of_class : (names : List (List ℕ)) (classes : List Loaded) (numbers : List ℕ) (k : ℕ) (l : Loaded) → AreTheirs names classes numbers →
    slice_get classes k ≡ Some l → IsNumber names l (get_or numbers k 0)
number_of_class names [] numbers k l h e = absurd cc
number_of_class names (c ∷ classes) [] k l h e = absurd h
number_of_class names (c ∷ classes) (n ∷ numbers) zero l h e = let same : c ≡ l = cc in subst (λ x. IsNumber names x n) same h.0
number_of_class names (c ∷ classes) (n ∷ numbers) (suc k) l h e = number_of_class names classes numbers k l h.1 e

number_below : (place many : ℕ) (by_system : Bool) → place < many → number_at place by_system < 2 * many
number_below place many true h = omega arith
number_below place many false h = omega arith

same_place : (p q : ℕ) (a b : Bool) → number_at p a ≡ number_at q b → (p ≡ q) × (same_loader a b ≡ true)
same_place p q true true e = (omega arith, refl)
same_place p q true false e = absurd (omega arith)
same_place p q false true e = absurd (omega arith)
same_place p q false false e = (omega arith, refl)

same_number : (p q : ℕ) (a b : Bool) → p ≡ q → same_loader a b ≡ true → number_at p a ≡ number_at q b
same_number p q true true e h = ap (λ n. 2 * n + 1) e
same_number p q true false e h = absurd cc
same_number p q false true e h = absurd cc
same_number p q false false e h = ap (λ n. 2 * n + 0) e

one_first : (names : List (List ℕ)) (text : List ℕ) (p q : ℕ) → IsFirstAt names text p → IsFirstAt names text q → p ≡ q
one_first names text p q h k = by_order (cases_order p q)
  where
    clash : (b : Bool) → b ≡ true → b ≡ false → ⊥
    clash true e f = absurd cc
    clash false e f = absurd cc

    by_order : (p ≡ q) ⊎ ((p < q) ⊎ (q < p)) → p ≡ q
    by_order (inl e) = e
    by_order (inr (inl less)) = absurd (clash (bytes_eq text (get_or names p [])) h.here (k.not_before p less))
    by_order (inr (inr less)) = absurd (clash (bytes_eq text (get_or names q [])) k.here (h.not_before q less))

same_of : (names : List (List ℕ)) (l k : Loaded) (n m : ℕ) → IsNumber names l n → IsNumber names k m → nat_eq n m ≡ same_package l k
same_of names l k n m h g = both_ways (nat_eq n m) (same_package l k) there back
  where
    there : nat_eq n m ≡ true → same_package l k ≡ true
    there e =
        let same = same_place h.place g.place l.by_system k.by_system (sym h.is ∙ eqb-true n m e ∙ g.is) in
        let first : package_of l.class.name ≡ get_or names h.place [] = (bytes_eq-Decides (package_of l.class.name) (get_or names h.place [])).0 h.first.here in
        let second : package_of k.class.name ≡ get_or names g.place [] = (bytes_eq-Decides (package_of k.class.name) (get_or names g.place [])).0 g.first.here in
        and_from (same_loader l.by_system k.by_system) (bytes_eq (package_of l.class.name) (package_of k.class.name)) same.1
        ((bytes_eq-Decides (package_of l.class.name) (package_of k.class.name)).1 (first ∙ ap (λ p. get_or names p []) same.0 ∙ sym second))

    back : same_package l k ≡ true → nat_eq n m ≡ true
    back e =
        let parts = and_parts (same_loader l.by_system k.by_system) (bytes_eq (package_of l.class.name) (package_of k.class.name)) e in
        let text : package_of l.class.name ≡ package_of k.class.name = (bytes_eq-Decides (package_of l.class.name) (package_of k.class.name)).0 parts.1 in
        let place = one_first names (package_of k.class.name) h.place g.place (subst (λ t. IsFirstAt names t h.place) text h.first) g.first in
        eq-eqb n m (h.is ∙ same_number h.place g.place l.by_system k.by_system place parts.0 ∙ sym g.is)

pub all_numbered : (names : List (List ℕ)) (classes : List Loaded) (numbers : List ℕ) → AreTheirs names classes numbers → length names ≤ length classes → AreNumbered classes numbers
all_numbered names classes numbers h few = record {
  one_each = as_many names classes numbers h;
  below = λ k d less.
      let number = number_of_some names classes numbers k d h less in
      let place : number.1.place < length names = number.1.first.within in
      subst (λ n. n < 2 * length classes) (sym number.1.is) (number_below number.1.place (length classes) number.0.by_system (omega (arith, place, few)));
  same = λ a b l k at also. same_of names l k (get_or numbers a 0) (get_or numbers b 0) (number_of_class names classes numbers a l h at) (number_of_class names classes numbers b k h also);
}

-- one step of the loop, as its calls say it
pub numbered_step : (names after : List (List ℕ)) (text : List ℕ) (classes : List Loaded) (i : ℕ) (l : Loaded) (numbers more : List ℕ) (place n : ℕ) (by_system : Bool)
    → AreTheirs names (take i classes) numbers → length names ≤ i → i < length classes → l ≡ get_or classes i l
    → text ≡ package_of l.class.name → by_system ≡ l.by_system → after ≡ with_name names text → IsFirstAt after text place → n ≡ number_at place by_system → more ≡ numbers ++ n ∷ []
    → AreTheirs after (take (i + 1) classes) more × (length after ≤ i + 1)
numbered_step names after text classes i l numbers more place n by_system h few less at is whose grown first e pushed =
    let whole = package_of l.class.name in
    let grown_by : after ≡ with_name names whole = grown ∙ ap (with_name names) is in
    let first_there : IsFirstAt (with_name names whole) whole place = subst (λ t. IsFirstAt (with_name names whole) t place) is (subst (λ ns. IsFirstAt ns text place) grown_by first) in
    let numbered = numbered_more names classes i l numbers place n h less at first_there (e ∙ ap (number_at place) whose) in (
      subst (λ ns. AreTheirs ns (take (i + 1) classes) more) (sym grown_by)
          (subst (λ m. AreTheirs (with_name names whole) (take (i + 1) classes) m) (sym pushed) numbered),
      subst (λ ns. length ns ≤ i + 1) (sym grown_by) (few_more names whole i few),
    )
