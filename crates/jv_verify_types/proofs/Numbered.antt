-- Names that differ, by their numbers.
use Rattle.std.proofs.Common.{rules, ◌≡◌, ℕ, zero, suc, ◌<◌, Bool, true, false, cond, nat_eq, List, [], ◌∷◌, ◌++◌, length, Some, None, get_or, refl, sym, ap, ◌∙◌, subst, inl, inr}
use Rattle.std.specs.Prelude.{position, slice_get, ◌⊎◌}
use Rattle.std.specs.Str.{bytes_eq}
use Rattle.std.proofs.lemmas.Option.{slice_get-get_or}
use Rattle.std.proofs.lemmas.Bool.{eqb-true}
use Rattle.std.proofs.lemmas.List.Quantifiers.{position-Some}
use Rattle.std.proofs.lemmas.Slice.Eq.{bytes_eq-Decides}
use Rattle.jv_classes.specs.Names.{with_name}
use Rattle.jv_classes.proofs.Pushed.{in_two_parts}
use Rattle.jv_classes.proofs.Listing.{found_before, found_last, none_passes}
use Rattle.jv_verify_types.specs.Typed.{GoesOn}
use Rattle.jv_verify_types.specs.Inside.Kept.{AreDistinct}

some_same : {m n : ℕ} → Some m ≡ Some n → m ≡ n
some_same e = cc

-- two numbers are equal where their names are
pub same_number : (names : List (List ℕ)) (d : List ℕ) → AreDistinct names → (m n : ℕ) → m < length names → n < length names
    → nat_eq m n ≡ bytes_eq (get_or names m d) (get_or names n d)
same_number names d distinct m n hm hn = by_names (bytes_eq (get_or names m d) (get_or names n d)) refl
  where
    at_m : position (bytes_eq (get_or names m d)) names ≡ Some m
    at_m = distinct m (get_or names m d) (slice_get-get_or names m d hm)

    at_n : position (bytes_eq (get_or names n d)) names ≡ Some n
    at_n = distinct n (get_or names n d) (slice_get-get_or names n d hn)

    by_names : (b : Bool) → bytes_eq (get_or names m d) (get_or names n d) ≡ b → nat_eq m n ≡ b
    by_names true e =
        let same : get_or names m d ≡ get_or names n d = (bytes_eq-Decides (get_or names m d) (get_or names n d)).0 e in
        subst (λ k. nat_eq m k ≡ true) (some_same (sym at_m ∙ (ap (λ t. position (bytes_eq t) names) same ∙ at_n))) (nat_eq_refl m)
      where
        nat_eq_refl : (k : ℕ) → nat_eq k k ≡ true
        nat_eq_refl k = search rules
    by_names false e = by_numbers (nat_eq m n) refl
      where
        by_numbers : (b : Bool) → nat_eq m n ≡ b → b ≡ false
        by_numbers false f = refl
        by_numbers true f =
            let same : m ≡ n = (eqb-true m n f) in
            sym ((bytes_eq-Decides (get_or names m d) (get_or names n d)).1 (ap (λ k. get_or names k d) same)) ∙ e

-- a name more that is none of the others
pub distinct_more : (names : List (List ℕ)) (name : List ℕ) → position (bytes_eq name) names ≡ None → AreDistinct names → AreDistinct (names ++ name ∷ [])
distinct_more names name none distinct number other at = by_part (in_two_parts names name other number at)
  where
    by_part : (slice_get names number ≡ Some other) ⊎ ((number ≡ length names) × (name ≡ other)) → position (bytes_eq other) (names ++ name ∷ []) ≡ Some number
    by_part (inl e) = found_before (bytes_eq other) names name number (distinct number other e)
    by_part (inr h) =
        subst (λ t. position (bytes_eq t) (names ++ name ∷ []) ≡ Some number) h.1
        (found_last (bytes_eq name) names name none ((bytes_eq-Decides name name).1 refl) ∙ ap (λ n. Some n) (sym h.0))

-- the same names and more behind them
pub more_behind : (names more : List (List ℕ)) → (number : ℕ) (name : List ℕ) → slice_get names number ≡ Some name → slice_get (names ++ more) number ≡ Some name
more_behind [] more zero name e = absurd cc
more_behind [] more (suc n) name e = absurd (past n e)
  where
    past : (n : ℕ) → slice_get [] (suc n) ≡ Some name → ⊥
    past n e = absurd cc
more_behind (x ∷ names) more zero name e = e
more_behind (x ∷ names) more (suc n) name e = more_behind names more n name e

pub last_one : (names : List (List ℕ)) (name : List ℕ) → slice_get (names ++ name ∷ []) (length names) ≡ Some name
last_one [] name = refl
last_one (x ∷ names) name = last_one names name

-- a new name joins at the end
pub joined : (names : List (List ℕ)) (name : List ℕ) → position (bytes_eq name) names ≡ None → with_name names name ≡ names ++ name ∷ []
joined names name none = ap (λ b. cond b names (names ++ name ∷ [])) (none_passes (bytes_eq name) names none)

-- the number of a name that is there
pub at_position : (names : List (List ℕ)) (name : List ℕ) (number : ℕ) → position (bytes_eq name) names ≡ Some number → slice_get names number ≡ Some name
at_position names name number e =
    let found = position-Some (bytes_eq name) names number [] e in
    slice_get-get_or names number [] found.0 ∙ ap (λ t. Some t) (sym ((bytes_eq-Decides name (get_or names number [])).0 found.1))

pub goes_on_with : (names : List (List ℕ)) (name : List ℕ) (longer : List (List ℕ)) → longer ≡ names ++ name ∷ [] → GoesOn names longer
goes_on_with names name longer e = record { kept = λ number other at. subst (λ ns. slice_get ns number ≡ Some other) (sym e) (more_behind names (name ∷ []) number other at) }

pub stays : (names : List (List ℕ)) → GoesOn names names
stays names = record { kept = λ number other at. at }
