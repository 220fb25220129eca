-- Members by their places, as they are kept and as their class has them.
use Rattle.std.proofs.Common.{◌≡◌, Bool, true, false, cond, List, ◌∷◌, map, ◌+◌, length, Some, None, refl, sym, ap, ◌∙◌}
use Rattle.std.specs.Prelude.{position, nat_lt, slice_get, IfSome, ◌<◌}
use Rattle.std.specs.List.{position_or_len, find}
use Rattle.std.specs.Option.{option_and_then}
use Rattle.std.proofs.lemmas.Bool.{ltb-true, ltb-false}
use Rattle.std.proofs.lemmas.List.Folds.{find_at}
use Rattle.std.proofs.lemmas.Option.{slice_get_past}
use Rattle.std.proofs.lemmas.List.Recursion.{is_position_or_len}
use Rattle.std.proofs.lemmas.List.{length-map}

-- where a test of what is seen of an item passes first
module _ {A B : Type 0} (test : B → Bool) (other : A → Bool) (seen : A → B) (same : (a : A) → other a ≡ test (seen a)) where
  len_seen : (xs : List A) → position_or_len other xs ≡ position_or_len test (map seen xs)
  len_seen xs = sym (is_position_or_len (λ ys. position_or_len test (map seen ys)) other refl step xs)
    where
      step : (x : A) (ys : List A) → position_or_len test (map seen (x ∷ ys)) ≡ cond (other x) 0 (1 + position_or_len test (map seen ys))
      step x ys = by_test (test (seen x)) refl
        where
          by_test : (b : Bool) → test (seen x) ≡ b → position_or_len test (map seen (x ∷ ys)) ≡ cond (other x) 0 (1 + position_or_len test (map seen ys))
          by_test true e = rw (same x, e) refl
          by_test false e = rw (same x, e) refl

  pub place_seen : (xs : List A) → position other xs ≡ position test (map seen xs)
  place_seen xs =
      let len = len_seen xs in
      ap (λ n. cond (nat_lt n (length xs)) (Some n) None) len
      ∙ ap (λ m. cond (nat_lt (position_or_len test (map seen xs)) m) (Some (position_or_len test (map seen xs))) None) (sym (length-map xs seen))

-- ---- what stands at the place of a search

module _ {A : Type 0} (test : A → Bool) (xs : List A) where
  pub found_there : option_and_then (slice_get xs) (position test xs) ≡ find test xs
  found_there = by_test (nat_lt (position_or_len test xs) (length xs)) refl
    where
      by_test : (b : Bool) → nat_lt (position_or_len test xs) (length xs) ≡ b → option_and_then (slice_get xs) (cond b (Some (position_or_len test xs)) None) ≡ find test xs
      by_test true e = sym (find_at test xs)
      by_test false e = sym (find_at test xs ∙ slice_get_past xs (position_or_len test xs) (ltb-false (position_or_len test xs) (length xs) e))

  pub place_within : IfSome (position test xs) (λ place. place < length xs)
  place_within = by_test (nat_lt (position_or_len test xs) (length xs)) refl
    where
      by_test : (b : Bool) → nat_lt (position_or_len test xs) (length xs) ≡ b → IfSome (cond b (Some (position_or_len test xs)) None) (λ place. place < length xs)
      by_test true e = ltb-true (position_or_len test xs) (length xs) e
      by_test false e = tt
