-- Rows of greatest numbers, where numbers are the same, and where one is raised.
use Rattle.std.proofs.Common.{zero, suc, ◌-◌, ◌++◌, [], ◌∷◌, take, append_assoc, ◌≡◌, ◌≢◌, ◌⊎◌, inl, inr, ℕ, ◌+◌, ◌*◌, ◌/◌, ◌<◌, ◌≤◌, List, length, get_or, set, replicate, max, refl, ap, sym, ◌∙◌, subst, arith}
use Rattle.std.proofs.lemmas.Bool.{cases_lt}
use Rattle.std.proofs.lemmas.Grind.{get_or_default_zero}
use Rattle.std.proofs.lemmas.List.{get_or-replicate, get_or-set_same, get_or-set_other, length-replicate, length-set, length-take, set_past, take_more}
use Rattle.jv_verify_peaks.specs.Stretches.{AreAtMost, IsGreatest}
use Rattle.jv_verify_peaks.specs.Inside.Rows.{IsRow}

-- ---- all the same

pub row_of_same : (size count many value : ℕ) → ((n : ℕ) → (n + 1) * size ≤ count → (n * size / size ≡ n) × (n * size < count))
    → ((n : ℕ) → (n + 1) * size ≤ count → n < many)
    → IsRow size (replicate count value) (replicate many value)
row_of_same size count many value first there = record {
  many = λ n le. subst (λ c. n < c) (sym (length-replicate many value)) (there n (subst (λ c. (n + 1) * size ≤ c) (length-replicate count value) le));
  bounds = λ k lt row_lt. let less : k < count = subst (λ c. k < c) (length-replicate count value) lt in
      let row_less : k / size < many = subst (λ c. k / size < c) (length-replicate many value) row_lt in
      let one = get_or-replicate count k value 0 less in let other = get_or-replicate many (k / size) value 0 row_less in
      omega (arith, one, other);
  reached = λ n le. let less : (n + 1) * size ≤ count = subst (λ c. (n + 1) * size ≤ c) (length-replicate count value) le in (
    n * size,
    (first n less).0,
    get_or-replicate count (n * size) value 0 (first n less).1 ∙ sym (get_or-replicate many n value 0 (there n less)),
  );
}

-- ---- one is raised

abbrev pub raised : List ℕ → ℕ → ℕ → List ℕ
raised numbers place value = set numbers place (max (get_or numbers place 0) value)

pub raised_at : (numbers : List ℕ) (place k value : ℕ) → k ≡ place → place < length numbers
    → get_or (raised numbers place value) k 0 ≡ max (get_or numbers k 0) value
raised_at numbers place k value is lt = rw is (get_or-set_same numbers place _ 0 lt)

pub raised_other : (numbers : List ℕ) (place k value : ℕ) → k ≢ place → get_or (raised numbers place value) k 0 ≡ get_or numbers k 0
raised_other numbers place k value other = get_or-set_other numbers place k _ 0 other

same_or : (k n : ℕ) → (k ≡ n) ⊎ (k ≢ n)
same_or k n = elim (cases_lt k n) [ inl lt ↦ inr (omega arith) | inr ge ↦ elim (cases_lt n k) [ inl less ↦ inr (omega arith) | inr le ↦ inl (omega arith) ] ]

pub raised_past : (numbers : List ℕ) (place value : ℕ) → length numbers ≤ place → raised numbers place value ≡ numbers
raised_past numbers place value le = set_past numbers place _ le

module _ (size place value : ℕ) (numbers row : List ℕ) (is : IsRow size numbers row) (lt : place < length numbers) where
  bounds_of : (k : ℕ) → k < length numbers → k / size < length row
      → get_or (raised numbers place value) k 0 ≤ get_or (raised row (place / size) value) (k / size) 0
  bounds_of k there row_there =
      let old = is.bounds k there row_there in
      elim (same_or k place) [
        | inl at ↦
            let one = raised_at numbers place k value at lt in
            let block : place / size < length row = subst (λ j. j / size < length row) at row_there in
            let other = raised_at row (place / size) (k / size) value (ap (λ j. j / size) at) block in
            omega (arith, one, other, old)
        | inr apart ↦
            let one = raised_other numbers place k value apart in
            elim (same_or (k / size) (place / size)) [
              | inl beside ↦
                  let block : place / size < length row = subst (λ n. n < length row) beside row_there in
                  let other = raised_at row (place / size) (k / size) value beside block in omega (arith, one, other, old)
              | inr far ↦ let other = raised_other row (place / size) (k / size) value far in omega (arith, one, other, old)
            ]
      ]

  reached_of : (n : ℕ) → n < length row → (k : ℕ) × (k / size ≡ n) × (get_or numbers k 0 ≡ get_or row n 0)
      → (k : ℕ) × (k / size ≡ n) × (get_or (raised numbers place value) k 0 ≡ get_or (raised row (place / size) value) n 0)
  reached_of n there was =
      elim (same_or n (place / size)) [
        | inl beside ↦
            let block : place / size < length row = subst (λ j. j < length row) beside there in
            let row_is = raised_at row (place / size) n value beside block in
            elim (cases_lt (get_or row n 0) value) [
              | inl above ↦
                  let bound : get_or numbers place 0 ≤ get_or row n 0 =
                  subst (λ j. get_or numbers place 0 ≤ get_or row j 0) (sym beside) (is.bounds place lt block) in
                  let one = raised_at numbers place place value refl lt in
                  let same : get_or (raised numbers place value) place 0 ≡ get_or (raised row (place / size) value) n 0 = omega (arith, one, row_is, bound, above) in
                  (place, sym beside, same)
              | inr below ↦
                  let was_is = was.2 in
                  elim (same_or was.0 place) [
                    | inl at ↦
                        let one = raised_at numbers place was.0 value at lt in
                        let same : get_or (raised numbers place value) was.0 0 ≡ get_or (raised row (place / size) value) n 0 = omega (arith, one, row_is, was_is, below) in
                        (was.0, was.1, same)
                    | inr apart ↦
                        let one = raised_other numbers place was.0 value apart in
                        let same : get_or (raised numbers place value) was.0 0 ≡ get_or (raised row (place / size) value) n 0 = omega (arith, one, row_is, was_is, below) in
                        (was.0, was.1, same)
                  ]
            ]
        | inr far ↦
            let apart : was.0 ≢ place = λ at. far (sym was.1 ∙ ap (λ j. j / size) at) in
            (was.0, was.1, raised_other numbers place was.0 value apart ∙ was.2 ∙ sym (raised_other row (place / size) n value far))
      ]

  pub row_raised : IsRow size (raised numbers place value) (raised row (place / size) value)
  row_raised =
      let older : (n : ℕ) → n ≤ length (raised numbers place value) → n ≤ length numbers = λ n le. subst (λ c. n ≤ c) (length-set numbers place _) le in
      record {
        many = λ n le. subst (λ c. n < c) (sym (length-set row (place / size) _)) (is.many n (older _ le));
        bounds = λ k less there. bounds_of k (older _ less) (subst (λ c. k / size < c) (length-set row (place / size) _) there);
        reached = λ n le. reached_of n (is.many n (older _ le)) (is.reached n (older _ le));
      }

pub row_raised_at : (size place value : ℕ) (numbers row more row_more : List ℕ) → more ≡ raised numbers place value → row_more ≡ raised row (place / size) value
    → IsRow size numbers row → place < length numbers → IsRow size more row_more
row_raised_at size place value numbers row more row_more one other is lt = rw one (rw other (row_raised size place value numbers row is lt))

pub row_same : (size count many value : ℕ) (numbers row : List ℕ) → numbers ≡ replicate count value → row ≡ replicate many value
    → ((n : ℕ) → (n + 1) * size ≤ count → (n * size / size ≡ n) × (n * size < count))
    → ((n : ℕ) → (n + 1) * size ≤ count → n < many) → IsRow size numbers row
row_same size count many value numbers row one other first there = rw one (rw other (row_of_same size count many value first there))

-- ---- the greatest of those that a row has one number for

pub row_has : (size at to : ℕ) (numbers row : List ℕ) → IsRow size numbers row → to ≤ length numbers → (at / size + 1) * size ≤ to → at / size < length row
row_has size at to numbers row is within full = is.many (at / size) (omega (arith, within, full))

pub low_in_row : (size block from bound number : ℕ) (numbers row : List ℕ) → IsRow size numbers row → (block + 1) * size ≤ length numbers
    → ((k : ℕ) → from ≤ k → k < from + size → (k < length numbers) × (k / size ≡ block)) → number ≡ get_or row block number → number ≤ bound
    → AreAtMost bound from (from + size) numbers
low_in_row size block from bound number numbers row is full there number_is low = λ k le lt.
    let here = there k le lt in
    let has : block < length row = is.many block full in
    let old = is.bounds k here.0 (subst (λ n. n < length row) (sym here.1) has) in
    let row_is : get_or row (k / size) 0 ≡ number = ap (λ n. get_or row n 0) here.1 ∙ sym (number_is ∙ get_or_default_zero row block number has) in
    omega (arith, old, row_is, low)

pub greatest_of_row : (size at to top : ℕ) (numbers row : List ℕ) → IsRow size numbers row → to ≤ length numbers → at + size ≤ to
    → ((k : ℕ) → at ≤ k → k < at + size → k / size ≡ at / size) → ((k : ℕ) → k / size ≡ at / size → (at ≤ k) × (k < at + size))
    → (at / size + 1) * size ≤ to → 0 < size → top ≡ get_or row (at / size) top → IsGreatest at (at + size) numbers top
greatest_of_row size at to top numbers row is within fits there back full some top_is =
    let here : at / size < length row = row_has size at to numbers row is within full in
    let top_at : top ≡ get_or row (at / size) 0 = top_is ∙ get_or_default_zero row (at / size) top here in record {
      bounds = low_in_row size (at / size) at top top numbers row is (omega (arith, full, within)) (λ k le lt. (omega (arith, lt, fits, within), there k le lt)) top_is
          (omega arith);
      reached =
          let found = is.reached (at / size) (omega (arith, full, within)) in
          let place = back found.0 found.1 in
          inr (found.0, place.0, place.1, found.2 ∙ sym top_at);
    }

-- ---- numbers that are raised one by one from 0 on

get_or_at : (xs : List ℕ) (y : ℕ) (ys : List ℕ) (n : ℕ) → length xs ≡ n → get_or (xs ++ y ∷ ys) n 0 ≡ y
get_or_at [] y ys zero is = refl
get_or_at [] y ys (suc n) is = absurd (omega (arith, is))
get_or_at (x ∷ xs) y ys zero is = absurd (omega (arith, is))
get_or_at (x ∷ xs) y ys (suc n) is = get_or_at xs y ys n (omega (arith, is))

set_at : (xs : List ℕ) (y : ℕ) (ys : List ℕ) (n z : ℕ) → length xs ≡ n → set (xs ++ y ∷ ys) n z ≡ xs ++ z ∷ ys
set_at [] y ys zero z is = refl
set_at [] y ys (suc n) z is = absurd (omega (arith, is))
set_at (x ∷ xs) y ys zero z is = absurd (omega (arith, is))
set_at (x ∷ xs) y ys (suc n) z is = ap (λ rest. x ∷ rest) (set_at xs y ys n z (omega (arith, is)))

pub filled : (values peaks more : List ℕ) (place value : ℕ) → place < length values → peaks ≡ take place values ++ replicate (length values - place) 0
    → value ≡ get_or values place 0 → more ≡ raised peaks place value → more ≡ take (place + 1) values ++ replicate (length values - (place + 1)) 0
filled values peaks more place value lt is value_is more_is =
    let m = length values - (place + 1) in
    let e : length values - place ≡ suc m = omega arith in
    let rest : replicate (length values - place) 0 ≡ 0 ∷ replicate m 0 = ap (λ n. replicate n 0) e in
    let now : peaks ≡ take place values ++ 0 ∷ replicate m 0 = is ∙ ap (λ ys. take place values ++ ys) rest in
    let front : length (take place values) ≡ place = omega (arith, length-take place values) in
    let none : get_or peaks place 0 ≡ 0 = ap (λ xs. get_or xs place 0) now ∙ get_or_at (take place values) 0 (replicate m 0) place front in
    let top : max (get_or peaks place 0) value ≡ get_or values place 0 = omega (arith, none, value_is) in
    more_is ∙ (ap (λ y. set peaks place y) top ∙ (ap (λ xs. set xs place (get_or values place 0)) now
    ∙ (set_at (take place values) 0 (replicate m 0) place (get_or values place 0) front
    ∙ (sym (append_assoc (take place values) (get_or values place 0 ∷ []) (replicate m 0))
    ∙ ap (λ xs. xs ++ replicate m 0) (sym (take_more values place 0 lt))))))
