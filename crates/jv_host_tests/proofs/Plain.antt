-- Laws of blocks in plain lists, whose addresses rise.
use Rattle.std.proofs.Common.{◌≡◌, ℕ, zero, suc, ◌<◌, cond, nat_eq, nat_lt, Bool, ◌&&◌, true, false, true≢false, List, [], ◌∷◌, ◌++◌, map, length, set, get_or, refl, sym, ap, ◌∙◌, subst, arith}
use Rattle.std.proofs.lemmas.List.{map-append}
use borrow.Author.Tests.{ne_eqb, eq-eqb, lt-ltb, ltb-true}
use Rattle.jv_store.specs.Content.{words_at, greatest, written}
use Rattle.jv_host_tests.specs.Plain.{mounting}

both : (x y : Bool) → x ≡ true → y ≡ true → (x && y) ≡ true
both true y p q = q
both false y p q = p

left_of : (x y : Bool) → (x && y) ≡ true → x ≡ true
left_of true y p = refl
left_of false y p = p

right_of : (x y : Bool) → (x && y) ≡ true → y ≡ true
right_of true y p = p
right_of false y p = absurd (true≢false (sym p))

pub mounting-append : (n : ℕ) (c : List (ℕ × List ℕ)) (a : ℕ) (ws : List ℕ) → mounting n c ≡ true → n < a → greatest c < a → mounting n (c ++ (a, ws) ∷ []) ≡ true
mounting-append n [] a ws m p h = both _ _ (lt-ltb n a p) refl
mounting-append n (b ∷ c) a ws m p h = both _ _ (left_of _ _ m) (mounting-append b.0 c a ws (right_of _ _ m) (omega (arith, h)) (omega (arith, h)))

pub at_itself : (a : ℕ) (xs ys : List ℕ) → cond (nat_eq a a) xs ys ≡ xs
at_itself a xs ys = rw (eq-eqb a a refl) refl

-- what stands before the last block
pub record Before (n : ℕ) (c : List (ℕ × List ℕ)) (a : ℕ) : Type 0 where
  pub rising : mounting n c ≡ true
  pub above : n < a
  pub below : greatest c < a

pub mounting-front : (n : ℕ) (c : List (ℕ × List ℕ)) (a : ℕ) (ws : List ℕ) → mounting n (c ++ (a, ws) ∷ []) ≡ true → Before n c a
mounting-front n [] a ws m = let p : n < a = ltb-true n a (left_of _ _ m) in record { rising = refl; above = p; below = omega (arith, p) }
mounting-front n (b ∷ c) a ws m =
    let p : n < b.0 = ltb-true n b.0 (left_of _ _ m) in
    let rest : Before b.0 c a = mounting-front b.0 c a ws (right_of _ _ m) in
    let q : b.0 < a = rest.above in
    let r : greatest c < a = rest.below in
    record { rising = both _ _ (left_of _ _ m) rest.rising; above = omega (arith, p, q); below = omega (arith, q, r) }

pub mounting-written : (n : ℕ) (c : List (ℕ × List ℕ)) (a i w : ℕ) → mounting n (written c a i w) ≡ mounting n c
mounting-written n [] a i w = refl
mounting-written n (b ∷ c) a i w =
    elim (nat_eq b.0 a) as (λ t. mounting n (cond t ((b.0, set b.1 i w) ∷ c) (b ∷ written c a i w)) ≡ (nat_lt n b.0 && mounting b.0 c)) [
      | true ↦ refl
      | false ↦ ap (λ t. nat_lt n b.0 && t) (mounting-written b.0 c a i w)
    ]

module _ {X : Type 0} (f : X → ℕ × List ℕ) where
  pub later : (n : ℕ) (xs : List X) (k : ℕ) (v : X) → mounting n (map f xs) ≡ true → k < length xs → v ≡ get_or xs k v → n < (f v).0
  later n [] k v m h e = absurd (omega (arith, h))
  later n (x ∷ xs) zero v m h e = let p : n < (f x).0 = ltb-true n (f x).0 (left_of _ _ m) in subst (λ y. n < (f y).0) (sym e) p
  later n (x ∷ xs) (suc k) v m h e =
      let p : n < (f x).0 = ltb-true n (f x).0 (left_of _ _ m) in
      let q : (f x).0 < (f v).0 = later (f x).0 xs k v (right_of _ _ m) (omega (arith, h)) e in
      omega (arith, p, q)

  pub read_block : (n : ℕ) (xs : List X) (k : ℕ) (v : X) → mounting n (map f xs) ≡ true → k < length xs → v ≡ get_or xs k v → words_at (map f xs) (f v).0 ≡ (f v).1
  read_block n [] k v m h e = absurd (omega (arith, h))
  read_block n (x ∷ xs) zero v m h e =
      let same : (f x).0 ≡ (f v).0 = ap (λ y. (f y).0) (sym e) in
      rw (eq-eqb (f x).0 (f v).0 same) (ap (λ y. (f y).1) (sym e))
  read_block n (x ∷ xs) (suc k) v m h e =
      let q : (f x).0 < (f v).0 = later (f x).0 xs k v (right_of _ _ m) (omega (arith, h)) e in
      let other : nat_eq (f x).0 (f v).0 ≡ false = ne_eqb (f x).0 (f v).0 (λ g. omega (arith, q, g)) in
      let inside : k < length xs = omega (arith, h) in
      rw other (read_block (f x).0 xs k v (right_of _ _ m) inside e)

  pub write_block : (n : ℕ) (xs : List X) (k : ℕ) (v after : X) (i w : ℕ) → mounting n (map f xs) ≡ true → k < length xs → v ≡ get_or xs k v →
      f after ≡ ((f v).0, set (f v).1 i w) → written (map f xs) (f v).0 i w ≡ map f (set xs k after)
  write_block n [] k v after i w m h e g = absurd (omega (arith, h))
  write_block n (x ∷ xs) zero v after i w m h e g =
      let same : (f x).0 ≡ (f v).0 = ap (λ y. (f y).0) (sym e) in
      rw (eq-eqb (f x).0 (f v).0 same) (ap (λ b. b ∷ map f xs) (ap (λ y. ((f y).0, set (f y).1 i w)) (sym e) ∙ sym g))
  write_block n (x ∷ xs) (suc k) v after i w m h e g =
      let q : (f x).0 < (f v).0 = later (f x).0 xs k v (right_of _ _ m) (omega (arith, h)) e in
      let other : nat_eq (f x).0 (f v).0 ≡ false = ne_eqb (f x).0 (f v).0 (λ r. omega (arith, q, r)) in
      let inside : k < length xs = omega (arith, h) in
      rw other (ap (λ l. f x ∷ l) (write_block (f x).0 xs k v after i w (right_of _ _ m) inside e g))

  -- the last block is the newest, and the rest stands before it
  pub record Last (xs rest : List X) (v : X) : Type 0 where
    pub whole : map f xs ≡ map f rest ++ ((f v).0, (f v).1) ∷ []
    pub before : Before 0 (map f rest) (f v).0

  pub last_block : (xs rest : List X) (v : X) → xs ≡ rest ++ v ∷ [] → mounting 0 (map f xs) ≡ true → Last xs rest v
  last_block xs rest v e m =
      let whole : map f xs ≡ map f rest ++ ((f v).0, (f v).1) ∷ [] = ap (map f) e ∙ map-append f rest (v ∷ []) in
      record { whole = whole; before = mounting-front 0 (map f rest) (f v).0 (f v).1 (ap (mounting 0) (sym whole) ∙ m) }
