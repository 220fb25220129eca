-- Laws of contents: what a block at the end adds, and what a write keeps.
use Rattle.std.proofs.Common.{◌≡◌, ℕ, ◌+◌, ◌<◌, ◌≤◌, max, cond, nat_eq, nat_lt, Bool, ◌&&◌, true, false, true≢false, List, [], ◌∷◌, ◌++◌, length, set, replicate, refl, sym, ap, subst, ◌∙◌, arith, length-set}
use Rattle.std.proofs.lemmas.List.{length-replicate}
use borrow.Author.Tests.{ne_eqb, eq-eqb, lt-ltb, ltb-true, eqb-true}
use Rattle.jv_store.specs.Content.{words_at, words_held, greatest, written, without, rises_from}
use Rattle.jv_store.specs.Inside.Layouts.{none_empty}

pub words_held-append : (c : List (ℕ × List ℕ)) (a : ℕ) (ws : List ℕ) → words_held (c ++ (a, ws) ∷ []) ≡ words_held c + length ws
words_held-append [] a ws = omega arith
words_held-append (b ∷ c) a ws = omega (arith, words_held-append c a ws)

pub greatest-append : (c : List (ℕ × List ℕ)) (a : ℕ) (ws : List ℕ) → greatest (c ++ (a, ws) ∷ []) ≡ max (greatest c) a
greatest-append [] a ws = omega arith
greatest-append (b ∷ c) a ws = omega (arith, greatest-append c a ws)

pub below : (b c a : ℕ) → max b c < a → nat_eq b a ≡ false
below b c a h = ne_eqb b a (λ e. omega arith)

pub smaller : (b c a : ℕ) → max b c < a → c < a
smaller b c a h = omega arith

pub without-append : (c : List (ℕ × List ℕ)) (a : ℕ) (ws : List ℕ) → greatest c < a → without (c ++ (a, ws) ∷ []) a ≡ c
without-append [] a ws h = rw (eq-eqb a a refl) refl
without-append (b ∷ c) a ws h = rw (below b.0 (greatest c) a h) (ap (λ l. b ∷ l) (without-append c a ws (smaller b.0 (greatest c) a h)))

pub words_held-written : (c : List (ℕ × List ℕ)) (a i w : ℕ) → words_held (written c a i w) ≡ words_held c
words_held-written [] a i w = refl
words_held-written (b ∷ c) a i w =
    elim (nat_eq b.0 a) as (λ t. words_held (cond t ((b.0, set b.1 i w) ∷ c) (b ∷ written c a i w)) ≡ length b.1 + words_held c) [
      | true ↦ ap (λ n. n + words_held c) (length-set b.1 i w)
      | false ↦ ap (λ n. length b.1 + n) (words_held-written c a i w)
    ]

pub words_at-append : (c : List (ℕ × List ℕ)) (a : ℕ) (ws : List ℕ) → greatest c < a → words_at (c ++ (a, ws) ∷ []) a ≡ ws
words_at-append [] a ws h = rw (eq-eqb a a refl) refl
words_at-append (b ∷ c) a ws h = rw (below b.0 (greatest c) a h) (words_at-append c a ws (smaller b.0 (greatest c) a h))

-- a block at the end, above all others, is the one with the greatest address
pub record IsNewest (content c : List (ℕ × List ℕ)) (m : ℕ) (ws : List ℕ) (a : ℕ) : Type 0 where
  pub address : a ≡ m
  pub words : words_at content a ≡ ws
  pub rest : without content a ≡ c
  pub held : words_held content ≡ words_held c + length ws
  pub last : content ≡ c ++ (m, ws) ∷ []

newest_last : (c : List (ℕ × List ℕ)) (m : ℕ) (ws : List ℕ) → greatest c < m → IsNewest (c ++ (m, ws) ∷ []) c m ws m
newest_last c m ws h = record { address = refl; words = words_at-append c m ws h; rest = without-append c m ws h; held = words_held-append c m ws; last = refl }

pub newest_is : (content c : List (ℕ × List ℕ)) (m : ℕ) (ws : List ℕ) (a : ℕ) → content ≡ c ++ (m, ws) ∷ [] → greatest c < m → a ≡ greatest content → IsNewest content c m ws a
newest_is content c m ws a e h g =
    let here : m ≡ a = omega (arith, h, g, ap greatest e, greatest-append c m ws) in
    subst (λ x. IsNewest content c m ws x) here (subst (λ x. IsNewest x c m ws m) (sym e) (newest_last c m ws h))

pub both : (x y : Bool) → x ≡ true → y ≡ true → (x && y) ≡ true
both true y p q = q
both false y p q = p

pub left_of : (x y : Bool) → (x && y) ≡ true → x ≡ true
left_of true y p = refl
left_of false y p = p

pub right_of : (x y : Bool) → (x && y) ≡ true → y ≡ true
right_of true y p = p
right_of false y p = absurd (true≢false (sym p))

pub none_empty-append : (c : List (ℕ × List ℕ)) (a : ℕ) (ws : List ℕ) → none_empty c ≡ true → 1 ≤ length ws → none_empty (c ++ (a, ws) ∷ []) ≡ true
none_empty-append [] a ws p h = both _ _ (lt-ltb 0 (length ws) (omega (arith, h))) refl
none_empty-append (b ∷ c) a ws p h = both _ _ (left_of _ _ p) (none_empty-append c a ws (right_of _ _ p) h)

pub none_empty-front : (c : List (ℕ × List ℕ)) (a : ℕ) (ws : List ℕ) → none_empty (c ++ (a, ws) ∷ []) ≡ true → none_empty c ≡ true
none_empty-front [] a ws p = refl
none_empty-front (b ∷ c) a ws p = both _ _ (left_of _ _ p) (none_empty-front c a ws (right_of _ _ p))

pub none_empty-written : (c : List (ℕ × List ℕ)) (a i w : ℕ) → none_empty (written c a i w) ≡ none_empty c
none_empty-written [] a i w = refl
none_empty-written (b ∷ c) a i w =
    elim (nat_eq b.0 a) as (λ t. none_empty (cond t ((b.0, set b.1 i w) ∷ c) (b ∷ written c a i w)) ≡ (nat_lt 0 (length b.1) && none_empty c)) [
      | true ↦ ap (λ n. nat_lt 0 n && none_empty c) (length-set b.1 i w)
      | false ↦ ap (λ n. nat_lt 0 (length b.1) && n) (none_empty-written c a i w)
    ]

pub none_empty-count : (c : List (ℕ × List ℕ)) → none_empty c ≡ true → length c ≤ words_held c
none_empty-count [] p = omega arith
none_empty-count (b ∷ c) p =
    let some : 0 < length b.1 = ltb-true 0 (length b.1) (left_of _ _ p) in
    omega (arith, some, none_empty-count c (right_of _ _ p))

pub newest_solid : {content c : List (ℕ × List ℕ)} {m : ℕ} {ws : List ℕ} {a : ℕ} → IsNewest content c m ws a → none_empty content ≡ true → none_empty c ≡ true
newest_solid {content} {c} {m} {ws} newest p = none_empty-front c m ws (ap none_empty (sym newest.last) ∙ p)

-- what a content with one more block of zeros holds
pub record Grows (content c : List (ℕ × List ℕ)) (len : ℕ) : Type 0 where
  pub held : words_held content ≡ words_held c + len
  pub solid : none_empty c ≡ true → none_empty content ≡ true

pub grows : (content c : List (ℕ × List ℕ)) (a len : ℕ) → 1 ≤ len → content ≡ c ++ (a, replicate len 0) ∷ [] → Grows content c len
grows content c a len h e = record {
  held = ap words_held e ∙ (words_held-append c a (replicate len 0) ∙ ap (λ n. words_held c + n) (length-replicate {A = ℕ} len 0));
  solid = λ p. ap none_empty e ∙ none_empty-append c a (replicate len 0) p (omega (arith, h, length-replicate {A = ℕ} len 0));
}

-- ---- a write to an older block

pub written-append : (c : List (ℕ × List ℕ)) (a b i w : ℕ) (ws : List ℕ) → (b ≡ a → ⊥) → written (c ++ (a, ws) ∷ []) b i w ≡ written c b i w ++ (a, ws) ∷ []
written-append [] a b i w ws other = let no : nat_eq a b ≡ false = ne_eqb a b (λ e. other (sym e)) in rw no refl
written-append (block ∷ c) a b i w ws other =
    elim (nat_eq block.0 b) as (λ t. cond t ((block.0, set block.1 i w) ∷ (c ++ (a, ws) ∷ [])) (block ∷ written (c ++ (a, ws) ∷ []) b i w)
    ≡ cond t ((block.0, set block.1 i w) ∷ c) (block ∷ written c b i w) ++ (a, ws) ∷ []) [
      | true ↦ refl
      | false ↦ ap (λ l. block ∷ l) (written-append c a b i w ws other)
    ]

-- ---- addresses rise

parts_of : (x y : Bool) → (x && y) ≡ true → (x ≡ true) × (y ≡ true)
parts_of true y p = (refl, p)
parts_of false y p = absurd cc

pub rises-append : (n : ℕ) (c : List (ℕ × List ℕ)) (a : ℕ) (ws : List ℕ) → rises_from n c ≡ true → n < a → greatest c < a → rises_from n (c ++ (a, ws) ∷ []) ≡ true
rises-append n [] a ws h lt above = both (nat_lt n a) true (lt-ltb n a lt) refl
rises-append n (block ∷ c) a ws h lt above =
    let p = parts_of (nat_lt n block.0) (rises_from block.0 c) h in
    both _ _ p.0 (rises-append block.0 c a ws p.1 (omega (arith, above)) (smaller block.0 (greatest c) a above))

pub rises-written : (n : ℕ) (c : List (ℕ × List ℕ)) (a i w : ℕ) → rises_from n c ≡ true → rises_from n (written c a i w) ≡ true
rises-written n [] a i w h = refl
rises-written n (block ∷ c) a i w h =
    let p = parts_of (nat_lt n block.0) (rises_from block.0 c) h in
    elim (nat_eq block.0 a) as (λ t. rises_from n (cond t ((block.0, set block.1 i w) ∷ c) (block ∷ written c a i w)) ≡ true) [
      | true ↦ both _ _ p.0 p.1
      | false ↦ both _ _ p.0 (rises-written block.0 c a i w p.1)
    ]

rises_lower : (n m : ℕ) (c : List (ℕ × List ℕ)) → n < m → rises_from m c ≡ true → rises_from n c ≡ true
rises_lower n m [] lt h = refl
rises_lower n m (block ∷ c) lt h =
    let p = parts_of (nat_lt m block.0) (rises_from block.0 c) h in
    both _ _ (lt-ltb n block.0 (omega (arith, lt, ltb-true m block.0 p.0))) p.1

pub rises-without : (n : ℕ) (c : List (ℕ × List ℕ)) (a : ℕ) → rises_from n c ≡ true → rises_from n (without c a) ≡ true
rises-without n [] a h = refl
rises-without n (block ∷ c) a h =
    let p = parts_of (nat_lt n block.0) (rises_from block.0 c) h in
    elim (nat_eq block.0 a) as (λ t. rises_from n (cond t c (block ∷ without c a)) ≡ true) [
      | true ↦ rises_lower n block.0 c (ltb-true n block.0 p.0) p.1
      | false ↦ both _ _ p.0 (rises-without block.0 c a p.1)
    ]

pub rises_above : (n : ℕ) (c : List (ℕ × List ℕ)) (a i : ℕ) → rises_from n c ≡ true → i < length (words_at c a) → n < a
rises_above n [] a i h lt = omega (arith, lt)
rises_above n (block ∷ c) a i h lt = by_test (nat_eq block.0 a) refl lt (λ l. rises_above block.0 c a i (parts_of (nat_lt n block.0) (rises_from block.0 c) h).1 l)
  where
    by_test : (t : Bool) → nat_eq block.0 a ≡ t → i < length (cond t block.1 (words_at c a)) → (i < length (words_at c a) → block.0 < a) → n < a
    by_test true e l later = omega (arith, eqb-true block.0 a e, ltb-true n block.0 (parts_of (nat_lt n block.0) (rises_from block.0 c) h).0)
    by_test false e l later = omega (arith, later l, ltb-true n block.0 (parts_of (nat_lt n block.0) (rises_from block.0 c) h).0)
