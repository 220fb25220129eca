-- Laws of contents for callers.
use Rattle.std.proofs.Common.{◌≡◌, ℕ, ◌<◌, ◌≤◌, max, cond, nat_eq, Bool, true, false, true≢false, List, [], ◌∷◌, ◌++◌, length, set, refl, sym, ap, ◌∙◌, arith}
use borrow.Author.Tests.{ne_eqb, eqb-true, eq-eqb}
use Rattle.jv_store.specs.Content.{words_at, greatest, written}
use Rattle.jv_store.proofs.Contents.{greatest-append, below, smaller}

pub greatest-append_above : (c : List (ℕ × List ℕ)) (a : ℕ) (ws : List ℕ) → greatest c < a → greatest (c ++ (a, ws) ∷ []) ≡ a
greatest-append_above c a ws h = omega (arith, greatest-append c a ws, h)

pub greatest-written : (c : List (ℕ × List ℕ)) (a i w : ℕ) → greatest (written c a i w) ≡ greatest c
greatest-written [] a i w = refl
greatest-written (b ∷ c) a i w =
    elim (nat_eq b.0 a) as (λ t. greatest (cond t ((b.0, set b.1 i w) ∷ c) (b ∷ written c a i w)) ≡ max b.0 (greatest c)) [
      | true ↦ refl
      | false ↦ ap (max b.0) (greatest-written c a i w)
    ]

pub written-newest : (c : List (ℕ × List ℕ)) (a : ℕ) (ws : List ℕ) (i w : ℕ) → greatest c < a → written (c ++ (a, ws) ∷ []) a i w ≡ c ++ (a, set ws i w) ∷ []
written-newest [] a ws i w h = rw (eq-eqb a a refl) refl
written-newest (b ∷ c) a ws i w h = rw (below b.0 (greatest c) a h) (ap (λ l. b ∷ l) (written-newest c a ws i w (smaller b.0 (greatest c) a h)))

pub words_within : (c : List (ℕ × List ℕ)) (a i : ℕ) → i < length (words_at c a) → a ≤ greatest c
words_within [] a i h = absurd (omega (arith, h))
words_within (b ∷ c) a i h =
    elim (nat_eq b.0 a) as (λ t. nat_eq b.0 a ≡ t → i < length (cond t b.1 (words_at c a)) → a ≤ max b.0 (greatest c)) [
      | true ↦ λ e _. let same : b.0 ≡ a = eqb-true b.0 a e in omega (arith, same)
      | false ↦ λ e g. omega (arith, words_within c a i g)
    ] refl h

pub words_at-append_any : (c : List (ℕ × List ℕ)) (a : ℕ) (ws : List ℕ) (q : ℕ) → greatest c < a → words_at (c ++ (a, ws) ∷ []) q ≡ cond (nat_eq a q) ws (words_at c q)
words_at-append_any [] a ws q h = refl
words_at-append_any (b ∷ c) a ws q h =
    elim (nat_eq b.0 q) as (λ t. nat_eq b.0 q ≡ t → cond t b.1 (words_at (c ++ (a, ws) ∷ []) q) ≡ cond (nat_eq a q) ws (cond t b.1 (words_at c q))) [
      | true ↦ λ e.
          let same : b.0 ≡ q = eqb-true b.0 q e in
          let other : nat_eq a q ≡ false = ne_eqb a q (λ f. omega (arith, h, same, f)) in
          rw other refl
      | false ↦ λ e. words_at-append_any c a ws q (smaller b.0 (greatest c) a h)
    ] refl

either_way : (b : Bool) (xs : List ℕ) → xs ≡ cond b xs xs
either_way true xs = refl
either_way false xs = refl

pub words_at-written : (c : List (ℕ × List ℕ)) (a i w q : ℕ) → words_at (written c a i w) q ≡ cond (nat_eq a q) (set (words_at c a) i w) (words_at c q)
words_at-written [] a i w q = either_way (nat_eq a q) []
words_at-written (b ∷ c) a i w q =
    elim (nat_eq b.0 a) as (λ t. nat_eq b.0 a ≡ t → words_at (cond t ((b.0, set b.1 i w) ∷ c) (b ∷ written c a i w)) q ≡ cond (nat_eq a q)
    (set (cond t b.1 (words_at c a)) i w) (cond (nat_eq b.0 q) b.1 (words_at c q))) [
      | true ↦ λ e.
          let same : nat_eq b.0 q ≡ nat_eq a q = ap (λ n. nat_eq n q) (eqb-true b.0 a e) in
          rw same (elim (nat_eq a q) as (λ t. cond t (set b.1 i w) (words_at c q) ≡ cond t (set b.1 i w) (cond t b.1 (words_at c q))) [ true ↦ refl | false ↦ refl ])
      | false ↦ λ e.
          elim (nat_eq b.0 q) as (λ t. nat_eq b.0 q ≡ t → cond t b.1 (words_at (written c a i w) q) ≡ cond (nat_eq a q) (set (words_at c a) i w) (cond t b.1 (words_at c q))) [
            | true ↦ λ f.
                let other : nat_eq a q ≡ false = ne_eqb a q (λ g. absurd (true≢false (sym (eq-eqb b.0 a (eqb-true b.0 q f ∙ sym g)) ∙ e))) in
                rw other refl
            | false ↦ λ f. words_at-written c a i w q
          ] refl
    ] refl
