-- Laws of one list of words that is cut into blocks.
use Rattle.std.proofs.Common.{◌≡◌, ℕ, ◌+◌, ◌-◌, ◌<◌, ◌≤◌, cond, nat_eq, true, false, List, [], ◌∷◌, ◌++◌, length, set, get_or, take, drop, refl, sym, ap, ◌∙◌, subst, arith, length-append, take-append-drop, length-drop, length-take}
use Rattle.std.proofs.lemmas.List.{take-append-le, drop-append-le, get_or-take, get_or-drop, take-set-le, drop-set-lt, drop-set-add}
use Rattle.std.proofs.Math.Seq.{take-append_seam, drop-append_seam, take-set-lt}
use borrow.Author.Tests.{eqb-true, eq-eqb, lt-ltb, ltb-true}
use Rattle.jv_store.specs.Content.{words_at, words_held, greatest, written}
use Rattle.jv_store.specs.Inside.Layouts.{cut, rising}
use Rattle.jv_store.proofs.Contents.{both, left_of, right_of}

pub rising_end : (s : ℕ) (ss : List ℕ) (n : ℕ) → rising (s ∷ ss) n ≡ true → s < n
rising_end s [] n p = ltb-true s n p
rising_end s (t ∷ ss) n p = omega (arith, ltb-true s t (left_of _ _ p), rising_end t ss n (right_of _ _ p))

pub rising_count : (s : ℕ) (ss : List ℕ) (n : ℕ) → rising (s ∷ ss) n ≡ true → s + length (s ∷ ss) ≤ n
rising_count s [] n p = omega (arith, ltb-true s n p)
rising_count s (t ∷ ss) n p = omega (arith, ltb-true s t (left_of _ _ p), rising_count t ss n (right_of _ _ p))

pub rising_append : (s : ℕ) (ss : List ℕ) (p n : ℕ) → rising (s ∷ ss) p ≡ true → p < n → rising ((s ∷ ss) ++ p ∷ []) n ≡ true
rising_append s [] p n r h = both _ _ r (lt-ltb p n h)
rising_append s (t ∷ ss) p n r h = both _ _ (left_of _ _ r) (rising_append t ss p n (right_of _ _ r) h)

pub rising_front : (s : ℕ) (ss : List ℕ) (p n : ℕ) → rising ((s ∷ ss) ++ p ∷ []) n ≡ true → (rising (s ∷ ss) p ≡ true) × (p < n)
rising_front s [] p n r = (left_of _ _ r, ltb-true p n (right_of _ _ r))
rising_front s (t ∷ ss) p n r =
    let rest : (rising (t ∷ ss) p ≡ true) × (p < n) = rising_front t ss p n (right_of _ _ r) in
    (both _ _ (left_of _ _ r) rest.0, rest.1)

pub cut-append : (s : ℕ) (ss ws zs : List ℕ) (p : ℕ) → rising (s ∷ ss) p ≡ true → p ≡ s + length ws → cut ((s ∷ ss) ++ p ∷ []) (ws ++ zs) ≡ cut (s ∷ ss) ws ++ (p + 1, zs) ∷ []
cut-append s [] ws zs p r e =
    let m : length ws ≡ p - s = omega (arith, e) in
    let front : take (p - s) (ws ++ zs) ≡ ws = ap (λ n. take n (ws ++ zs)) (sym m) ∙ take-append_seam ws zs in
    let back : drop (p - s) (ws ++ zs) ≡ zs = ap (λ n. drop n (ws ++ zs)) (sym m) ∙ drop-append_seam ws zs in
    ap (λ l. (s + 1, l) ∷ (p + 1, drop (p - s) (ws ++ zs)) ∷ []) front ∙ ap (λ l. (s + 1, ws) ∷ (p + 1, l) ∷ []) back
cut-append s (t ∷ ss) ws zs p r e =
    let st : s < t = ltb-true s t (left_of _ _ r) in
    let tp : t < p = rising_end t ss p (right_of _ _ r) in
    let m : t - s ≤ length ws = omega (arith, e, st, tp) in
    let rest : cut ((t ∷ ss) ++ p ∷ []) (drop (t - s) ws ++ zs) ≡ cut (t ∷ ss) (drop (t - s) ws) ++ (p + 1, zs) ∷ [] =
    cut-append t ss (drop (t - s) ws) zs p (right_of _ _ r) (omega (arith, e, st, tp, length-drop (t - s) ws)) in
    ap (λ l. (s + 1, l) ∷ cut ((t ∷ ss) ++ p ∷ []) (drop (t - s) (ws ++ zs))) (take-append-le (t - s) ws zs m)
    ∙ ap (λ l. (s + 1, take (t - s) ws) ∷ l) (ap (λ l. cut ((t ∷ ss) ++ p ∷ []) l) (drop-append-le (t - s) ws zs m) ∙ rest)

pub greatest-cut : (s : ℕ) (ss ws : List ℕ) (n : ℕ) → rising (s ∷ ss) n ≡ true → greatest (cut (s ∷ ss) ws) ≤ n
greatest-cut s [] ws n r = omega (arith, ltb-true s n r)
greatest-cut s (t ∷ ss) ws n r = omega (arith, ltb-true s t (left_of _ _ r), rising_end t ss n (right_of _ _ r), greatest-cut t ss (drop (t - s) ws) n (right_of _ _ r))

pub held-cut : (s : ℕ) (ss ws : List ℕ) → words_held (cut (s ∷ ss) ws) ≡ length ws
held-cut s [] ws = omega arith
held-cut s (t ∷ ss) ws = omega (arith, held-cut t ss (drop (t - s) ws), ap length (take-append-drop (t - s) ws), length-append (take (t - s) ws) (drop (t - s) ws))

pub cut_above : (s : ℕ) (ss ws : List ℕ) (n a i : ℕ) → rising (s ∷ ss) n ≡ true → i < length (words_at (cut (s ∷ ss) ws) a) → s < a
cut_above s [] ws n a i r h =
    elim (nat_eq (s + 1) a) as (λ b. nat_eq (s + 1) a ≡ b → i < length (cond b ws []) → s < a) [
      | true ↦ λ e _. let same : s + 1 ≡ a = eqb-true (s + 1) a e in omega (arith, same)
      | false ↦ λ e g. absurd (omega (arith, g))
    ] refl h
cut_above s (t ∷ ss) ws n a i r h =
    elim (nat_eq (s + 1) a) as (λ b. nat_eq (s + 1) a ≡ b → i < length (cond b (take (t - s) ws) (words_at (cut (t ∷ ss) (drop (t - s) ws)) a)) → s < a) [
      | true ↦ λ e _. let same : s + 1 ≡ a = eqb-true (s + 1) a e in omega (arith, same)
      | false ↦ λ e g. omega (arith, cut_above t ss (drop (t - s) ws) n a i (right_of _ _ r) g, ltb-true s t (left_of _ _ r))
    ] refl h

-- word i of the block at an address stands at position j
pub record At (s : ℕ) (ss ws : List ℕ) (a i j : ℕ) : Type 0 where
  pub inside : j < length ws
  pub read : get_or ws j 0 ≡ get_or (words_at (cut (s ∷ ss) ws) a) i 0
  pub write : (w : ℕ) → cut (s ∷ ss) (set ws j w) ≡ written (cut (s ∷ ss) ws) a i w

cut_at_first : (s : ℕ) (ss ws : List ℕ) (a i j : ℕ) → s + 1 ≡ a → i ≡ j → (i < length (words_at (cut (s ∷ ss) ws) a)) → At s ss ws a i j
cut_at_first s [] ws a i j same e h =
    let q : nat_eq (s + 1) a ≡ true = eq-eqb (s + 1) a same in
    let g : i < length ws = subst (λ b. i < length (cond b ws [])) q h in
    record {
      inside = omega (arith, g, e);
      read = rw q (ap (λ k. get_or ws k 0) (sym e));
      write = λ w. rw q (ap (λ k. (s + 1, set ws k w) ∷ []) (sym e));
    }
cut_at_first s (t ∷ ss) ws a i j same e h =
    let q : nat_eq (s + 1) a ≡ true = eq-eqb (s + 1) a same in
    let g : i < length (take (t - s) ws) = subst (λ b. i < length (cond b (take (t - s) ws) (words_at (cut (t ∷ ss) (drop (t - s) ws)) a))) q h in
    let short : i < t - s = omega (arith, g, length-take (t - s) ws) in
    let whole : i < length ws = omega (arith, g, ap length (take-append-drop (t - s) ws), length-append (take (t - s) ws) (drop (t - s) ws)) in
    record {
      inside = omega (arith, whole, e);
      read = rw q (ap (λ k. get_or ws k 0) (sym e) ∙ sym (get_or-take (t - s) ws i 0 short));
      write = λ w. rw q (ap (λ k. cut (s ∷ t ∷ ss) (set ws k w)) (sym e)
          ∙ (ap (λ l. (s + 1, l) ∷ cut (t ∷ ss) (drop (t - s) (set ws i w))) (take-set-lt (t - s) ws i w short)
          ∙ ap (λ l. (s + 1, set (take (t - s) ws) i w) ∷ cut (t ∷ ss) l) (drop-set-lt (t - s) ws i w short)));
    }

cut_at_later : (s t : ℕ) (ss ws : List ℕ) (a i j : ℕ) → s < t → t < a → a + i ≡ s + j + 1 → nat_eq (s + 1) a ≡ false → At t ss (drop (t - s) ws) a i (j - (t - s)) → At s (t ∷ ss) ws a i j
cut_at_later s t ss ws a i j st ta e q there =
    let m : j ≡ (t - s) + (j - (t - s)) = omega (arith, st, ta, e) in
    let late : t - s ≤ j = omega (arith, st, ta, e) in
    record {
      inside = omega (arith, there.inside, length-drop (t - s) ws, late);
      read = rw q (ap (λ k. get_or ws k 0) m ∙ (sym (get_or-drop (t - s) ws (j - (t - s)) 0) ∙ there.read));
      write = λ w. rw q (ap (λ l. (s + 1, l) ∷ cut (t ∷ ss) (drop (t - s) (set ws j w))) (take-set-le (t - s) ws j w late)
          ∙ ap (λ l. (s + 1, take (t - s) ws) ∷ l) (ap (λ k. cut (t ∷ ss) (drop (t - s) (set ws k w))) m ∙ (ap (λ l. cut (t ∷ ss) l) (drop-set-add (t - s) ws (j - (t - s)) w) ∙ there.write w)));
    }

pub cut_at : (s : ℕ) (ss ws : List ℕ) (n a i j : ℕ) → rising (s ∷ ss) n ≡ true → a + i ≡ s + j + 1 → i < length (words_at (cut (s ∷ ss) ws) a) → At s ss ws a i j
cut_at s [] ws n a i j r e h =
    elim (nat_eq (s + 1) a) as (λ b. nat_eq (s + 1) a ≡ b → i < length (cond b ws []) → At s [] ws a i j) [
      | true ↦ λ q _. let same : s + 1 ≡ a = eqb-true (s + 1) a q in cut_at_first s [] ws a i j same (omega (arith, same, e)) h
      | false ↦ λ q g. absurd (omega (arith, g))
    ] refl h
cut_at s (t ∷ ss) ws n a i j r e h =
    elim (nat_eq (s + 1) a) as (λ b. nat_eq (s + 1) a ≡ b → i < length (cond b (take (t - s) ws) (words_at (cut (t ∷ ss) (drop (t - s) ws)) a)) → At s (t ∷ ss) ws a i j) [
      | true ↦ λ q _. let same : s + 1 ≡ a = eqb-true (s + 1) a q in cut_at_first s (t ∷ ss) ws a i j same (omega (arith, same, e)) h
      | false ↦ λ q g.
          let st : s < t = ltb-true s t (left_of _ _ r) in
          let ta : t < a = cut_above t ss (drop (t - s) ws) n a i (right_of _ _ r) g in
          cut_at_later s t ss ws a i j st ta e q (cut_at t ss (drop (t - s) ws) n a i (j - (t - s)) (right_of _ _ r) (omega (arith, st, ta, e)) g)
    ] refl h
