-- Laws of blocks that fill one list of words from its start to its end.
use Rattle.std.proofs.Common.{◌≡◌, ℕ, ◌+◌, ◌-◌, ◌<◌, ◌≤◌, true, false, true≢false, List, [], ◌∷◌, ◌++◌, length, set, get_or, take, drop, Option, Some, None, IsSome, refl, sym, ap, ◌∙◌, subst, arith, take-append-drop, length-take, length-drop}
use Rattle.std.specs.Option.{option_to_list}
use borrow.Author.Tests.{eqb-true, lt-ltb, ltb-true}
use Rattle.jv_store.specs.Content.{words_at, words_held, greatest, written}
use Rattle.jv_store.specs.Inside.Layouts.{cut, rising, fill}
use Rattle.jv_store.proofs.Contents.{IsNewest, newest_is, greatest-append, both, left_of, right_of}
use Rattle.jv_store.proofs.Cuts.{rising_count, rising_append, rising_front, cut-append, greatest-cut, held-cut, cut_above, cut_at}

pub fill-append : (ss : List ℕ) (p n : ℕ) → fill ss p ≡ true → p < n → fill (ss ++ p ∷ []) n ≡ true
fill-append [] p n f h = both _ _ f (lt-ltb p n h)
fill-append (s ∷ ss) p n f h = both _ _ (left_of _ _ f) (rising_append s ss p n (right_of _ _ f) h)

pub fill_front : (ss : List ℕ) (p n : ℕ) → fill (ss ++ p ∷ []) n ≡ true → (fill ss p ≡ true) × (p < n)
fill_front [] p n f = (left_of _ _ f, ltb-true p n (right_of _ _ f))
fill_front (s ∷ ss) p n f =
    let rest : (rising (s ∷ ss) p ≡ true) × (p < n) = rising_front s ss p n (right_of _ _ f) in
    (both _ _ (left_of _ _ f) rest.0, rest.1)

pub fill_count : (ss : List ℕ) (n : ℕ) → fill ss n ≡ true → length ss ≤ n
fill_count [] n f = omega arith
fill_count (s ∷ ss) n f = omega (arith, rising_count s ss n (right_of _ _ f))

pub fill_held : (ss ws : List ℕ) → fill ss (length ws) ≡ true → words_held (cut ss ws) ≡ length ws
fill_held [] ws f = sym (eqb-true (length ws) 0 f)
fill_held (s ∷ ss) ws f = held-cut s ss ws

pub fill_greatest : (ss ws : List ℕ) (n : ℕ) → fill ss n ≡ true → greatest (cut ss ws) ≤ n
fill_greatest [] ws n f = omega arith
fill_greatest (s ∷ ss) ws n f = greatest-cut s ss ws n (right_of _ _ f)

-- one more block
pub fill_grows : (ss ws zs : List ℕ) (n : ℕ) → fill ss n ≡ true → n ≡ length ws → cut (ss ++ n ∷ []) (ws ++ zs) ≡ cut ss ws ++ (n + 1, zs) ∷ []
fill_grows [] [] zs n f e = refl
fill_grows [] (w ∷ ws) zs n f e = absurd (omega (arith, e, eqb-true n 0 f))
fill_grows (s ∷ ss) ws zs n f e =
    let first : s ≡ 0 = eqb-true s 0 (left_of _ _ f) in
    cut-append s ss ws zs n (right_of _ _ f) (omega (arith, e, first))

-- word i of the block at an address stands at the address's position and i more
pub record Stands (ss ws : List ℕ) (a i : ℕ) : Type 0 where
  pub above : 0 < a
  pub inside : a + i - 1 < length ws
  pub read : get_or ws (a + i - 1) 0 ≡ get_or (words_at (cut ss ws) a) i 0
  pub write : (w : ℕ) → cut ss (set ws (a + i - 1) w) ≡ written (cut ss ws) a i w

pub stands : (ss ws : List ℕ) (n a i : ℕ) → fill ss n ≡ true → i < length (words_at (cut ss ws) a) → Stands ss ws a i
stands [] ws n a i f h = absurd (omega (arith, h))
stands (s ∷ ss) ws n a i f h =
    let first : s ≡ 0 = eqb-true s 0 (left_of _ _ f) in
    let up : s < a = cut_above s ss ws n a i (right_of _ _ f) h in
    let at = cut_at s ss ws n a i (a + i - 1) (right_of _ _ f) (omega (arith, first, up)) h in
    record { above = omega (arith, up); inside = at.inside; read = at.read; write = at.write }

-- the newest block
pub record Ends (ss rest ws : List ℕ) (a : ℕ) : Type 0 where
  pub newest : IsNewest (cut ss ws) (cut rest (take (a - 1) ws)) a (words_at (cut ss ws) a) a
  pub filled : fill rest (a - 1) ≡ true
  pub inside : a ≤ length ws
  pub above : 0 < a
  pub size : a - 1 + length (words_at (cut ss ws) a) ≡ length ws

ends_at : (ss rest ws : List ℕ) (p : ℕ) → ss ≡ rest ++ p ∷ [] → fill ss (length ws) ≡ true → p + 1 ≡ greatest (cut ss ws) → Ends ss rest ws (p + 1)
ends_at ss rest ws p e f g =
    let front : (fill rest p ≡ true) × (p < length ws) = fill_front rest p (length ws) (ap (λ l. fill l (length ws)) (sym e) ∙ f) in
    let position : p + 1 - 1 ≡ p = omega arith in
    let whole : cut ss ws ≡ cut rest (take p ws) ++ (p + 1, drop p ws) ∷ [] =
    ap (λ l. cut l ws) e ∙ (ap (λ l. cut (rest ++ p ∷ []) l) (sym (take-append-drop p ws))
    ∙ fill_grows rest (take p ws) (drop p ws) p front.0 (omega (arith, front.1, length-take p ws))) in
    let newest : IsNewest (cut ss ws) (cut rest (take p ws)) (p + 1) (drop p ws) (p + 1) =
    newest_is (cut ss ws) (cut rest (take p ws)) (p + 1) (drop p ws) (p + 1) whole (omega (arith, fill_greatest rest (take p ws) p front.0)) g in
    record {
      newest = rw position (subst (λ l. IsNewest (cut ss ws) (cut rest (take p ws)) (p + 1) l (p + 1)) (sym newest.words) newest);
      filled = rw position front.0;
      inside = omega (arith, front.1);
      above = omega arith;
      size = omega (arith, front.1, ap length newest.words, length-drop p ws);
    }

last_start : (ss rest ws : List ℕ) (p : ℕ) → ss ≡ rest ++ p ∷ [] → fill ss (length ws) ≡ true → greatest (cut ss ws) ≡ p + 1
last_start ss rest ws p e f =
    let front : (fill rest p ≡ true) × (p < length ws) = fill_front rest p (length ws) (ap (λ l. fill l (length ws)) (sym e) ∙ f) in
    let whole : cut ss ws ≡ cut rest (take p ws) ++ (p + 1, drop p ws) ∷ [] =
    ap (λ l. cut l ws) e ∙ (ap (λ l. cut (rest ++ p ∷ []) l) (sym (take-append-drop p ws))
    ∙ fill_grows rest (take p ws) (drop p ws) p front.0 (omega (arith, front.1, length-take p ws))) in
    omega (arith, ap greatest whole, greatest-append (cut rest (take p ws)) (p + 1) (drop p ws), fill_greatest rest (take p ws) p front.0)

pub ends : (ss rest ws : List ℕ) (o : Option ℕ) (a i : ℕ) → ss ≡ rest ++ option_to_list o → (0 < length ss → IsSome o) → fill ss (length ws) ≡ true →
    a ≡ greatest (cut ss ws) → i < length (words_at (cut ss ws) a) → Ends ss rest ws a
ends [] rest ws o a i e some f g h = absurd (omega (arith, h))
ends (s ∷ ss) rest ws None a i e some f g h = let there : false ≡ true = some (omega arith) in absurd (true≢false (sym there))
ends (s ∷ ss) rest ws (Some p) a i e some f g h =
    let last : greatest (cut (s ∷ ss) ws) ≡ p + 1 = last_start (s ∷ ss) rest ws p e f in
    subst (λ x. Ends (s ∷ ss) rest ws x) (sym last ∙ sym g) (ends_at (s ∷ ss) rest ws p e f (sym last))
