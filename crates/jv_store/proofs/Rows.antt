-- Laws of numbered rows of blocks.
use Rattle.std.proofs.Common.{◌≡◌, ℕ, zero, suc, ◌+◌, ◌-◌, ◌<◌, ◌≤◌, cond, nat_eq, true, false, true≢false, List, [], ◌∷◌, ◌++◌, map, length, set, get_or, Option, Some, None, IsSome, refl, sym, ap, ◌∙◌, subst, arith}
use Rattle.std.proofs.lemmas.List.{map-append, map-set, length-map, get_or-map}
use Rattle.std.proofs.Common.{length-append}
use Rattle.std.specs.Option.{option_to_list}
use borrow.Author.Tests.{ne_eqb, eqb-true, eq-eqb}
use Rattle.jv_store.specs.Content.{words_at, words_held, greatest, written}
use Rattle.jv_store.specs.Inside.Layouts.{numbered, none_empty}
use Rattle.jv_store.proofs.Contents.{IsNewest, newest_is, none_empty-count}

pub numbered-append : (k : ℕ) (xs : List (List ℕ)) (ws : List ℕ) → numbered k (xs ++ ws ∷ []) ≡ numbered k xs ++ (k + length xs + 1, ws) ∷ []
numbered-append k [] ws = let e : k + 1 ≡ k + 0 + 1 = omega arith in ap (λ n. (n, ws) ∷ []) e
numbered-append k (x ∷ xs) ws =
    let e : k + 1 + length xs + 1 ≡ k + length (x ∷ xs) + 1 = omega arith in
    ap (λ l. (k + 1, x) ∷ l) (numbered-append (k + 1) xs ws ∙ ap (λ n. numbered (k + 1) xs ++ (n, ws) ∷ []) e)

pub length-numbered : (k : ℕ) (xs : List (List ℕ)) → length (numbered k xs) ≡ length xs
length-numbered k [] = refl
length-numbered k (x ∷ xs) = omega (arith, length-numbered (k + 1) xs)

pub greatest-numbered : (k : ℕ) (xs : List (List ℕ)) → greatest (numbered k xs) ≤ k + length xs
greatest-numbered k [] = omega arith
greatest-numbered k (x ∷ xs) = omega (arith, greatest-numbered (k + 1) xs)

-- where a word stands, its address is one of the row's
pub numbered_within : (k : ℕ) (xs : List (List ℕ)) (a i : ℕ) → i < length (words_at (numbered k xs) a) → (k < a) × (a ≤ k + length xs)
numbered_within k [] a i h = absurd (omega (arith, h))
numbered_within k (x ∷ xs) a i h =
    elim (nat_eq (k + 1) a) as (λ t. nat_eq (k + 1) a ≡ t → i < length (cond t x (words_at (numbered (k + 1) xs) a)) → (k < a) × (a ≤ k + length (x ∷ xs))) [
      | true ↦ λ e _. let same : k + 1 ≡ a = eqb-true (k + 1) a e in (omega arith, omega arith)
      | false ↦ λ e g. let rest : (k + 1 < a) × (a ≤ k + 1 + length xs) = numbered_within (k + 1) xs a i g in (omega (arith, rest.0), omega (arith, rest.1))
    ] refl h

pub words_at-numbered : (k : ℕ) (xs : List (List ℕ)) (a j : ℕ) → a ≡ k + j + 1 → j < length xs → words_at (numbered k xs) a ≡ get_or xs j []
words_at-numbered k [] a j e h = absurd (omega (arith, h))
words_at-numbered k (x ∷ xs) a zero e h = rw (eq-eqb (k + 1) a (omega arith)) refl
words_at-numbered k (x ∷ xs) a (suc j) e h = rw (ne_eqb (k + 1) a (λ q. omega arith)) (words_at-numbered (k + 1) xs a j (omega arith) (omega arith))

pub written-numbered : (k : ℕ) (xs : List (List ℕ)) (a j i w : ℕ) → a ≡ k + j + 1 → j < length xs → written (numbered k xs) a i w ≡ numbered k (set xs j (set (get_or xs j []) i w))
written-numbered k [] a j i w e h = absurd (omega (arith, h))
written-numbered k (x ∷ xs) a zero i w e h = rw (eq-eqb (k + 1) a (omega arith)) refl
written-numbered k (x ∷ xs) a (suc j) i w e h = rw (ne_eqb (k + 1) a (λ q. omega arith)) (ap (λ l. (k + 1, x) ∷ l) (written-numbered (k + 1) xs a j i w (omega arith) (omega arith)))

module _ {X : Type 0} (f : X → List ℕ) where
  pub within_row : (xs : List X) (a i : ℕ) → i < length (words_at (numbered 0 (map f xs)) a) → (0 < a) × (a - 1 < length xs)
  within_row xs a i h = let within : (0 < a) × (a ≤ 0 + length (map f xs)) = numbered_within 0 (map f xs) a i h in (within.0, omega (arith, within.0, within.1, length-map xs f))

  pub read_row : (xs : List X) (a : ℕ) (v : X) → 0 < a → a - 1 < length xs → v ≡ get_or xs (a - 1) v → words_at (numbered 0 (map f xs)) a ≡ f v
  read_row xs a v p h e = words_at-numbered 0 (map f xs) a (a - 1) (omega (arith, p)) (omega (arith, h, length-map xs f)) ∙ (get_or-map f xs (a - 1) v [] h ∙ ap f (sym e))

  pub write_row : (xs : List X) (a i w : ℕ) (v after : X) → 0 < a → a - 1 < length xs → v ≡ get_or xs (a - 1) v → f after ≡ set (f v) i w →
      numbered 0 (map f (set xs (a - 1) after)) ≡ written (numbered 0 (map f xs)) a i w
  write_row xs a i w v after p h e n =
      let same : get_or (map f xs) (a - 1) [] ≡ f v = get_or-map f xs (a - 1) v [] h ∙ ap f (sym e) in
      ap (numbered 0) (map-set f xs (a - 1) after ∙ ap (λ b. set (map f xs) (a - 1) b) (n ∙ ap (λ b. set b i w) (sym same)))
      ∙ sym (written-numbered 0 (map f xs) a (a - 1) i w (omega (arith, p)) (omega (arith, h, length-map xs f)))

  pub add_row : (xs : List X) (v : X) → numbered 0 (map f (xs ++ v ∷ [])) ≡ numbered 0 (map f xs) ++ (length xs + 1, f v) ∷ []
  add_row xs v =
      let e : 0 + length (map f xs) + 1 ≡ length xs + 1 = omega (arith, length-map xs f) in
      ap (numbered 0) (map-append f xs (v ∷ [])) ∙ (numbered-append 0 (map f xs) (f v) ∙ ap (λ n. numbered 0 (map f xs) ++ (n, f v) ∷ []) e)

  pub greatest_row : (xs : List X) → greatest (numbered 0 (map f xs)) < length xs + 1
  greatest_row xs = omega (arith, greatest-numbered 0 (map f xs), length-map xs f)

  pub last_row : (xs rest : List X) (o : Option X) (a : ℕ) → xs ≡ rest ++ option_to_list o → IsSome o → a ≡ greatest (numbered 0 (map f xs)) →
      IsNewest (numbered 0 (map f xs)) (numbered 0 (map f rest)) (length rest + 1) (words_at (numbered 0 (map f xs)) a) a
  last_row xs rest None a e s g = absurd (true≢false (sym s))
  last_row xs rest (Some v) a e s g =
      let newest : IsNewest (numbered 0 (map f xs)) (numbered 0 (map f rest)) (length rest + 1) (f v) a =
      newest_is (numbered 0 (map f xs)) (numbered 0 (map f rest)) (length rest + 1) (f v) a (ap (λ l. numbered 0 (map f l)) e ∙ add_row rest v) (greatest_row rest) g in
      subst (λ ws. IsNewest (numbered 0 (map f xs)) (numbered 0 (map f rest)) (length rest + 1) ws a) (sym newest.words) newest

  pub row_count : (xs : List X) → none_empty (numbered 0 (map f xs)) ≡ true → length xs ≤ words_held (numbered 0 (map f xs))
  row_count xs p = omega (arith, none_empty-count (numbered 0 (map f xs)) p, length-numbered 0 (map f xs), length-map xs f)

  pub add_words : (xs ys : List X) (ws : List ℕ) → map f ys ≡ map f xs ++ ws ∷ [] → numbered 0 (map f ys) ≡ numbered 0 (map f xs) ++ (length xs + 1, ws) ∷ []
  add_words xs ys ws h =
      let e : 0 + length (map f xs) + 1 ≡ length xs + 1 = omega (arith, length-map xs f) in
      ap (numbered 0) h ∙ (numbered-append 0 (map f xs) ws ∙ ap (λ n. numbered 0 (map f xs) ++ (n, ws) ∷ []) e)

  pub longer : (xs ys : List X) (ws : List ℕ) → map f ys ≡ map f xs ++ ws ∷ [] → length ys ≡ length xs + 1
  longer xs ys ws h = omega (arith, length-map xs f, length-map ys f, ap length h, length-append (map f xs) (ws ∷ []))
