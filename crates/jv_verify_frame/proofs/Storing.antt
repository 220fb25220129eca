-- Stores to local variables, by the names of types.
use Rattle.std.proofs.Common.{rules, ◌≡◌, ℕ, zero, suc, ◌+◌, ◌-◌, ◌<◌, true, false, List, [], ◌∷◌, length, drop, ◌++◌, Option, Some, None, get_or, nat_le, refl, sym, ap, ◌∙◌, arith, if◌then◌else◌}
use Rattle.std.specs.Prelude.{slice_set}
use Rattle.std.specs.Option.{option_map}
use Rattle.std.proofs.lemmas.List.{length-map}
use Rattle.jv_stackmap.specs.declared.verification.VerificationTypeOf.TheVariants as types
use Rattle.jv_stackmap.specs.Types.{FrameType}
use Rattle.jv_meaning_typing.specs.FrameChanges.{stored}
use Rattle.jv_verify_types.specs.Typed.{typed, typed_all}
use Rattle.jv_verify_types.specs.Numbered.{Item}
use Rattle.jv_verify_frame.specs.Inside.Cut.{is_long, cut_at}

smaller : {m n : ℕ} → suc m < suc n → m < n
smaller h = omega (arith, h)

-- ---- what is cut

pub cut_set : (before : ℕ) (locals : List Item) (d : Item) → before < length locals → is_long (get_or locals before d) ≡ true
    → cut_at (suc before) locals ≡ slice_set locals before types.Top
cut_set before [] d h e = absurd (omega (arith, h))
cut_set zero (x ∷ locals) d h e = ap (λ b. (if b then types.Top else x) ∷ locals) e
cut_set (suc before) (x ∷ locals) d h e = ap (λ xs. x ∷ xs) (cut_set before locals d (smaller h) e)

pub cut_same : (before : ℕ) (locals : List Item) (d : Item) → before < length locals → is_long (get_or locals before d) ≡ false
    → cut_at (suc before) locals ≡ locals
cut_same before [] d h e = absurd (omega (arith, h))
cut_same zero (x ∷ locals) d h e = ap (λ b. (if b then types.Top else x) ∷ locals) e
cut_same (suc before) (x ∷ locals) d h e = ap (λ xs. x ∷ xs) (cut_same before locals d (smaller h) e)

pub cut_length : (index : ℕ) (locals : List Item) → length (cut_at index locals) ≡ length locals
cut_length zero locals = refl
cut_length (suc index) [] = refl
cut_length (suc zero) (x ∷ locals) = refl
cut_length (suc (suc index)) (x ∷ locals) = ap suc (cut_length (suc index) locals)

-- ---- one word

module _ (names : List (List ℕ)) where
  one_fits : (n : ℕ) → nat_le 1 (suc n) ≡ true
  one_fits n = search rules

  two_fit : (n : ℕ) → nat_le 2 (suc (suc n)) ≡ true
  two_fit n = search rules

  behind : (x : FrameType) (o : Option (List FrameType)) (rest : List FrameType) → o ≡ Some rest → option_map (λ r. x ∷ r) o ≡ Some (x ∷ rest)
  behind x o rest e = ap (option_map (λ r. x ∷ r)) e

  -- the local variable before
  behind_cut : (x : Item) (words : List FrameType) (locals : List Item) (rest : List FrameType) → stored words zero (typed_all names locals) ≡ Some rest
      → stored words (suc zero) (typed names x ∷ typed_all names locals) ≡ Some (typed names (if is_long x then types.Top else x) ∷ rest)
  behind_cut types.Top words locals rest e = behind types.Top _ rest e
  behind_cut types.Int words locals rest e = behind types.Int _ rest e
  behind_cut types.Long words locals rest e = behind types.Top _ rest e
  behind_cut types.Null words locals rest e = behind types.Null _ rest e
  behind_cut types.UninitializedThis words locals rest e = behind types.UninitializedThis _ rest e
  behind_cut (types.Class n) words locals rest e = behind (typed names (types.Class n)) _ rest e
  behind_cut (types.Array c) words locals rest e = behind (typed names (types.Array c)) _ rest e
  behind_cut (types.Uninitialized o) words locals rest e = behind (types.Uninitialized o) _ rest e

  pub stored_item : (index : ℕ) (locals : List Item) (item : Item) → index < length locals
      → stored (typed names item ∷ []) index (typed_all names locals) ≡ Some (typed_all names (slice_set (cut_at index locals) index item))
  stored_item index [] item h = absurd (omega (arith, h))
  stored_item zero (x ∷ locals) item h = ap (λ b. if b then Some (typed names item ∷ typed_all names locals) else None) (one_fits (length (typed_all names locals)))
  stored_item (suc zero) (x ∷ []) item h = absurd (omega (arith, h))
  stored_item (suc zero) (x ∷ y ∷ locals) item h = behind_cut x (typed names item ∷ []) (y ∷ locals) (typed_all names (item ∷ locals)) (stored_item zero (y ∷ locals) item (smaller h))
  stored_item (suc (suc index)) (x ∷ locals) item h =
      behind (typed names x) (stored (typed names item ∷ []) (suc index) (typed_all names locals))
      (typed_all names (slice_set (cut_at (suc index) locals) (suc index) item)) (stored_item (suc index) locals item (smaller h))

  pub stored_long : (index : ℕ) (locals : List Item) → suc index < length locals
      → stored (types.Long ∷ types.Top ∷ []) index (typed_all names locals) ≡ Some (typed_all names (slice_set (slice_set (cut_at index locals) index types.Long) (suc index) types.Top))
  stored_long index [] h = absurd (omega (arith, h))
  stored_long zero (x ∷ []) h = absurd (omega (arith, h))
  stored_long zero (x ∷ y ∷ locals) h = ap (λ b. if b then Some (types.Long ∷ types.Top ∷ typed_all names locals) else None) (two_fit (length (typed_all names locals)))
  stored_long (suc zero) (x ∷ []) h = absurd (omega (arith, h))
  stored_long (suc zero) (x ∷ y ∷ []) h = absurd (omega (arith, h))
  stored_long (suc zero) (x ∷ y ∷ z ∷ locals) h =
      behind_cut x (types.Long ∷ types.Top ∷ []) (y ∷ z ∷ locals) (typed_all names (types.Long ∷ types.Top ∷ locals)) (stored_long zero (y ∷ z ∷ locals) (smaller h))
  stored_long (suc (suc index)) (x ∷ locals) h =
      behind (typed names x) (stored (types.Long ∷ types.Top ∷ []) (suc index) (typed_all names locals))
      (typed_all names (slice_set (slice_set (cut_at (suc index) locals) (suc index) types.Long) (suc (suc index)) types.Top))
      (stored_long (suc index) locals (smaller h))

  -- ---- not as many

  none_behind : (x : FrameType) (o : Option (List FrameType)) → o ≡ None → option_map (λ r. x ∷ r) o ≡ None
  none_behind x o e = ap (option_map (λ r. x ∷ r)) e

  none_cut : (x : Item) (words : List FrameType) (locals : List Item) → stored words zero (typed_all names locals) ≡ None
      → stored words (suc zero) (typed names x ∷ typed_all names locals) ≡ None
  none_cut types.Top words locals e = none_behind types.Top _ e
  none_cut types.Int words locals e = none_behind types.Int _ e
  none_cut types.Long words locals e = none_behind types.Top _ e
  none_cut types.Null words locals e = none_behind types.Null _ e
  none_cut types.UninitializedThis words locals e = none_behind types.UninitializedThis _ e
  none_cut (types.Class n) words locals e = none_behind (typed names (types.Class n)) _ e
  none_cut (types.Array c) words locals e = none_behind (typed names (types.Array c)) _ e
  none_cut (types.Uninitialized o) words locals e = none_behind (types.Uninitialized o) _ e

  too_few : (k n : ℕ) → n < k → nat_le k n ≡ false
  too_few k n h = search (rules, h)

  pub not_stored : (words : List FrameType) (index : ℕ) (locals : List Item) → length locals < index + length words → 0 < length words → stored words index (typed_all names locals) ≡ None
  not_stored words zero locals h some = ap (λ b. if b then Some (words ++ drop (length words) (typed_all names locals)) else None) (too_few (length words) (length (typed_all names locals)) (many h))
    where
      many : length locals < 0 + length words → length (typed_all names locals) < length words
      many h = omega (arith, h, length-map locals (typed names))
  not_stored words (suc index) [] h some = refl
  not_stored words (suc zero) (x ∷ locals) h some = none_cut x words locals (not_stored words zero locals (omega (arith, h)) some)
  not_stored words (suc (suc index)) (x ∷ locals) h some = none_behind (typed names x) _ (not_stored words (suc index) locals (omega (arith, h)) some)

-- ---- as the code says them

pub set_before : (index : ℕ) (locals : List Item) (d : Item) → (index ≡ 0 → ⊥) → index < length locals → is_long (get_or locals (index - 1) d) ≡ true
    → slice_set locals (index - 1) types.Top ≡ cut_at index locals
set_before zero locals d some h e = absurd (some refl)
set_before (suc before) locals d some h e =
    let less : suc before - 1 ≡ before = omega arith in
    ap (λ k. slice_set locals k types.Top) less ∙ sym (cut_set before locals d (omega (arith, h)) (ap (λ k. is_long (get_or locals k d)) (sym less) ∙ e))

pub same_before : (index : ℕ) (locals : List Item) (d : Item) → (index ≡ 0 → ⊥) → index < length locals → is_long (get_or locals (index - 1) d) ≡ false
    → locals ≡ cut_at index locals
same_before zero locals d some h e = absurd (some refl)
same_before (suc before) locals d some h e =
    let less : suc before - 1 ≡ before = omega arith in
    sym (cut_same before locals d (omega (arith, h)) (ap (λ k. is_long (get_or locals k d)) (sym less) ∙ e))
