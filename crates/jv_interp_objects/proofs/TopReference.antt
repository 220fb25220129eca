-- A reference on top of a frame's stack, by its word.
use Rattle.std.proofs.Common.{◌≡◌, ℕ, ◌-◌, ◌≤◌, true, List, ◌∷◌, Some, length, get_or, refl, sym, subst, slice_get}
use Rattle.jv_meaning_machine.specs.Values.{Value, is_reference_value}
use Rattle.jv_meaning_machine.specs.Values.Value.{Int, Long, Null, Reference, Half, Unset}
use Rattle.jv_interp_words.specs.ValuesInWords.{AreAddresses, IsOnTop}
use Rattle.jv_interp_words.specs.FramesInWords.{in_use, FrameStands}
use Rattle.jv_interp_words.proofs.InUse.{in_use_top}
use Rattle.jv_interp_held.proofs.Popped.{frame_popped, some_used, null_word, reference_word, not_zero}

-- it refers to the object with a number, under the address that its word is
pub record RefersTo (addresses : List ℕ) (value : Value) (word : ℕ) : Type 0 where
  pub id : ℕ
  pub is : value ≡ Reference id
  pub at : slice_get addresses id ≡ Some word

-- ---- by its word, on other words

module _ (addresses : List ℕ) (word : ℕ) (rest under : List ℕ) where
  rest_is : (v : Value) → is_reference_value v ≡ true → IsOnTop addresses v (word ∷ rest) under → rest ≡ under
  rest_is Null k on = (null_word addresses word rest under on).1
  rest_is (Reference id) k on = (reference_word addresses id word rest under on).1
  rest_is (Int n) k on = absurd cc
  rest_is (Long n) k on = absurd cc
  rest_is Half k on = absurd cc
  rest_is Unset k on = absurd cc

  null_is : AreAddresses addresses → (v : Value) → is_reference_value v ≡ true → IsOnTop addresses v (word ∷ rest) under → word ≡ 0 → v ≡ Null
  null_is are Null k on zero_is = refl
  null_is are (Reference id) k on zero_is =
      let r = reference_word addresses id word rest under on in absurd (not_zero addresses id word are r.0 zero_is)
  null_is are (Int n) k on zero_is = absurd cc
  null_is are (Long n) k on zero_is = absurd cc
  null_is are Half k on zero_is = absurd cc
  null_is are Unset k on zero_is = absurd cc

  refers_to : (v : Value) → is_reference_value v ≡ true → IsOnTop addresses v (word ∷ rest) under → (word ≡ 0 → ⊥) → RefersTo addresses v word
  refers_to Null k on other = absurd (other (null_word addresses word rest under on).0)
  refers_to (Reference id) k on other = record { id = id; is = refl; at = (reference_word addresses id word rest under on).0 }
  refers_to (Int n) k on other = absurd cc
  refers_to (Long n) k on other = absurd cc
  refers_to Half k on other = absurd cc
  refers_to Unset k on other = absurd cc

-- ---- in a frame

pub record OnTop (addresses : List ℕ) (locals : List Value) (value : Value) (rest : List Value) (words : List ℕ) (top : ℕ) (below : List ℕ) : Type 0 where
  pub some : 1 ≤ top
  pub used_is : in_use words top ≡ get_or words (top - 1) 0 ∷ in_use words (top - 1)
  pub lower : FrameStands addresses locals rest (in_use words (top - 1)) below
  pub null : get_or words (top - 1) 0 ≡ 0 → value ≡ Null
  pub refers : (get_or words (top - 1) 0 ≡ 0 → ⊥) → RefersTo addresses value (get_or words (top - 1) 0)

pub reference_on_top :
    (addresses : List ℕ) (locals stack : List Value) (value : Value) (rest : List Value) (words : List ℕ) (top : ℕ) (below : List ℕ)
    → AreAddresses addresses → FrameStands addresses locals stack (in_use words top) below → stack ≡ value ∷ rest → is_reference_value value ≡ true
    → top ≤ length words → OnTop addresses locals value rest words top below
reference_on_top addresses locals stack value rest words top below are frame stood kind within =
    let popped = frame_popped addresses locals stack value rest (in_use words top) below frame stood in
    let some = some_used addresses value words top popped.under within popped.on_top in
    let used_is = in_use_top words top some within in
    let on_top : IsOnTop addresses value (get_or words (top - 1) 0 ∷ in_use words (top - 1)) popped.under =
    subst (λ (l : List ℕ). IsOnTop addresses value l popped.under) used_is popped.on_top in
    let under_is = rest_is addresses (get_or words (top - 1) 0) (in_use words (top - 1)) popped.under value kind on_top in
    record {
      some = some;
      used_is = used_is;
      lower = subst (λ (l : List ℕ). FrameStands addresses locals rest l below) (sym under_is) popped.lower;
      null = λ zero_is. null_is addresses (get_or words (top - 1) 0) (in_use words (top - 1)) popped.under are value kind on_top zero_is;
      refers = λ other. refers_to addresses (get_or words (top - 1) 0) (in_use words (top - 1)) popped.under value kind on_top other;
    }
