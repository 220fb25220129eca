-- Results that are left on top of the words below a frame.
use Rattle.std.proofs.Common.{◌≡◌, ℕ, ◌≤◌, true, false, List, ◌∷◌, ◌++◌, length, refl, sym, ap, subst, ◌∙◌, arith, length-append}
use Rattle.jv_code.specs.declared.kinds.ValueKind.{ValueKind}
use Rattle.jv_code.specs.declared.kinds.ValueKind.TheVariants as kinds
use Rattle.jv_meaning_machine.specs.Values.{Value}
use Rattle.jv_meaning_machine.specs.Values.Value.{Int, Long, Null, Reference, Half, Unset}
use Rattle.jv_interp_words.specs.ValuesInWords.{IsOnTop}
use Rattle.jv_interp_words.specs.FramesInWords.{in_use}
use Rattle.jv_interp_words.specs.Inside.Calls.{Returns}
use Rattle.jv_interp_words.proofs.InUse.{length-in_use}
use Rattle.jv_interp_words.proofs.Tops.{falls}

clash : false ≡ true → ⊥
clash e = absurd cc

-- the words below others, of which there are so many
pub in_use_under :
    (words : List ℕ) (top base : ℕ) (above under : List ℕ) → top ≤ length words → in_use words top ≡ above ++ under → base ≡ length under
    → (in_use words base ≡ under) × (base ≤ top)
in_use_under words top base above under within place base_is =
    let low : base ≤ top = omega (arith, ap length place, length-append above under, length-in_use words top within, base_is) in
    (falls words (in_use words top) above under top base refl low place (sym base_is), low)

-- ---- a result of one word, and of two

pub record ReturnsWord (base : ℕ) (used addresses : List ℕ) (value : Value) (under : List ℕ) : Type 0 where
  pub word : ℕ
  pub above : List ℕ
  pub place : used ≡ word ∷ above ++ under
  pub stands : IsOnTop addresses value (word ∷ under) under

pub word_returned :
    (kind : ValueKind) (base : ℕ) (used addresses : List ℕ) (value : Value) (under : List ℕ) → (kind ≡ kinds.Long → ⊥)
    → Returns kind base used addresses value under → ReturnsWord base used addresses value under
word_returned kind base used addresses (Int number) under other h =
    record { word = h.on_top.0; above = h.above; place = h.on_top.1; stands = (h.on_top.0, refl, h.on_top.2) }
word_returned kinds.Int base used addresses (Long number) under other h = absurd (clash h.kind_is)
word_returned kinds.Long base used addresses (Long number) under other h = absurd (other refl)
word_returned kinds.Reference base used addresses (Long number) under other h = absurd (clash h.kind_is)
word_returned kind base used addresses Null under other h = record { word = 0; above = h.above; place = h.on_top; stands = refl }
word_returned kind base used addresses (Reference id) under other h =
    record { word = h.on_top.0; above = h.above; place = h.on_top.1; stands = (h.on_top.0, refl, h.on_top.2) }
word_returned kind base used addresses Half under other h = absurd h.on_top
word_returned kind base used addresses Unset under other h = absurd h.on_top

pub record ReturnsLong (base : ℕ) (used addresses : List ℕ) (value : Value) (under : List ℕ) : Type 0 where
  pub low : ℕ
  pub high : ℕ
  pub above : List ℕ
  pub place : used ≡ high ∷ low ∷ above ++ under
  pub stands : IsOnTop addresses value (high ∷ low ∷ under) under

pub long_returned :
    (base : ℕ) (used addresses : List ℕ) (value : Value) (under : List ℕ) → Returns kinds.Long base used addresses value under
    → ReturnsLong base used addresses value under
long_returned base used addresses (Int number) under h = absurd (clash h.kind_is)
long_returned base used addresses (Long number) under h =
    record { low = h.on_top.0; high = h.on_top.1; above = h.above; place = h.on_top.2; stands = (h.on_top.0, h.on_top.1, refl, h.on_top.3) }
long_returned base used addresses Null under h = absurd (clash h.kind_is)
long_returned base used addresses (Reference id) under h = absurd (clash h.kind_is)
long_returned base used addresses Half under h = absurd h.on_top
long_returned base used addresses Unset under h = absurd h.on_top

-- ---- the words that were read are these

pub word_left :
    (base : ℕ) (used addresses : List ℕ) (value : Value) (under read after others : List ℕ) (word : ℕ)
    → (h : ReturnsWord base used addresses value under) → used ≡ word ∷ read → others ≡ under → after ≡ word ∷ others
    → IsOnTop addresses value after under
word_left base used addresses value under read after others word h e f g =
    let there : word ∷ read ≡ h.word ∷ (h.above ++ under) = sym e ∙ h.place in
    let same : word ≡ h.word = cc in
    subst (λ (l : List ℕ). IsOnTop addresses value l under)
    (sym (g ∙ ap (λ (l : List ℕ). word ∷ l) f ∙ ap (λ (n : ℕ). n ∷ under) same)) h.stands

pub long_left :
    (base : ℕ) (used addresses : List ℕ) (value : Value) (under read after others : List ℕ) (low high : ℕ)
    → (h : ReturnsLong base used addresses value under) → used ≡ high ∷ low ∷ read → others ≡ under → after ≡ high ∷ low ∷ others
    → IsOnTop addresses value after under
long_left base used addresses value under read after others low high h e f g =
    let there : high ∷ low ∷ read ≡ h.high ∷ h.low ∷ (h.above ++ under) = sym e ∙ h.place in
    let upper : high ≡ h.high = cc in
    let lower : low ≡ h.low = cc in
    subst (λ (l : List ℕ). IsOnTop addresses value l under)
    (sym
    (g ∙ ap (λ (l : List ℕ). high ∷ low ∷ l) f ∙ ap (λ (n : ℕ). n ∷ low ∷ under) upper
    ∙ ap (λ (n : ℕ). h.high ∷ n ∷ under) lower))
    h.stands
