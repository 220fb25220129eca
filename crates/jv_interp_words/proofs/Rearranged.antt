-- Words of a stack that were put in another order.
use Rattle.std.proofs.Common.{◌≡◌, ℕ, List, ◌∷◌, Some, sym, ap, ◌∙◌}
use Rattle.jv_code.specs.declared.kinds.StackForm.{StackForm}
use Rattle.jv_meaning_typing.specs.StackForms.{rearranged}
use Rattle.jv_interp_words.specs.Inside.Forms.{word_width, Rearranges}

pub rearranges :
    (form : StackForm) (before after words others : List ℕ) → before ≡ words → after ≡ others
    → rearranged word_width form words ≡ Some others → Rearranges form before after
rearranges form before after words others e f h =
    ap (λ (l : List ℕ). rearranged word_width form l) e ∙ h ∙ ap (λ (l : List ℕ). Some l) (sym f)

-- a word, and two, on others that are known
pub one_on : {words under known : List ℕ} (a : ℕ) → words ≡ a ∷ under → under ≡ known → words ≡ a ∷ known
one_on a e f = e ∙ ap (λ (l : List ℕ). a ∷ l) f

pub two_on : {words under known : List ℕ} (a b : ℕ) → words ≡ a ∷ b ∷ under → under ≡ known → words ≡ a ∷ b ∷ known
two_on a b e f = e ∙ ap (λ (l : List ℕ). a ∷ b ∷ l) f
