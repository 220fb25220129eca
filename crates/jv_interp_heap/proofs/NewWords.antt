-- A block that joins a store, and what is written to it then.
use Rattle.std.proofs.Common.{◌≡◌, ℕ, ◌<◌, List, [], ◌∷◌, ◌++◌, length, replicate, set, ap, ◌∙◌}
use Rattle.jv_store.specs.Content.{words_at, greatest, written}
use Rattle.jv_store.proofs.Contents.{words_at-append}
use Rattle.jv_store.proofs.LookUps.{written-newest}
use Rattle.jv_interp_heap.specs.ObjectsInBlocks.{Blocks}
use Rattle.jv_interp_heap.specs.NewBlocks.{Joins}

pub joined_words : (words : List ℕ) (before after : Blocks) (address : ℕ) → Joins words before after address → words_at after address ≡ words
joined_words words before after address h =
    ap (λ (c : Blocks). words_at c address) h.joins ∙ words_at-append before address words h.above

pub joined_length :
    (words : List ℕ) (before after : Blocks) (address n : ℕ) → Joins words before after address → length words ≡ n
    → length (words_at after address) ≡ n
joined_length words before after address n h e = ap length (joined_words words before after address h) ∙ e

pub then_written :
    (words : List ℕ) (before after next : Blocks) (address place word : ℕ) → Joins words before after address
    → next ≡ written after address place word → Joins (set words place word) before next address
then_written words before after next address place word h e = record {
  above = h.above;
  joins = e ∙ ap (λ (c : Blocks). written c address place word) h.joins ∙ written-newest before address words place word h.above;
}

-- with zeros
pub zeros_joined :
    (before after : Blocks) (address len n : ℕ) → greatest before < address → after ≡ before ++ (address, replicate len 0) ∷ []
    → len ≡ n → Joins (replicate n 0) before after address
zeros_joined before after address len n above joins e = record {
  above = above;
  joins = joins ∙ ap (λ (k : ℕ). before ++ (address, replicate {A = ℕ} k 0) ∷ []) e;
}
