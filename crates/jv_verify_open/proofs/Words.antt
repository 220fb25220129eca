-- Words of frames that share some, and blocks of local variables.
use Rattle.std.proofs.Common.{◌≡◌, ◌≢◌, ◌⊎◌, inl, inr, ℕ, ◌+◌, ◌*◌, ◌/◌, ◌<◌, ◌≤◌, length, get_or, sym, ap, ◌∙◌, arith}
use Rattle.std.proofs.lemmas.Bool.{cases_lt}
use Rattle.std.proofs.lemmas.List.{get_or-take, get_or_past}
use Rattle.jv_stackmap.specs.declared.entry.FrameEntry.TheVariants as entries
use Rattle.jv_stackmap.specs.declared.verification.VerificationTypeOf.TheVariants as variants
use Rattle.jv_verify_types.specs.Mapped.{EntryTypes, type_of_entry}
use Rattle.jv_verify_maps.specs.Words.{MapWords, Agree, words_at}
use Rattle.jv_verify_known.specs.Known.{word_at}

module _ (types : EntryTypes) (map : MapWords) where
  pub same_word : (at place count k : ℕ) → Agree map at place count → k < count → word_at types map at k ≡ word_at types map place k
  same_word at place count k agree lt =
      ap (type_of_entry types)
      (sym (get_or-take count (words_at map at) k entries.Top lt)
      ∙ (ap (λ ws. get_or ws k entries.Top) agree ∙ get_or-take count (words_at map place) k entries.Top lt))

  pub word_behind : (place k : ℕ) → length (words_at map place) ≤ k → word_at types map place k ≡ variants.Top
  word_behind place k le = ap (type_of_entry types) (get_or_past (words_at map place) k entries.Top le)

pub block_from : (k block : ℕ) → k / 16 ≡ block → block * 16 ≤ k
block_from k block is = omega (arith, is)

pub block_to : (k block : ℕ) → k / 16 ≡ block → k < block * 16 + 16
block_to k block is = omega (arith, is)

pub same_or : (k n : ℕ) → (k ≡ n) ⊎ (k ≢ n)
same_or k n =
    elim (cases_lt k n) [ inl lt ↦ inr (omega arith) | inr ge ↦ elim (cases_lt n k) [ inl less ↦ inr (omega arith) | inr le ↦ inl (omega arith) ] ]
