-- The words of one more entry, behind those that are laid.
use Rattle.std.proofs.Common.{◌≡◌, inl, inr, ◌⊎◌, ℕ, ◌+◌, ◌-◌, ◌≤◌, true, false, List, [], ◌∷◌, ◌++◌, length, reverse, refl, sym, ap, ◌∙◌, subst, arith, length-append, append_assoc}
use Rattle.std.proofs.lemmas.Bool.Decides.{nat_tests}
use Rattle.std.proofs.lemmas.List.{append-nil, reverse-append}
use Rattle.jv_stackmap.specs.declared.entry.FrameEntry.{FrameEntry}
use Rattle.jv_stackmap.specs.declared.entry.FrameEntry.TheVariants as entries
use Rattle.jv_stackmap.specs.declared.verification.VerificationTypeOf.TheVariants as variants
use Rattle.jv_stackmap.specs.Types.{FrameType, width}
use Rattle.jv_verify_types.specs.Mapped.{EntryTypes, type_of_entry}
use Rattle.jv_verify_maps.specs.declared.making.Laid.{Laid}
use Rattle.jv_verify_maps.specs.Words.{words_by, entry_by_words, locals_by_words}
use Rattle.jv_verify_maps.specs.Inside.Made.{is_this, pushed_words, IsFirstThis, Lays}
use Rattle.jv_verify_maps.proofs.Laying.{words_parts, words_one, width_of, first_more, first_is}

-- ---- one word, or two

pub pushed_are : (entry : FrameEntry) (t : FrameType) (n : ℕ) → n ≡ width t → pushed_words entry n ≡ reverse (words_by entry t)
pushed_are entry variants.Top n is = ap (pushed_words entry) is
pushed_are entry variants.Int n is = ap (pushed_words entry) is
pushed_are entry variants.Long n is = ap (pushed_words entry) is
pushed_are entry variants.Null n is = ap (pushed_words entry) is
pushed_are entry variants.UninitializedThis n is = ap (pushed_words entry) is
pushed_are entry (variants.Class name) n is = ap (pushed_words entry) is
pushed_are entry (variants.Array type) n is = ap (pushed_words entry) is
pushed_are entry (variants.Uninitialized offset) n is = ap (pushed_words entry) is

by_width : (entry : FrameEntry) (t : FrameType) → (words_by entry t ≡ entry ∷ []) ⊎ (words_by entry t ≡ entry ∷ entries.Top ∷ [])
by_width entry variants.Top = inl refl
by_width entry variants.Int = inl refl
by_width entry variants.Long = inr refl
by_width entry variants.Null = inl refl
by_width entry variants.UninitializedThis = inl refl
by_width entry (variants.Class name) = inl refl
by_width entry (variants.Array type) = inl refl
by_width entry (variants.Uninitialized offset) = inl refl

words_one_more : (types : EntryTypes) (entry : FrameEntry) (left : List FrameEntry)
    → length (locals_by_words types (entry ∷ left)) ≡ length (locals_by_words types left) + length (entry_by_words types entry)
words_one_more types entry left =
    ap length (words_parts types (entry ∷ []) left)
    ∙ (length-append (locals_by_words types left) (locals_by_words types (entry ∷ []))
    ∙ ap (λ ws. length (locals_by_words types left) + length ws) (words_one types entry))

pub entries_few : (types : EntryTypes) (locals : List FrameEntry) → length locals ≤ length (locals_by_words types locals)
entries_few types [] = omega arith
entries_few types (entry ∷ more) =
    let some : 1 ≤ length (entry_by_words types entry) = elim (by_width entry (type_of_entry types entry)) [
      | inl one ↦ let n = ap length one in omega (arith, n)
      | inr two ↦ let n = ap length two in omega (arith, n)
    ] in
    omega (arith, words_one_more types entry more, some, entries_few types more)

-- ---- the first word that is `this`

pub first_entry : (types : EntryTypes) (entry : FrameEntry) (from now this : ℕ) (more : List FrameEntry) → from ≡ now + length (entry_by_words types entry)
    → is_this types entry ≡ false → IsFirstThis types from more this → IsFirstThis types now (entry_by_words types entry ++ more) this
first_entry types entry from now this more is other first = elim (by_width entry (type_of_entry types entry)) [
  | inl one ↦
      let n = ap length one in
      subst (λ ws. IsFirstThis types now (ws ++ more) this) (sym one) (first_more types from now this entry more (omega (arith, is, n)) other first)
  | inr two ↦
      let n = ap length two in
      subst (λ ws. IsFirstThis types now (ws ++ more) this) (sym two)
      (first_more types (now + 1) now this entry (entries.Top ∷ more) refl other
      (first_more types from (now + 1) this entries.Top more (omega (arith, is, n)) refl first))
]

pub first_own : (types : EntryTypes) (entry : FrameEntry) (now : ℕ) (more : List FrameEntry) → is_this types entry ≡ true
    → IsFirstThis types now (entry_by_words types entry ++ more) now
first_own types entry now more is = elim (by_width entry (type_of_entry types entry)) [
  | inl one ↦ subst (λ ws. IsFirstThis types now (ws ++ more) now) (sym one) (first_is types now entry more is)
  | inr two ↦ subst (λ ws. IsFirstThis types now (ws ++ more) now) (sym two) (first_is types now entry (entries.Top ∷ more) is)
]

first_none : (types : EntryTypes) (from this : ℕ) → from ≤ this → IsFirstThis types from [] this
first_none types from this le = (le, λ count few. grind (arith, nat_tests, le, few))

-- ---- one entry more is laid

pub below_laid : (types : EntryTypes) (locals left old new : List FrameEntry) (entry : FrameEntry) (laid : Laid)
    → Lays types locals (entry ∷ left) old new laid → length (entry_by_words types entry) ≤ laid.at
below_laid types locals left old new entry laid lays = let at = lays.at in omega (arith, words_one_more types entry left, at)

pub nothing_laid : (types : EntryTypes) (locals old : List FrameEntry) (laid : Laid) → laid.at ≡ length (locals_by_words types locals) → laid.at ≤ laid.this
    → Lays types locals locals old old laid
nothing_laid types locals old laid at le = record {
  taken = [];
  whole = refl;
  words = sym (append-nil old);
  at = at;
  this = first_none types laid.at laid.this le;
}

module _ (types : EntryTypes) (locals left old words words_new : List FrameEntry) (entry : FrameEntry) (laid more : Laid) (n : ℕ)
    (width_is : n ≡ width (type_of_entry types entry)) (few : length (entry_by_words types entry) ≤ laid.at) (at_is : more.at ≡ laid.at - n)
    (pushed : words_new ≡ words ++ pushed_words entry n) (lays : Lays types locals (entry ∷ left) old words laid) where
  at : laid.at ≡ more.at + length (entry_by_words types entry)
  at = omega (arith, width_is, width_of entry (type_of_entry types entry), few, at_is)

  new : words_new ≡ words ++ reverse (entry_by_words types entry)
  new = pushed ∙ ap (λ ws. words ++ ws) (pushed_are entry (type_of_entry types entry) n width_is)

  abbrev taken : List FrameEntry
  taken = lays.taken ++ entry ∷ []

  taken_words : locals_by_words types taken ≡ entry_by_words types entry ++ locals_by_words types lays.taken
  taken_words = words_parts types lays.taken (entry ∷ []) ∙ ap (λ ws. ws ++ locals_by_words types lays.taken) (words_one types entry)

  laid_with : IsFirstThis types more.at (entry_by_words types entry ++ locals_by_words types lays.taken) more.this → Lays types locals left old words_new more
  laid_with first = record {
    taken = taken;
    whole = lays.whole ∙ sym (append_assoc lays.taken (entry ∷ []) left);
    words =
        new ∙ (ap (λ ws. ws ++ reverse (entry_by_words types entry)) lays.words
        ∙ (append_assoc old (reverse (locals_by_words types lays.taken)) (reverse (entry_by_words types entry))
        ∙ ap (λ ws. old ++ ws) (sym (ap reverse taken_words ∙ reverse-append (entry_by_words types entry) (locals_by_words types lays.taken)))));
    at = let before = lays.at in omega (arith, words_one_more types entry left, before, at);
    this = subst (λ ws. IsFirstThis types more.at ws more.this) (sym taken_words) first;
  }

  pub laid_other : is_this types entry ≡ false → more.this ≡ laid.this → Lays types locals left old words_new more
  laid_other other is =
      laid_with (subst (λ n. IsFirstThis types more.at (entry_by_words types entry ++ locals_by_words types lays.taken) n) (sym is)
      (first_entry types entry laid.at more.at laid.this (locals_by_words types lays.taken) at other lays.this))

  pub laid_this : is_this types entry ≡ true → more.this ≡ more.at → Lays types locals left old words_new more
  laid_this own is =
      laid_with (subst (λ n. IsFirstThis types more.at (entry_by_words types entry ++ locals_by_words types lays.taken) n) (sym is)
      (first_own types entry more.at (locals_by_words types lays.taken) own))
