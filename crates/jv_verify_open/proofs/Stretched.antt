-- Words of a stretch that come to be wanted, one after another.
use Rattle.std.proofs.Common.{◌≡◌, ◌≢◌, ◌⊎◌, inl, inr, ℕ, ◌+◌, ◌-◌, ◌<◌, ◌≤◌, List, length, drop, take, reverse, get_or, refl, sym, ap, subst, ◌∙◌, arith, length-drop}
use Rattle.std.proofs.lemmas.Bool.{cases_lt}
use Rattle.std.proofs.lemmas.List.{get_or-drop, get_or-reverse, get_or-take, length-take, length-reverse, get_or_default}
use Rattle.jv_stackmap.specs.declared.entry.FrameEntry.{FrameEntry}
use Rattle.jv_stackmap.specs.declared.verification.VerificationTypeOf.TheVariants as variants
use Rattle.jv_verify_types.specs.Typed.{typed}
use Rattle.jv_verify_types.specs.Numbered.{Item}
use Rattle.jv_verify_types.specs.Mapped.{EntryTypes, names_of_types}
use Rattle.jv_verify_maps.specs.Words.{MapWords}
use Rattle.jv_verify_known.specs.Known.{word_at}
use Rattle.jv_verify_wants.specs.Wanted.{AddsWant, IsWanted, Wants}
use Rattle.jv_verify_wants.specs.Inside.Allowed.{AreAllowed}
use Rattle.jv_verify_open.specs.declared.wanting.Stretch.{Stretch}
use Rattle.jv_verify_open.specs.Open.{IsTopOrWanted}
use Rattle.jv_verify_open.specs.Inside.Finding.{AreMoreWanted}

-- a word of a stretch, which has the last first
pub stretch_word : (s ws : List FrameEntry) (first to k : ℕ) (d e : FrameEntry) → reverse s ≡ drop first (take to ws) → to ≤ length ws → first ≤ k → k < to
    → get_or s (to - 1 - k) d ≡ get_or ws k e
stretch_word s ws first to k d e is room low high =
    let many = length-reverse s in
    let taken = length-take to ws in
    let dropped = length-drop first (take to ws) in
    let same = ap length is in
    let n : length s ≡ to - first = omega (arith, many, taken, dropped, same, room) in
    let back = get_or-reverse s (k - first) d (omega (arith, n, low, high)) in
    let there : length s - 1 - (k - first) ≡ to - 1 - k = omega (arith, n, low, high) in
    let up : first + (k - first) ≡ k = omega (arith, low) in
    sym (ap (λ j. get_or s j d) there)
    ∙ (sym back
    ∙ (ap (λ xs. get_or xs (k - first) d) is
    ∙ (get_or-drop first (take to ws) (k - first) d
    ∙ (ap (λ j. get_or (take to ws) j d) up
    ∙ (get_or-take to ws k d high ∙ get_or_default ws k d e (omega (arith, high, room)))))))

top_or_not : (item : Item) → (item ≡ variants.Top) ⊎ (item ≢ variants.Top)
top_or_not variants.Top = inl refl
top_or_not variants.Int = inr (λ e. cc)
top_or_not variants.Long = inr (λ e. cc)
top_or_not variants.Null = inr (λ e. cc)
top_or_not variants.UninitializedThis = inr (λ e. cc)
top_or_not (variants.Class number) = inr (λ e. cc)
top_or_not (variants.Array array) = inr (λ e. cc)
top_or_not (variants.Uninitialized number) = inr (λ e. cc)

module _ (types : EntryTypes) (map : MapWords) (offset : ℕ) where
  pub none_more : (words : Stretch) (from : ℕ) (wants : Wants) → words.to ≤ from → AreMoreWanted types map offset words from wants wants
  none_more words from wants past = record {
    kept = λ k later item after h. h;
    there = λ k later low high. absurd (omega (arith, past, low, high));
    only = λ k later item after h. inl h;
    allowed = λ h. h;
  }

  pub ended_more : (words : Stretch) (from : ℕ) (wants : Wants) → words.until ≤ offset → AreMoreWanted types map offset words from wants wants
  ended_more words from wants ended = record {
    kept = λ k later item after h. h;
    there = λ k later low high after before. absurd (omega (arith, ended, after, before));
    only = λ k later item after h. inl h;
    allowed = λ h. h;
  }

  module _ (words : Stretch) (left next : ℕ) (item : Item) (old now new : Wants) (is : next ≡ left + 1) (high : left < words.to)
      (so_far : AreMoreWanted types map offset words next old now) (added : AddsWant now new left item words.until offset)
      (word : typed (names_of_types types) item ≡ word_at types map words.place left) where
    still : (k later : ℕ) (other : Item) → offset ≤ later → IsWanted now k other later → IsWanted new k other later
    still k later other after h = (added k other later after).1 (inl h)

    first : (later : ℕ) → offset ≤ later → later < words.until → IsTopOrWanted types new left (word_at types map words.place left) later
    first later after before =
        elim (top_or_not item) [
          | inl top ↦ inl (sym word ∙ ap (typed (names_of_types types)) top)
          | inr not ↦ inr (item, word, (added left item later after).1 (inr (refl, refl, not, before)))
        ]

    pub one_more : (AreAllowed types.constants.types offset now → AreAllowed types.constants.types offset new) → AreMoreWanted types map offset words left old new
    one_more allowed = record {
      kept = λ k later other after h. still k later other after (so_far.kept k later other after h);
      there = λ k later low less after before.
          elim (cases_lt k next) [
            | inl at ↦
                let here : left ≡ k = omega (arith, low, at, is) in
                subst (λ j. IsTopOrWanted types new j (word_at types map words.place j) later) here (first later after before)
            | inr past ↦
                elim (so_far.there k later past less after before) [
                  | inl top ↦ inl top
                  | inr one ↦ inr (one.0, one.1, still k later one.0 after one.2)
                ]
          ];
      only = λ k later other after h.
          elim ((added k other later after).0 h) [
            | inl was ↦ so_far.only k later other after was
            | inr comes ↦
                let at = comes.0 in
                inr (
                  omega (arith, at, high),
                  comes.3,
                  ap (word_at types map words.place) at ∙ (sym word ∙ ap (typed (names_of_types types)) (sym comes.1)),
                )
          ];
      allowed = λ h. allowed (so_far.allowed h);
    }

  -- words before others
  pub then_more : (words front : Stretch) (from left : ℕ) (old now new : Wants) → front.place ≡ words.place → front.to ≡ left → front.until ≡ words.until → left ≤ words.to
      → AreMoreWanted types map offset words left old now → AreMoreWanted types map offset front from now new → AreMoreWanted types map offset words from old new
  then_more words front from left old now new place to until within so_far more = record {
    kept = λ k later item after h. more.kept k later item after (so_far.kept k later item after h);
    there = λ k later low less after before.
        elim (cases_lt k left) [
          | inl at ↦
              subst (λ p. IsTopOrWanted types new k (word_at types map p k) later) place (more.there k later low (omega (arith, at, to)) after (omega (arith, before, until)))
          | inr past ↦
              elim (so_far.there k later past less after before) [
                | inl top ↦ inl top
                | inr one ↦ inr (one.0, one.1, more.kept k later one.0 after one.2)
              ]
        ];
    only = λ k later item after h.
        elim (more.only k later item after h) [
          | inl was ↦ so_far.only k later item after was
          | inr comes ↦
              let at = comes.0 in
              let before = comes.1 in
              inr (
                omega (arith, at, to, within),
                omega (arith, before, until),
                subst (λ p. word_at types map p k ≡ typed (names_of_types types) item) place comes.2,
              )
        ];
    allowed = λ h. more.allowed (so_far.allowed h);
  }

  pub from_above : (words : Stretch) (left from : ℕ) (old new : Wants) → left ≤ from → AreMoreWanted types map offset words left old new
      → AreMoreWanted types map offset words from old new
  from_above words left from old new le more = record {
    kept = more.kept;
    there = λ k later low less after before. more.there k later (omega (arith, le, low)) less after before;
    only = more.only;
    allowed = more.allowed;
  }
