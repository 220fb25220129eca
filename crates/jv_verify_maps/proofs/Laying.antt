-- Frames by words while they are made.
use Rattle.std.proofs.Common.{◌≡◌, inl, inr, ℕ, zero, suc, ◌+◌, ◌-◌, ◌<◌, ◌≤◌, true, false, ◌||◌, List, [], ◌∷◌, ◌++◌, length, take, drop, reverse, refl, sym, ap, ◌∙◌, subst, arith, length-append, length-drop, min}
use Rattle.std.specs.Prelude.{nat_lt, if◌then◌else◌}
use Rattle.std.proofs.Math.Seq.{take-add}
use Rattle.std.specs.List.{flat_map, list_any}
use Rattle.std.proofs.lemmas.Bool.Decides.{nat_tests}
use Rattle.std.proofs.lemmas.Grind.{flat_map-append}
use Rattle.std.proofs.lemmas.List.{length-take, length-reverse, reverse-append, reverse-reverse, take_at, take_all, drop_at, append-nil, take-append-le, take-take, drop-append-le}
use Rattle.std.proofs.lemmas.Bool.{cases_lt}
use Rattle.std.proofs.lemmas.List.Folds.{list_any-append}
use Rattle.std.proofs.lemmas.List.Sums.{sum_by-cons}
use Rattle.jv_stackmap.specs.declared.entry.FrameEntry.{FrameEntry}
use Rattle.jv_stackmap.specs.declared.verification.VerificationTypeOf.TheVariants as variants
use Rattle.jv_stackmap.specs.Types.{FrameType, words, width}
use Rattle.jv_verify_types.specs.Mapped.{EntryTypes, type_of_entry, types_of_entries}
use Rattle.jv_verify_maps.specs.declared.frames.WordsOf.{WordsOf}
use Rattle.jv_verify_maps.specs.Words.{words_by, entry_by_words, locals_by_words}
use Rattle.jv_verify_maps.specs.Inside.Kept.{stretch, words_behind, words_from, Fits, FitFrom}
use Rattle.jv_verify_maps.specs.Inside.Made.{is_this, IsFirstThis}

-- ---- local entries by words

-- those below, and those above
pub words_parts : (types : EntryTypes) (above below : List FrameEntry)
    → locals_by_words types (above ++ below) ≡ locals_by_words types below ++ locals_by_words types above
words_parts types above below =
    ap (flat_map (entry_by_words types)) (reverse-append above below) ∙ flat_map-append (entry_by_words types) (reverse below) (reverse above)

pub words_one : (types : EntryTypes) (entry : FrameEntry) → locals_by_words types (entry ∷ []) ≡ entry_by_words types entry
words_one types entry = append-nil (entry_by_words types entry)

pub width_of : (entry : FrameEntry) (t : FrameType) → length (words_by entry t) ≡ width t
width_of entry variants.Top = refl
width_of entry variants.Int = refl
width_of entry variants.Long = refl
width_of entry variants.Null = refl
width_of entry variants.UninitializedThis = refl
width_of entry (variants.Class name) = refl
width_of entry (variants.Array type) = refl
width_of entry (variants.Uninitialized offset) = refl

pub words_counted : (types : EntryTypes) (locals : List FrameEntry) → length (locals_by_words types locals) ≡ words (types_of_entries types locals)
words_counted types [] = refl
words_counted types (entry ∷ more) =
    let parts : length (locals_by_words types (entry ∷ more)) ≡ length (locals_by_words types more) + length (locals_by_words types (entry ∷ [])) =
    ap length (words_parts types (entry ∷ []) more) ∙ length-append (locals_by_words types more) (locals_by_words types (entry ∷ [])) in
    let one : length (locals_by_words types (entry ∷ [])) ≡ width (type_of_entry types entry) = ap length (words_one types entry) ∙ width_of entry (type_of_entry types entry) in
    let sums : words (types_of_entries types (entry ∷ more)) ≡ width (type_of_entry types entry) + words (types_of_entries types more) =
    sum_by-cons width (type_of_entry types entry) (types_of_entries types more) in
    omega (arith, parts, one, sums, words_counted types more)

-- ---- words more

stretch_more : (words more : List FrameEntry) (start count : ℕ) → start + count ≤ length words → stretch (words ++ more) start count ≡ stretch words start count
stretch_more words more start count within =
    ap (take count) (drop-append-le start words more (omega arith))
    ∙ take-append-le count (drop start words) more (omega (arith, length-drop start words, within))

pub behind_more : (words more before : List FrameEntry) (f : WordsOf) → Fits words before f → words_behind (words ++ more) before f ≡ words_behind words before f
behind_more words more before f fits = ap (λ own. take f.shared before ++ reverse own) (stretch_more words more f.start (f.count - f.shared) fits.within)

pub from_more : (words more before : List FrameEntry) (made : List WordsOf) → FitFrom words before made → words_from (words ++ more) before made ≡ words_from words before made
from_more words more before [] fit = refl
from_more words more before (f ∷ made) fit =
    let one = behind_more words more before f fit.0 in
    rw one (ap (λ rest. words_behind words before f ∷ rest) (from_more words more (words_behind words before f) made fit.1))

pub fits_more : (words more before : List FrameEntry) (f : WordsOf) → Fits words before f → Fits (words ++ more) before f
fits_more words more before f fits = record {
  within = omega (arith, length-append words more, fits.within);
  below = fits.below;
  shared = fits.shared;
}

pub fit_more : (words more before : List FrameEntry) (made : List WordsOf) → FitFrom words before made → FitFrom (words ++ more) before made
fit_more words more before [] fit = tt
fit_more words more before (f ∷ made) fit = (
  fits_more words more before f fit.0,
  subst (λ now. FitFrom (words ++ more) now made) (sym (behind_more words more before f fit.0)) (fit_more words more (words_behind words before f) made fit.1),
)

-- ---- a frame more

abbrev pub last_words : List FrameEntry → List FrameEntry → List WordsOf → List FrameEntry
last_words words before [] = before
last_words words before (f ∷ made) = last_words words (words_behind words before f) made

pub from_pushed : (words before : List FrameEntry) (made : List WordsOf) (f : WordsOf)
    → words_from words before (made ++ f ∷ []) ≡ words_from words before made ++ words_behind words (last_words words before made) f ∷ []
from_pushed words before [] f = refl
from_pushed words before (g ∷ made) f = ap (λ rest. words_behind words before g ∷ rest) (from_pushed words (words_behind words before g) made f)

pub fit_pushed : (words before : List FrameEntry) (made : List WordsOf) (f : WordsOf) → FitFrom words before made → Fits words (last_words words before made) f
    → FitFrom words before (made ++ f ∷ [])
fit_pushed words before [] f fit one = (one, tt)
fit_pushed words before (g ∷ made) f fit one = (fit.0, fit_pushed words (words_behind words before g) made f fit.1 one)

abbrev pub last_or : {X : Type 0} → X → List X → X
last_or x [] = x
last_or x (y ∷ ys) = last_or y ys

pub last_words_is : (words before : List FrameEntry) (made : List WordsOf) → last_words words before made ≡ last_or before (words_from words before made)
last_words_is words before [] = refl
last_words_is words before (f ∷ made) = last_words_is words (words_behind words before f) made

pub last_pushed : {X : Type 0} (x y : X) (xs : List X) → last_or x (xs ++ y ∷ []) ≡ y
last_pushed x y [] = refl
last_pushed x y (z ∷ xs) = last_pushed z y xs

-- ---- the first word that is `this`

lt_true : (a b : ℕ) → a < b → nat_lt a b ≡ true
lt_true a b lt = grind (arith, nat_tests)

lt_false : (a b : ℕ) → b ≤ a → nat_lt a b ≡ false
lt_false a b le = grind (arith, nat_tests)

-- one entry more below, of one word
module _ (types : EntryTypes) (from now this : ℕ) (entry : FrameEntry) (more : List FrameEntry) (is : from ≡ now + 1) (other : is_this types entry ≡ false)
    (first : IsFirstThis types from more this) where
  each_more : (count : ℕ) → count ≤ length (entry ∷ more) → list_any (is_this types) (take count (entry ∷ more)) ≡ nat_lt this (now + count)
  each_more zero le = let low = first.0 in sym (lt_false this (now + zero) (omega (arith, low)))
  each_more (suc count) le = ap (λ t. t || list_any (is_this types) (take count more)) other ∙ (first.1 count (omega (arith, le)) ∙ ap (nat_lt this) (omega arith))

  pub first_more : IsFirstThis types now (entry ∷ more) this
  first_more = let low = first.0 in (omega (arith, low), each_more)

module _ (types : EntryTypes) (now : ℕ) (entry : FrameEntry) (more : List FrameEntry) (is : is_this types entry ≡ true) where
  each_is : (count : ℕ) → count ≤ length (entry ∷ more) → list_any (is_this types) (take count (entry ∷ more)) ≡ nat_lt now (now + count)
  each_is zero le = sym (lt_false now (now + zero) (omega arith))
  each_is (suc count) le = ap (λ t. t || list_any (is_this types) (take count more)) is ∙ sym (lt_true now (now + suc count) (omega arith))

  pub first_is : IsFirstThis types now (entry ∷ more) now
  first_is = (omega arith, each_is)

-- ---- the words of a frame that is added

pub behind_is : (types : EntryTypes) (words before taken left : List FrameEntry) (f : WordsOf) → f.start ≡ length words
    → f.shared ≡ length (locals_by_words types left) → f.count ≡ length (locals_by_words types (taken ++ left))
    → take f.shared before ≡ locals_by_words types left
    → words_behind (words ++ reverse (locals_by_words types taken)) before f ≡ locals_by_words types (taken ++ left)
behind_is types words before taken left f start shared count same =
    let parts = words_parts types taken left in
    let lengths : length (locals_by_words types (taken ++ left)) ≡ length (locals_by_words types left) + length (locals_by_words types taken) =
    ap length parts ∙ length-append (locals_by_words types left) (locals_by_words types taken) in
    let many : length (reverse (locals_by_words types taken)) ≤ f.count - f.shared =
    omega (arith, length-reverse (locals_by_words types taken), lengths, shared, count) in
    let own : stretch (words ++ reverse (locals_by_words types taken)) f.start (f.count - f.shared) ≡ reverse (locals_by_words types taken) =
    ap (take (f.count - f.shared)) (drop_at words (reverse (locals_by_words types taken)) f.start (sym start))
    ∙ take_all (f.count - f.shared) (reverse (locals_by_words types taken)) many in
    ap (λ ys. take f.shared before ++ reverse ys) own
    ∙ (ap (λ ys. take f.shared before ++ ys) (reverse-reverse (locals_by_words types taken))
    ∙ (ap (λ ys. ys ++ locals_by_words types taken) same ∙ sym parts))

pub fits_is : (types : EntryTypes) (words before taken left : List FrameEntry) (f : WordsOf) → f.start ≡ length words
    → f.shared ≡ length (locals_by_words types left) → f.count ≡ length (locals_by_words types (taken ++ left))
    → take f.shared before ≡ locals_by_words types left
    → Fits (words ++ reverse (locals_by_words types taken)) before f
fits_is types words before taken left f start shared count same =
    let lengths : length (locals_by_words types (taken ++ left)) ≡ length (locals_by_words types left) + length (locals_by_words types taken) =
    ap length (words_parts types taken left) ∙ length-append (locals_by_words types left) (locals_by_words types taken) in
    let all : length (words ++ reverse (locals_by_words types taken)) ≡ length words + length (locals_by_words types taken) =
    omega (arith, length-append words (reverse (locals_by_words types taken)), length-reverse (locals_by_words types taken)) in
    let there : min f.shared (length before) ≡ length (locals_by_words types left) = sym (length-take f.shared before) ∙ ap length same in
    record {
      within = omega (arith, lengths, all);
      below = omega (arith, lengths);
      shared = omega (arith, there);
    }

-- ---- the first word that is `this`, of a frame that is added

module _ (types : EntryTypes) (before own : List FrameEntry) (s b laid this : ℕ) (within : s ≤ length before)
    (low : IsFirstThis types 0 before b) (high : IsFirstThis types s own laid) where
  front : length (take s before) ≡ s
  front = omega (arith, length-take s before, within)

  all_below : (count : ℕ) → count ≤ s → list_any (is_this types) (take count (take s before ++ own)) ≡ nat_lt b count
  all_below count le =
      let there : count ≤ length (take s before) = omega (arith, front) in
      ap (list_any (is_this types)) (take-append-le count (take s before) own there ∙ take-take count s before le)
      ∙ (low.1 count (omega (arith, within)) ∙ ap (nat_lt b) (omega arith))

  all_above : (count m : ℕ) → count ≡ s + m → m ≤ length own
      → list_any (is_this types) (take count (take s before ++ own)) ≡ (nat_lt b s || nat_lt laid count)
  all_above count m is le =
      ap (λ n. list_any (is_this types) (take n (take s before ++ own))) is
      ∙ (ap (list_any (is_this types)) (take-add s m (take s before ++ own))
      ∙ (list_any-append (is_this types) (take s (take s before ++ own)) (take m (drop s (take s before ++ own)))
      ∙ (ap (λ xs. list_any (is_this types) xs || list_any (is_this types) (take m (drop s (take s before ++ own)))) (take_at (take s before) own s front)
      ∙ (ap (λ xs. list_any (is_this types) (take s before) || list_any (is_this types) (take m xs)) (drop_at (take s before) own s front)
      ∙ (ap (λ t. t || list_any (is_this types) (take m own)) (low.1 s within ∙ ap (nat_lt b) (omega arith))
      ∙ ap (λ t. nat_lt b s || t) (high.1 m le ∙ ap (nat_lt laid) (sym is)))))))

  module _ (is : this ≡ (if nat_lt b s then b else laid)) where
    beyond : (count : ℕ) → s < count → (nat_lt b s || nat_lt laid count) ≡ nat_lt this count
    beyond count above = elim (cases_lt b s) [
      | inl less ↦
          let here : this ≡ b = is ∙ ap (λ t. if t then b else laid) (lt_true b s less) in
          ap (λ t. t || nat_lt laid count) (lt_true b s less) ∙ sym (ap (λ n. nat_lt n count) here ∙ lt_true b count (omega (arith, less, above)))
      | inr more ↦
          let here : this ≡ laid = is ∙ ap (λ t. if t then b else laid) (lt_false b s more) in
          ap (λ t. t || nat_lt laid count) (lt_false b s more) ∙ sym (ap (λ n. nat_lt n count) here)
    ]

    within_of : (count : ℕ) → count ≤ s → nat_lt b count ≡ nat_lt this count
    within_of count below = elim (cases_lt b s) [
      | inl less ↦ ap (λ n. nat_lt n count) (sym (is ∙ ap (λ t. if t then b else laid) (lt_true b s less)))
      | inr more ↦
          let here : this ≡ laid = is ∙ ap (λ t. if t then b else laid) (lt_false b s more) in
          let least = high.0 in
          lt_false b count (omega (arith, more, below)) ∙ sym (ap (λ n. nat_lt n count) here ∙ lt_false laid count (omega (arith, least, below)))
    ]

    each_behind : (count : ℕ) → count ≤ length (take s before ++ own) → list_any (is_this types) (take count (take s before ++ own)) ≡ nat_lt this count
    each_behind count le =
        elim (cases_lt s count) [
          | inl above ↦ all_above count (count - s) (omega (arith, above)) (omega (arith, length-append (take s before) own, front, le)) ∙ beyond count above
          | inr below ↦ all_below count below ∙ within_of count below
        ]

    pub first_behind : IsFirstThis types 0 (take s before ++ own) this
    first_behind = (omega arith, λ count le. each_behind count le ∙ ap (nat_lt this) (omega arith))

module _ (types : EntryTypes) (this : ℕ) where
  each_none : (count : ℕ) → count ≤ length {A = FrameEntry} [] → list_any (is_this types) (take count []) ≡ nat_lt this (0 + count)
  each_none zero le = sym (lt_false this (0 + zero) (omega arith))
  each_none (suc count) le = absurd (omega (arith, le))

  pub none_first : IsFirstThis types 0 [] this
  none_first = (omega arith, each_none)
