-- What is shown of frames, against what is kept of them.
use Rattle.std.proofs.Common.{◌≡◌, inl, inr, ℕ, zero, suc, ◌+◌, ◌-◌, ◌<◌, ◌≤◌, min, max, false, List, [], ◌∷◌, length, map, take, drop, reverse, get_or, refl, sym, ap, ◌∙◌, subst, arith}
use Rattle.std.specs.Prelude.{Option, Some, None, IfSome, IfNone}
use Rattle.std.proofs.lemmas.Bool.{cases_lt}
use Rattle.std.proofs.lemmas.List.{length-take, get_or-map, get_or_default}
use Rattle.jv_stackmap.specs.declared.entry.FrameEntry.{FrameEntry}
use Rattle.jv_verify_peaks.specs.Stretches.{AreAtMost, IsFirstAbove, IsGreatest, IsLastAbove}
use Rattle.jv_verify_maps.specs.declared.frames.WordsOf.{WordsOf}
use Rattle.jv_verify_maps.specs.Words.{MapWords, Agree, words_at}
use Rattle.jv_verify_maps.specs.Inside.Kept.{apart_of, blank, count_of, has_this, words_behind, words_from, Fits, FitFrom, IsOwner}
use Rattle.jv_verify_maps.proofs.Keeping.{words_of, count_is, many_are, share_all, stretch_is, owner_shares}

abbrev pub kept : List FrameEntry → List WordsOf → MapWords
kept words frames = record { frames = words_from words [] frames; with_this = map has_this frames }

-- ---- numbers of frames

pub element : (frames : List WordsOf) (k : ℕ) (f : WordsOf) → k < length frames → f ≡ get_or frames k f → f ≡ get_or frames k blank
element frames k f lt is = is ∙ get_or_default frames k f blank lt

count_at_most : (frames : List WordsOf) (k bound : ℕ) → k < length frames → get_or (map count_of frames) k 0 ≤ bound → (get_or frames k blank).count ≤ bound
count_at_most frames k bound lt le = let is = get_or-map count_of frames k blank 0 lt in omega (arith, is, le)

apart_at : (frames : List WordsOf) (k : ℕ) → k < length frames → get_or (map apart_of frames) k 0 ≡ 65535 - (get_or frames k blank).shared
apart_at frames k lt = get_or-map apart_of frames k blank 0 lt

pub apart_few : (frames : List WordsOf) (apart : List ℕ) (from to top : ℕ) → apart ≡ map apart_of frames → to ≤ length frames → IsGreatest from to apart top → top ≤ 65535
apart_few frames apart from to top is within greatest = elim greatest.reached [
  | inl none ↦ omega (arith, none)
  | inr h ↦
      let there : get_or (map apart_of frames) h.0 0 ≡ top = subst (λ ns. get_or ns h.0 0 ≡ top) is h.3 in
      let below = h.2 in
      omega (arith, there, apart_at frames h.0 (omega (arith, below, within)))
]

-- what is shared by each of a stretch of frames
pub shared_least : (frames : List WordsOf) (apart : List ℕ) (from to bound c : ℕ) → apart ≡ map apart_of frames → to ≤ length frames
    → AreAtMost bound from to apart → bound + c ≤ 65535 → (k : ℕ) → from ≤ k → k < to → c ≤ (get_or frames k blank).shared
shared_least frames apart from to bound c is within most sum k low high =
    let one : get_or (map apart_of frames) k 0 ≤ bound = subst (λ ns. get_or ns k 0 ≤ bound) is (most k low high) in
    omega (arith, one, apart_at frames k (omega (arith, within, high)), sum)

shared_above : (frames : List WordsOf) (d : WordsOf) (place index k : ℕ) → place < length frames → index < (get_or frames place d).shared → place ≡ k
    → index < (get_or frames k blank).shared
shared_above frames d place index k lt above same =
    subst (λ n. index < (get_or frames n blank).shared) same (subst (λ (f : WordsOf). index < f.shared) (get_or_default frames place d blank lt) above)

pub owner_found : (frames : List WordsOf) (d : WordsOf) (apart : List ℕ) (place index bound found : ℕ) → apart ≡ map apart_of frames → place < length frames
    → bound + index ≡ 65534 → index < (get_or frames place d).shared → IsLastAbove bound place found apart → IsOwner frames place index found
owner_found frames d apart place index bound found is lt sum above last =
    let before = last.before in
    let high : bound < get_or (map apart_of frames) found 0 = subst (λ ns. bound < get_or ns found 0) is last.above in
    record {
      least = omega (arith, before);
      own = omega (arith, high, apart_at frames found (omega (arith, before, lt)), sum);
      shared = λ k more less. elim (cases_lt k place) [
        | inl below ↦
            let shared = shared_least frames apart (found + 1) place bound (index + 1) is (omega (arith, lt)) last.last (omega (arith, sum)) k (omega (arith, more)) below in
            omega (arith, shared)
        | inr past ↦ shared_above frames d place index k lt above (omega (arith, less, past))
      ];
    }

pub owner_first : (frames : List WordsOf) (d : WordsOf) (apart : List ℕ) (place index bound : ℕ) → apart ≡ map apart_of frames → place < length frames
    → bound + index ≡ 65534 → index < (get_or frames place d).shared → (get_or frames 0 blank).shared ≡ 0 → AreAtMost bound 0 place apart → IsOwner frames place index 0
owner_first frames d apart place index bound is lt sum above first all = record {
  least = omega arith;
  own = omega (arith, first);
  shared = λ k more less. elim (cases_lt k place) [
    | inl below ↦
        let shared = shared_least frames apart 0 place bound (index + 1) is (omega (arith, lt)) all (omega (arith, sum)) k (omega arith) below in omega (arith, shared)
    | inr past ↦ shared_above frames d place index k lt above (omega (arith, less, past))
  ];
}

pub first_shares : (words : List FrameEntry) (frames : List WordsOf) → FitFrom words [] frames → (get_or frames 0 blank).shared ≡ 0
first_shares words [] fit = refl
first_shares words (f ∷ more) fit = let least = fit.0.shared in omega (arith, least)

fits_in : (words before : List FrameEntry) (frames : List WordsOf) (k : ℕ) → FitFrom words before frames → k < length frames
    → (b : List FrameEntry) × Fits words b (get_or frames k blank) × (words_of words before frames k ≡ words_behind words b (get_or frames k blank))
fits_in words before [] k fit lt = absurd (omega (arith, lt))
fits_in words before (f ∷ more) zero fit lt = (before, fit.0, refl)
fits_in words before (f ∷ more) (suc k) fit lt = fits_in words (words_behind words before f) more k fit.1 (omega (arith, lt))

-- ---- frames that are shown

module _ (words : List FrameEntry) (frames : List WordsOf) (m : MapWords) (fit : FitFrom words [] frames) (is : kept words frames ≡ m) where
  pub len_is : length m.frames ≡ length frames
  len_is = subst (λ (v : MapWords). length v.frames ≡ length frames) is (many_are words [] frames)

  words_is : (k : ℕ) → words_at m k ≡ words_of words [] frames k
  words_is k = subst (λ (v : MapWords). words_at v k ≡ words_of words [] frames k) is refl

  pub count_at : (k : ℕ) → k < length m.frames → (get_or frames k blank).count ≡ length (words_at m k)
  count_at k lt = sym (ap length (words_is k) ∙ count_is words [] frames k fit (omega (arith, len_is, lt)))

  pub this_at : (k : ℕ) → k < length m.frames → has_this (get_or frames k blank) ≡ get_or m.with_this k false
  this_at k lt =
      sym (subst (λ (v : MapWords). get_or v.with_this k false ≡ get_or (map has_this frames) k false) is refl
      ∙ get_or-map has_this frames k blank false (omega (arith, len_is, lt)))

  pub fewer_at : (counts : List ℕ) (from to bound : ℕ) → counts ≡ map count_of frames → to ≤ length m.frames → AreAtMost bound from to counts
      → (k : ℕ) → from ≤ k → k < to → length (words_at m k) ≤ bound
  fewer_at counts from to bound counts_is within most k low high =
      let one : get_or (map count_of frames) k 0 ≤ bound = subst (λ ns. get_or ns k 0 ≤ bound) counts_is (most k low high) in
      let at = count_at k (omega (arith, within, high)) in
      omega (arith, count_at_most frames k bound (omega (arith, len_is, within, high)) one, at)

  pub more_found : (r : Option ℕ) (counts : List ℕ) (from to bound : ℕ) → to ≡ length m.frames → IfSome r (λ place. IsFirstAbove bound from to place counts)
      → IfSome r (λ found. (from ≤ found) × (found < length m.frames))
  more_found (Some found) counts from to bound is first = let before = first.before in (first.least, omega (arith, before, is))
  more_found None counts from to bound is first = first

  pub more_there : (r : Option ℕ) (counts : List ℕ) (from to bound words : ℕ) → counts ≡ map count_of frames → to ≡ length m.frames → bound ≡ words
      → IfSome r (λ place. IsFirstAbove bound from to place counts)
      → IfSome r (λ found. words < length (words_at m found))
  more_there (Some found) counts from to bound words counts_is is same first =
      let before = first.before in
      let above : bound < get_or (map count_of frames) found 0 = subst (λ ns. bound < get_or ns found 0) counts_is first.above in
      let there : found < length frames = omega (arith, before, is, len_is) in
      let count : get_or (map count_of frames) found 0 ≡ (get_or frames found blank).count = get_or-map count_of frames found blank 0 there in
      let shown : (get_or frames found blank).count ≡ length (words_at m found) = count_at found (omega (arith, before, is)) in
      omega (arith, above, count, shown, same)
  more_there None counts from to bound words counts_is is same first = first

  pub fewer_before : (r : Option ℕ) (counts : List ℕ) (from to bound words : ℕ) → counts ≡ map count_of frames → to ≡ length m.frames → bound ≡ words
      → IfSome r (λ place. IsFirstAbove bound from to place counts)
      → IfSome r (λ found. (k : ℕ) → from ≤ k → k < found → length (words_at m k) ≤ words)
  fewer_before (Some found) counts from to bound words counts_is is same first =
      λ k low high.
      let before = first.before in
      let few = fewer_at counts from found bound counts_is (omega (arith, before, is)) first.first k low high in omega (arith, few, same)
  fewer_before None counts from to bound words counts_is is same first = first

  pub none_more : (r : Option ℕ) (counts : List ℕ) (from to bound words : ℕ) → counts ≡ map count_of frames → to ≡ length m.frames → bound ≡ words
      → IfNone r (AreAtMost bound from to counts)
      → IfNone r ((k : ℕ) → from ≤ k → k < length m.frames → length (words_at m k) ≤ words)
  none_more (Some found) counts from to bound words counts_is is same all = all
  none_more None counts from to bound words counts_is is same all =
      λ k low high. let few = fewer_at counts from to bound counts_is (omega (arith, is)) all k low (omega (arith, high, is)) in omega (arith, few, same)

  pub agree_up : (j last c : ℕ) → j ≤ last → last < length m.frames → ((k : ℕ) → j < k → k ≤ last → c ≤ (get_or frames k blank).shared) → Agree m last j c
  agree_up j last c le lt all =
      ap (take c) (words_is last)
      ∙ (share_all words [] frames j (last - j) last c fit (omega (arith, le)) (omega (arith, len_is, lt)) all ∙ ap (take c) (sym (words_is j)))

  pub agree_around : (place first last c : ℕ) → place ≤ last → last < length m.frames
      → ((k : ℕ) → first < k → k ≤ place → c ≤ (get_or frames k blank).shared)
      → ((k : ℕ) → place < k → k ≤ last → c ≤ (get_or frames k blank).shared)
      → (k : ℕ) → first ≤ k → k ≤ last → Agree m k place c
  agree_around place first last c le lt low high k from to =
      elim (cases_lt place k) [
        | inl above ↦ agree_up place k c (omega (arith, above)) (omega (arith, to, lt)) (λ j more less. high j more (omega (arith, less, to)))
        | inr below ↦ sym (agree_up k place c below (omega (arith, le, lt)) (λ j more less. low j (omega (arith, more, from)) less))
      ]

  pub agree_of : (place other first last apart_top : ℕ) (apart : List ℕ) → apart ≡ map apart_of frames → place < length m.frames → other < length m.frames
      → first ≡ min place other → last ≡ max place other → IsGreatest (first + 1) (last + 1) apart apart_top → apart_top ≤ 65535
      → Agree m place other (65535 - apart_top)
  agree_of place other first last apart_top apart apart_is lt lt_other first_is last_is greatest few =
      let shared : (k : ℕ) → first < k → k ≤ last → 65535 - apart_top ≤ (get_or frames k blank).shared =
      λ k more less. shared_least frames apart (first + 1) (last + 1) apart_top (65535 - apart_top) apart_is (omega (arith, len_is, lt, lt_other, last_is)) greatest.bounds
      (omega (arith, few)) k (omega (arith, more)) (omega (arith, less)) in
      elim (cases_lt place other) [
        | inl less ↦
            sym (agree_up place other (65535 - apart_top) (omega (arith, less)) lt_other
            (λ k more most. shared k (omega (arith, first_is, less, more)) (omega (arith, last_is, less, most))))
        | inr more ↦
            agree_up other place (65535 - apart_top) more lt
            (λ k above most. shared k (omega (arith, first_is, more, above)) (omega (arith, last_is, more, most)))
      ]

  -- a stretch of a frame's own words, of the owner of one of them
  module _ (place to owner : ℕ) (lt : place < length m.frames) (some : 0 < to) (few : to ≤ length (words_at m place))
      (own : IsOwner frames place (to - 1) owner) where
    abbrev f : WordsOf
    f = get_or frames owner blank

    pub owner_within : owner < length frames
    owner_within = let least = own.least in omega (arith, least, lt, len_is)

    same : take to (words_of words [] frames place) ≡ take to (words_of words [] frames owner)
    same =
        let n : to - 1 + 1 ≡ to = omega (arith, some) in
        subst (λ n. take n (words_of words [] frames place) ≡ take n (words_of words [] frames owner)) n
        (owner_shares words frames place (to - 1) owner fit (omega (arith, len_is, lt)) own)

    pub below_count : to ≤ f.count
    below_count =
        let many : length (words_of words [] frames place) ≡ length (words_at m place) = ap length (sym (words_is place)) in
        let lengths : min to (length (words_of words [] frames place)) ≡ min to (length (words_of words [] frames owner)) =
        sym (length-take to (words_of words [] frames place)) ∙ (ap length same ∙ length-take to (words_of words [] frames owner)) in
        let count = count_is words [] frames owner fit owner_within in
        omega (arith, many, lengths, count, few)

    pub above_shared : f.shared < to
    above_shared = let least = own.own in omega (arith, least, some)

    pub in_words : f.start + (f.count - f.shared) ≤ length words
    in_words = (fits_in words [] frames owner fit owner_within).1.within

    pub stretch_shown : reverse (take (to - f.shared) (drop (f.start + (f.count - to)) words)) ≡ drop f.shared (take to (words_at m place))
    stretch_shown =
        let fits = fits_in words [] frames owner fit owner_within in
        stretch_is words fits.0 f to (to - f.shared) (f.count - to) fits.1 (omega (arith, above_shared)) (omega (arith, below_count))
        ∙ ap (drop f.shared) (ap (take to) (sym fits.2) ∙ (sym same ∙ ap (take to) (sym (words_is place))))

-- what is known of such a stretch, by what is kept of its owner
pub record IsStretch (words : List FrameEntry) (m : MapWords) (place to : ℕ) (f : WordsOf) : Type 0 where
  pub below : to ≤ f.count
  pub above : f.shared < to
  pub within : f.start + (f.count - f.shared) ≤ length words
  pub shown : reverse (take (to - f.shared) (drop (f.start + (f.count - to)) words)) ≡ drop f.shared (take to (words_at m place))

module _ (words : List FrameEntry) (frames slice : List WordsOf) (m : MapWords) (fit : FitFrom words [] frames) (is : kept words frames ≡ m) (same : slice ≡ frames)
    (place to owner : ℕ) (lt : place < length m.frames) (some : 0 < to) (few : to ≤ length (words_at m place)) (own : IsOwner slice place (to - 1) owner) where
  owned : IsOwner frames place (to - 1) owner
  owned = subst (λ fs. IsOwner fs place (to - 1) owner) same own

  pub owner_there : owner < length frames
  owner_there = owner_within words frames m fit is place to owner lt some few owned

  pub stretches : (f : WordsOf) → f ≡ get_or frames owner f → IsStretch words m place to f
  stretches f at =
      subst (λ (g : WordsOf). IsStretch words m place to g) (sym (element frames owner f owner_there at))
      (record {
        below = below_count words frames m fit is place to owner lt some few owned;
        above = above_shared words frames m fit is place to owner lt some few owned;
        within = in_words words frames m fit is place to owner lt some few owned;
        shown = stretch_shown words frames m fit is place to owner lt some few owned;
      })
