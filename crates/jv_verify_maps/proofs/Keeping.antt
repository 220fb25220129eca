-- What is kept of frames, against their words.
use Rattle.std.proofs.Common.{◌≡◌, ℕ, zero, suc, ◌+◌, ◌-◌, ◌<◌, ◌≤◌, List, [], ◌∷◌, ◌++◌, length, take, drop, reverse, get_or, refl, sym, ap, ◌∙◌, arith, length-append, length-drop}
use Rattle.std.proofs.lemmas.List.{length-take, length-reverse, take-append-le, take-take, take_at, drop_at, drop-drop, drop-take, take-append-drop, reverse-append}
use Rattle.jv_stackmap.specs.declared.entry.FrameEntry.{FrameEntry}
use Rattle.jv_verify_maps.specs.declared.frames.WordsOf.{WordsOf}
use Rattle.jv_verify_maps.specs.Inside.Kept.{stretch, words_behind, words_from, Fits, FitFrom, blank, IsOwner}

abbrev pub words_of : List FrameEntry → List FrameEntry → List WordsOf → ℕ → List FrameEntry
words_of words before frames k = get_or (words_from words before frames) k []

-- ---- one behind another

pub words_next : (words before : List FrameEntry) (frames : List WordsOf) (k : ℕ) → suc k < length frames
    → words_of words before frames (suc k) ≡ words_behind words (words_of words before frames k) (get_or frames (suc k) blank)
words_next words before [] k lt = absurd (omega (arith, lt))
words_next words before (f ∷ []) k lt = absurd (omega (arith, lt))
words_next words before (f ∷ g ∷ more) zero lt = refl
words_next words before (f ∷ g ∷ more) (suc k) lt = words_next words (words_behind words before f) (g ∷ more) k (omega (arith, lt))

pub fits_next : (words before : List FrameEntry) (frames : List WordsOf) (k : ℕ) → FitFrom words before frames → suc k < length frames
    → Fits words (words_of words before frames k) (get_or frames (suc k) blank)
fits_next words before [] k fit lt = absurd (omega (arith, lt))
fits_next words before (f ∷ []) k fit lt = absurd (omega (arith, lt))
fits_next words before (f ∷ g ∷ more) zero fit lt = fit.1.0
fits_next words before (f ∷ g ∷ more) (suc k) fit lt = fits_next words (words_behind words before f) (g ∷ more) k fit.1 (omega (arith, lt))

length_behind : (words before : List FrameEntry) (f : WordsOf) → Fits words before f → length (words_behind words before f) ≡ f.count
length_behind words before f fits =
    let one : length (take f.shared before) ≡ f.shared = omega (arith, length-take f.shared before, fits.shared) in
    let own : length (stretch words f.start (f.count - f.shared)) ≡ f.count - f.shared =
    omega (arith, length-take (f.count - f.shared) (drop f.start words), length-drop f.start words, fits.within) in
    let back = length-reverse (stretch words f.start (f.count - f.shared)) in
    omega (arith, length-append (take f.shared before) (reverse (stretch words f.start (f.count - f.shared))), one, own, back, fits.below)

pub count_is : (words before : List FrameEntry) (frames : List WordsOf) (k : ℕ) → FitFrom words before frames → k < length frames
    → length (words_of words before frames k) ≡ (get_or frames k blank).count
count_is words before [] k fit lt = absurd (omega (arith, lt))
count_is words before (f ∷ more) zero fit lt = length_behind words before f fit.0
count_is words before (f ∷ more) (suc k) fit lt = count_is words (words_behind words before f) more k fit.1 (omega (arith, lt))

pub many_are : (words before : List FrameEntry) (frames : List WordsOf) → length (words_from words before frames) ≡ length frames
many_are words before [] = refl
many_are words before (f ∷ more) = ap suc (many_are words (words_behind words before f) more)

-- ---- what frames beside each other share

take_below : (c s : ℕ) (xs ys : List FrameEntry) → c ≤ s → s ≤ length xs → take c (take s xs ++ ys) ≡ take c xs
take_below c s xs ys le within =
    let there : c ≤ length (take s xs) = omega (arith, length-take s xs) in take-append-le c (take s xs) ys there ∙ take-take c s xs le

pub share_next : (words before : List FrameEntry) (frames : List WordsOf) (k c : ℕ) → FitFrom words before frames → suc k < length frames
    → c ≤ (get_or frames (suc k) blank).shared
    → take c (words_of words before frames (suc k)) ≡ take c (words_of words before frames k)
share_next words before frames k c fit lt le =
    ap (take c) (words_next words before frames k lt)
    ∙ take_below c (get_or frames (suc k) blank).shared (words_of words before frames k) _ le (fits_next words before frames k fit lt).shared

pub share_all : (words before : List FrameEntry) (frames : List WordsOf) (j n last c : ℕ) → FitFrom words before frames → last ≡ j + n → last < length frames
    → ((k : ℕ) → j < k → k ≤ last → c ≤ (get_or frames k blank).shared)
    → take c (words_of words before frames last) ≡ take c (words_of words before frames j)
share_all words before frames j zero last c fit is lt all =
    let same : last ≡ j = omega arith in ap (λ k. take c (words_of words before frames k)) same
share_all words before frames j (suc n) zero c fit is lt all = absurd (omega (arith, is))
share_all words before frames j (suc n) (suc last) c fit is lt all =
    share_next words before frames last c fit lt (all (suc last) (omega (arith, is)) (omega arith))
    ∙ share_all words before frames j n last c fit (omega (arith, is)) (omega (arith, lt)) (λ k above below. all k above (omega (arith, below)))

-- ---- some words of a frame's own

take-reverse : (m k : ℕ) (xs : List FrameEntry) → length xs ≡ k + m → take m (reverse xs) ≡ reverse (drop k xs)
take-reverse m k xs is =
    let back : length (reverse (drop k xs)) ≡ m = omega (arith, length-reverse (drop k xs), length-drop k xs) in
    ap (λ ys. take m (reverse ys)) (sym (take-append-drop k xs))
    ∙ (ap (take m) (reverse-append (take k xs) (drop k xs)) ∙ take_at (reverse (drop k xs)) (reverse (take k xs)) m back)

pub stretch_is : (words before : List FrameEntry) (f : WordsOf) (to m k : ℕ) → Fits words before f → to ≡ f.shared + m → f.count ≡ to + k
    → reverse (take m (drop (f.start + k) words)) ≡ drop f.shared (take to (words_behind words before f))
stretch_is words before f to m k fits is rest =
    let front : length (take f.shared before) ≡ f.shared = omega (arith, length-take f.shared before, fits.shared) in
    let many : f.count - f.shared ≡ k + m = omega arith in
    let own : length (stretch words f.start (f.count - f.shared)) ≡ k + m =
    omega (arith, length-take (f.count - f.shared) (drop f.start words), length-drop f.start words, fits.within, many) in
    sym (
    ap (λ n. drop f.shared (take n (words_behind words before f))) is
    ∙ (drop-take f.shared m (words_behind words before f)
    ∙ (ap (take m) (drop_at (take f.shared before) (reverse (stretch words f.start (f.count - f.shared))) f.shared front)
    ∙ (take-reverse m k (stretch words f.start (f.count - f.shared)) own
    ∙ ap reverse (ap (λ n. drop k (take n (drop f.start words))) many ∙ (drop-take k m (drop f.start words) ∙ ap (take m) (drop-drop k f.start words)))))))

-- ---- the last frame that has a word of its own

pub owner_shares : (words : List FrameEntry) (frames : List WordsOf) (place index owner : ℕ) → FitFrom words [] frames → place < length frames
    → IsOwner frames place index owner
    → take (index + 1) (words_of words [] frames place) ≡ take (index + 1) (words_of words [] frames owner)
owner_shares words frames place index owner fit lt is =
    share_all words [] frames owner (place - owner) place (index + 1) fit (omega (arith, is.least)) lt (λ k above below. let less = is.shared k above below in omega (arith, less))
