-- All frames of a map, kept by their words.
use Rattle.std.proofs.Common.{◌≡◌, ℕ, suc, ◌+◌, ◌<◌, ◌≤◌, Bool, true, false, List, [], ◌∷◌, ◌||◌, length, map, take, drop, reverse, get_or, refl, sym, ap, ◌∙◌, subst, arith, Result, Ok, Err}
use Rattle.std.specs.Prelude.{nat_lt, IfOk}
use Rattle.std.specs.List.{flat_map, list_any}
use Rattle.std.proofs.lemmas.List.{take_all}
use Rattle.std.proofs.lemmas.List.Folds.{list_any-append}
use Rattle.jv_stackmap.specs.declared.entry.FrameEntry.{FrameEntry}
use Rattle.jv_stackmap.specs.declared.verification.VerificationTypeOf.TheVariants as variants
use Rattle.jv_stackmap.specs.Types.{FrameType}
use Rattle.jv_stackmap.specs.Entries.{ReadFrame}
use Rattle.jv_verify_types.specs.Mapped.{EntryTypes, type_of_entry}
use Rattle.jv_verify_maps.specs.declared.frames.WordsOf.{WordsOf}
use Rattle.jv_verify_maps.specs.Words.{MapWords, words_by, entry_by_words, frame_by_words, frame_has_this, map_by_words}
use Rattle.jv_verify_maps.specs.Inside.Kept.{blank, has_this, words_behind, words_from, FitFrom}
use Rattle.jv_verify_maps.specs.Inside.Made.{is_this, AreMade, IsFirstThis}
use Rattle.jv_verify_maps.proofs.Keeping.{count_is}

-- ---- `this` among entries, and among their words

or_false : (b : Bool) → (b || false) ≡ b
or_false b = elim b as (λ b. (b || false) ≡ b) [ true ↦ refl | false ↦ refl ]

any_of_one : (types : EntryTypes) (entry : FrameEntry) (t : FrameType)
    → list_any (is_this types) (words_by entry t) ≡ is_this types entry
any_of_one types entry variants.Top = or_false (is_this types entry)
any_of_one types entry variants.Int = or_false (is_this types entry)
any_of_one types entry variants.Long = or_false (is_this types entry)
any_of_one types entry variants.Null = or_false (is_this types entry)
any_of_one types entry variants.UninitializedThis = or_false (is_this types entry)
any_of_one types entry (variants.Class name) = or_false (is_this types entry)
any_of_one types entry (variants.Array type) = or_false (is_this types entry)
any_of_one types entry (variants.Uninitialized offset) = or_false (is_this types entry)

any_of_words : (types : EntryTypes) (entries : List FrameEntry) → list_any (is_this types) (flat_map (entry_by_words types) entries) ≡ list_any (is_this types) entries
any_of_words types [] = refl
any_of_words types (entry ∷ more) =
    list_any-append (is_this types) (entry_by_words types entry) (flat_map (entry_by_words types) more)
    ∙ (ap (λ b. b || list_any (is_this types) (flat_map (entry_by_words types) more)) (any_of_one types entry (type_of_entry types entry))
    ∙ ap (λ b. is_this types entry || b) (any_of_words types more))

-- ---- whether each frame has it

pub this_shown : (types : EntryTypes) (words before : List FrameEntry) (made : List WordsOf) (frames : List ReadFrame) → FitFrom words before made
    → words_from words before made ≡ map (frame_by_words types) frames
    → ((k : ℕ) → k < length made → IsFirstThis types 0 (get_or (words_from words before made) k []) (get_or made k blank).this)
    → map has_this made ≡ map (frame_has_this types) frames
this_shown types words before [] [] fit is all = refl
this_shown types words before [] (g ∷ frames) fit is all = let n = ap length is in absurd (omega (arith, n))
this_shown types words before (f ∷ made) [] fit is all = let n = ap length is in absurd (omega (arith, n))
this_shown types words before (f ∷ made) (g ∷ frames) fit is all =
    let w = words_behind words before f in
    let head : w ≡ frame_by_words types g = ap (λ ws. get_or ws 0 []) is in
    let count : length w ≡ f.count = count_is words before (f ∷ made) 0 fit (omega arith) in
    let sum : 0 + length w ≡ f.count = omega (arith, count) in
    let first = (all 0 (omega arith)).1 (length w) (omega arith) in
    let own : list_any (is_this types) w ≡ nat_lt f.this f.count =
    ap (list_any (is_this types)) (sym (take_all (length w) w (omega arith))) ∙ (first ∙ ap (nat_lt f.this) sum) in
    let one : has_this f ≡ frame_has_this types g = sym own ∙ (ap (list_any (is_this types)) head ∙ any_of_words types (reverse g.locals)) in
    ap (λ b. b ∷ map has_this made) one
    ∙ ap (λ bs. frame_has_this types g ∷ bs) (this_shown types words w made frames fit.1 (ap (drop 1) is) (λ k lt. all (suc k) (omega (arith, lt))))

pub none_made : (types : EntryTypes) (frames : List ReadFrame) (words : List FrameEntry) (made : List WordsOf) → words ≡ [] → made ≡ [] → AreMade types (take 0 frames) words made
none_made types frames words made none none_kept =
    subst (λ (ms : List WordsOf). AreMade types (take 0 frames) words ms) (sym none_kept)
    (record { fit = tt; by_words = refl; this = λ k lt. absurd (omega (arith, lt)) })

pub map_made : (types : EntryTypes) (frames : List ReadFrame) (words : List FrameEntry) (made : List WordsOf) (m : MapWords) (n : ℕ) → length frames ≤ n
    → AreMade types (take n frames) words made
    → m.frames ≡ words_from words [] made → m.with_this ≡ map has_this made → m ≡ map_by_words types frames
map_made types frames words made m n all are shown with_this =
    let whole : take n frames ≡ frames = take_all n frames all in
    let by_words : words_from words [] made ≡ map (frame_by_words types) frames = are.by_words ∙ ap (map (frame_by_words types)) whole in
    let frames_are : m.frames ≡ map (frame_by_words types) frames = shown ∙ by_words in
    let this_are : m.with_this ≡ map (frame_has_this types) frames = with_this ∙ this_shown types words [] made frames are.fit by_words are.this in
    ap (λ fs. record { frames = fs; with_this = m.with_this }) frames_are
    ∙ ap (λ bs. record { frames = map (frame_by_words types) frames; with_this = bs }) this_are

pub made_result : {E : Type 0} (types : EntryTypes) (frames : List ReadFrame) (words : List FrameEntry) (made : List WordsOf) (n : ℕ) (r : Result MapWords E)
    → length frames ≤ n → AreMade types (take n frames) words made
    → IfOk r (λ m. m.frames ≡ words_from words [] made) → IfOk r (λ m. m.with_this ≡ map has_this made) → IfOk r (λ m. m ≡ map_by_words types frames)
made_result types frames words made n (Ok m) all are shown with_this = map_made types frames words made m n all are shown with_this
made_result types frames words made n (Err e) all are shown with_this = shown
