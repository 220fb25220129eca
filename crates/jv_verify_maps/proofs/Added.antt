-- A frame that is added behind those that are kept.
use Rattle.std.proofs.Common.{◌≡◌, inl, inr, ◌⊎◌, ℕ, ◌+◌, ◌<◌, true, false, List, [], ◌∷◌, ◌++◌, length, map, take, drop, reverse, get_or, refl, sym, ap, ◌∙◌, subst, arith, length-append}
use Rattle.std.specs.Prelude.{slice_get, Some, nat_lt, if◌then◌else◌}
use Rattle.std.proofs.lemmas.Bool.{cases_lt}
use Rattle.std.proofs.lemmas.List.{get_or_push, map-append, take_at, take-append-drop, take_more, get_or_append_left}
use Rattle.std.proofs.lemmas.List.Elements.{All-get_or}
use Rattle.std.proofs.lemmas.Option.{get_or_from_slice_get, slice_get_within}
use Rattle.jv_stackmap.specs.declared.entry.FrameEntry.{FrameEntry}
use Rattle.jv_stackmap.specs.Entries.{ReadFrame}
use Rattle.jv_verify_types.specs.Mapped.{EntryTypes, HaveWords, local_entry_words}
use Rattle.jv_verify_maps.specs.declared.frames.WordsOf.{WordsOf}
use Rattle.jv_verify_maps.specs.declared.making.Laid.{Laid}
use Rattle.jv_verify_maps.specs.Words.{frame_by_words, locals_by_words}
use Rattle.jv_verify_maps.specs.Inside.Kept.{words_behind, words_from, Fits, blank}
use Rattle.jv_verify_maps.specs.Inside.Made.{AreMade, IsFirstThis, Lays, first_this_behind}
use Rattle.jv_verify_maps.proofs.Keeping.{many_are}
use Rattle.jv_verify_maps.proofs.Laying.{words_parts, words_counted, behind_is, fits_is, first_behind, none_first, from_more, fit_more, from_pushed, fit_pushed, last_words, last_or, last_words_is, last_pushed}

-- ---- lists

at_more : {X : Type 0} (xs : List X) (place : ℕ) (x : X) → slice_get xs place ≡ Some x → place < length xs → take (place + 1) xs ≡ take place xs ++ x ∷ []
at_more xs place x at lt = take_more xs place x lt ∙ ap (λ y. take place xs ++ y ∷ []) (get_or_from_slice_get xs place x x at)

there : {X : Type 0} (xs : List X) (place : ℕ) (x : X) → slice_get xs place ≡ Some x → place < length xs
there xs place x at = slice_get_within xs place x at

last_at : {X : Type 0} (x d : X) (xs : List X) → get_or (x ∷ xs) (length xs) d ≡ last_or x xs
last_at x d [] = refl
last_at x d (y ∷ ys) = last_at y d ys

-- ---- the first word that is `this`, before

both : (n s : ℕ) → n ≡ (if nat_lt n s then n else n)
both n s = elim (nat_lt n s) as (λ t. n ≡ (if t then n else n)) [ true ↦ refl | false ↦ refl ]

low_of : (types : EntryTypes) (words : List FrameEntry) (made : List WordsOf) (laid : Laid) (this s : ℕ)
    → ((k : ℕ) → k < length made → IsFirstThis types 0 (get_or (words_from words [] made) k []) (get_or made k blank).this)
    → this ≡ first_this_behind made laid → s ≡ laid.at
    → (b : ℕ) × IsFirstThis types 0 (last_words words [] made) b × (this ≡ (if nat_lt b s then b else laid.this))
low_of types words [] laid this s all is at = (laid.this, none_first types laid.this, is ∙ both laid.this s)
low_of types words (f ∷ more) laid this s all is at =
    let w = words_behind words [] f in
    let last_is : get_or (words_from words [] (f ∷ more)) (length more) [] ≡ last_words words [] (f ∷ more) =
    ap (λ n. get_or (w ∷ words_from words w more) n []) (sym (many_are words w more))
    ∙ (last_at w [] (words_from words w more) ∙ sym (last_words_is words w more)) in (
      (get_or (f ∷ more) (length more) blank).this,
      subst (λ ws. IsFirstThis types 0 ws (get_or (f ∷ more) (length more) blank).this) last_is (all (length more) (omega arith)),
      is ∙ ap (λ n. if nat_lt (get_or (f ∷ more) (length more) blank).this n then (get_or (f ∷ more) (length more) blank).this else laid.this) (sym at),
    )

-- ---- what it shares

module _ (types : EntryTypes) (frames : List ReadFrame) (words words_new : List FrameEntry) (made : List WordsOf) (place : ℕ) (frame : ReadFrame) (f : WordsOf)
    (left : List FrameEntry) (laid : Laid) (are : AreMade types (take place frames) words made) (at : slice_get frames place ≡ Some frame)
    (lays : Lays types frame.locals left words words_new laid) (start : f.start ≡ length words) (count : f.count ≡ length (locals_by_words types frame.locals))
    (shared : f.shared ≡ laid.at) (this : f.this ≡ first_this_behind made laid)
    (shares : (left ≡ []) ⊎ ((g : ReadFrame) × (before : ℕ) × (below : ℕ) × (place ≡ before + 1) × (slice_get frames before ≡ Some g) × (left ≡ drop below g.locals)))
  where
    abbrev before : List FrameEntry
    before = last_words words [] made

    shared_is : f.shared ≡ length (locals_by_words types left)
    shared_is = shared ∙ lays.at

    same : take f.shared before ≡ locals_by_words types left
    same = elim shares [
      | inl none ↦ ap (λ n. take n before) (shared_is ∙ ap (λ l. length (locals_by_words types l)) none) ∙ sym (ap (locals_by_words types) none)
      | inr h ↦
          let before_is : before ≡ frame_by_words types h.0 =
          last_words_is words [] made
          ∙ (ap (last_or []) (are.by_words ∙ (ap (λ n. map (frame_by_words types) (take n frames)) h.3
          ∙ (ap (map (frame_by_words types)) (at_more frames h.1 h.0 h.4 (there frames h.1 h.0 h.4)) ∙ map-append (frame_by_words types) (take h.1 frames) (h.0 ∷ []))))
          ∙ last_pushed [] (frame_by_words types h.0) (map (frame_by_words types) (take h.1 frames))) in
          ap (take f.shared) (before_is ∙ (ap (locals_by_words types) (sym (take-append-drop h.2 h.0.locals)) ∙ words_parts types (take h.2 h.0.locals) (drop h.2 h.0.locals)))
          ∙ (take_at (locals_by_words types (drop h.2 h.0.locals)) (locals_by_words types (take h.2 h.0.locals)) f.shared
          (sym (shared_is ∙ ap (λ l. length (locals_by_words types l)) h.5))
          ∙ sym (ap (locals_by_words types) h.5))
    ]

    whole_is : locals_by_words types frame.locals ≡ locals_by_words types (lays.taken ++ left)
    whole_is = ap (locals_by_words types) lays.whole

    count_is : f.count ≡ length (locals_by_words types (lays.taken ++ left))
    count_is = count ∙ ap length whole_is

    abbrev more : List FrameEntry
    more = reverse (locals_by_words types lays.taken)

    abbrev all : List FrameEntry
    all = words ++ more

    last_is : last_words all [] made ≡ before
    last_is = last_words_is all [] made ∙ (ap (last_or []) (from_more words more [] made are.fit) ∙ sym (last_words_is words [] made))

    behind : words_behind all before f ≡ locals_by_words types (lays.taken ++ left)
    behind = behind_is types words before lays.taken left f start shared_is count_is same

    from_is : words_from all [] (made ++ f ∷ []) ≡ words_from words [] made ++ words_behind all before f ∷ []
    from_is =
        from_pushed all [] made f
        ∙ (ap (λ b. words_from all [] made ++ words_behind all b f ∷ []) last_is
        ∙ ap (λ xs. xs ++ words_behind all before f ∷ []) (from_more words more [] made are.fit))

    fits_before : Fits all before f
    fits_before = fits_is types words before lays.taken left f start shared_is count_is same

    new_this : IsFirstThis types 0 (words_behind all before f) f.this
    new_this =
        let low = low_of types words made laid f.this f.shared are.this this shared in
        let high : IsFirstThis types f.shared (locals_by_words types lays.taken) laid.this =
        subst (λ n. IsFirstThis types n (locals_by_words types lays.taken) laid.this) (sym shared) lays.this in
        subst (λ ws. IsFirstThis types 0 ws f.this)
        (ap (λ ws. ws ++ locals_by_words types lays.taken) same ∙ (sym (words_parts types lays.taken left) ∙ sym behind))
        (first_behind types before (locals_by_words types lays.taken) f.shared low.0 laid.this f.this fits_before.shared low.1 high low.2)

    each_this : (k : ℕ) → k < length (made ++ f ∷ [])
        → IsFirstThis types 0 (get_or (words_from all [] (made ++ f ∷ [])) k []) (get_or (made ++ f ∷ []) k blank).this
    each_this k lt =
        subst (λ ws. IsFirstThis types 0 (get_or ws k []) (get_or (made ++ f ∷ []) k blank).this) (sym from_is)
        (elim (cases_lt k (length made)) [
          | inl less ↦
              subst (λ ws. IsFirstThis types 0 ws (get_or (made ++ f ∷ []) k blank).this)
              (sym (get_or_append_left (words_from words [] made) (words_behind all before f ∷ []) [] k (omega (arith, many_are words [] made, less))))
              (subst (λ (g : WordsOf). IsFirstThis types 0 (get_or (words_from words [] made) k []) g.this)
              (sym (get_or_append_left made (f ∷ []) blank k less)) (are.this k less))
          | inr ge ↦
              let end : length made ≡ k = omega (arith, length-append made (f ∷ []), lt, ge) in
              subst (λ ws. IsFirstThis types 0 ws (get_or (made ++ f ∷ []) k blank).this)
              (sym (get_or_push (words_from words [] made) (words_behind all before f) [] k (many_are words [] made ∙ end)))
              (subst (λ (g : WordsOf). IsFirstThis types 0 (words_behind all before f) g.this) (sym (get_or_push made f blank k end)) new_this)
        ])

    made_all : AreMade types (take (place + 1) frames) all (made ++ f ∷ [])
    made_all = record {
      fit = fit_pushed all [] made f (fit_more words more [] made are.fit) (subst (λ b. Fits all b f) (sym last_is) fits_before);
      by_words =
          from_is ∙ (ap (λ xs. xs ++ words_behind all before f ∷ []) are.by_words
          ∙ (ap (λ w. map (frame_by_words types) (take place frames) ++ w ∷ []) (behind ∙ sym whole_is)
          ∙ sym (ap (map (frame_by_words types)) (at_more frames place frame at (there frames place frame at))
          ∙ map-append (frame_by_words types) (take place frames) (frame ∷ []))));
      this = each_this;
    }

    pub made_more : AreMade types (take (place + 1) frames) words_new (made ++ f ∷ [])
    made_more = subst (λ ws. AreMade types (take (place + 1) frames) ws (made ++ f ∷ [])) (sym lays.words) made_all

-- ---- the words that a frame of the map has

pub words_of_frame : (types : EntryTypes) (frames : List ReadFrame) (place : ℕ) (frame : ReadFrame) → HaveWords types frames → slice_get frames place ≡ Some frame
    → frame.local_words ≡ length (locals_by_words types frame.locals)
words_of_frame types frames place frame have at =
    subst (λ (f : ReadFrame). f.local_words ≡ local_entry_words types f) (get_or_from_slice_get frames place frame frame at)
    (All-get_or (λ f. f.local_words ≡ local_entry_words types f) frames place frame (there frames place frame at) have)
    ∙ sym (words_counted types frame.locals)
