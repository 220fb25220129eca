-- Words that came down (JVMS 2.6.4).
use Rattle.std.proofs.Common.{◌≡◌, ℕ, ◌+◌, ◌<◌, ◌≤◌, ◌≢◌, List, [], ◌∷◌, ◌++◌, drop, get_or, length, reverse, set, take, refl, sym, ap, ◌∙◌, arith, append_assoc, append-nil, length-drop}
use Rattle.std.proofs.lemmas.List.{reverse-append, take_more, take_more_set, get_or-drop, get_or-set_other, length-reverse, length-set}
use Rattle.std.proofs.Math.ListN.{length-take}
use Rattle.std.proofs.Math.Seq.{take-add, take-append_seam}
use Rattle.jv_interp_words.specs.FramesInWords.{in_use}

pub record MovedSoFar (from to place : ℕ) (old now : List ℕ) : Type 0 where
  pub moved : take (to + place) now ≡ take to old ++ take place (drop from old)
  pub later : (i : ℕ) → from + place ≤ i → get_or now i 0 ≡ get_or old i 0
  pub size : length now ≡ length old

pub none_moved : (from to : ℕ) (old : List ℕ) → MovedSoFar from to 0 old old
none_moved from to old = record {
  moved = let e : to + 0 ≡ to = omega arith in ap (λ (n : ℕ). take n old) e ∙ sym (no_more (take to old));
  later = λ i low. refl;
  size = refl;
}
  where
    no_more : (xs : List ℕ) → xs ++ [] ≡ xs
    no_more xs = append-nil xs

pub one_moved :
    (from to place count : ℕ) (old now : List ℕ) → to ≤ from → from + count ≤ length old → place < count → MovedSoFar from to place old now
    → MovedSoFar from to (place + 1) old (set now (to + place) (get_or now (from + place) 0))
one_moved from to place count old now lower within low h =
    let word = get_or now (from + place) 0 in
    let size = h.size in
    let there : to + place < length now = omega (arith, size, lower, within, low) in
    let same : word ≡ get_or old (from + place) 0 = h.later (from + place) (omega arith) in
    let inside : place < length (drop from old) = omega (arith, length-drop from old, within, low) in
    let next : take (place + 1) (drop from old) ≡ take place (drop from old) ++ word ∷ [] =
    take_more (drop from old) place 0 inside ∙ ap (λ (x : ℕ). take place (drop from old) ++ x ∷ []) (get_or-drop from old place 0 ∙ sym same) in
    let sum : to + (place + 1) ≡ to + place + 1 = omega arith in
    record {
      moved =
          ap (λ (n : ℕ). take n (set now (to + place) word)) sum ∙ take_more_set now (to + place) word there
          ∙ ap (λ (l : List ℕ). l ++ word ∷ []) h.moved ∙ append_assoc (take to old) (take place (drop from old)) (word ∷ [])
          ∙ ap (λ (l : List ℕ). take to old ++ l) (sym next);
      later =
          λ i high.
          let apart : i ≢ to + place = λ e. absurd (omega (arith, e, high, lower)) in
          get_or-set_other now (to + place) i word 0 apart ∙ h.later i (omega (arith, high));
      size = length-set now (to + place) word ∙ h.size;
    }

pub all_moved :
    (from to count : ℕ) (old now : List ℕ) → from + count ≤ length old → MovedSoFar from to count old now
    → in_use now (to + count) ≡ take count (in_use old (from + count)) ++ in_use old to
all_moved from to count old now within h =
    let words = take count (drop from old) in
    let size : length (reverse words) ≡ count = omega (arith, length-reverse words, length-take count (drop from old), length-drop from old, within) in
    let all : in_use old (from + count) ≡ reverse words ++ reverse (take from old) =
    ap (λ (l : List ℕ). reverse l) (take-add from count old) ∙ reverse-append (take from old) words in
    let front : take count (in_use old (from + count)) ≡ reverse words =
    ap (λ (l : List ℕ). take count l) all ∙ ap (λ (n : ℕ). take n (reverse words ++ reverse (take from old))) (sym size)
    ∙ take-append_seam (reverse words) (reverse (take from old)) in
    ap (λ (l : List ℕ). reverse l) h.moved ∙ reverse-append (take to old) words ∙ ap (λ (l : List ℕ). l ++ in_use old to) (sym front)
