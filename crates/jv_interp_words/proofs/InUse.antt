-- The words in use, word by word.
use Rattle.std.proofs.Common.{◌≡◌, ℕ, ◌+◌, ◌-◌, ◌<◌, ◌≤◌, List, [], ◌∷◌, length, reverse, take, get_or, set, sym, ap, subst, ◌∙◌, arith}
use Rattle.std.proofs.lemmas.List.{reverse-append, reverse-reverse, length-reverse, take_more, take_more_set, take-set-le, get_or-take, length-set}
use Rattle.std.proofs.Math.Seq.{take-set-lt}
use Rattle.std.proofs.Math.ListN.{length-take}
use Rattle.jv_interp_words.specs.FramesInWords.{in_use}

pub in_use_next : (words : List ℕ) (k : ℕ) → k < length words → in_use words (k + 1) ≡ get_or words k 0 ∷ in_use words k
in_use_next words k h =
    ap (λ (l : List ℕ). reverse l) (take_more words k 0 h) ∙ reverse-append (take k words) (get_or words k 0 ∷ [])

pub in_use_top :
    (words : List ℕ) (top : ℕ) → 1 ≤ top → top ≤ length words → in_use words top ≡ get_or words (top - 1) 0 ∷ in_use words (top - 1)
in_use_top words top some within =
    let here : top - 1 < length words = omega arith in
    let up : top - 1 + 1 ≡ top = omega arith in
    subst (λ (n : ℕ). in_use words n ≡ get_or words (top - 1) 0 ∷ in_use words (top - 1)) up (in_use_next words (top - 1) here)

pub in_use_pushed :
    (words : List ℕ) (top word : ℕ) → top < length words → in_use (set words top word) (top + 1) ≡ word ∷ in_use words top
in_use_pushed words top word h =
    ap (λ (l : List ℕ). reverse l) (take_more_set words top word h) ∙ reverse-append (take top words) (word ∷ [])

pub in_use_below : (words : List ℕ) (top word count : ℕ) → count ≤ top → in_use (set words top word) count ≡ in_use words count
in_use_below words top word count h = ap (λ (l : List ℕ). reverse l) (take-set-le count words top word h)

pub in_use_set :
    (words : List ℕ) (at word top : ℕ) → at < top → in_use (set words at word) top ≡ reverse (set (reverse (in_use words top)) at word)
in_use_set words at word top h =
    ap (λ (l : List ℕ). reverse l) (take-set-lt top words at word h)
    ∙ ap (λ (l : List ℕ). reverse (set l at word)) (sym (reverse-reverse (take top words)))

pub length-in_use : (words : List ℕ) (top : ℕ) → top ≤ length words → length (in_use words top) ≡ top
length-in_use words top h = omega (arith, length-reverse (take top words), length-take top words, h)

pub in_use_word :
    (words : List ℕ) (at top : ℕ) → at < top → get_or (reverse (in_use words top)) at 0 ≡ get_or words at 0
in_use_word words at top h =
    ap (λ (l : List ℕ). get_or l at 0) (reverse-reverse (take top words)) ∙ get_or-take top words at 0 h

pub in_use_two :
    (words : List ℕ) (top low high : ℕ) → top + 1 < length words
    → in_use (set (set words top low) (top + 1) high) (top + 2) ≡ high ∷ low ∷ in_use words top
in_use_two words top low high h =
    let second : top + 1 < length (set words top low) = omega (arith, h, length-set words top low) in
    let first : top < length words = omega arith in
    let up : top + 1 + 1 ≡ top + 2 = omega arith in
    subst (λ (n : ℕ). in_use (set (set words top low) (top + 1) high) n ≡ high ∷ low ∷ in_use words top) up
    (in_use_pushed (set words top low) (top + 1) high second
    ∙ ap (λ (l : List ℕ). high ∷ l) (in_use_pushed words top low first))
