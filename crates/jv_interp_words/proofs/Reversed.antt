-- Local variables among the words of frames, counted from the oldest word on.
use Rattle.std.proofs.Common.{◌≡◌, ℕ, ◌+◌, ◌-◌, ◌<◌, List, ◌++◌, length, reverse, get_or, set, sym, ap, ◌∙◌, arith, length-append}
use Rattle.std.proofs.lemmas.List.{reverse-append, reverse-reverse, length-reverse, get_or_append_left, get_or-append_right, set-append_left, set-append_right}

pub turned :
    (stack words below : List ℕ) → reverse (stack ++ (reverse words ++ below)) ≡ (reverse below ++ words) ++ reverse stack
turned stack words below =
    reverse-append stack (reverse words ++ below)
    ∙ ap (λ (l : List ℕ). l ++ reverse stack)
    (reverse-append (reverse words) below ∙ ap (λ (l : List ℕ). reverse below ++ l) (reverse-reverse words))

behind : (b k : ℕ) → (b + k) - b ≡ k
behind b k = omega arith

pub local_word :
    (stack words below : List ℕ) (k : ℕ) → k < length words
    → get_or (reverse (stack ++ (reverse words ++ below))) (length below + k) 0 ≡ get_or words k 0
local_word stack words below k h =
    let front : length (reverse below) ≡ length below = length-reverse below in
    let within : length below + k < length (reverse below ++ words) = omega (arith, length-append (reverse below) words, front) in
    ap (λ (l : List ℕ). get_or l (length below + k) 0) (turned stack words below)
    ∙ get_or_append_left (reverse below ++ words) (reverse stack) 0 (length below + k) within
    ∙ get_or-append_right (reverse below) words (length below) (length below + k) 0 front (omega arith)
    ∙ ap (λ (i : ℕ). get_or words i 0) (behind (length below) k)

pub local_set :
    (stack words below : List ℕ) (k word : ℕ) → k < length words
    → set (reverse (stack ++ (reverse words ++ below))) (length below + k) word ≡ reverse (stack ++ (reverse (set words k word) ++ below))
local_set stack words below k word h =
    let front : length (reverse below) ≡ length below = length-reverse below in
    let within : length below + k < length (reverse below ++ words) = omega (arith, length-append (reverse below) words, front) in
    ap (λ (l : List ℕ). set l (length below + k) word) (turned stack words below)
    ∙ set-append_left (reverse below ++ words) (reverse stack) (length below + k) word within
    ∙ ap (λ (l : List ℕ). l ++ reverse stack) (set-append_right (reverse below) words (length below) (length below + k) word front (omega arith))
    ∙ ap (λ (i : ℕ). (reverse below ++ set words i word) ++ reverse stack) (behind (length below) k)
    ∙ sym (turned stack (set words k word) below)
