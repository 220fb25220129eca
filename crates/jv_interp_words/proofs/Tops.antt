-- More words in use, and fewer.
use Rattle.std.proofs.Common.{◌≡◌, ℕ, ◌+◌, ◌≤◌, List, ◌++◌, length, reverse, take, drop, sym, ap, ◌∙◌, arith, length-drop}
use Rattle.std.proofs.lemmas.List.{reverse-append, reverse-reverse, length-reverse, take-append-drop, take-take, take_at}
use Rattle.std.proofs.Math.ListN.{length-take}

pub record Rises (items used : List ℕ) (top count : ℕ) : Type 0 where
  pub front : List ℕ
  pub place : reverse (take (top + count) items) ≡ front ++ used
  pub size : length front ≡ count

pub rises :
    (items used : List ℕ) (top count : ℕ) → top + count ≤ length items → reverse (take top items) ≡ used → Rises items used top count
rises items used top count h e =
    let all = take (top + count) items in
    let fits : top ≤ top + count = omega arith in
    let parts : all ≡ take top items ++ drop top all =
    sym (take-append-drop top all) ∙ ap (λ (l : List ℕ). l ++ drop top all) (take-take top (top + count) items fits) in
    record {
      front = reverse (drop top all);
      place =
          ap (λ (l : List ℕ). reverse l) parts ∙ reverse-append (take top items) (drop top all)
          ∙ ap (λ (l : List ℕ). reverse (drop top all) ++ l) e;
      size = omega (arith, length-reverse (drop top all), length-drop top all, length-take (top + count) items, h);
    }

pub falls :
    (items used front below : List ℕ) (top count : ℕ) → reverse (take top items) ≡ used → count ≤ top → used ≡ front ++ below → length below ≡ count
    → reverse (take count items) ≡ below
falls items used front below top count e h f size =
    let turned : take top items ≡ reverse below ++ reverse front =
    sym (reverse-reverse (take top items)) ∙ ap (λ (l : List ℕ). reverse l) (e ∙ f) ∙ reverse-append front below in
    ap (λ (l : List ℕ). reverse l)
    (sym (take-take count top items h) ∙ ap (λ (l : List ℕ). take count l) turned
    ∙ take_at (reverse below) (reverse front) count (length-reverse below ∙ size))
    ∙ reverse-reverse below

pub top_is : (items used : List ℕ) (top : ℕ) → top ≤ length items → reverse (take top items) ≡ used → length used ≡ top
top_is items used top h e =
    let turned : length (reverse (take top items)) ≡ length used = ap length e in
    omega (arith, turned, length-reverse (take top items), length-take top items, h)
