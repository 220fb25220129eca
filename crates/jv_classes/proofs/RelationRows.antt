-- Rows as a table keeps them.
use Rattle.std.proofs.Common.{◌≡◌, ℕ, ◌+◌, ◌<◌, ◌≤◌, Bool, true, false, List, [], ◌∷◌, ◌||◌, ◌&&◌, ◌++◌, ◌≢◌, cond, nat_eq, length, set, get_or, refl, sym, ap, ◌∙◌, subst, arith}
use Rattle.std.specs.Prelude.{replicate}
use Rattle.std.specs.Global.{Vec}
use Rattle.std.specs.List.{All}
use Rattle.std.proofs.lemmas.List.{map-append, map-set, length-map, get_or_default, get_or-map, get_or-replicate, length-replicate, replicate-append-replicate, get_or-set_same, get_or-set_other, length-set}
use borrow.Author.Tests.{eqb-true, eqb-false}
use Rattle.std.proofs.lemmas.List.Elements.{All-set}
use Rattle.jv_classes.specs.Ways.{Rows, IsSquare, related, with_pair, empty}
use Rattle.jv_classes.specs.Inside.Steps.{row_items, rows_of}

pub row_there : (rows : List (Vec Bool)) (from : ℕ) (v : Vec Bool) → from < length rows → v ≡ get_or rows from v → get_or (rows_of rows) from [] ≡ v.items
row_there rows from v h e = get_or-map row_items rows from v [] h ∙ ap row_items (sym e)

pub row_length : (rows : List (Vec Bool)) (from : ℕ) (v : Vec Bool) → IsSquare (rows_of rows) → from < length rows → v ≡ get_or rows from v → length v.items ≡ length rows
row_length rows from v square h e =
    let there = row_there rows from v h e in
    let same = length-map rows row_items in
    let within : from < length (rows_of rows) = omega (arith, h, same) in
    ap length (sym there) ∙ square from [] within ∙ same

pub rows_length : (rows : Rows) (kept : List (Vec Bool)) → rows_of kept ≡ rows → length kept ≡ length rows
rows_length rows kept e = sym (length-map kept row_items) ∙ ap length e

-- a write in a row
pub row_written : (rows : List (Vec Bool)) (from : ℕ) (v after : Vec Bool) (to : ℕ) → from < length rows → v ≡ get_or rows from v → after.items ≡
    set v.items to true → rows_of (set rows from after) ≡ with_pair (rows_of rows) from to
row_written rows from v after to h e w =
    map-set row_items rows from after ∙ ap (λ row. set (rows_of rows) from row) (w ∙ ap (λ row. set row to true) (sym (row_there rows from v h e)))

-- ---- no pair

empty_row : (n size k : ℕ) (d : List Bool) → k < n → get_or (replicate n (replicate size false)) k d ≡ replicate size false
empty_row n size k d h = get_or-replicate n k (replicate size false) d h

pub square_empty : (size : ℕ) → IsSquare (empty size)
square_empty size k d h =
    let many : length (empty size) ≡ size = length-replicate size (replicate size false) in
    ap length (empty_row size size k d (subst (λ n. k < n) many h)) ∙ (length-replicate size false ∙ sym many)

pub empty_more : (rows : List (Vec Bool)) (k size : ℕ) (row : Vec Bool) → rows_of rows ≡ replicate k (replicate size false) → row.items ≡
    replicate size false → rows_of (rows ++ row ∷ []) ≡ replicate (k + 1) (replicate size false)
empty_more rows k size row e r =
    map-append row_items rows (row ∷ []) ∙ (ap (λ xs. xs ++ row.items ∷ []) e
    ∙ (ap (λ x. replicate k (replicate size false) ++ x ∷ []) r ∙ replicate-append-replicate k 1 (replicate size false)))

-- ---- one pair more

pub square_with_pair : (rows : Rows) (from to : ℕ) → IsSquare rows → from < length rows → IsSquare (with_pair rows from to)
square_with_pair rows from to square h k d within =
    let row = set (get_or rows from []) to true in
    let many : length (with_pair rows from to) ≡ length rows = length-set rows from row in
    let within' : k < length rows = subst (λ n. k < n) many within in
    elim (nat_eq k from) as (λ t. nat_eq k from ≡ t → length (get_or (set rows from row) k d) ≡ length (set rows from row)) [
      | true ↦ λ e.
          let same : k ≡ from = eqb-true k from e in
          ap (λ i. length (get_or (set rows from row) i d)) same ∙ (ap length (get_or-set_same rows from row d h)
          ∙ (length-set (get_or rows from []) to true ∙ (square from [] h ∙ sym many)))
      | false ↦ λ e. ap length (get_or-set_other rows from k row d (eqb-false k from e)) ∙ (square k d within' ∙ sym many)
    ] refl

-- ---- a row joined

-- what a write of a row does to what is related
pub related_set : (rows : Rows) (place : ℕ) (row : List Bool) (from to : ℕ) → place < length rows → related (set rows place row) from to ≡
    cond (nat_eq from place) (get_or row to false) (related rows from to)
related_set rows place row from to h =
    elim (nat_eq from place) as (λ t. nat_eq from place ≡ t → related (set rows place row) from to ≡ cond t (get_or row to false) (related rows from to)) [
      | true ↦ λ e. ap (λ i. related (set rows place row) i to) (eqb-true from place e) ∙ ap (λ r. get_or r to false) (get_or-set_same rows place row [] h)
      | false ↦ λ e. ap (λ r. get_or r to false) (get_or-set_other rows place from row [] (eqb-false from place e))
    ] refl

abbrev joins : Rows → ℕ → List Bool → ℕ → ℕ → Bool
joins old by other from to = related old from to || (related old from by && get_or other to false)

-- one row more is joined
pub join_step : (now old : Rows) (i by : ℕ) (other row : List Bool) → i < length now
    → ((to : ℕ) → get_or row to false ≡ (related now i to || (related now i by && get_or other to false)))
    → ((from to : ℕ) → from < i → related now from to ≡ joins old by other from to)
    → ((from to : ℕ) → i ≤ from → related now from to ≡ related old from to)
    → ((from to : ℕ) → from < i + 1 → related (set now i row) from to ≡ joins old by other from to)
    × ((from to : ℕ) → i + 1 ≤ from → related (set now i row) from to ≡ related old from to)
join_step now old i by other row h made before behind = (upto, after)
  where
    here : (to : ℕ) → get_or row to false ≡ joins old by other i to
    here to =
        let there : i ≤ i = omega arith in
        made to ∙ (ap (λ b. b || (related now i by && get_or other to false)) (behind i to there) ∙ ap (λ b. related old i to || (b && get_or other to false)) (behind i by there))

    upto : (from to : ℕ) → from < i + 1 → related (set now i row) from to ≡ joins old by other from to
    upto from to less =
        related_set now i row from to h ∙ elim (nat_eq from i) as (λ t. nat_eq from i ≡ t → cond t (get_or row to false) (related now from to) ≡ joins old by other from to) [
          | true ↦ λ e. here to ∙ ap (λ f. joins old by other f to) (sym (eqb-true from i e))
          | false ↦ λ e. let other_row : from ≢ i = eqb-false from i e in let below : from < i = omega (arith, less, other_row) in before from to below
        ] refl

    after : (from to : ℕ) → i + 1 ≤ from → related (set now i row) from to ≡ related old from to
    after from to more =
        let apart : from ≢ i = λ e. absurd (omega (arith, more, e)) in
        let behind_it : i ≤ from = omega (arith, more) in
        ap (λ r. get_or r to false) (get_or-set_other now i from row [] apart) ∙ behind from to behind_it

-- the same of rows as they are kept
pub kept_step : (kept : List (Vec Bool)) (old : Rows) (i by : ℕ) (other : List Bool) (v after : Vec Bool) → i < length kept → v ≡ get_or kept i v
    → All (λ row. length row.items ≡ length other) kept
    → length after.items ≡ length v.items
    → ((to : ℕ) → get_or after.items to false ≡ (get_or v.items to false || (get_or v.items by false && get_or other to false)))
    → ((from to : ℕ) → from < i → related (rows_of kept) from to ≡ joins old by other from to)
    → ((from to : ℕ) → i ≤ from → related (rows_of kept) from to ≡ related old from to)
    → All (λ row. length row.items ≡ length other) (set kept i after)
    × ((from to : ℕ) → from < i + 1 → related (rows_of (set kept i after)) from to ≡ joins old by other from to)
    × ((from to : ℕ) → i + 1 ≤ from → related (rows_of (set kept i after)) from to ≡ related old from to)
kept_step kept old i by other v after h is square size made before behind =
    let there = row_there kept i v h is in
    let many : i < length (rows_of kept) = subst (λ n. i < n) (sym (length-map kept row_items)) h in
    let wrote = map-set row_items kept i after in
    let made_there : ((to : ℕ) → get_or after.items to false ≡ (related (rows_of kept) i to || (related (rows_of kept) i by && get_or other to false))) =
    λ to. made to ∙ ap (λ row. get_or row to false || (get_or row by false && get_or other to false)) (sym there)
    in
    let step = join_step (rows_of kept) old i by other after.items many made_there before behind in (
      All-set (λ row. length row.items ≡ length other) kept i after (size ∙ ap (λ row. length row.items) is ∙ square i v h) square,
      λ from to less. ap (λ rows. related rows from to) wrote ∙ step.0 from to less,
      λ from to more. ap (λ rows. related rows from to) wrote ∙ step.1 from to more,
    )

-- ---- all rows of one length

pub kept_square : (kept : List (Vec Bool)) → IsSquare (rows_of kept) → All (λ row. length row.items ≡ length kept) kept
kept_square kept square k d h = ap length (sym (row_there kept k (get_or kept k d) h (get_or_default kept k d (get_or kept k d) h))) ∙
    (square k [] (subst (λ n. k < n) (sym (length-map kept row_items)) h) ∙ length-map kept row_items)

pub square_kept : (kept : List (Vec Bool)) → All (λ row. length row.items ≡ length kept) kept → IsSquare (rows_of kept)
square_kept [] all k d h = absurd (omega (arith, h))
square_kept (row ∷ kept) all k d h =
    let within : k < length (row ∷ kept) = subst (λ n. k < n) (length-map (row ∷ kept) row_items) h in
    ap length (get_or-map row_items (row ∷ kept) k row d within) ∙ (all k row within ∙ sym (length-map (row ∷ kept) row_items))

pub long_rows : (kept : List (Vec Bool)) (size : ℕ) → length kept ≡ size → All (λ row. length row.items ≡ size) kept → All (λ row. length row.items ≡ length kept) kept
long_rows kept size e all k d h = all k d h ∙ sym e

pub at_end : (kept : List (Vec Bool)) (by : ℕ) → length kept ≤ by → by ≤ length kept → by ≡ length (rows_of kept)
at_end kept by h k = let same = length-map kept row_items in omega (arith, h, k, same)
