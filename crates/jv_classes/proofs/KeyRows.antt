-- Rows of cells, all of one width, and the prints in them.
use Rattle.std.proofs.Common.{◌≡◌, ℕ, zero, suc, ◌+◌, ◌<◌, Bool, true, false, ◌||◌, List, [], ◌∷◌, ◌++◌, nat_eq, length, set, map, get_or, refl, sym, ap, ◌∙◌, subst, arith}
use Rattle.std.specs.Prelude.{replicate, if◌then◌else◌}
use Rattle.std.specs.Global.{Vec}
use Rattle.std.specs.List.{All}
use Rattle.std.proofs.lemmas.List.{map-append, map-set, length-map, get_or-map, length-replicate, get_or-replicate, replicate-append-replicate, get_or-set_same, get_or-set_other, length-set}
use borrow.Author.Tests.{eqb-true, eqb-false}
use Rattle.jv_classes.specs.Marks.{MarkedKeys, AreKept, cell_of, has_print, is_marked, print_of, row_of, with_print}
use Rattle.jv_classes.specs.Inside.Marked.{AreWide, cells_in, cells_of}

-- ---- prints

same_eq : (n : ℕ) → nat_eq n n ≡ true
same_eq n = elim (nat_eq n n) as (λ t. nat_eq n n ≡ t → nat_eq n n ≡ true) [
  | true ↦ λ e. e
  | false ↦ λ e. absurd (eqb-false n n e refl)
] refl

or_true : (b : Bool) → (b || true) ≡ true
or_true true = refl
or_true false = refl

several : (print : ℕ) → has_print print 255 ≡ true
several print = or_true (nat_eq 255 print)

-- an empty cell has no print
no_print : (other : ℕ) → has_print (suc other) 0 ≡ false
no_print other = by_test (nat_eq 0 (suc other)) refl
  where
    by_test : (b : Bool) → nat_eq 0 (suc other) ≡ b → has_print (suc other) 0 ≡ false
    by_test true e = absurd (never (eqb-true 0 (suc other) e))
      where
        never : 0 ≡ suc other → ⊥
        never h = omega (arith, h)
    by_test false e = ap (λ t. t || nat_eq 0 255) e

-- a cell with a print more has it
pub print_joined : (cell print : ℕ) → has_print print (with_print cell print) ≡ true
print_joined cell print = by_zero (nat_eq cell 0) refl
  where
    by_print : (b : Bool) → nat_eq cell print ≡ b → has_print print (if b then cell else 255) ≡ true
    by_print true e = ap (λ t. t || nat_eq cell 255) e
    by_print false e = several print

    by_zero : (b : Bool) → nat_eq cell 0 ≡ b → has_print print (if b then print else if nat_eq cell print then cell else 255) ≡ true
    by_zero true e = ap (λ t. t || nat_eq print 255) (same_eq print)
    by_zero false e = by_print (nat_eq cell print) refl

-- and those that it had
pub print_stays : (cell print other : ℕ) → has_print (suc other) cell ≡ true → has_print (suc other) (with_print cell print) ≡ true
print_stays cell print other has = by_zero (nat_eq cell 0) refl
  where
    no : false ≡ true → ⊥
    no e = cc

    by_print : (b : Bool) → has_print (suc other) (if b then cell else 255) ≡ true
    by_print true = has
    by_print false = several (suc other)

    by_zero : (b : Bool) → nat_eq cell 0 ≡ b → has_print (suc other) (if b then print else if nat_eq cell print then cell else 255) ≡ true
    by_zero true e = absurd (no (sym (ap (has_print (suc other)) (eqb-true cell 0 e) ∙ no_print other) ∙ has))
    by_zero false e = by_print (nat_eq cell print)

-- ---- rows

pub row_there : (rows : List (Vec ℕ)) (slot : ℕ) (v : Vec ℕ) → slot < length rows → v ≡ get_or rows slot v → get_or (cells_of rows) slot [] ≡ v.items
row_there rows slot v h e = get_or-map cells_in rows slot v [] h ∙ ap cells_in (sym e)

pub wide_row : (width : ℕ) (rows : List (Vec ℕ)) (slot : ℕ) (v : Vec ℕ) → AreWide width (cells_of rows) → slot < length rows → v ≡ get_or rows slot v → length v.items ≡ width
wide_row width rows slot v wide h e =
    let same = length-map rows cells_in in
    let within : slot < length (cells_of rows) = omega (arith, h, same) in
    ap length (sym (row_there rows slot v h e)) ∙ wide.wide slot [] within

-- rows without a mark
pub none_more : (rows : List (Vec ℕ)) (k width : ℕ) (row : Vec ℕ) → cells_of rows ≡ replicate k (replicate width 0) → row.items ≡ replicate width 0 →
    cells_of (rows ++ row ∷ []) ≡ replicate (k + 1) (replicate width 0)
none_more rows k width row e r =
    map-append cells_in rows (row ∷ []) ∙ (ap (λ xs. xs ++ row.items ∷ []) e
    ∙ (ap (λ x. replicate k (replicate width 0) ++ x ∷ []) r ∙ replicate-append-replicate k 1 (replicate width 0)))

pub wide_none : (width many : ℕ) (rows : List (List ℕ)) → 0 < many → rows ≡ replicate many (replicate width 0) → AreWide width rows
wide_none width many rows some e = subst (AreWide width) (sym e) none
  where
    row : List ℕ
    row = replicate width 0

    none : AreWide width (replicate many row)
    none = record {
      some_row = subst (λ n. 0 < n) (sym (length-replicate many row)) some;
      wide = λ k d within. ap length (get_or-replicate many k row d (subst (λ n. k < n) (length-replicate many row) within)) ∙ length-replicate width 0;
    }

-- ---- a mark more

module _ (width : ℕ) (rows : List (List ℕ)) (slot class print : ℕ) (wide : AreWide width rows) (there : slot < length rows) (within : class < width) where
  abbrev pub new_row : List ℕ
  new_row = set (get_or rows slot []) class (with_print (cell_of rows slot class) print)

  abbrev pub new_rows : List (List ℕ)
  new_rows = set rows slot new_row

  long : class < length (get_or rows slot [])
  long = subst (λ n. class < n) (sym (wide.wide slot [] there)) within

  pub wide_more : AreWide width new_rows
  wide_more = record {
    some_row = subst (λ n. 0 < n) (sym (length-set rows slot new_row)) wide.some_row;
    wide = each;
  }
    where
      each : All (λ row. length row ≡ width) new_rows
      each k d h = elim (nat_eq k slot) as (λ t. nat_eq k slot ≡ t → length (get_or new_rows k d) ≡ width) [
        | true ↦ λ e.
            ap (λ i. length (get_or new_rows i d)) (eqb-true k slot e) ∙ (ap length (get_or-set_same rows slot new_row d there)
            ∙ (length-set (get_or rows slot []) class (with_print (cell_of rows slot class) print) ∙ wide.wide slot [] there))
        | false ↦ λ e. ap length (get_or-set_other rows slot k new_row d (eqb-false k slot e)) ∙ wide.wide k d (subst (λ n. k < n) (length-set rows slot new_row) h)
      ] refl

  cell_set : cell_of new_rows slot class ≡ with_print (cell_of rows slot class) print
  cell_set =
      ap (λ row. get_or row class 0) (get_or-set_same rows slot new_row [] there)
      ∙ get_or-set_same (get_or rows slot []) class (with_print (cell_of rows slot class) print) 0 long

  cell_kept : (other : ℕ) (a b : ℕ) → has_print (suc other) (cell_of rows a b) ≡ true → has_print (suc other) (cell_of new_rows a b) ≡ true
  cell_kept other a b old = elim (nat_eq a slot) as (λ t. nat_eq a slot ≡ t → has_print (suc other) (cell_of new_rows a b) ≡ true) [
    | true ↦ λ e.
        ap (λ i. has_print (suc other) (cell_of new_rows i b)) (eqb-true a slot e)
        ∙ in_row (ap (λ i. has_print (suc other) (cell_of rows i b)) (sym (eqb-true a slot e)) ∙ old)
    | false ↦ λ e. ap (λ row. has_print (suc other) (get_or row b 0)) (get_or-set_other rows slot a new_row [] (eqb-false a slot e)) ∙ old
  ] refl
    where
      in_row : has_print (suc other) (cell_of rows slot b) ≡ true → has_print (suc other) (cell_of new_rows slot b) ≡ true
      in_row old = elim (nat_eq b class) as (λ t. nat_eq b class ≡ t → has_print (suc other) (cell_of new_rows slot b) ≡ true) [
        | true ↦ λ e.
            ap (λ i. has_print (suc other) (cell_of new_rows slot i)) (eqb-true b class e)
            ∙ (ap (has_print (suc other)) cell_set
            ∙ print_stays (cell_of rows slot class) print other (ap (λ i. has_print (suc other) (cell_of rows slot i)) (sym (eqb-true b class e)) ∙ old))
        | false ↦ λ e.
            ap (λ row. has_print (suc other) (get_or row b 0)) (get_or-set_same rows slot new_row [] there)
            ∙ (ap (has_print (suc other)) (get_or-set_other (get_or rows slot []) class b (with_print (cell_of rows slot class) print) 0 (eqb-false b class e)) ∙ old)
      ] refl

  abbrev pub old_keys : MarkedKeys
  old_keys = record { width = width; rows = rows }

  abbrev pub new_keys : MarkedKeys
  new_keys = record { width = width; rows = new_rows }

  slots : (key : ℕ) → row_of (length new_rows) key ≡ row_of (length rows) key
  slots key = ap (λ n. row_of n key) (length-set rows slot new_row)

  pub is_set : (key : ℕ) → slot ≡ row_of (length rows) key → print ≡ print_of key → is_marked new_keys key class ≡ true
  is_set key e p =
      ap (λ s. has_print (print_of key) (cell_of new_rows s class)) (slots key ∙ sym e)
      ∙ (ap (λ q. has_print q (cell_of new_rows slot class)) (sym p)
      ∙ (ap (has_print print) cell_set ∙ print_joined (cell_of rows slot class) print))

  pub are_kept : AreKept old_keys new_keys
  are_kept = record {
    width = refl;
    marked = λ key c old. ap (λ s. has_print (print_of key) (cell_of new_rows s c)) (slots key) ∙ cell_kept _ (row_of (length rows) key) c old;
  }

-- ---- as a table keeps them

-- a row that is put back with a cell more
pub row_written : (rows : List (Vec ℕ)) (slot : ℕ) (v after : Vec ℕ) (class print : ℕ) → slot < length rows → v ≡ get_or rows slot v
    → after.items ≡ set v.items class (with_print (get_or v.items class 0) print)
    → cells_of (set rows slot after) ≡ set (cells_of rows) slot (set (get_or (cells_of rows) slot []) class (with_print (cell_of (cells_of rows) slot class) print))
row_written rows slot v after class print h e w =
    map-set cells_in rows slot after
    ∙ ap (λ row. set (cells_of rows) slot row) (w ∙ ap (λ row. set row class (with_print (get_or row class 0) print)) (sym (row_there rows slot v h e)))

-- ---- one key

-- the mark of a print in a row of cells
pub mark_in : (print : ℕ) (cells : List ℕ) (class : ℕ) → get_or (map (has_print (suc print)) cells) class false ≡ has_print (suc print) (get_or cells class 0)
mark_in print [] class = sym (no_print print)
mark_in print (cell ∷ cells) zero = refl
mark_in print (cell ∷ cells) (suc class) = mark_in print cells class
