-- Local variables that hold nothing from a place on.
use Rattle.std.proofs.Common.{◌≡◌, ℕ, zero, suc, ◌<◌, ◌≤◌, List, [], ◌∷◌, ◌++◌, ◌-◌, map, take, length, replicate, set, refl, sym, ap, subst, ◌∙◌, arith}
use Rattle.jv_stackmap.specs.declared.verification.VerificationTypeOf.TheVariants as types
use Rattle.jv_verify_types.specs.Numbered.{Item}
use Rattle.jv_verify_frame.specs.Inside.Swapped.{swapped}
use Rattle.jv_verify_frame.specs.Inside.Tops.{AreTops}
use Rattle.jv_verify_frame.proofs.Replacing.{written}

pub set_top : (used : ℕ) (items : List Item) (i : ℕ) → AreTops used items → AreTops used (set items i types.Top)
set_top used [] zero h = tt
set_top used [] (suc i) h = tt
set_top zero (x ∷ items) zero h = (refl, h.1)
set_top zero (x ∷ items) (suc i) h = (h.0, set_top zero items i h.1)
set_top (suc used) (x ∷ items) zero h = h
set_top (suc used) (x ∷ items) (suc i) h = set_top used items i h

pub set_used : (used : ℕ) (items : List Item) (i : ℕ) (y : Item) → i < used → AreTops used items → AreTops used (set items i y)
set_used used [] zero y lt h = tt
set_used used [] (suc i) y lt h = tt
set_used zero (x ∷ items) i y lt h = absurd (omega (arith, lt))
set_used (suc used) (x ∷ items) zero y lt h = h
set_used (suc used) (x ∷ items) (suc i) y lt h = set_used used items i y (omega (arith, lt)) h

pub more_used : (used more : ℕ) (items : List Item) → used ≤ more → AreTops used items → AreTops more items
more_used used more [] le h = tt
more_used zero zero (x ∷ items) le h = h
more_used zero (suc more) (x ∷ items) le h = more_used zero more items (omega arith) h.1
more_used (suc used) zero (x ∷ items) le h = absurd (omega (arith, le))
more_used (suc used) (suc more) (x ∷ items) le h = more_used used more items (omega (arith, le)) h

pub one_less : (k : ℕ) (items : List Item) → AreTops (suc k) items → AreTops k (set items k types.Top)
one_less zero [] h = tt
one_less (suc k) [] h = tt
one_less zero (x ∷ items) h = (refl, h)
one_less (suc k) (x ∷ items) h = one_less k items h

pub none_used : (items : List Item) → AreTops 0 items → items ≡ replicate (length items) types.Top
none_used [] h = refl
none_used (x ∷ items) h = ap (λ y. y ∷ items) h.0 ∙ ap (λ ys. types.Top ∷ ys) (none_used items h.1)

pub all_used : (items : List Item) → AreTops (length items) items
all_used [] = tt
all_used (x ∷ items) = all_used items

pub tops_at_first : (count : ℕ) → AreTops 0 (replicate count types.Top)
tops_at_first zero = tt
tops_at_first (suc count) = (refl, tops_at_first count)

no_object : (object by : Item) → swapped object by types.Top ≡ types.Top
no_object types.Top by = refl
no_object types.Int by = refl
no_object types.Long by = refl
no_object types.Null by = refl
no_object types.UninitializedThis by = refl
no_object (types.Class n) by = refl
no_object (types.Array c) by = refl
no_object (types.Uninitialized o) by = refl

pub still_tops : (object by : Item) (used : ℕ) (items : List Item) → AreTops used items → AreTops used (map (swapped object by) items)
still_tops object by used [] h = tt
still_tops object by zero (x ∷ items) h = (ap (swapped object by) h.0 ∙ no_object object by, still_tops object by zero items h.1)
still_tops object by (suc used) (x ∷ items) h = still_tops object by used items h

-- what a Vec holds when its items were written
pub tops_written : (used : ℕ) (new old : List Item) (n : ℕ) → n ≡ length new → AreTops used new → AreTops used (take n (new ++ old))
tops_written used new old n e h = subst (AreTops used) (sym (written new old n e)) h

-- of so many tops, others so many: the first of them, and as many more as are lacking
pub refilled : (n m k : ℕ) → k ≡ n - m → take n (replicate m types.Top) ++ replicate k types.Top ≡ replicate {A = Item} n types.Top
refilled zero m k e = let none : k ≡ 0 = omega arith in rw none refl
refilled (suc n) zero k e = let all : k ≡ suc n = omega arith in rw all refl
refilled (suc n) (suc m) k e = let less : k ≡ n - m = omega arith in ap (λ (items : List Item). types.Top ∷ items) (refilled n m k less)
