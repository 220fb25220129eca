-- Methods and first numbers, class by class.
use Rattle.std.proofs.Common.{◌≡◌, ℕ, zero, suc, ◌+◌, ◌<◌, ◌≤◌, List, [], ◌∷◌, ◌++◌, length, Some, refl, sym, ap, ◌∙◌, subst, arith, take, drop, slice_get, append_assoc, append-nil}
use Rattle.jv_meaning_world.specs.World.{Loaded, World}
use Rattle.jv_meaning_world.specs.Overriding.{Declared}
use Rattle.jv_meaning_world.proofs.Lists.{drop_there}
use Rattle.jv_interp_words.specs.FramesInWords.{methods_of}
use Rattle.jv_interp_members.specs.declared.methods.MethodRow.{MethodRow}
use Rattle.jv_interp_members.specs.declared.methods.Methods.{Methods}
use Rattle.jv_interp_members.specs.Inside.Counted.{own_methods, firsts_from}
use Rattle.jv_interp_members.specs.Methods.{AreRows, AreMethods}
use Rattle.jv_interp_members.proofs.Numbered.{first_at}

pub all_taken : {A : Type 0} (xs : List A) (n : ℕ) → length xs ≤ n → take n xs ≡ xs
all_taken [] zero h = refl
all_taken [] (suc n) h = refl
all_taken (x ∷ xs) zero h = absurd (omega (arith, h))
all_taken (x ∷ xs) (suc n) h = ap (λ l. x ∷ l) (all_taken xs n (omega (arith, h)))

pub all_dropped : {A : Type 0} (xs : List A) (n : ℕ) → length xs ≤ n → drop n xs ≡ []
all_dropped [] zero h = refl
all_dropped [] (suc n) h = refl
all_dropped (x ∷ xs) zero h = absurd (omega (arith, h))
all_dropped (x ∷ xs) (suc n) h = all_dropped xs n (omega (arith, h))

pub item_at : {A : Type 0} (xs : List A) (n : ℕ) → n < length xs → (x : A) × (slice_get xs n ≡ Some x)
item_at [] n h = absurd (omega (arith, h))
item_at (x ∷ xs) zero h = (x, refl)
item_at (x ∷ xs) (suc n) h = item_at xs n (omega (arith, h))

some_same : {A : Type 0} → {x y : A} → Some x ≡ Some y → x ≡ y
some_same e = cc

taken_more : (xs : World) (n : ℕ) (l : Loaded) → slice_get xs n ≡ Some l → methods_of (take (suc n) xs) ≡ methods_of (take n xs) ++ own_methods l
taken_more [] n l e = absurd cc
taken_more (x ∷ xs) zero l e = append-nil (own_methods x) ∙ ap own_methods (some_same e)
taken_more (x ∷ xs) (suc n) l e =
    ap (λ (ds : List Declared). own_methods x ++ ds) (taken_more xs n l e) ∙ sym (append_assoc (own_methods x) (methods_of (take n xs)) (own_methods l))

one_more : (n : ℕ) → n + 1 ≡ suc n
one_more n = omega arith

pub class_joins :
    (world : World) (class : ℕ) (l : Loaded) (rows : List MethodRow) → slice_get world class ≡ Some l
    → AreRows world (methods_of (take class world) ++ own_methods l) rows → AreRows world (methods_of (take (class + 1) world)) rows
class_joins world class l rows at h =
    subst (λ (ds : List Declared). AreRows world ds rows)
    (sym (ap (λ (n : ℕ). methods_of (take n world)) (one_more class) ∙ taken_more world class l at)) h

pub first_joins :
    (world : World) (class number next : ℕ) (l : Loaded) (firsts : List ℕ) → slice_get world class ≡ Some l → next ≡ number + length l.class.methods
    → firsts ++ firsts_from number (drop class world) ≡ firsts_from 0 world
    → (firsts ++ number ∷ []) ++ firsts_from next (drop (class + 1) world) ≡ firsts_from 0 world
unfolding firsts_from
first_joins world class number next l firsts at next_is h =
    let rest = drop (suc class) world in
    append_assoc firsts (number ∷ []) (firsts_from next (drop (class + 1) world))
    ∙ ap (λ (k : ℕ). firsts ++ number ∷ firsts_from next (drop k world)) (one_more class)
    ∙ ap (λ (k : ℕ). firsts ++ number ∷ firsts_from k rest) next_is
    ∙ sym (ap (λ (ls : World). firsts ++ firsts_from number ls) (drop_there world class l at)) ∙ h

pub methods_made :
    (world : World) (methods : Methods) (class : ℕ) → length world ≤ class → AreRows world (methods_of (take class world)) methods.rows.items
    → methods.firsts.items ++ firsts_from (length methods.rows.items) (drop class world) ≡ firsts_from 0 world
    → length methods.rows.items ≤ 4294967295 → AreMethods world methods
unfolding firsts_from
methods_made world methods class all rows firsts few = record {
  rows = subst (λ (ls : World). AreRows world (methods_of ls) methods.rows.items) (all_taken world class all) rows;
  firsts = λ number l at. ap (λ (ns : List ℕ). slice_get ns number) firsts_are ∙ first_at 0 world number l at ∙ ap Some (zero_more (length (methods_of (take number world))));
  few = few;
}
  where
    zero_more : (n : ℕ) → 0 + n ≡ n
    zero_more n = omega arith

    firsts_are : methods.firsts.items ≡ firsts_from 0 world
    firsts_are =
        sym (ap (λ (ls : World). methods.firsts.items ++ firsts_from (length methods.rows.items) ls) (all_dropped world class all)
        ∙ append-nil methods.firsts.items) ∙ firsts
