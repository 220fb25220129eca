-- Objects made before an offset, and one of a `new` from there on.
use Rattle.std.proofs.Common.{rules, ◌≡◌, ℕ, ◌<◌, ◌≤◌, ◌||◌, ◌==◌, nat_le, Bool, true, false, List, [], ◌∷◌, ◌++◌, map, take, length, refl, sym, ap, subst, ◌∙◌, arith, if◌then◌else◌}
use Rattle.std.specs.List.{All, list_any}
use Rattle.std.proofs.lemmas.List.{length-map}
use Rattle.std.proofs.lemmas.List.Elements.{All-head, All-tail, All-map, All-weaker}
use Rattle.jv_stackmap.specs.declared.verification.VerificationTypeOf.TheVariants as types
use Rattle.jv_verify_types.specs.Numbered.{Item}
use Rattle.jv_verify_frame.specs.Inside.Before.{IsBefore, is_past}
use Rattle.jv_verify_frame.specs.Inside.Swapped.{same_object, swapped}
use Rattle.jv_verify_frame.proofs.Replacing.{written}

pub later : (end more : ℕ) → end ≤ more → (item : Item) → IsBefore end item → IsBefore more item
later end more h types.Top b = tt
later end more h types.Int b = tt
later end more h types.Long b = tt
later end more h types.Null b = tt
later end more h types.UninitializedThis b = tt
later end more h (types.Class n) b = tt
later end more h (types.Array c) b = tt
later end more h (types.Uninitialized o) b = omega (arith, h, b)

pub all_later : (end more : ℕ) → end ≤ more → (items : List Item) → All (IsBefore end) items → All (IsBefore more) items
all_later end more h items all = All-weaker (IsBefore end) (IsBefore more) (later end more h) items all

different : (end o p : ℕ) → p < end → nat_le end o ≡ true → (o == p) ≡ false
different end o p h e = search (rules, arith, h, e)

other : (end : ℕ) (object item : Item) → IsBefore end item → is_past end object ≡ true → same_object object item ≡ false
other end types.Top item b e = absurd cc
other end types.Int item b e = absurd cc
other end types.Long item b e = absurd cc
other end types.Null item b e = absurd cc
other end types.UninitializedThis item b e = absurd cc
other end (types.Class n) item b e = absurd cc
other end (types.Array c) item b e = absurd cc
other end (types.Uninitialized o) types.Top b e = refl
other end (types.Uninitialized o) types.Int b e = refl
other end (types.Uninitialized o) types.Long b e = refl
other end (types.Uninitialized o) types.Null b e = refl
other end (types.Uninitialized o) types.UninitializedThis b e = refl
other end (types.Uninitialized o) (types.Class n) b e = refl
other end (types.Uninitialized o) (types.Array c) b e = refl
other end (types.Uninitialized o) (types.Uninitialized p) b e = different end o p b e

pub none_swapped : (end : ℕ) (object by : Item) → is_past end object ≡ true → (items : List Item) → All (IsBefore end) items
    → items ≡ map (swapped object by) items
none_swapped end object by e [] all = refl
none_swapped end object by e (x ∷ items) all =
    ap (λ b. (if b then by else x) ∷ items) (sym (other end object x (All-head (IsBefore end) x items all) e))
    ∙ ap (λ xs. swapped object by x ∷ xs) (none_swapped end object by e items (All-tail (IsBefore end) x items all))

pub none_there : (end : ℕ) (object : Item) → is_past end object ≡ true → (items : List Item) → All (IsBefore end) items
    → false ≡ list_any (same_object object) items
none_there end object e [] all = refl
none_there end object e (x ∷ items) all =
    none_there end object e items (All-tail (IsBefore end) x items all)
    ∙ ap (λ b. b || list_any (same_object object) items) (sym (other end object x (All-head (IsBefore end) x items all) e))

swapped_before : (end : ℕ) (object by : Item) → IsBefore end by → (item : Item) → IsBefore end item → IsBefore end (swapped object by item)
swapped_before end object by h item b = by_test (same_object object item)
  where
    by_test : (t : Bool) → IsBefore end (if t then by else item)
    by_test true = h
    by_test false = b

-- what a Vec holds when its items were written
pub all_written : (end : ℕ) (new old : List Item) (n : ℕ) → n ≡ length new → All (IsBefore end) new → All (IsBefore end) (take n (new ++ old))
all_written end new old n e all = subst (All (IsBefore end)) (sym (written new old n e)) all

pub all_swapped : (end more : ℕ) (object by : Item) → end ≤ more → IsBefore more by → (items : List Item) → All (IsBefore end) items
    → All (IsBefore more) (map (swapped object by) items)
all_swapped end more object by h b items all =
    All-map (IsBefore more) (swapped object by) items
    (All-weaker (IsBefore end) (λ i. IsBefore more (swapped object by i)) (λ i k. swapped_before more object by b i (later end more h i k)) items all)

pub all_rewritten : (end more : ℕ) (object by : Item) → end ≤ more → IsBefore more by → (old new rest : List Item) (n : ℕ) → n ≡ length old
    → new ≡ map (swapped object by) old → All (IsBefore end) old → All (IsBefore more) (take n (new ++ rest))
all_rewritten end more object by h b old new rest n e is all =
    all_written more new rest n (e ∙ (sym (length-map old (swapped object by)) ∙ ap length (sym is)))
    (subst (All (IsBefore more)) (sym is) (all_swapped end more object by h b old all))
