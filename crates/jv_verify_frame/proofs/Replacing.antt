-- Objects that are not initialized, by the names of types.
use Rattle.std.proofs.Common.{◌≡◌, ℕ, zero, suc, take, length, arith, Bool, true, false, ◌||◌, List, [], ◌∷◌, ◌++◌, map, reverse, ◌+◌, refl, sym, ap, ◌∙◌, if◌then◌else◌}
use Rattle.std.proofs.lemmas.List.{map-append, reverse-append}
use Rattle.std.proofs.lemmas.List.Sums.{sum_by-cons}
use Rattle.std.specs.List.{list_any}
use Rattle.jv_stackmap.specs.declared.verification.VerificationTypeOf.TheVariants as types
use Rattle.jv_meaning_typing.specs.FrameChanges.{is_same_object, replaced}
use Rattle.jv_verify_types.specs.Typed.{typed, typed_all}
use Rattle.jv_verify_types.specs.Numbered.{Item, item_words, stack_words}
use Rattle.jv_verify_frame.specs.Inside.Swapped.{same_object, swapped}

module _ (names : List (List ℕ)) where
  pub same_typed : (object item : Item) → is_same_object (typed names object) (typed names item) ≡ same_object object item
  same_typed types.Top item = refl
  same_typed types.Int item = refl
  same_typed types.Long item = refl
  same_typed types.Null item = refl
  same_typed types.UninitializedThis types.Top = refl
  same_typed types.UninitializedThis types.Int = refl
  same_typed types.UninitializedThis types.Long = refl
  same_typed types.UninitializedThis types.Null = refl
  same_typed types.UninitializedThis types.UninitializedThis = refl
  same_typed types.UninitializedThis (types.Class n) = refl
  same_typed types.UninitializedThis (types.Array c) = refl
  same_typed types.UninitializedThis (types.Uninitialized o) = refl
  same_typed (types.Class n) item = refl
  same_typed (types.Array c) item = refl
  same_typed (types.Uninitialized o) types.Top = refl
  same_typed (types.Uninitialized o) types.Int = refl
  same_typed (types.Uninitialized o) types.Long = refl
  same_typed (types.Uninitialized o) types.Null = refl
  same_typed (types.Uninitialized o) types.UninitializedThis = refl
  same_typed (types.Uninitialized o) (types.Class n) = refl
  same_typed (types.Uninitialized o) (types.Array c) = refl
  same_typed (types.Uninitialized o) (types.Uninitialized p) = refl

  swapped_typed : (object by item : Item) → typed names (swapped object by item) ≡ (if is_same_object (typed names object) (typed names item) then typed names by else typed names item)
  swapped_typed object by item = by_test (same_object object item) ∙ ap (λ b. if b then typed names by else typed names item) (sym (same_typed object item))
    where
      by_test : (b : Bool) → typed names (if b then by else item) ≡ (if b then typed names by else typed names item)
      by_test true = refl
      by_test false = refl

  pub replaced_typed : (object by : Item) (items : List Item) → typed_all names (map (swapped object by) items) ≡ replaced (typed names object) (typed names by) (typed_all names items)
  replaced_typed object by [] = refl
  replaced_typed object by (x ∷ items) =
      ap (λ t. t ∷ typed_all names (map (swapped object by) items)) (swapped_typed object by x)
      ∙ ap (λ ts. (if is_same_object (typed names object) (typed names x) then typed names by else typed names x) ∷ ts) (replaced_typed object by items)

  pub any_typed : (object : Item) (items : List Item) → list_any (is_same_object (typed names object)) (typed_all names items) ≡ list_any (same_object object) items
  any_typed object [] = refl
  any_typed object (x ∷ items) =
      ap (λ b. b || list_any (is_same_object (typed names object)) (typed_all names items)) (same_typed object x)
      ∙ ap (λ b. same_object object x || b) (any_typed object items)

-- ---- words

-- an item that is replaced has one word
one_word : (object by item : Item) → item_words by ≡ 1 → item_words (swapped object by item) ≡ item_words item
one_word types.Top by item e = refl
one_word types.Int by item e = refl
one_word types.Long by item e = refl
one_word types.Null by item e = refl
one_word (types.Class n) by item e = refl
one_word (types.Array c) by item e = refl
one_word types.UninitializedThis by types.Top e = refl
one_word types.UninitializedThis by types.Int e = refl
one_word types.UninitializedThis by types.Long e = refl
one_word types.UninitializedThis by types.Null e = refl
one_word types.UninitializedThis by types.UninitializedThis e = e
one_word types.UninitializedThis by (types.Class n) e = refl
one_word types.UninitializedThis by (types.Array c) e = refl
one_word types.UninitializedThis by (types.Uninitialized o) e = refl
one_word (types.Uninitialized o) by types.Top e = refl
one_word (types.Uninitialized o) by types.Int e = refl
one_word (types.Uninitialized o) by types.Long e = refl
one_word (types.Uninitialized o) by types.Null e = refl
one_word (types.Uninitialized o) by types.UninitializedThis e = refl
one_word (types.Uninitialized o) by (types.Class n) e = refl
one_word (types.Uninitialized o) by (types.Array c) e = refl
one_word (types.Uninitialized o) by (types.Uninitialized p) e = by_test (same_object (types.Uninitialized o) (types.Uninitialized p))
  where
    by_test : (b : Bool) → item_words (if b then by else types.Uninitialized p) ≡ 1
    by_test true = e
    by_test false = refl

pub same_words : (object by : Item) → item_words by ≡ 1 → (items : List Item) → stack_words (map (swapped object by) items) ≡ stack_words items
same_words object by e [] = refl
same_words object by e (x ∷ items) =
    sum_by-cons item_words (swapped object by x) (map (swapped object by) items)
    ∙ (ap (λ n. n + stack_words (map (swapped object by) items)) (one_word object by x e)
    ∙ (ap (λ n. item_words x + n) (same_words object by e items) ∙ sym (sum_by-cons item_words x items)))

-- ---- the other way round

pub map_reversed : {A B : Type 0} (f : A → B) (xs : List A) → map f (reverse xs) ≡ reverse (map f xs)
map_reversed f [] = refl
map_reversed f (x ∷ xs) =
    ap (map f) (reverse-append (x ∷ []) xs)
    ∙ (map-append f (reverse xs) (x ∷ []) ∙ (ap (λ ys. ys ++ f x ∷ []) (map_reversed f xs) ∙ sym (reverse-append (f x ∷ []) (map f xs))))

any_append : {A : Type 0} (test : A → Bool) (xs : List A) (x : A) → list_any test (xs ++ x ∷ []) ≡ (test x || list_any test xs)
any_append test [] x = refl
any_append test (y ∷ xs) x = ap (λ b. test y || b) (any_append test xs x) ∙ turned (test y) (test x) (list_any test xs)
  where
    turned : (a b c : Bool) → (a || (b || c)) ≡ (b || (a || c))
    turned true true c = refl
    turned true false c = refl
    turned false b c = refl

pub any_reversed : {A : Type 0} (test : A → Bool) (xs : List A) → list_any test (reverse xs) ≡ list_any test xs
any_reversed test [] = refl
any_reversed test (x ∷ xs) = ap (list_any test) (reverse-append (x ∷ []) xs) ∙ (any_append test (reverse xs) x ∙ ap (λ b. test x || b) (any_reversed test xs))

-- ---- what a Vec holds when its items were written

pub written : {A : Type 0} (new old : List A) (n : ℕ) → n ≡ length new → take n (new ++ old) ≡ new
written [] old n e = ap (λ k. take k old) e
written (x ∷ new) old zero e = absurd cc
written (x ∷ new) old (suc n) e = ap (λ xs. x ∷ xs) (written new old n (omega (arith, e)))

pub replaced_in : (names : List (List ℕ)) (object by : Item) (old new : List Item) → new ≡ map (swapped object by) old
    → typed_all names new ≡ replaced (typed names object) (typed names by) (typed_all names old)
replaced_in names object by old new is = ap (typed_all names) is ∙ replaced_typed names object by old

-- on a stack, whose top is last
pub replaced_on : (names : List (List ℕ)) (object by : Item) (old new : List Item) → new ≡ map (swapped object by) old
    → typed_all names (reverse new) ≡ replaced (typed names object) (typed names by) (typed_all names (reverse old))
replaced_on names object by old new is =
    ap (λ xs. typed_all names (reverse xs)) is
    ∙ (ap (typed_all names) (sym (map_reversed (swapped object by) old)) ∙ replaced_typed names object by (reverse old))

pub words_kept : (object by : Item) (old new : List Item) → item_words by ≡ 1 → new ≡ map (swapped object by) old
    → stack_words (reverse old) ≡ stack_words (reverse new)
words_kept object by old new one is =
    sym (same_words object by one (reverse old))
    ∙ (ap stack_words (map_reversed (swapped object by) old)
    ∙ ap (λ xs. stack_words (reverse xs)) (sym is))

pub any_on : (names : List (List ℕ)) (object : Item) (stack : List Item) (b : Bool) → b ≡ list_any (same_object object) stack
    → b ≡ list_any (is_same_object (typed names object)) (typed_all names (reverse stack))
any_on names object stack b is = is ∙ (sym (any_reversed (same_object object) stack) ∙ sym (any_typed names object (reverse stack)))
