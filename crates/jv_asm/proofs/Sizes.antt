-- How many bytes items have, and where each stands.
use Rattle.std.proofs.Common.{◌≡◌, ℕ, ◌+◌, ◌-◌, ◌*◌, ◌%◌, ◌<◌, ◌≤◌, true, List, [], ◌∷◌, ◌++◌, length, take, drop, get_or, refl, sym, ap, subst, ◌∙◌, append_assoc, arith, length-append}
use Rattle.std.specs.Prelude.{ℤ, IsTrue, Result, OnOk}
use Rattle.std.specs.List.{flat_map, list_all}
use Rattle.std.proofs.lemmas.List.{take_more, append-nil, take-append-drop, length-replicate}
use Rattle.jv_code.specs.Numbers.{signed32}
use Rattle.jv_code.specs.Switches.{pair}
use Rattle.std.specs.Borrow.{Bor}
use Rattle.jv_asm.specs.declared.item.Item.{Item}
use Rattle.jv_asm.specs.declared.item.Item.TheVariants as item
use Rattle.jv_asm.specs.Items.{table_switch_bytes, lookup_switch_bytes, code_of_item, code_of_items, IsCapped}

pub all_true : {X : Type 0} (xs : List X) → IsTrue (list_all (λ _. true) xs)
all_true [] = refl
all_true (x ∷ xs) = all_true xs

-- ---- switches

pub distances_length : (offsets : List ℤ) → length (flat_map signed32.spelling offsets) ≡ 4 * length offsets
distances_length [] = refl
distances_length (z ∷ offsets) = let rest = distances_length offsets in omega arith

pub pairs_length : (pairs : List (ℤ × ℤ)) → length (flat_map pair.spelling pairs) ≡ 8 * length pairs
pairs_length [] = refl
pairs_length (p ∷ pairs) = let rest = pairs_length pairs in omega arith

pub table_switch_length : (at : ℕ) (default low high : ℤ) (offsets : List ℤ) → length (table_switch_bytes at default low high offsets) ≡ 16 - at % 4 + 4 * length offsets
table_switch_length at default low high offsets =
    simp (length-append, length-replicate) (omega (arith, distances_length offsets))

pub lookup_switch_length : (at : ℕ) (default : ℤ) (pairs : List (ℤ × ℤ)) → length (lookup_switch_bytes at default pairs) ≡ 12 - at % 4 + 8 * length pairs
lookup_switch_length at default pairs =
    simp (length-append, length-replicate) (omega (arith, pairs_length pairs))

-- a switch was written in three steps
pub switch_written : {A E : Type 0} (result : Result A E) (new third second first : List ℕ) (z d b o : List ℕ) → second ≡ first ++ (170 ∷ (z ++ d)) → third ≡ second ++ b
    → OnOk result (new ≡ third ++ o) → OnOk result (new ≡ first ++ (170 ∷ (z ++ ((d ++ b) ++ o))))
switch_written result new third second first z d b o e f =
    let grouped : (first ++ (170 ∷ (z ++ d))) ++ b ++ o ≡ first ++ (170 ∷ (z ++ ((d ++ b) ++ o))) = simp append_assoc in
    let whole : third ++ o ≡ (first ++ (170 ∷ (z ++ d))) ++ b ++ o = ap (λ x. x ++ o) (f ∙ ap (λ x. x ++ b) e) in
    subst (λ bytes. OnOk result (new ≡ bytes)) (whole ∙ grouped)

-- ---- lists of items

pub code_of_items-append : (at : ℕ) (xs ys : List Item) → code_of_items at (xs ++ ys) ≡ code_of_items at xs ++ code_of_items (at + length (code_of_items at xs)) ys
code_of_items-append at [] ys = ap (λ k. code_of_items k ys) (omega arith)
code_of_items-append at (x ∷ xs) ys =
    let here = code_of_item at x in
    let behind = at + length (code_of_item at x) in
    let rest = code_of_items behind xs in
    let place : behind + length rest ≡ at + length (here ++ rest) = omega (arith, length-append here rest) in
    ap (λ b. here ++ b) (code_of_items-append behind xs ys) ∙ sym (append_assoc here rest (code_of_items (behind + length rest) ys))
    ∙ ap (λ k. (here ++ rest) ++ code_of_items k ys) place

items_more : (items : List Item) (i : ℕ) (d : Item) → i < length items
    → code_of_items 0 (take (i + 1) items) ≡ code_of_items 0 (take i items) ++ code_of_item (length (code_of_items 0 (take i items))) (get_or items i d)
items_more items i d lt =
    let front = code_of_items 0 (take i items) in
    let item = get_or items i d in
    let place : 0 + length front ≡ length front = omega arith in
    ap (code_of_items 0) (take_more items i d lt) ∙ code_of_items-append 0 (take i items) (item ∷ [])
    ∙ ap (λ b. front ++ b) (append-nil (code_of_item (0 + length front) item) ∙ ap (λ k. code_of_item k item) place)

items_front : (items : List Item) (i : ℕ) → length (code_of_items 0 (take i items)) ≤ length (code_of_items 0 items)
items_front items i =
    let whole = ap (λ xs. length (code_of_items 0 xs)) (take-append-drop i items) in
    let cut = ap length (code_of_items-append 0 (take i items) (drop i items)) in
    let sum = length-append (code_of_items 0 (take i items)) (code_of_items (0 + length (code_of_items 0 (take i items))) (drop i items)) in
    omega arith

length_more : (items : List Item) (i : ℕ) (d : Item) → i < length items
    → length (code_of_items 0 (take (i + 1) items)) ≡ length (code_of_items 0 (take i items)) + length (code_of_item (length (code_of_items 0 (take i items))) (get_or items i d))
length_more items i d lt = ap length (items_more items i d lt) ∙ length-append (code_of_items 0 (take i items)) _

-- the next item is no longer than all of them
pub item_small : (items : List Item) (i : ℕ) (d : Item) (out : List ℕ) → i < length items → length (code_of_items 0 items) < 65536
    → out ≡ code_of_items 0 (take i items) → length (code_of_item (length out) (get_or items i d)) < 65536
item_small items i d out lt few is =
    let more = length_more items i d lt in
    let front = items_front items (i + 1) in
    let same = ap (λ b. length (code_of_item (length b) (get_or items i d))) is in
    omega arith

-- the next item was written
pub item_next : (items : List Item) (i : ℕ) (d : Item) (out new : List ℕ) → i < length items → out ≡ code_of_items 0 (take i items)
    → new ≡ out ++ code_of_item (length out) (get_or items i d) → new ≡ code_of_items 0 (take (i + 1) items)
item_next items i d out new lt is e =
    e ∙ ap (λ b. b ++ code_of_item (length b) (get_or items i d)) is ∙ sym (items_more items i d lt)

-- the size goes on
pub size_next : (items : List Item) (i : ℕ) (d : Item) (at size : ℕ) → i < length items → at ≡ length (code_of_items 0 (take i items))
    → IsCapped (length (code_of_item at (get_or items i d))) size → at + size ≤ 65535 → at + size ≡ length (code_of_items 0 (take (i + 1) items))
size_next items i d at size lt is capped few =
    let more = length_more items i d lt in
    let same = ap (λ k. length (code_of_item k (get_or items i d))) is in
    let exact = capped.few (omega arith) in
    omega arith

pub size_over : (items : List Item) (i : ℕ) (d : Item) (at size : ℕ) → i < length items → at ≡ length (code_of_items 0 (take i items))
    → IsCapped (length (code_of_item at (get_or items i d))) size → 65535 < at + size → 65536 ≤ length (code_of_items 0 items)
size_over items i d at size lt is capped over =
    let more = length_more items i d lt in
    let front = items_front items (i + 1) in
    let same = ap (λ k. length (code_of_item k (get_or items i d))) is in
    grind (arith, capped.few, capped.many)

-- a `lookupswitch` that is short has few pairs
pub few_pairs : (at : ℕ) (i : Item) (default : ℤ) (pairs : Bor (List (ℤ × ℤ))) → i ≡ item.Lookupswitch default pairs → length (code_of_item at i) < 65536 → length pairs.now < 65536
few_pairs at i default pairs is few =
    let same = ap (λ j. length (code_of_item at j)) is in
    let long = lookup_switch_length at default pairs.now in
    omega arith

pub table_item : (at : ℕ) (i : Item) (default low high : ℤ) (offsets : Bor (List ℤ)) (size : ℕ) → i ≡ item.Tableswitch default low high offsets
    → IsCapped (16 - at % 4 + 4 * length offsets.now) size → IsCapped (length (code_of_item at i)) size
table_item at i default low high offsets size is =
    subst (λ n. IsCapped n size) (sym (ap (λ j. length (code_of_item at j)) is ∙ table_switch_length at default low high offsets.now))

pub lookup_item : (at : ℕ) (i : Item) (default : ℤ) (pairs : Bor (List (ℤ × ℤ))) (size : ℕ) → i ≡ item.Lookupswitch default pairs
    → IsCapped (12 - at % 4 + 8 * length pairs.now) size → IsCapped (length (code_of_item at i)) size
lookup_item at i default pairs size is =
    subst (λ n. IsCapped n size) (sym (ap (λ j. length (code_of_item at j)) is ∙ lookup_switch_length at default pairs.now))
