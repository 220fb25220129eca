-- Steps one after the other: their sizes, and their bytes.
use Rattle.std.proofs.Common.{◌≡◌, ℕ, ◌+◌, ◌-◌, ◌*◌, ◌%◌, ◌<◌, ◌≤◌, Bool, true, false, List, [], ◌∷◌, ◌++◌, length, drop, get_or, Option, Ok, Err, refl, sym, ap, ◌∙◌, append_assoc, arith, length-append}
use Rattle.std.specs.Prelude.{ℤ, suc, map, if◌then◌else◌}
use Rattle.jv_code.specs.Numbers.{signed16}
use Rattle.jv_asm.specs.declared.fault.AsmFault.TheVariants as asm
use Rattle.jv_asm.specs.declared.item.Item.{Item}
use Rattle.jv_asm.specs.declared.item.Item.TheVariants as item
use Rattle.jv_asm.specs.Items.{table_switch_bytes, lookup_switch_bytes, code_of_item, code_of_items, IsCapped}
use Rattle.jv_asm.proofs.Sizes.{table_switch_length, lookup_switch_length}
use Rattle.jv_asm_builder.specs.declared.fault.BuilderFault.{BuilderFault}
use Rattle.jv_asm_builder.specs.declared.fault.BuilderFault.TheVariants.{TooLarge}
use Rattle.jv_asm_builder.specs.declared.step.Label.{Label}
use Rattle.jv_asm_builder.specs.Faults.{Expected, ◌>>=◌, each}
use Rattle.jv_asm_builder.specs.Assembly.{Assembly, with_step, code_size, IsStepAdded, Step, Unlabelled, Branch, TableSwitch, LookupSwitch, step_size, steps_end, slice, distance_in, near_distance, case_in, item_in, items_in}
use Rattle.jv_asm_builder.specs.Inside.Behind.{step_behind, steps_behind}
use Rattle.jv_asm_builder.proofs.Mapped.{mapped_left}

abbrev value_or : {A : Type 0} → A → Expected A → A
value_or a (Ok b) = b
value_or a (Err fault) = a

abbrev pub given : {A : Type 0} → A → Expected A
given a = Ok a

pub same : {A : Type 0} (a b : A) → given a ≡ given b → a ≡ b
same a b e = ap (value_or a) e

-- ---- the size of a step

pub each_length : {A B : Type 0} (f : A → Expected B) (xs : List A) (ys : List B) → each f xs ≡ Ok ys → length ys ≡ length xs
each_length f [] ys e = ap length (sym (same [] ys e))
each_length {B = B} f (x ∷ xs) ys e = by_first (f x) (each f xs) (λ rest s. each_length f xs rest s) e
  where
    by_first : (r : Expected B) (rs : Expected (List B)) → ((rest : List B) → rs ≡ Ok rest → length rest ≡ length xs)
        → (r >>= λ y. rs >>= λ ys. Ok (y ∷ ys)) ≡ Ok ys → length ys ≡ suc (length xs)
    by_first (Ok y) (Ok rest) s h = ap length (sym (same (y ∷ rest) ys h)) ∙ ap (λ n. suc n) (s rest refl)
    by_first (Ok y) (Err fault) s h = absurd cc
    by_first (Err fault) rs s h = absurd cc

step_length : (d : Label → Expected ℤ) (at : ℕ) (s : Step) (i : Item) → item_in d s ≡ Ok i → length (code_of_item at i) ≡ step_size at s
step_length d at (Unlabelled j) i e = ap (λ k. length (code_of_item at k)) (sym (same j i e))
step_length d at (Branch opcode target) i e = by_distance (d target) e
  where
    by_near : (z : ℤ) (b : Bool) → ((if b then Ok z else Err TooLarge) >>= λ z. Ok (item.SignedHalf opcode z)) ≡ Ok i → length (code_of_item at i) ≡ 3
    by_near z true h = ap (λ k. length (code_of_item at k)) (sym (same (item.SignedHalf opcode z) i h))
    by_near z false h = absurd cc

    by_distance : (r : Expected ℤ) → (r >>= λ z. near_distance z >>= λ z. Ok (item.SignedHalf opcode z)) ≡ Ok i → length (code_of_item at i) ≡ 3
    by_distance (Ok z) h = by_near z (signed16.fits z) h
    by_distance (Err fault) h = absurd cc
step_length d at (TableSwitch default low high targets) i e = by_distances (d default) (each d targets) refl e
  where
    by_distances : (r : Expected ℤ) (rs : Expected (List ℤ)) → each d targets ≡ rs → (r >>= λ z. rs >>= λ zs. Ok (item.Tableswitch z low high (slice zs))) ≡ Ok i
        → length (code_of_item at i) ≡ 16 - at % 4 + 4 * length targets
    by_distances (Ok z) (Ok zs) s h =
        ap (λ k. length (code_of_item at k)) (sym (same (item.Tableswitch z low high (slice zs)) i h)) ∙ table_switch_length at z low high zs
        ∙ ap (λ n. 16 - at % 4 + 4 * n) (each_length d targets zs s)
    by_distances (Ok z) (Err fault) s h = absurd cc
    by_distances (Err fault) rs s h = absurd cc
step_length d at (LookupSwitch default cases) i e = by_distances (d default) (each (case_in d) cases) refl e
  where
    by_distances : (r : Expected ℤ) (rs : Expected (List (ℤ × ℤ))) → each (case_in d) cases ≡ rs → (r >>= λ z. rs >>= λ zs. Ok (item.Lookupswitch z (slice zs))) ≡ Ok i
        → length (code_of_item at i) ≡ 12 - at % 4 + 8 * length cases
    by_distances (Ok z) (Ok zs) s h =
        ap (λ k. length (code_of_item at k)) (sym (same (item.Lookupswitch z (slice zs)) i h)) ∙ lookup_switch_length at z zs
        ∙ ap (λ n. 12 - at % 4 + 8 * n) (each_length (case_in d) cases zs s)
    by_distances (Ok z) (Err fault) s h = absurd cc
    by_distances (Err fault) rs s h = absurd cc

-- a switch is as short as its step
pub table_short : (at : ℕ) (default low high : ℤ) (distances : List ℤ) (f : Label → Expected ℤ) (targets : List Label) → each f targets ≡ Ok distances
    → at + (16 - at % 4 + 4 * length targets) < 65536 → length (table_switch_bytes at default low high distances) < 65536
table_short at default low high distances f targets e short =
    let size = table_switch_length at default low high distances in
    let count = each_length f targets distances e in
    omega arith

pub lookup_short : (at : ℕ) (default : ℤ) (pairs : List (ℤ × ℤ)) (f : ℤ × Label → Expected (ℤ × ℤ)) (cases : List (ℤ × Label)) → each f cases ≡ Ok pairs
    → at + (12 - at % 4 + 8 * length cases) < 65536 → length (lookup_switch_bytes at default pairs) < 65536
lookup_short at default pairs f cases e short =
    let size = lookup_switch_length at default pairs in
    let count = each_length f cases pairs e in
    omega arith

-- ---- where steps end

end_more : (at : ℕ) (steps : List Step) (s : Step) → steps_end at (steps ++ s ∷ []) ≡ steps_end at steps + step_size (steps_end at steps) s
end_more at [] s = refl
end_more at (x ∷ steps) s = end_more (at + step_size at x) steps s

grows : (at : ℕ) (steps : List Step) → at ≤ steps_end at steps
grows at [] = omega arith
grows at (s ∷ steps) = let rest = grows (at + step_size at s) steps in omega arith

pub end_over : (steps : List Step) (s : Step) (at size : ℕ) → at ≡ steps_end 0 steps → IsCapped (step_size at s) size → 65535 < at + size
    → 65535 < steps_end 0 (steps ++ s ∷ [])
end_over steps s at size is capped over =
    let more = end_more 0 steps s in
    let here = ap (λ n. step_size n s) is in
    grind (arith, capped.few, capped.many)

pub end_next : (steps : List Step) (s : Step) (at size : ℕ) → at ≡ steps_end 0 steps → IsCapped (step_size at s) size → at + size ≤ 65535
    → at + size ≡ steps_end 0 (steps ++ s ∷ [])
end_next steps s at size is capped short =
    let more = end_more 0 steps s in
    let here = ap (λ n. step_size n s) is in
    let exact = capped.few (omega arith) in
    omega arith

-- ---- the bytes of steps, one more at a time

-- one instruction before others
one_before : (out b new : List ℕ) (at place : ℕ) (i : Item) (rest : Expected (List Item)) → code_of_item at i ≡ b → out ++ b ≡ new → at + length b ≡ place
    → (rest >>= λ is. Ok (new ++ code_of_items place is)) ≡ ((rest >>= λ is. Ok (i ∷ is)) >>= λ is. Ok (out ++ code_of_items at is))
one_before out b new at place i (Err fault) e f g = refl
one_before out b new at place i (Ok is) e f g =
    ap (λ x. Ok (x ++ code_of_items place is)) (sym f) ∙ ap Ok (append_assoc out b (code_of_items place is))
    ∙ ap (λ n. Ok (out ++ (b ++ code_of_items n is))) (sym g) ∙ ap (λ x. Ok (out ++ (x ++ code_of_items (at + length x) is))) (sym e)

-- the instructions behind one that is known
abbrev items_behind : List (Option ℕ) → List ℕ → Step → List Step → Expected Item → Expected (List ℕ)
items_behind places out s rest r =
    (r >>= λ i. items_in (distance_in places) (length out + step_size (length out) s) rest >>= λ is. Ok (i ∷ is)) >>= λ is. Ok (out ++ code_of_items (length out) is)

behind_next : (places : List (Option ℕ)) (out new : List ℕ) (s : Step) (rest : List Step) → step_behind places out s ≡ Ok new
    → (steps_behind places new rest ≡ steps_behind places out (s ∷ rest)) × (length new ≡ length out + step_size (length out) s)
behind_next places out new s rest e = by_item (item_in (distance_in places (length out)) s) refl e
  where
    by_item : (r : Expected Item) → item_in (distance_in places (length out)) s ≡ r → (r >>= λ i. Ok (out ++ code_of_item (length out) i)) ≡ Ok new
        → (steps_behind places new rest ≡ steps_behind places out (s ∷ rest)) × (length new ≡ length out + step_size (length out) s)
    by_item (Err fault) h k = absurd cc
    by_item (Ok i) h k =
        let b = code_of_item (length out) i in
        let is : out ++ b ≡ new = same (out ++ b) new k in
        let size : length b ≡ step_size (length out) s = step_length (distance_in places (length out)) (length out) s i h in
        let long : length new ≡ length out + step_size (length out) s = ap length (sym is) ∙ length-append out b ∙ ap (λ n. length out + n) size in (
          one_before out b new (length out) (length new) i (items_in (distance_in places) (length new) rest) refl is (ap (λ n. length out + n) size ∙ sym long)
              ∙ ap (λ n. (items_in (distance_in places) n rest >>= λ is. Ok (i ∷ is)) >>= λ is. Ok (out ++ code_of_items (length out) is)) long
              ∙ ap (items_behind places out s rest) (sym h),
          long,
        )

behind_stops : (places : List (Option ℕ)) (out : List ℕ) (s : Step) (rest : List Step) (fault : BuilderFault) → step_behind places out s ≡ Err fault
    → steps_behind places out (s ∷ rest) ≡ Err fault
behind_stops places out s rest fault e = by_item (item_in (distance_in places (length out)) s) refl e
  where
    by_item : (r : Expected Item) → item_in (distance_in places (length out)) s ≡ r → (r >>= λ i. Ok (out ++ code_of_item (length out) i)) ≡ Err fault
        → steps_behind places out (s ∷ rest) ≡ Err fault
    by_item (Ok i) h k = absurd cc
    by_item (Err f) h k = ap (items_behind places out s rest) h ∙ k

-- ---- in a loop over what the code builder keeps of steps

module _ {X : Type 0} (view : X → Step) (xs : List X) (i : ℕ) (x : X) (lt : i < length xs) (is : x ≡ get_or xs i x) (places : List (Option ℕ)) (out : List ℕ) where
  left : drop i (map view xs) ≡ view x ∷ drop (i + 1) (map view xs)
  left = mapped_left view xs i x lt is

  pub step_short : (end : ℕ) → steps_end (length out) (drop i (map view xs)) ≡ end → end < 65536 → length out + step_size (length out) (view x) < 65536
  step_short end e short =
      let whole = sym (ap (steps_end (length out)) left) ∙ e in
      let more = grows (length out + step_size (length out) (view x)) (drop (i + 1) (map view xs)) in
      omega arith

  pub step_next : (new : List ℕ) → step_behind places out (view x) ≡ Ok new
      → (steps_behind places new (drop (i + 1) (map view xs)) ≡ steps_behind places out (drop i (map view xs)))
      × (steps_end (length new) (drop (i + 1) (map view xs)) ≡ steps_end (length out) (drop i (map view xs)))
  step_next new e =
      let next = behind_next places out new (view x) (drop (i + 1) (map view xs)) e in (
        next.0 ∙ sym (ap (steps_behind places out) left),
        ap (λ n. steps_end n (drop (i + 1) (map view xs))) next.1 ∙ sym (ap (steps_end (length out)) left),
      )

  pub step_stops : (fault : BuilderFault) → step_behind places out (view x) ≡ Err fault → steps_behind places out (drop i (map view xs)) ≡ Err fault
  step_stops fault e = ap (steps_behind places out) left ∙ behind_stops places out (view x) (drop (i + 1) (map view xs)) fault e

-- ---- what the code builder answers

pub no_room : {T : Type 0} (a : Assembly) (s : Step) (at size : ℕ) → at ≡ code_size a → IsCapped (step_size at s) size → 65535 < at + size
    → IsStepAdded {T = T} a s (Err asm.TooLarge) a
no_room a s at size is capped over = record { state = refl; room = λ h. absurd cc; too_large = λ _. end_over a.steps s at size is capped over }

pub joined : (a new : Assembly) (s : Step) (at size : ℕ) → new ≡ with_step a s → at ≡ code_size a → IsCapped (step_size at s) size → at + size ≤ 65535
    → IsStepAdded {T = Unit {0}} a s (Ok tt) new
joined a new s at size e is capped short =
    let next = end_next a.steps s at size is capped short in
    let whole = ap code_size e in
    record { state = e; room = λ _. omega arith; too_large = tt }
