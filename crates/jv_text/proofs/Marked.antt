-- What the marks of a text tell of it.
use Rattle.std.proofs.Common.{◌≡◌, ℕ, zero, suc, ◌+◌, ◌<◌, ◌≤◌, Bool, true, false, List, [], ◌∷◌, ◌++◌, length, take, get_or, refl, sym, ap, subst, ◌∙◌, arith, ltb, ◌⊎◌, inl, inr}
use Rattle.std.specs.Prelude.{IsTrue, not, ◌==◌, ◌&&◌, ◌||◌, nat_lt}
use Rattle.std.specs.List.{list_all, slice_split, onto_first}
use Rattle.std.specs.Int.Bits.{bit_or}
use Rattle.std.proofs.lemmas.Bool.{and_parts, and_from, ltb-true, ltb-false, lt-ltb, le-ltb}
use Rattle.std.proofs.lemmas.Grind.{common_steps}
use Rattle.std.proofs.lemmas.Nat.{or_lt}
use Rattle.std.proofs.lemmas.List.Folds.{list_all_more}
use Rattle.std.proofs.lemmas.List.Splits.{slice_split-cons_no}
use Rattle.jv_text.specs.Text.{unit_bytes, text_bytes, is_unit, IsText}
use Rattle.jv_text.specs.Name.{is_name_byte, is_unqualified_name, is_class_name, is_plain_name, is_special_name, is_method_name}
use Rattle.jv_text.specs.Inside.Marks.{mark_at, is_single, is_class_byte, is_no_angle, is_plain_byte, all_single, are_below, AreMarks}
use Rattle.jv_text.proofs.Names.{class_bytes}

-- ---- what holds of each number below another, by trial

abbrev same : Bool → Bool → Bool
same true b = b
same false b = not b

same-true : (a b : Bool) → IsTrue (same a b) → a ≡ b
same-true true b h = sym h
same-true false true h = absurd cc
same-true false false h = refl

abbrev all_below : ℕ → (ℕ → Bool) → Bool
all_below zero test = true
all_below (suc n) test = test n && all_below n test

below : (n k : ℕ) (b : Bool) → ltb k n ≡ b → k < suc n → (k ≡ n) ⊎ (k < n)
below n k true e lt = inr (ltb-true k n e)
below n k false e lt = inl (let le : n ≤ k = ltb-false k n e in omega arith)

one_below : (n k : ℕ) (test : ℕ → Bool) → IsTrue (all_below n test) → k < n → IsTrue (test k)
one_below zero k test all lt = absurd (omega arith)
one_below (suc n) k test all lt =
    let parts = and_parts (test n) (all_below n test) all in
    elim (below n k (ltb k n) refl lt) [
      | inl is ↦ subst (λ (m : ℕ). IsTrue (test m)) (sym is) parts.0
      | inr less ↦ one_below n k test parts.1 less
    ]

-- ---- tests of marks, each with one of bytes

-- a test holds of some marks and more where it holds of both
abbrev joins_at : (ℕ → Bool) → ℕ → ℕ → Bool
joins_at test a b = same (test (bit_or a b)) (test a && test b)

abbrev joins_all : (ℕ → Bool) → ℕ → Bool
joins_all test a = all_below 16 (joins_at test a)

-- it holds of a byte's mark where the other one holds of the byte
abbrev tells_at : (ℕ → Bool) → (ℕ → Bool) → ℕ → Bool
tells_at test passes byte = same (test (mark_at byte)) (passes byte)

record Tells (test passes : ℕ → Bool) : Type 0 where
  joins : IsTrue (all_below 16 (joins_all test))
  each : IsTrue (all_below 256 (tells_at test passes))

single_tells : Tells all_single is_single
single_tells = record { joins = refl; each = refl }

plain_tells : Tells (are_below 2) is_plain_byte
plain_tells = record { joins = refl; each = refl }

name_tells : Tells (are_below 4) is_name_byte
name_tells = record { joins = refl; each = refl }

class_tells : Tells (are_below 8) is_class_byte
class_tells = record { joins = refl; each = refl }

all_small : IsTrue (all_below 256 (λ byte. nat_lt (mark_at byte) 16))
all_small = refl

small_mark : (byte : ℕ) → byte < 256 → mark_at byte < 16
small_mark byte lt = ltb-true (mark_at byte) 16 (one_below 256 byte (λ b. nat_lt (mark_at b) 16) all_small lt)

-- ---- the marks of one byte more

one_more : (test passes : ℕ → Bool) → Tells test passes → (text : List ℕ) (i marks : ℕ) → i < length text → get_or text i 0 < 256 → marks < 16
    → test marks ≡ list_all passes (take i text) → test (bit_or marks (mark_at (get_or text i 0))) ≡ list_all passes (take (i + 1) text)
one_more test passes tells text i marks lt small few so_far =
    let byte : ℕ = get_or text i 0 in
    let mark : ℕ = mark_at byte in
    let both : test (bit_or marks mark) ≡ (test marks && test mark) =
    same-true _ _ (one_below 16 mark (joins_at test marks) (one_below 16 marks (joins_all test) tells.joins few) (small_mark byte small)) in
    let own : test mark ≡ passes byte = same-true _ _ (one_below 256 byte (tells_at test passes) tells.each small) in
    both ∙ (ap (λ b. b && test mark) so_far ∙ (ap (λ b. list_all passes (take i text) && b) own ∙ sym (list_all_more passes text i 0 lt)))

pub marks_more : (text : List ℕ) (i marks : ℕ) → i < length text → get_or text i 0 < 256 → AreMarks (take i text) marks
    → AreMarks (take (i + 1) text) (bit_or marks (mark_at (get_or text i 0)))
marks_more text i marks lt byte are = record {
  few = or_lt 4 marks (mark_at (get_or text i 0)) are.few (small_mark (get_or text i 0) byte);
  single = one_more all_single is_single single_tells text i marks lt byte are.few are.single;
  plain = one_more (are_below 2) is_plain_byte plain_tells text i marks lt byte are.few are.plain;
  name = one_more (are_below 4) is_name_byte name_tells text i marks lt byte are.few are.name;
  class = one_more (are_below 8) is_class_byte class_tells text i marks lt byte are.few are.class;
}

-- ---- what they tell of class names

no_slash : (byte : ℕ) → IsTrue (is_name_byte byte) → (byte == 47) ≡ false
no_slash byte h = grind (arith, common_steps)

-- no `/` parts an unqualified name
one_part : (text : List ℕ) → IsTrue (list_all is_name_byte text) → slice_split (λ byte. byte == 47) text ≡ text ∷ []
one_part [] h = refl
one_part (x ∷ xs) h =
    let parts = and_parts (is_name_byte x) (list_all is_name_byte xs) h in
    slice_split-cons_no (λ byte. byte == 47) x xs (no_slash x parts.0) ∙ ap (onto_first x) (one_part xs parts.1)

unqualified_class : (text : List ℕ) → is_unqualified_name text ≡ true → is_class_name text ≡ true
unqualified_class text h =
    let parts = and_parts (not (length text == 0)) (list_all is_name_byte text) h in
    ap (list_all is_unqualified_name) (one_part text parts.1) ∙ and_from (is_unqualified_name text) true h refl

barred_class : (text : List ℕ) → list_all is_class_byte text ≡ false → is_class_name text ≡ false
barred_class text h = by_cases (is_class_name text) refl
  where
    by_cases : (b : Bool) → is_class_name text ≡ b → is_class_name text ≡ false
    by_cases false e = e
    by_cases true e = let whole : IsTrue (list_all is_class_byte text) = class_bytes text e in absurd cc

pub named_class : (text : List ℕ) (member : Bool) → member ≡ is_unqualified_name text → member ≡ true → member ≡ is_class_name text
named_class text member is on = on ∙ sym (unqualified_class text (sym is ∙ on))

pub no_named_class : (text : List ℕ) (marks : ℕ) → AreMarks text marks → 8 ≤ marks → nat_lt marks 8 ≡ is_class_name text
no_named_class text marks are le =
    let off : nat_lt marks 8 ≡ false = le-ltb marks 8 le in
    off ∙ sym (barred_class text (sym are.class ∙ off))

-- ---- of methods' names

both_all : (p q : ℕ → Bool) (xs : List ℕ) → IsTrue (list_all p xs) → list_all (λ x. p x && q x) xs ≡ list_all q xs
both_all p q [] h = refl
both_all p q (x ∷ xs) h =
    let parts = and_parts (p x) (list_all p xs) h in
    ap (λ b. (b && q x) && list_all (λ x. p x && q x) xs) parts.0 ∙ ap (λ b. q x && b) (both_all p q xs parts.1)

turned : (a b : Bool) → (a || b) ≡ (b || a)
turned true true = refl
turned true false = refl
turned false true = refl
turned false false = refl

method_told : (text : List ℕ) (marks : ℕ) → AreMarks text marks → is_unqualified_name text ≡ true → (nat_lt marks 2 || is_special_name text) ≡ is_method_name text
method_told text marks are member =
    let parts = and_parts (not (length text == 0)) (list_all is_name_byte text) member in
    let plain : nat_lt marks 2 ≡ is_plain_name text = are.plain ∙ both_all is_name_byte is_no_angle text parts.1 in
    ap (λ b. b || is_special_name text) plain
    ∙ (turned (is_plain_name text) (is_special_name text) ∙ sym (ap (λ b. b && (is_special_name text || is_plain_name text)) member))

pub plain_method : (text : List ℕ) (marks : ℕ) → AreMarks text marks → is_unqualified_name text ≡ true → marks < 2 → nat_lt marks 2 ≡ is_method_name text
plain_method text marks are member lt =
    let on : nat_lt marks 2 ≡ true = lt-ltb marks 2 lt in
    on ∙ (sym (ap (λ b. b || is_special_name text) on) ∙ method_told text marks are member)

pub special_method : (text : List ℕ) (marks : ℕ) → AreMarks text marks → is_unqualified_name text ≡ true → 2 ≤ marks → is_special_name text ≡ is_method_name text
special_method text marks are member le =
    let off : nat_lt marks 2 ≡ false = le-ltb marks 2 le in
    sym (ap (λ b. b || is_special_name text) off) ∙ method_told text marks are member

-- ---- of texts

spelled_alone : (byte : ℕ) → IsTrue (is_single byte) → unit_bytes byte ≡ byte ∷ []
spelled_alone byte h = grind (arith, common_steps)

is_small : (byte : ℕ) → IsTrue (is_single byte) → IsTrue (is_unit byte)
is_small byte h = grind (arith, common_steps)

single_units : (text : List ℕ) → IsTrue (list_all is_single text) → IsTrue (list_all is_unit text)
single_units [] h = refl
single_units (x ∷ xs) h =
    let parts = and_parts (is_single x) (list_all is_single xs) h in
    and_from (is_unit x) (list_all is_unit xs) (is_small x parts.0) (single_units xs parts.1)

single_bytes : (text : List ℕ) → IsTrue (list_all is_single text) → text ≡ text_bytes text
single_bytes [] h = refl
single_bytes (x ∷ xs) h =
    let parts = and_parts (is_single x) (list_all is_single xs) h in
    ap (λ ys. x ∷ ys) (single_bytes xs parts.1) ∙ ap (λ ys. ys ++ text_bytes xs) (sym (spelled_alone x parts.0))

pub single_text : (text : List ℕ) (marks : ℕ) → AreMarks text marks → all_single marks ≡ true → IsText text
single_text text marks are all =
    let single : IsTrue (list_all is_single text) = sym are.single ∙ all in
    (text, record { fit = single_units text single; spelled = single_bytes text single })
