-- No `;` stands in a class name.
use Rattle.std.proofs.Common.{◌≡◌, ℕ, ◌+◌, ◌<◌, ◌≤◌, zero, suc, Bool, true, false, List, [], ◌∷◌, ◌++◌, length, take, drop, get_or, refl, sym, ap, ◌∙◌, arith, cond, Some, None}
use Rattle.std.specs.Prelude.{IsTrue, not, ◌==◌, ◌&&◌, ◌||◌}
use Rattle.std.specs.List.{list_all, slice_split, onto_first, position, prefix_len}
use Rattle.std.proofs.lemmas.Bool.{and_parts, and_from}
use Rattle.std.proofs.lemmas.Grind.{common_steps}
use Rattle.std.proofs.Math.Seq.{drop-cons}
use Rattle.std.proofs.lemmas.List.{take-append-drop}
use Rattle.std.proofs.lemmas.List.Quantifiers.{position-Some}
use Rattle.jv_text.specs.Name.{is_name_byte, is_unqualified_name, is_class_name}
use Rattle.jv_text.specs.Inside.Marks.{is_class_byte}

-- every byte but `;`
abbrev pub is_inside : ℕ → Bool
is_inside byte = not (byte == 59)

-- every part is made of bytes of names
abbrev are_named : List (List ℕ) → Bool
are_named parts = list_all (λ part. list_all is_name_byte part) parts

named : (parts : List (List ℕ)) → IsTrue (list_all is_unqualified_name parts) → IsTrue (are_named parts)
named [] h = refl
named (part ∷ parts) h =
    let each = and_parts (is_unqualified_name part) (list_all is_unqualified_name parts) h in
    let both = and_parts (not (length part == 0)) (list_all is_name_byte part) each.0 in
    and_from (list_all is_name_byte part) (are_named parts) both.1 (named parts each.1)

-- what holds of the bytes of names and of `/` holds of those of class names
module _ (passes : ℕ → Bool) (name_passes : (x : ℕ) → IsTrue (is_name_byte x) → IsTrue (passes x)) (slash_passes : (x : ℕ) → (x == 47) ≡ true → IsTrue (passes x)) where
  -- a byte before a `/`, or in a part
  byte_and_parts : (b : Bool) (x : ℕ) (parts : List (List ℕ)) → (x == 47) ≡ b → IsTrue (are_named (cond b ([] ∷ parts) (onto_first x parts))) → IsTrue (passes x) × IsTrue (are_named parts)
  byte_and_parts true x parts e h = (slash_passes x e, h)
  byte_and_parts false x [] e h = (name_passes x (and_parts (is_name_byte x) true (and_parts (is_name_byte x && true) true h).0).0, refl)
  byte_and_parts false x (part ∷ parts) e h =
      let each = and_parts (is_name_byte x && list_all is_name_byte part) (are_named parts) h in
      let both = and_parts (is_name_byte x) (list_all is_name_byte part) each.0 in
      (name_passes x both.0, and_from (list_all is_name_byte part) (are_named parts) both.1 each.1)

  parts_pass : (xs : List ℕ) → IsTrue (are_named (slice_split (λ byte. byte == 47) xs)) → IsTrue (list_all passes xs)
  parts_pass [] h = refl
  parts_pass (x ∷ xs) h =
      let both = byte_and_parts (x == 47) x (slice_split (λ byte. byte == 47) xs) refl h in
      and_from (passes x) (list_all passes xs) both.0 (parts_pass xs both.1)

byte_inside : (x : ℕ) → IsTrue (is_name_byte x) → IsTrue (is_inside x)
byte_inside x h = grind (arith, common_steps)

slash_inside : (x : ℕ) → (x == 47) ≡ true → IsTrue (is_inside x)
slash_inside x h = grind (arith, common_steps)

pub class_inside : (name : List ℕ) → IsTrue (is_class_name name) → IsTrue (list_all is_inside name)
class_inside name h = parts_pass is_inside byte_inside slash_inside name (named (slice_split (λ byte. byte == 47) name) h)

name_or_slash : (x : ℕ) → IsTrue (is_name_byte x) → IsTrue (is_class_byte x)
name_or_slash x h = ap (λ b. b || x == 47) h

slash_or_name : (x : ℕ) → (x == 47) ≡ true → IsTrue (is_class_byte x)
slash_or_name x h = grind (arith, common_steps)

pub class_bytes : (name : List ℕ) → IsTrue (is_class_name name) → IsTrue (list_all is_class_byte name)
class_bytes name h = parts_pass is_class_byte name_or_slash slash_or_name name (named (slice_split (λ byte. byte == 47) name) h)

not_inside : (x : ℕ) → x ≡ 59 → IsTrue (is_inside x) → ⊥
not_inside x e h = grind (arith, common_steps)

-- what stands before the first `;`
pub one_end : (front other rest more : List ℕ) → IsTrue (list_all is_inside front) → IsTrue (list_all is_inside other) → front ++ (59 ∷ rest) ≡ other ++ (59 ∷ more) → (front ≡ other) × (rest ≡ more)
one_end [] [] rest more h k e = (refl, cc)
one_end [] (y ∷ ys) rest more h k e = absurd (not_inside y (cc) (and_parts (is_inside y) (list_all is_inside ys) k).0)
one_end (x ∷ xs) [] rest more h k e = absurd (not_inside x (cc) (and_parts (is_inside x) (list_all is_inside xs) h).0)
one_end (x ∷ xs) (y ∷ ys) rest more h k e =
    let tails = one_end xs ys rest more (and_parts (is_inside x) (list_all is_inside xs) h).1 (and_parts (is_inside y) (list_all is_inside ys) k).1 (cc) in
    (cc, tails.1)

-- a name that ends at the first `;` of a text is what stands before it
pub no_class : (text front rest : List ℕ) → text ≡ front ++ (59 ∷ rest) → IsTrue (list_all is_inside front) → is_class_name front ≡ false
    → (name more : List ℕ) → IsTrue (is_class_name name) → text ≡ name ++ (59 ∷ more) → ⊥
no_class text front rest found inside bad name more class e =
    let one = one_end front name rest more inside (class_inside name class) (sym found ∙ e) in
    let good : is_class_name front ≡ true = rw (one.0) class in
    cc

inside_below : (xs : List ℕ) (i : ℕ) → i ≤ length xs → ((k : ℕ) → k < i → (get_or xs k 0 == 59) ≡ false) → IsTrue (list_all is_inside (take i xs))
inside_below xs zero le below = refl
inside_below [] (suc i) le below = absurd (omega arith)
inside_below (x ∷ xs) (suc i) le below =
    let head : (x == 59) ≡ false = below 0 (omega arith) in
    and_from (is_inside x) (list_all is_inside (take i xs)) (rw head refl) (inside_below xs i (omega arith) (λ k lt. below (suc k) (omega arith)))

-- the first `;` parts a text
pub at_end : (text : List ℕ) (i : ℕ) → position (λ byte. byte == 59) text ≡ Some i → (text ≡ take i text ++ (59 ∷ drop 1 (drop i text))) × IsTrue (list_all is_inside (take i text))
at_end text i e =
    let place = position-Some (λ byte. byte == 59) text i 0 e in
    let end : get_or text i 0 ≡ 59 = grind (arith, common_steps, place.1) in
    let tail : drop i text ≡ 59 ∷ drop (suc i) text = drop-cons text i 0 place.0 ∙ ap (λ (y : ℕ). y ∷ drop (suc i) text) end in
    let rest : drop 1 (drop i text) ≡ drop (suc i) text = ap (λ (xs : List ℕ). drop 1 xs) tail in
    (sym (take-append-drop i text) ∙ ap (λ (xs : List ℕ). take i text ++ xs) (tail ∙ ap (λ (xs : List ℕ). 59 ∷ xs) (sym rest)), inside_below text i (omega (arith, place.0)) place.2)

some_end : (front rest : List ℕ) → prefix_len is_inside (front ++ (59 ∷ rest)) < length (front ++ (59 ∷ rest))
some_end [] rest = omega arith
some_end (x ∷ xs) rest = step (is_inside x) (prefix_len is_inside (xs ++ (59 ∷ rest))) (length (xs ++ (59 ∷ rest))) (some_end xs rest)
  where
    step : (b : Bool) (n m : ℕ) → n < m → cond b (1 + n) 0 < suc m
    step true n m lt = omega arith
    step false n m lt = omega arith

-- where there is none, there is no `;`
pub no_end : (text : List ℕ) → position (λ byte. byte == 59) text ≡ None → (front rest : List ℕ) → text ≡ front ++ (59 ∷ rest) → ⊥
no_end text none front rest e =
    let lt : prefix_len is_inside text < length text = rw e (some_end front rest) in
    grind (arith, common_steps, lt, none)
