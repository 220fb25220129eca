-- The spelling of a unit begins no other one, so texts are read from the front.
use Rattle.std.proofs.Common.{◌≡◌, ℕ, ◌<◌, ◌^◌, List, [], ◌∷◌, ◌++◌, length, refl, sym, ap, ◌∙◌, append_assoc, arith}
use Rattle.std.specs.Prelude.{IsTrue}
use Rattle.std.specs.List.{list_all}
use Rattle.std.proofs.lemmas.Bool.{and_parts, and_from}
use Rattle.std.proofs.lemmas.Grind.{common_steps, flat_map-append}
use Rattle.std.proofs.lemmas.List.{append-nil, nil_from_length}
use Rattle.std.proofs.lemmas.List.Folds.{list_all-append}
use Rattle.jv_text.specs.Text.{unit_bytes, text_bytes, is_unit, Spells, OneText}

-- unlike units are spelled unlike
pub one_unit : (u v : ℕ) (x y : List ℕ) → u < 2 ^ 16 → v < 2 ^ 16 → unit_bytes u ++ x ≡ unit_bytes v ++ y → (u ≡ v) × (x ≡ y)
one_unit u v x y lu lv e = grind (arith, common_steps)

-- no unit is spelled by no bytes
pub length-unit_bytes : (u : ℕ) (x : List ℕ) → length x < length (unit_bytes u ++ x)
length-unit_bytes u x = grind (arith, common_steps)

unit_fits : (u : ℕ) → IsTrue (is_unit u) → u < 2 ^ 16
unit_fits u h = grind arith

pub is_unit-from_fits : (u : ℕ) → u < 2 ^ 16 → IsTrue (is_unit u)
is_unit-from_fits u h = grind arith

-- the text of bytes that begin with those of `before` begins with `before`
pub text_split : (before all rest : List ℕ) → IsTrue (list_all is_unit before) → IsTrue (list_all is_unit all) → text_bytes all ≡ text_bytes before ++
    rest → (more : List ℕ) × (all ≡ before ++ more) × (rest ≡ text_bytes more) × IsTrue (list_all is_unit more)
text_split [] all rest fb fa e = (all, refl, sym e, fa)
text_split (u ∷ us) [] rest fb fa e = absurd (omega (arith, length-unit_bytes u (text_bytes us ++ rest), ap length (e ∙ append_assoc (unit_bytes u) (text_bytes us) rest)))
text_split (u ∷ us) (v ∷ vs) rest fb fa e =
    let mine = and_parts (is_unit u) (list_all is_unit us) fb in
    let others = and_parts (is_unit v) (list_all is_unit vs) fa in
    let joined = e ∙ append_assoc (unit_bytes u) (text_bytes us) rest in
    let same = one_unit v u (text_bytes vs) (text_bytes us ++ rest) (unit_fits v others.0) (unit_fits u mine.0) joined in
    let one = text_split us vs rest mine.1 others.1 same.1 in
    (one.0, cc, one.2, one.3)

-- the law: one text
pub one_text : OneText
one_text bytes one other h k =
    let split = text_split other one [] k.fit h.fit (sym h.spelled ∙ k.spelled ∙ sym (append-nil (text_bytes other))) in
    let none : length (text_bytes split.0) ≡ 0 = ap length (sym split.2) in
    let all : split.0 ≡ [] = no_units split.0 none in
    split.1 ∙ ap (λ (x : List ℕ). other ++ x) all ∙ append-nil other
  where
    no_units : (units : List ℕ) → length (text_bytes units) ≡ 0 → units ≡ []
    no_units [] e = refl
    no_units (u ∷ us) e = absurd (omega (arith, length-unit_bytes u (text_bytes us)))

-- units that were read, and the bytes behind them
pub record Front (units bytes rest : List ℕ) : Type 0 where
  pub fit : IsTrue (list_all is_unit units)
  pub spelled : bytes ≡ text_bytes units ++ rest

pub Front-push : (units bytes rest : List ℕ) (u : ℕ) (after : List ℕ) → u < 2 ^ 16 → rest ≡ unit_bytes u ++ after → Front units bytes rest → Front (units ++ u ∷ []) bytes after
Front-push units bytes rest u after lt e front = record {
  fit = list_all-append is_unit units (u ∷ []) ∙ and_from (list_all is_unit units) (list_all is_unit (u ∷ [])) front.fit (and_from (is_unit u) _ (is_unit-from_fits u lt) refl);
  spelled =
      let parts : text_bytes (units ++ u ∷ []) ≡ text_bytes units ++ (unit_bytes u ++ []) = flat_map-append unit_bytes units (u ∷ []) in
      let mid : bytes ≡ text_bytes units ++ (unit_bytes u ++ after) = rw (← e) front.spelled in
      rw (parts, append-nil, append_assoc) mid;
}

pub Front-all : (units bytes rest : List ℕ) → length rest ≡ 0 → Front units bytes rest → Spells units bytes
Front-all units bytes rest e front = record {
  fit = front.fit;
  spelled = rw (nil_from_length rest e, append-nil) at front.spelled;
}

-- where no unit is at the front of the rest, the bytes are no text
pub Front-none : (units bytes rest : List ℕ) → 0 < length rest → ((u : ℕ) (after : List ℕ) → u < 2 ^ 16 → rest ≡ unit_bytes u ++ after → ⊥) →
    Front units bytes rest → (all : List ℕ) → Spells all bytes → ⊥
Front-none units bytes rest lt none front all h =
    let split = text_split units all rest front.fit h.fit (sym h.spelled ∙ front.spelled) in
    first split.0 rest lt none split.2 split.3
  where
    first : (more rest : List ℕ) → 0 < length rest → ((u : ℕ) (after : List ℕ) → u < 2 ^ 16 → rest ≡ unit_bytes u ++ after → ⊥) → rest ≡ text_bytes more → IsTrue (list_all is_unit more) → ⊥
    first [] rest lt none e fits = omega (arith, ap length e)
    first (u ∷ us) rest lt none e fits = none u (text_bytes us) (unit_fits u (and_parts (is_unit u) (list_all is_unit us) fits).0) e
