-- Units and the bytes that spell them.
use Rattle.std.proofs.Common.{◌≡◌, ℕ, ◌+◌, ◌-◌, ◌/◌, ◌%◌, ◌<◌, ◌≤◌, ◌^◌, Bool, true, false, cond, ◌&&◌, nat_lt, IsTrue, List, [], ◌∷◌, ◌++◌, length, sum_by, count_by, get_or, refl, ap, ◌∙◌, if◌then◌else◌, arith}
use Rattle.std.proofs.lemmas.Bool.{and_parts, ltb-true}
use Rattle.std.proofs.lemmas.List.Sums.{sum_by-cons}
use Rattle.jv_text.specs.Text.{unit_bytes, text_bytes, is_unit}
use Rattle.jv_interp_objects.specs.Units.{begins_unit, HasUnits}

pub unit_fits : (unit : ℕ) → IsTrue (is_unit unit) → unit < 2 ^ 16
unit_fits unit h = grind arith

-- ---- one unit, by the number of its bytes

pub data Spelling (unit : ℕ) (text rest : List ℕ) : Type 0 where
  One : (small : unit < 128) → (is : text ≡ unit ∷ rest) → Spelling unit text rest
  Two : (small : unit < 2048) → (is : text ≡ (192 + unit / 64) ∷ (128 + unit % 64) ∷ rest) → Spelling unit text rest
  Three : (is : text ≡ (224 + unit / 4096) ∷ (128 + unit / 64 % 64) ∷ (128 + unit % 64) ∷ rest) → Spelling unit text rest

pub spelling : (unit : ℕ) (text rest : List ℕ) → text ≡ unit_bytes unit ++ rest → Spelling unit text rest
spelling unit text rest e = by_tests (nat_lt 0 unit && nat_lt unit 128) refl (nat_lt unit 2048) refl
  where
    by_tests : (a : Bool) → (nat_lt 0 unit && nat_lt unit 128) ≡ a → (b : Bool) → nat_lt unit 2048 ≡ b → Spelling unit text rest
    by_tests true s b t =
        One (ltb-true unit 128 (and_parts (nat_lt 0 unit) (nat_lt unit 128) s).1)
        (e ∙ ap (λ (k : Bool). (if k then unit ∷ [] else if nat_lt unit 2048 then (192 + unit / 64) ∷ (128 + unit % 64) ∷
        [] else (224 + unit / 4096) ∷ (128 + unit / 64 % 64) ∷ (128 + unit % 64) ∷ []) ++ rest) s)
    by_tests false s true t =
        Two (ltb-true unit 2048 t)
        (e ∙ ap (λ (k : Bool). (if k then unit ∷ [] else if nat_lt unit 2048 then (192 + unit / 64) ∷ (128 + unit % 64) ∷
        [] else (224 + unit / 4096) ∷ (128 + unit / 64 % 64) ∷ (128 + unit % 64) ∷ []) ++ rest) s
        ∙ ap (λ (k : Bool). (if k then (192 + unit / 64) ∷ (128 + unit % 64) ∷ [] else (224 + unit / 4096) ∷ (128 + unit / 64 % 64) ∷ (128 + unit % 64) ∷ []) ++ rest) t)
    by_tests false s false t =
        Three
        (e ∙ ap (λ (k : Bool). (if k then unit ∷ [] else if nat_lt unit 2048 then (192 + unit / 64) ∷ (128 + unit % 64) ∷
        [] else (224 + unit / 4096) ∷ (128 + unit / 64 % 64) ∷ (128 + unit % 64) ∷ []) ++ rest) s
        ∙ ap (λ (k : Bool). (if k then (192 + unit / 64) ∷ (128 + unit % 64) ∷ [] else (224 + unit / 4096) ∷ (128 + unit / 64 % 64) ∷ (128 + unit % 64) ∷ []) ++ rest) t)

-- ---- their count: of the bytes of a unit the first one alone begins it

abbrev value : ℕ → ℕ
value byte = cond (begins_unit byte) 1 0

begins : (byte : ℕ) → byte < 128 → value byte ≡ 1
begins byte h = grind arith

begins_long : (byte : ℕ) → 192 ≤ byte → value byte ≡ 1
begins_long byte h = grind arith

continues : (part : ℕ) → part < 64 → value (128 + part) ≡ 0
continues part h = grind arith

low_part : (n : ℕ) → n % 64 < 64
low_part n = omega arith

first_counted : (unit : ℕ) (text rest : List ℕ) → Spelling unit text rest → count_by begins_unit text ≡ 1 + count_by begins_unit rest
first_counted unit text rest (One small is) =
    ap (λ (l : List ℕ). sum_by value l) is ∙ sum_by-cons value unit rest ∙ ap (λ (n : ℕ). n + sum_by value rest) (begins unit small)
first_counted unit text rest (Two small is) =
    ap (λ (l : List ℕ). sum_by value l) is ∙ sum_by-cons value (192 + unit / 64) ((128 + unit % 64) ∷ rest)
    ∙ ap (λ (n : ℕ). n + sum_by value ((128 + unit % 64) ∷ rest)) (begins_long (192 + unit / 64) (omega arith))
    ∙ ap (λ (n : ℕ). 1 + n) (sum_by-cons value (128 + unit % 64) rest ∙ ap (λ (n : ℕ). n + sum_by value rest) (continues (unit % 64) (low_part unit)) ∙ omega arith)
first_counted unit text rest (Three is) =
    ap (λ (l : List ℕ). sum_by value l) is ∙ sum_by-cons value (224 + unit / 4096) ((128 + unit / 64 % 64) ∷ (128 + unit % 64) ∷ rest)
    ∙ ap (λ (n : ℕ). n + sum_by value ((128 + unit / 64 % 64) ∷ (128 + unit % 64) ∷ rest)) (begins_long (224 + unit / 4096) (omega arith))
    ∙ ap (λ (n : ℕ). 1 + n)
    (sum_by-cons value (128 + unit / 64 % 64) ((128 + unit % 64) ∷ rest)
    ∙ ap (λ (n : ℕ). n + sum_by value ((128 + unit % 64) ∷ rest)) (continues (unit / 64 % 64) (low_part (unit / 64)))
    ∙ ap (λ (n : ℕ). 0 + n) (sum_by-cons value (128 + unit % 64) rest ∙ ap (λ (n : ℕ). n + sum_by value rest) (continues (unit % 64) (low_part unit)))
    ∙ omega arith)

all_counted : (units : List ℕ) → count_by begins_unit (text_bytes units) ≡ length units
all_counted [] = refl
all_counted (unit ∷ units) =
    first_counted unit (unit_bytes unit ++ text_bytes units) (text_bytes units) (spelling unit (unit_bytes unit ++ text_bytes units) (text_bytes units) refl)
    ∙ ap (λ (n : ℕ). 1 + n) (all_counted units) ∙ omega arith

pub counted : (text : List ℕ) (count : ℕ) → count ≡ count_by begins_unit text → HasUnits text count
counted text count e units s = e ∙ ap (λ (l : List ℕ). count_by begins_unit l) s.spelled ∙ all_counted units

-- ---- the unit at the front, by its first byte

pub record Split (text : List ℕ) (unit : ℕ) (rest : List ℕ) : Type 0 where
  pub fits : unit < 2 ^ 16
  pub spelling : Spelling unit text rest
  pub spelled : text ≡ unit_bytes unit ++ rest

pub some_byte : (unit : ℕ) (text rest : List ℕ) → Spelling unit text rest → 1 ≤ length text
some_byte unit text rest (One small is) = let e = ap length is in omega (arith, e)
some_byte unit text rest (Two small is) = let e = ap length is in omega (arith, e)
some_byte unit text rest (Three is) = let e = ap length is in omega (arith, e)

-- of one byte
pub one_byte : (unit : ℕ) (text rest : List ℕ) → Spelling unit text rest → get_or text 0 0 < 128 → text ≡ unit ∷ rest
one_byte unit text rest (One small is) h = is
one_byte unit text rest (Two small is) h = absurd (let e = ap (λ (l : List ℕ). get_or l 0 0) is in omega (arith, e, h))
one_byte unit text rest (Three is) h = absurd (let e = ap (λ (l : List ℕ). get_or l 0 0) is in omega (arith, e, h))

-- of two
pub two_bytes : (unit : ℕ) (text rest : List ℕ) → Spelling unit text rest → 128 ≤ get_or text 0 0 → get_or text 0 0 < 224 → text ≡ (192 + unit / 64) ∷ (128 + unit % 64) ∷ rest
two_bytes unit text rest (One small is) h k = absurd (let e = ap (λ (l : List ℕ). get_or l 0 0) is in omega (arith, e, h, small))
two_bytes unit text rest (Two small is) h k = is
two_bytes unit text rest (Three is) h k = absurd (let e = ap (λ (l : List ℕ). get_or l 0 0) is in omega (arith, e, k))

-- of three
pub three_bytes : (unit : ℕ) (text rest : List ℕ) → Spelling unit text rest → 224 ≤ get_or text 0 0 → text ≡ (224 + unit / 4096) ∷ (128 + unit / 64 % 64) ∷ (128 + unit % 64) ∷ rest
three_bytes unit text rest (One small is) h = absurd (let e = ap (λ (l : List ℕ). get_or l 0 0) is in omega (arith, e, h, small))
three_bytes unit text rest (Two small is) h = absurd (let e = ap (λ (l : List ℕ). get_or l 0 0) is in omega (arith, e, h, small))
three_bytes unit text rest (Three is) h = is

pub two_at_least : (unit : ℕ) (text rest : List ℕ) → Spelling unit text rest → 128 ≤ get_or text 0 0 → 2 ≤ length text
two_at_least unit text rest (One small is) h = absurd (let e = ap (λ (l : List ℕ). get_or l 0 0) is in omega (arith, e, h, small))
two_at_least unit text rest (Two small is) h = let e = ap length is in omega (arith, e)
two_at_least unit text rest (Three is) h = let e = ap length is in omega (arith, e)
