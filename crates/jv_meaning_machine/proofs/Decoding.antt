-- Functions that have the instructions of code, and the units of texts, exactly where bytes are such.
use Rattle.std.proofs.Common.{◌≡◌, ℕ, zero, suc, ◌+◌, ◌*◌, ◌-◌, ◌^◌, ◌<◌, ◌≤◌, nat_lt, nat_le, Bool, true, false, ◌&&◌, List, [], ◌∷◌, ◌++◌, length, get_or, drop, Option, Some, None, refl, sym, ap, subst, ◌∙◌, arith, if◌then◌else◌, bytes_eq}
use Rattle.std.specs.Prelude.{IsTrue}
use Rattle.std.specs.List.{flat_map, list_all}
use Rattle.std.proofs.lemmas.Bool.{and_parts, and_from, ltb-true, leb-true, le-leb}
use Rattle.std.proofs.lemmas.Grind.{common_steps}
use Rattle.std.proofs.lemmas.List.{length-append, drop_at}
use Rattle.std.proofs.lemmas.Slice.Eq.{bytes_eq-Decides}
use Rattle.jv_text.specs.Text.{unit_bytes, text_bytes, is_unit, Spells}
use Rattle.jv_text.proofs.Texts.{length-unit_bytes}
use Rattle.jv_code.specs.Insns.{Instruction, insn_bytes, insn_fits}
use Rattle.jv_code.specs.Inside.Reading.{insn_read}
use Rattle.jv_code.specs.Places.{all_fit, IsCode}
use Rattle.jv_code.proofs.Laws.{insn_is}
use Rattle.jv_code.proofs.Sizes.{some_bytes}
use Rattle.jv_meaning_machine.specs.Alone.{FindsInstructions, AreUnits}

-- what passes a test, and nothing else
passed_gave : {A : Type 0} (test : Bool) (a b : A) → (if test then Some a else None) ≡ Some b → (test ≡ true) × (a ≡ b)
passed_gave true a b e = (refl, cc)
passed_gave false a b e = absurd cc

passes : {A : Type 0} (test : A → Bool) (a b : A) → a ≡ b → test b ≡ true → (if test a then Some a else None) ≡ Some b
passes test a b same h =
    ap (λ x. if test x then Some x else None) same ∙ ap (λ (t : Bool). if t then Some b else None) h

-- ---- instructions, read one after the other

read_from : Option (Instruction × List ℕ) → (Instruction → List ℕ → List Instruction) → List Instruction
read_from None more = []
read_from (Some x) more = x.0 ∷ more x.0 x.1

decoded : ℕ → ℕ → List ℕ → List Instruction
decoded zero at bytes = []
decoded (suc k) at bytes = read_from (insn_read at bytes) (λ i rest. decoded k (at + length (insn_bytes i)) rest)

decodes : (all : List Instruction) (k at : ℕ) → length all ≤ k → IsTrue (all_fit at all) → decoded k at (flat_map insn_bytes all) ≡ all
unfolding decoded read_from
decodes [] zero at h fit = refl
decodes [] (suc k) at h fit = refl
decodes (i ∷ more) zero at h fit = absurd (omega (arith, h))
decodes (i ∷ more) (suc k) at h fit =
    let parts = and_parts (insn_fits at i) (all_fit (at + length (insn_bytes i)) more) fit in
    let read : insn_read at (insn_bytes i ++ flat_map insn_bytes more) ≡ Some (i, flat_map insn_bytes more) =
    (insn_is at).again i (flat_map insn_bytes more) parts.0 in
    let less : length more ≤ k = omega (arith, h) in
    ap (λ (o : Option (Instruction × List ℕ)). read_from o (λ i rest. decoded k (at + length (insn_bytes i)) rest)) read
    ∙ ap (λ (l : List Instruction). i ∷ l) (decodes more k (at + length (insn_bytes i)) less parts.1)

some_for_each : (all : List Instruction) → length all ≤ length (flat_map insn_bytes all)
some_for_each [] = omega arith
some_for_each (i ∷ more) =
    let here : 1 ≤ length (insn_bytes i) = some_bytes i in
    let rest : length more ≤ length (flat_map insn_bytes more) = some_for_each more in
    omega (arith, here, rest, length-append (insn_bytes i) (flat_map insn_bytes more))

is_code_of : List ℕ → List Instruction → Bool
is_code_of bytes all =
    bytes_eq bytes (flat_map insn_bytes all) && (all_fit 0 all && (nat_le 1 (length bytes) && nat_le (length bytes) 65535))

pub instructions_in : List ℕ → Option (List Instruction)
instructions_in bytes =
    if is_code_of bytes (decoded (length bytes) 0 bytes) then Some (decoded (length bytes) 0 bytes) else None

tested_code : (bytes : List ℕ) (all : List Instruction) → is_code_of bytes all ≡ true → IsCode bytes all
unfolding is_code_of
tested_code bytes all h =
    let first =
    and_parts (bytes_eq bytes (flat_map insn_bytes all)) (all_fit 0 all && (nat_le 1 (length bytes) && nat_le (length bytes) 65535)) h in
    let second = and_parts (all_fit 0 all) (nat_le 1 (length bytes) && nat_le (length bytes) 65535) first.1 in
    let third = and_parts (nat_le 1 (length bytes)) (nat_le (length bytes) 65535) second.1 in
    record {
      spelled = (bytes_eq-Decides bytes (flat_map insn_bytes all)).0 first.0;
      fit = second.0;
      some = leb-true 1 (length bytes) third.0;
      few = leb-true (length bytes) 65535 third.1;
    }

code_passes : (bytes : List ℕ) (all : List Instruction) → IsCode bytes all → is_code_of bytes all ≡ true
unfolding is_code_of
code_passes bytes all code =
    and_from (bytes_eq bytes (flat_map insn_bytes all)) (all_fit 0 all && (nat_le 1 (length bytes) && nat_le (length bytes) 65535))
    ((bytes_eq-Decides bytes (flat_map insn_bytes all)).1 code.spelled)
    (and_from (all_fit 0 all) (nat_le 1 (length bytes) && nat_le (length bytes) 65535) code.fit
    (and_from (nat_le 1 (length bytes)) (nat_le (length bytes) 65535) (le-leb 1 (length bytes) code.some) (le-leb (length bytes) 65535 code.few)))

pub are_instructions : FindsInstructions instructions_in
unfolding instructions_in
are_instructions bytes all = (there, back)
  where
    there : instructions_in bytes ≡ Some all → IsCode bytes all
    there e =
        let parts = passed_gave (is_code_of bytes (decoded (length bytes) 0 bytes)) (decoded (length bytes) 0 bytes) all e in
        subst (IsCode bytes) parts.1 (tested_code bytes (decoded (length bytes) 0 bytes) parts.0)

    back : IsCode bytes all → instructions_in bytes ≡ Some all
    back code =
        let enough : length all ≤ length bytes = subst (λ (b : List ℕ). length all ≤ length b) (sym code.spelled) (some_for_each all) in
        let same : decoded (length bytes) 0 bytes ≡ all =
        ap (λ (b : List ℕ). decoded (length bytes) 0 b) code.spelled ∙ decodes all (length bytes) 0 enough code.fit in
        passes (is_code_of bytes) (decoded (length bytes) 0 bytes) all same (code_passes bytes all code)

-- ---- units, read one after the other

-- by the first three bytes
unit_from : ℕ → ℕ → ℕ → ℕ
unit_from a b c =
    if nat_lt a 128 then a
    else if nat_lt a 224 then (a - 192) * 64 + (b - 128)
    else (a - 224) * 4096 + (b - 128) * 64 + (c - 128)

first_unit : List ℕ → ℕ
first_unit bytes = unit_from (get_or bytes 0 0) (get_or bytes 1 0) (get_or bytes 2 0)

first_is : (u : ℕ) (rest : List ℕ) → u < 2 ^ 16 → first_unit (unit_bytes u ++ rest) ≡ u
unfolding first_unit unit_from
first_is u rest h = grind (arith, common_steps)

units_read : ℕ → List ℕ → List ℕ
units_read zero bytes = []
units_read (suc k) [] = []
units_read (suc k) (byte ∷ more) =
    first_unit (byte ∷ more) ∷ units_read k (drop (length (unit_bytes (first_unit (byte ∷ more)))) (byte ∷ more))

one_read :
    (k : ℕ) (bytes : List ℕ) → 0 < length bytes
    → units_read (suc k) bytes ≡ first_unit bytes ∷ units_read k (drop (length (unit_bytes (first_unit bytes))) bytes)
unfolding units_read
one_read k [] h = absurd (omega (arith, h))
one_read k (byte ∷ more) h = refl

units_are : (all : List ℕ) (k : ℕ) → length all ≤ k → IsTrue (list_all is_unit all) → units_read k (text_bytes all) ≡ all
unfolding units_read
units_are [] zero h fit = refl
units_are [] (suc k) h fit = refl
units_are (u ∷ more) zero h fit = absurd (omega (arith, h))
units_are (u ∷ more) (suc k) h fit =
    let parts = and_parts (is_unit u) (list_all is_unit more) fit in
    let rest : List ℕ = text_bytes more in
    let some : 0 < length (unit_bytes u ++ rest) = omega (arith, length-unit_bytes u rest) in
    let first : first_unit (unit_bytes u ++ rest) ≡ u = first_is u rest (ltb-true u (2 ^ 16) parts.0) in
    let behind : drop (length (unit_bytes u)) (unit_bytes u ++ rest) ≡ rest = drop_at (unit_bytes u) rest (length (unit_bytes u)) refl in
    let less : length more ≤ k = omega (arith, h) in
    one_read k (unit_bytes u ++ rest) some
    ∙ ap (λ (v : ℕ). v ∷ units_read k (drop (length (unit_bytes v)) (unit_bytes u ++ rest))) first
    ∙ ap (λ (l : List ℕ). u ∷ units_read k l) behind
    ∙ ap (λ (l : List ℕ). u ∷ l) (units_are more k less parts.1)

byte_for_each : (all : List ℕ) → length all ≤ length (text_bytes all)
byte_for_each [] = omega arith
byte_for_each (u ∷ more) = omega (arith, byte_for_each more, length-unit_bytes u (text_bytes more))

is_text_of : List ℕ → List ℕ → Bool
is_text_of bytes units = bytes_eq bytes (text_bytes units) && list_all is_unit units

pub units_in : List ℕ → Option (List ℕ)
units_in bytes = if is_text_of bytes (units_read (length bytes) bytes) then Some (units_read (length bytes) bytes) else None

tested_text : (bytes all : List ℕ) → is_text_of bytes all ≡ true → Spells all bytes
unfolding is_text_of
tested_text bytes all h =
    let parts = and_parts (bytes_eq bytes (text_bytes all)) (list_all is_unit all) h in
    record { fit = parts.1; spelled = (bytes_eq-Decides bytes (text_bytes all)).0 parts.0 }

text_passes : (bytes all : List ℕ) → Spells all bytes → is_text_of bytes all ≡ true
unfolding is_text_of
text_passes bytes all h =
    and_from (bytes_eq bytes (text_bytes all)) (list_all is_unit all) ((bytes_eq-Decides bytes (text_bytes all)).1 h.spelled) h.fit

pub are_units : AreUnits units_in
unfolding units_in
are_units bytes all = (there, back)
  where
    there : units_in bytes ≡ Some all → Spells all bytes
    there e =
        let parts = passed_gave (is_text_of bytes (units_read (length bytes) bytes)) (units_read (length bytes) bytes) all e in
        subst (λ (units : List ℕ). Spells units bytes) parts.1 (tested_text bytes (units_read (length bytes) bytes) parts.0)

    back : Spells all bytes → units_in bytes ≡ Some all
    back h =
        let enough : length all ≤ length bytes = subst (λ (b : List ℕ). length all ≤ length b) (sym h.spelled) (byte_for_each all) in
        let same : units_read (length bytes) bytes ≡ all =
        ap (λ (b : List ℕ). units_read (length bytes) b) h.spelled ∙ units_are all (length bytes) enough h.fit in
        passes (is_text_of bytes) (units_read (length bytes) bytes) all same (text_passes bytes all h)
