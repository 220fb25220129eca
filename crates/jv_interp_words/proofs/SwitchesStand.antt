-- A tableswitch where it stands in code: its numbers and distances.
use Rattle.std.proofs.Common.{◌≡◌, ℕ, ◌+◌, ◌-◌, ◌*◌, ◌%◌, ◌<◌, ◌≤◌, ℤ, Bool, true, false, List, [], ◌∷◌, ◌++◌, Option, Some, length, drop, get_or, refl, sym, ap, subst, ◌∙◌, append_assoc, arith, IsTrue, to_z, of_z, inl, inr, length-append, length-drop}
use Rattle.std.specs.Prelude.{◌-ℤ◌, ◌≤ℤ◌, pos, negsuc, nat_abs, int_lt, ◌&&◌, ◌||◌, slice_get, unwrap_or, if◌then◌else◌}
use Rattle.std.specs.Int.{w32}
use Rattle.std.specs.List.{flat_map}
use mir.Val.{SFits}
use Rattle.std.proofs.lemmas.Bool.{and_parts, eqb-true}
use Rattle.std.proofs.lemmas.Int.{ints, to_z-of_z}
use Rattle.std.proofs.lemmas.List.{drop-drop, drop-append-le, get_or-drop}
use Rattle.std.proofs.Math.Seq.{drop-append_seam}
use Rattle.jv_format.specs.Readers.{found_as}
use Rattle.jv_format.proofs.Laws.{bind_some, is_some}
use Rattle.jv_code.specs.Insns.{Instruction, insn_bytes}
use Rattle.jv_code.specs.Numbers.{signed32}
use Rattle.jv_code.specs.Operands.{HasBytes}
use Rattle.jv_code.specs.Places.{IsAt, IsStart}
use Rattle.jv_code.specs.Switches.{padding_fits, distances_fit, distances_in, number_of}
use Rattle.jv_code.specs.Inside.Reading.{insn_read, table_switch_of}
use Rattle.jv_code.specs.Inside.SwitchReading.{table_switch}
use Rattle.jv_code.specs.declared.insn.Insn.TheVariants.{TableSwitch}
use Rattle.jv_code.proofs.Laws.{signed32_is, insn_is}
use Rattle.jv_code.proofs.StartLaws.{at_rest}
use Rattle.jv_code.proofs.Distances.{distance_there}
use Rattle.jv_meaning_machine.specs.Arithmetic.{table_distance}
use Rattle.jv_interp_words.specs.Inside.Switches.{signed_there, IsTableSwitch, distance_place, IsAbove}

-- ---- the instruction at its opcode

pub table_switch_there : (code : List ℕ) (pc : ℕ) → IsStart code pc → HasBytes code pc (170 ∷ []) → IsTableSwitch code pc
table_switch_there code pc s h =
    let there = at_rest code pc s.0 s.1 in
    let again = (insn_is pc).again s.0 _ there.1 in
    let read : insn_read pc (170 ∷ h.0) ≡ Some (s.0, _) = ap (insn_read pc) (sym h.1 ∙ there.0) ∙ again in
    let told = bind_some ((table_switch pc).read h.0) (found_as table_switch_of) _ read in
    let x = told.0.0 in
    let same : table_switch_of x ≡ s.0 = ap (λ (p : Instruction × List ℕ). p.0) (is_some (table_switch_of x, told.0.1) _ told.2) in
    (x.0, x.1.0.0, x.1.0.1.0, x.1.0.1.1, x.1.1, subst (λ (i : Instruction). IsAt code pc i) (sym same) s.1)

-- ---- its numbers

-- what is behind the front of what stands at an offset
pub behind : (bytes : List ℕ) (at : ℕ) (a b : List ℕ) → drop at bytes ≡ a ++ b → drop (at + length a) bytes ≡ b
behind bytes at a b e = sym (drop-drop (length a) at bytes) ∙ ap (drop (length a)) e ∙ drop-append_seam a b

abbrev quad_in : List ℕ → ℤ
quad_in bytes = number_of (get_or bytes 0 0) (get_or bytes 1 0) (get_or bytes 2 0) (get_or bytes 3 0)

quad_dropped : (code : List ℕ) (at : ℕ) → quad_in (drop at code) ≡ signed_there code at
quad_dropped code at =
    let a : get_or (drop at code) 0 0 ≡ get_or code at 0 = get_or-drop at code 0 0 ∙ ap (λ (n : ℕ). get_or code n 0) (omega arith) in
    let b = get_or-drop at code 1 0 in
    let c = get_or-drop at code 2 0 in
    let d = get_or-drop at code 3 0 in
    ap (λ (n : ℕ). number_of n (get_or (drop at code) 1 0) (get_or (drop at code) 2 0) (get_or (drop at code) 3 0)) a
    ∙ ap (λ (n : ℕ). number_of (get_or code at 0) n (get_or (drop at code) 2 0) (get_or (drop at code) 3 0)) b
    ∙ ap (λ (n : ℕ). number_of (get_or code at 0) (get_or code (at + 1) 0) n (get_or (drop at code) 3 0)) c
    ∙ ap (λ (n : ℕ). number_of (get_or code at 0) (get_or code (at + 1) 0) (get_or code (at + 2) 0) n) d

-- the number that is spelled at an offset
pub number_there :
    (code : List ℕ) (at : ℕ) (z : ℤ) (rest : List ℕ) → IsTrue (signed32.fits z) → drop at code ≡ signed32.spelling z ++ rest
    → signed_there code at ≡ z
number_there code at z rest fits e =
    let again = signed32_is.again z rest fits in
    let first : quad_in (signed32.spelling z ++ rest) ≡ z =
    ap (λ (p : ℤ × List ℕ). p.0) (is_some (quad_in (signed32.spelling z ++ rest), rest) (z, rest) again) in
    sym (quad_dropped code at) ∙ ap quad_in e ∙ first

pub record Numbers (code : List ℕ) (numbers : ℕ) (default low high : ℤ) (distances : List ℕ) : Type 0 where
  pub default_is : signed_there code numbers ≡ default
  pub low_is : signed_there code (numbers + 4) ≡ low
  pub high_is : signed_there code (numbers + 8) ≡ high
  pub after : List ℕ
  pub distances_are : drop (numbers + 12) code ≡ distances ++ after
  pub fit : IsTrue (distances_fit (high -ℤ low) distances)

pub numbers_stand :
    (code : List ℕ) (pc numbers : ℕ) (padding : List ℕ) (default low high : ℤ) (distances : List ℕ)
    → IsAt code pc (TableSwitch padding default low high distances) → numbers ≡ pc + (4 - pc % 4)
    → Numbers code numbers default low high distances
numbers_stand code pc numbers padding default low high distances is place =
    let there = at_rest code pc (TableSwitch padding default low high distances) is in
    let parts = and_parts (padding_fits pc padding) ((signed32.fits default && (signed32.fits low && signed32.fits high)) && distances_fit (high -ℤ low) distances) there.1 in
    let more = and_parts (signed32.fits default && (signed32.fits low && signed32.fits high)) (distances_fit (high -ℤ low) distances) parts.1 in
    let three = and_parts (signed32.fits default) (signed32.fits low && signed32.fits high) more.0 in
    let two = and_parts (signed32.fits low) (signed32.fits high) three.1 in
    let long : length padding ≡ 3 - pc % 4 = eqb-true _ _ parts.0 in
    let after = flat_map insn_bytes is.after in
    let D = signed32.spelling default in
    let L = signed32.spelling low in
    let H = signed32.spelling high in
    let e0 : drop pc code ≡ (170 ∷ padding) ++ (D ++ (L ++ (H ++ (distances ++ after)))) = there.0 ∙ simp append_assoc refl in
    let e1 : drop numbers code ≡ D ++ (L ++ (H ++ (distances ++ after))) =
    subst (λ (n : ℕ). drop n code ≡ D ++ (L ++ (H ++ (distances ++ after)))) (omega (arith, long, place)) (behind code pc (170 ∷ padding) _ e0) in
    let e2 : drop (numbers + 4) code ≡ L ++ (H ++ (distances ++ after)) = behind code numbers D _ e1 in
    let e3 : drop (numbers + 8) code ≡ H ++ (distances ++ after) =
    subst (λ (n : ℕ). drop n code ≡ H ++ (distances ++ after)) (omega arith) (behind code (numbers + 4) L _ e2) in
    let e4 : drop (numbers + 12) code ≡ distances ++ after =
    subst (λ (n : ℕ). drop n code ≡ distances ++ after) (omega arith) (behind code (numbers + 8) H _ e3) in
    record {
      default_is = number_there code numbers default _ three.0 e1;
      low_is = number_there code (numbers + 4) low _ two.0 e2;
      high_is = number_there code (numbers + 8) high _ two.1 e3;
      after = after;
      distances_are = e4;
      fit = more.1;
    }

-- ---- its distances

fit_known :
    (z : ℤ) (distances : List ℕ) → IsTrue (distances_fit z distances) → (n : ℕ) × (z ≡ pos n) × (length distances ≡ 4 * (n + 1))
fit_known (pos n) distances h = (n, refl, eqb-true _ _ h)
fit_known (negsuc n) distances h = absurd cc

pub room :
    (code : List ℕ) (numbers : ℕ) (default low high : ℤ) (distances : List ℕ) (place : ℕ)
    → Numbers code numbers default low high distances → 4 * place + 4 ≤ length distances → numbers + 12 + 4 * place + 4 ≤ length code
room code numbers default low high distances place h lt =
    omega (arith, lt, ap length h.distances_are, length-append distances h.after, length-drop (numbers + 12) code)

pub some_room :
    (code : List ℕ) (numbers : ℕ) (default low high : ℤ) (distances : List ℕ)
    → Numbers code numbers default low high distances → numbers + 16 ≤ length code
some_room code numbers default low high distances h =
    let fit = fit_known (high -ℤ low) distances h.fit in
    omega (arith, fit.2, room code numbers default low high distances 0 h (omega (arith, fit.2)))

first_in : (bytes : List ℕ) → 4 ≤ length bytes → slice_get (distances_in bytes) 0 ≡ Some (quad_in bytes)
first_in (a ∷ b ∷ c ∷ d ∷ rest) h = refl
first_in [] h = absurd (omega (arith, h))
first_in (a ∷ []) h = absurd (omega (arith, h))
first_in (a ∷ b ∷ []) h = absurd (omega (arith, h))
first_in (a ∷ b ∷ c ∷ []) h = absurd (omega (arith, h))

in_front : (bytes after : List ℕ) → 4 ≤ length bytes → quad_in (bytes ++ after) ≡ quad_in bytes
in_front (a ∷ b ∷ c ∷ d ∷ rest) after h = refl
in_front [] after h = absurd (omega (arith, h))
in_front (a ∷ []) after h = absurd (omega (arith, h))
in_front (a ∷ b ∷ []) after h = absurd (omega (arith, h))
in_front (a ∷ b ∷ c ∷ []) after h = absurd (omega (arith, h))

distance_at :
    (code distances after : List ℕ) (at place : ℕ) → drop at code ≡ distances ++ after → 4 * place + 4 ≤ length distances
    → slice_get (distances_in distances) place ≡ Some (signed_there code (at + 4 * place))
distance_at code distances after at place e lt =
    let rest = drop (4 * place) distances in
    let long : 4 ≤ length rest = omega (arith, lt, length-drop (4 * place) distances) in
    let split : drop (at + 4 * place) code ≡ rest ++ after =
    sym (drop-drop (4 * place) at code) ∙ ap (drop (4 * place)) e ∙ drop-append-le (4 * place) distances after (omega (arith, lt)) in
    let same : signed_there code (at + 4 * place) ≡ quad_in rest =
    sym (quad_dropped code (at + 4 * place)) ∙ ap quad_in split ∙ in_front rest after long in
    sym (distance_there distances place) ∙ first_in rest long ∙ ap (λ (z : ℤ). Some z) (sym same)

-- a test on numbers that were handed on
pub test_known :
    (a b x y : ℤ) (t : Bool) → SFits w32 a → SFits w32 b → a ≡ x → b ≡ y
    → int_lt (to_z w32 (of_z w32 a)) (to_z w32 (of_z w32 b)) ≡ t → int_lt x y ≡ t
test_known a b x y t f g e h test =
    subst (λ (z : ℤ). int_lt z y ≡ t) (to_z-of_z w32 a f ∙ e)
    (subst (λ (z : ℤ). int_lt (to_z w32 (of_z w32 a)) z ≡ t) (to_z-of_z w32 b g ∙ h) test)

-- how far one is above the other, where it is not below
pub known_above :
    (a b x y : ℤ) (n : ℕ) → SFits w32 a → SFits w32 b → a ≡ x → b ≡ y → n < 4294967296 → int_lt x y ≡ false
    → IsAbove (to_z w32 (of_z w32 a)) (to_z w32 (of_z w32 b)) n → nat_abs (x -ℤ y) ≡ n
known_above a b x y n f g e h lt test above =
    is (subst (λ (z : ℤ). IsAbove z y n) (to_z-of_z w32 a f ∙ e)
    (subst (λ (z : ℤ). IsAbove (to_z w32 (of_z w32 a)) z n) (to_z-of_z w32 b g ∙ h) above))
  where
    is : IsAbove x y n → nat_abs (x -ℤ y) ≡ n
    is (inl same) = sym (ap nat_abs same)
    is (inr more) =
        let not_less : y ≤ℤ x = grind (arith, ints) in
        absurd (omega (arith, ints, more, lt, not_less))

pub place_first :
    (code : List ℕ) (numbers : ℕ) (number : ℤ) → int_lt number (signed_there code (numbers + 4)) ≡ true
    → numbers ≡ distance_place code numbers number
place_first code numbers number below =
    sym (ap (λ (t : Bool). if t || int_lt (signed_there code (numbers + 8)) number then numbers
    else numbers + 12 + 4 * nat_abs (number -ℤ signed_there code (numbers + 4))) below)

pub place_first_too :
    (code : List ℕ) (numbers : ℕ) (number : ℤ) → int_lt number (signed_there code (numbers + 4)) ≡ false
    → int_lt (signed_there code (numbers + 8)) number ≡ true → numbers ≡ distance_place code numbers number
place_first_too code numbers number not_below above =
    sym (ap (λ (t : Bool). if t || int_lt (signed_there code (numbers + 8)) number then numbers
    else numbers + 12 + 4 * nat_abs (number -ℤ signed_there code (numbers + 4))) not_below
    ∙ ap (λ (t : Bool). if t then numbers else numbers + 12 + 4 * nat_abs (number -ℤ signed_there code (numbers + 4))) above)

pub place_behind :
    (code : List ℕ) (numbers : ℕ) (number : ℤ) (n : ℕ) → int_lt number (signed_there code (numbers + 4)) ≡ false
    → int_lt (signed_there code (numbers + 8)) number ≡ false → nat_abs (number -ℤ signed_there code (numbers + 4)) ≡ n
    → numbers + 12 + 4 * n ≡ distance_place code numbers number
place_behind code numbers number n not_below not_above is =
    sym (ap (λ (t : Bool). if t || int_lt (signed_there code (numbers + 8)) number then numbers
    else numbers + 12 + 4 * nat_abs (number -ℤ signed_there code (numbers + 4))) not_below
    ∙ ap (λ (t : Bool). if t then numbers else numbers + 12 + 4 * nat_abs (number -ℤ signed_there code (numbers + 4))) not_above
    ∙ ap (λ (m : ℕ). numbers + 12 + 4 * m) is)

-- the number that stands there is the distance
pub record Distance (code : List ℕ) (numbers place : ℕ) (number : ℤ) (default low high : ℤ) (distances : List ℕ) : Type 0 where
  pub is : signed_there code place ≡ table_distance default low high distances number
  pub within : place + 4 ≤ length code

below_all : (number low high : ℤ) (n k : ℕ) → number -ℤ low ≡ pos k → high -ℤ low ≡ pos n → int_lt high number ≡ false → k ≤ n
below_all number low high n k e f not_above = grind (arith, ints)

not_below_pos : (number low : ℤ) → int_lt number low ≡ false → number -ℤ low ≡ pos (nat_abs (number -ℤ low))
not_below_pos number low test = whole (number -ℤ low) (grind (arith, ints))
  where
    whole : (z : ℤ) → pos 0 ≤ℤ z → z ≡ pos (nat_abs z)
    whole (pos n) h = refl
    whole (negsuc n) h = absurd (omega (arith, ints, h))

pub distance_stands :
    (code : List ℕ) (numbers place : ℕ) (number default low high : ℤ) (distances : List ℕ)
    → Numbers code numbers default low high distances → place ≡ distance_place code numbers number
    → Distance code numbers place number default low high distances
distance_stands code numbers place number default low high distances h e =
    by_tests (int_lt number low) (int_lt high number) refl refl
  where
    at_low :
        distance_place code numbers number
        ≡ (if int_lt number low || int_lt high number then numbers else numbers + 12 + 4 * nat_abs (number -ℤ low))
    at_low =
        ap (λ (z : ℤ). if int_lt number z || int_lt (signed_there code (numbers + 8)) number then numbers
        else numbers + 12 + 4 * nat_abs (number -ℤ z)) h.low_is
        ∙ ap (λ (z : ℤ). if int_lt number low || int_lt z number then numbers else numbers + 12 + 4 * nat_abs (number -ℤ low)) h.high_is

    default_there :
        place ≡ numbers → (int_lt number low || int_lt high number) ≡ true → Distance code numbers place number default low high distances
    default_there same out = record {
      is =
          ap (λ (n : ℕ). signed_there code n) same ∙ h.default_is
          ∙ sym (ap (λ (t : Bool). if t then default else unwrap_or (slice_get (distances_in distances) (nat_abs (number -ℤ low))) default) out);
      within = omega (arith, same, some_room code numbers default low high distances h);
    }

    by_tests :
        (below above : Bool) → int_lt number low ≡ below → int_lt high number ≡ above
        → Distance code numbers place number default low high distances
    by_tests true above f g =
        default_there
        (e ∙ at_low ∙ ap (λ (t : Bool). if t || int_lt high number then numbers else numbers + 12 + 4 * nat_abs (number -ℤ low)) f)
        (ap (λ (t : Bool). t || int_lt high number) f)
    by_tests false true f g =
        default_there
        (e ∙ at_low ∙ ap (λ (t : Bool). if t || int_lt high number then numbers else numbers + 12 + 4 * nat_abs (number -ℤ low)) f
        ∙ ap (λ (t : Bool). if t then numbers else numbers + 12 + 4 * nat_abs (number -ℤ low)) g)
        (ap (λ (t : Bool). t || int_lt high number) f ∙ g)
    by_tests false false f g =
        let k = nat_abs (number -ℤ low) in
        let there : place ≡ numbers + 12 + 4 * k =
        e ∙ at_low ∙ ap (λ (t : Bool). if t || int_lt high number then numbers else numbers + 12 + 4 * nat_abs (number -ℤ low)) f
        ∙ ap (λ (t : Bool). if t then numbers else numbers + 12 + 4 * nat_abs (number -ℤ low)) g in
        let n = fit_known (high -ℤ low) distances h.fit in
        let in_front : k ≤ n.0 = below_all number low high n.0 k (not_below_pos number low f) n.1 g in
        let long : 4 * k + 4 ≤ length distances = omega (arith, in_front, n.2) in
        let one = distance_at code distances h.after (numbers + 12) k h.distances_are long in
        record {
          is =
              ap (λ (m : ℕ). signed_there code m) there
              ∙ sym (ap (λ (t : Bool). if t || int_lt high number then default
              else unwrap_or (slice_get (distances_in distances) (nat_abs (number -ℤ low))) default) f
              ∙ ap (λ (t : Bool). if t then default else unwrap_or (slice_get (distances_in distances) (nat_abs (number -ℤ low))) default) g
              ∙ ap (λ (o : Option ℤ). unwrap_or o default) one);
          within = omega (arith, there, room code numbers default low high distances k h long);
        }
