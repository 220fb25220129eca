-- Division and remainder (JVMS 6.5, idiv and its kin).
use Rattle.std.proofs.Common.{◌≡◌, ℕ, ℤ, pos, ◌+◌, ◌≤◌, Bool, List, [], ◌∷◌, Some, None, Ok, length, reverse, refl, sym, ap, subst, ◌∙◌, arith}
use Rattle.std.specs.Ordering.{int_eq}
use Rattle.jv_code.specs.declared.insn.Insn.TheVariants as insns
use Rattle.jv_code.specs.declared.kinds.DivisionOperator.{DivisionOperator}
use Rattle.jv_code.specs.declared.kinds.NumberKind.{NumberKind}
use Rattle.jv_code.specs.declared.kinds.NumberKind.TheVariants as numbers
use Rattle.jv_meaning_typing.specs.NumberRules.{exchange, number_type}
use Rattle.jv_meaning_machine.specs.Faults.{◌>>=◌}
use Rattle.jv_meaning_machine.specs.Values.{Value}
use Rattle.jv_meaning_machine.specs.State.{Memory}
use Rattle.jv_meaning_machine.specs.Effects.{Effect, Context, raises, division_by_zero}
use Rattle.jv_meaning_machine.specs.Effects.Effect.{Raises}
use Rattle.jv_meaning_machine.specs.Arithmetic.{number_value, width_of, as_number, two, divided}
use Rattle.jv_meaning_machine.specs.Instructions.{divide}
use Rattle.jv_interp_words.specs.declared.registers.Registers.{Registers}
use Rattle.jv_interp_words.specs.ValuesInWords.{AreOnTop}
use Rattle.jv_interp_words.specs.FramesInWords.{in_use, FrameStands}
use Rattle.jv_interp_words.specs.Inside.Divisions.{Divides}
use Rattle.jv_interp_words.proofs.Gave.{bound_gave, number_gave, two_gave}
use Rattle.jv_interp_words.proofs.InUse.{length-in_use}
use Rattle.jv_interp_words.specs.Going.{Works, CanWork, GoesOn, Throws}
use Rattle.jv_interp_words.specs.Inside.Dividing.{operand_words}
use Rattle.jv_interp_words.proofs.FramesStand.{same_done, pushed}
use Rattle.jv_interp_words.proofs.OperandsStand.{operands_stand}
use Rattle.jv_interp_words.proofs.Jumped.{went}
use Rattle.jv_interp_words.proofs.PushedOn.{goes_next, goes_at}

pub record DivisionOf (c : Context) (kind : NumberKind) (operator : DivisionOperator) (addresses : List ℕ) (done : Memory × Effect) (used below : List ℕ) : Type 0 where
  pub first : ℤ
  pub second : ℤ
  pub rest : List Value
  pub middle : List ℕ
  pub upper : AreOnTop addresses (number_value kind second ∷ number_value kind first ∷ []) used middle
  pub lower : FrameStands addresses c.frame.locals rest middle below
  pub does : divide c kind operator first second rest (int_eq second (pos 0)) ≡ Ok done

pub division_works :
    (kind : NumberKind) (operator : DivisionOperator) (next : ℕ) (at : Registers) (words : List ℕ) (c : Context) (addresses : List ℕ)
    (done : Memory × Effect) (below : List ℕ) → Works (insns.Division kind operator) next at words c addresses done below
    → DivisionOf c kind operator addresses done (in_use words at.top) below
division_works kind operator next at words c addresses done below w =
    let o =
    operands_stand c (insns.Division kind operator) (exchange (number_type kind ∷ number_type kind ∷ []) (number_type kind ∷ [])) addresses done
    (in_use words at.top) below w.does w.frame in
    let p =
    bound_gave (two o.values)
    (λ (p : Value × Value). as_number kind p.0 >>= λ a. as_number kind p.1 >>= λ b. divide c kind operator a b o.rest (int_eq b (pos 0))) done
    o.does in
    let a =
    bound_gave (as_number kind p.0.0)
    (λ (a : ℤ). as_number kind p.0.1 >>= λ b. divide c kind operator a b o.rest (int_eq b (pos 0))) done p.2 in
    let b =
    bound_gave (as_number kind p.0.1) (λ (b : ℤ). divide c kind operator a.0 b o.rest (int_eq b (pos 0))) done a.2 in
    let values : o.values ≡ number_value kind a.0 ∷ number_value kind b.0 ∷ [] =
    two_gave o.values p.0 p.1 ∙ ap (λ (v : Value). v ∷ p.0.1 ∷ []) (number_gave kind p.0.0 a.0 a.1)
    ∙ ap (λ (v : Value). number_value kind a.0 ∷ v ∷ []) (number_gave kind p.0.1 b.0 b.1) in
    record {
      first = a.0;
      second = b.0;
      rest = o.rest;
      middle = o.middle;
      upper = subst (λ (vs : List Value). AreOnTop addresses (reverse vs) (in_use words at.top) o.middle) values o.upper;
      lower = o.lower;
      does = b.2;
    }

two_numbers :
    (kind : NumberKind) (addresses : List ℕ) (a b : ℤ) (used below : List ℕ)
    → AreOnTop addresses (number_value kind b ∷ number_value kind a ∷ []) used below → operand_words kind ≤ length used
two_numbers numbers.Int addresses a b used below h =
    let first : length used ≡ 1 + length h.0 = ap length h.1.1 ∙ omega arith in
    let second : length h.0 ≡ 1 + length h.2.0 = ap length h.2.1.1 ∙ omega arith in
    omega (arith, first, second)
two_numbers numbers.Long addresses a b used below h =
    let first : length used ≡ 2 + length h.0 = ap length h.1.2 ∙ omega arith in
    let second : length h.0 ≡ 2 + length h.2.0 = ap length h.2.1.2 ∙ omega arith in
    omega (arith, first, second)

pub division_top :
    (kind : NumberKind) (operator : DivisionOperator) (next : ℕ) (at : Registers) (words : List ℕ)
    → CanWork (insns.Division kind operator) next at words → operand_words kind ≤ at.top
division_top kind operator next at words h =
    let d = division_works kind operator next at words h.c h.addresses h.done h.below h.works in
    omega (
      arith,
      two_numbers kind h.addresses d.first d.second (in_use words at.top) d.middle d.upper,
      length-in_use words at.top h.works.top_within,
    )

pub division_goes :
    (kind : NumberKind) (operator : DivisionOperator) (next : ℕ) (at after : Registers) (words words_after : List ℕ) → after.pc ≡ next
    → Divides kind operator (in_use words at.top) words_after (Some after.top)
    → GoesOn (insns.Division kind operator) next at words after words_after
division_goes kind operator next at after words words_after pc divides = λ c addresses done below w.
    let d = division_works kind operator next at words c addresses done below w in
    let gives = divides addresses d.first d.second d.middle d.upper in
    let value = number_value kind (divided operator (width_of kind) d.first d.second) in
    went c addresses done below after words_after (value ∷ d.rest)
    (goes_at c (value ∷ d.rest) done next after.pc
    (goes_next c (value ∷ d.rest) done next
    (ap (λ (b : Bool). divide c kind operator d.first d.second d.rest b) (sym gives.0) ∙ d.does) w.next_is)
    pc)
    (pushed addresses c.frame.locals d.rest value (in_use words_after after.top) d.middle below d.lower gives.1)

pub division_throws :
    (kind : NumberKind) (operator : DivisionOperator) (next : ℕ) (at : Registers) (words words_after : List ℕ)
    → Divides kind operator (in_use words at.top) words_after None → Throws (insns.Division kind operator) next at words division_by_zero
division_throws kind operator next at words words_after divides = λ c addresses done below w.
    let d = division_works kind operator next at words c addresses done below w in
    let zero_is = divides addresses d.first d.second d.middle d.upper in
    same_done (c.memory, Raises division_by_zero) done (raises c division_by_zero) refl
    (ap (λ (b : Bool). divide c kind operator d.first d.second d.rest b) (sym zero_is) ∙ d.does)
