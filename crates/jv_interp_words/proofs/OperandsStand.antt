-- Operands of fixed types, and what stands below them.
use Rattle.std.proofs.Common.{◌≡◌, ℕ, ℤ, List, [], ◌∷◌, ◌++◌, Some, Ok, reverse, sym, ap, subst, ◌∙◌}
use Rattle.jv_code.specs.Insns.{Instruction}
use Rattle.jv_code.specs.declared.kinds.NumberKind.TheVariants as numbers
use Rattle.jv_meaning_typing.specs.NumberRules.{Exchange}
use Rattle.jv_meaning_machine.specs.Faults.{◌>>=◌}
use Rattle.jv_meaning_machine.specs.Values.{Value}
use Rattle.jv_meaning_machine.specs.Values.Value.{Int}
use Rattle.jv_meaning_machine.specs.State.{Memory}
use Rattle.jv_meaning_machine.specs.Operands.{taken}
use Rattle.jv_meaning_machine.specs.Effects.{Effect, Context, Outcome}
use Rattle.jv_meaning_machine.specs.Arithmetic.{as_int, one, two}
use Rattle.jv_meaning_machine.specs.Instructions.{with_operands, execute_by}
use Rattle.jv_interp_words.specs.ValuesInWords.{IsOnTop, AreOnTop}
use Rattle.jv_interp_words.specs.FramesInWords.{FrameStands}
use Rattle.jv_interp_words.specs.Inside.Numbers.{Takes}
use Rattle.jv_interp_words.proofs.Gave.{bound_gave, int_gave, one_gave, two_gave}
use Rattle.jv_interp_words.proofs.Computed.{again, known_again}
use Rattle.jv_interp_words.proofs.Stacks.{stack_split}
use Rattle.jv_interp_words.proofs.Taken.{all_taken}

-- the operands are on top, and the rest of the frame stands below
pub record Operands (c : Context) (insn : Instruction) (addresses : List ℕ) (done : Memory × Effect) (used below : List ℕ) : Type 0 where
  pub values : List Value
  pub rest : List Value
  pub middle : List ℕ
  pub upper : AreOnTop addresses (reverse values) used middle
  pub lower : FrameStands addresses c.frame.locals rest middle below
  pub does : with_operands c insn values rest ≡ Ok done

pub operands_stand :
    (c : Context) (insn : Instruction) (exchange : Exchange) (addresses : List ℕ) (done : Memory × Effect) (used below : List ℕ)
    → execute_by c insn (Some exchange) ≡ Ok done → FrameStands addresses c.frame.locals c.frame.stack used below
    → Operands c insn addresses done used below
operands_stand c insn exchange addresses done used below e frame =
    let ops =
    bound_gave (taken c.memory.objects exchange.takes c.frame.stack)
    (λ (ops : List Value × List Value). with_operands c insn ops.0 ops.1) done e in
    let parts =
    stack_split addresses (reverse ops.0.0) ops.0.1 used (reverse frame.words ++ below)
    (subst (λ (s : List Value). AreOnTop addresses s used (reverse frame.words ++ below))
    (all_taken c.memory.objects exchange.takes c.frame.stack ops.0 ops.1) frame.stack_stands) in
    record {
      values = ops.0.0;
      rest = ops.0.1;
      middle = parts.0;
      upper = parts.1;
      lower = record { words = frame.words; stack_stands = parts.2; locals_stand = frame.locals_stand };
      does = ops.2;
    }

-- ---- one int, and two

-- the int on top is known, and the rest of the frame stands below
pub record OneInt (c : Context) (next : ℤ → List Value → Outcome) (addresses : List ℕ) (done : Memory × Effect) (used below : List ℕ) : Type 0 where
  pub number : ℤ
  pub rest : List Value
  pub middle : List ℕ
  pub on_top : IsOnTop addresses (Int number) used middle
  pub lower : FrameStands addresses c.frame.locals rest middle below
  pub does : next number rest ≡ Ok done

pub one_int :
    (c : Context) (insn : Instruction) (next : ℤ → List Value → Outcome) (addresses : List ℕ) (done : Memory × Effect) (used below : List ℕ)
    → ((values rest : List Value) → with_operands c insn values rest ≡ (one values >>= as_int >>= λ a. next a rest))
    → Operands c insn addresses done used below → OneInt c next addresses done used below
one_int c insn next addresses done used below same o =
    let a = bound_gave (one o.values >>= as_int) (λ (a : ℤ). next a o.rest) done (sym (same o.values o.rest) ∙ o.does) in
    let v = bound_gave (one o.values) as_int a.0 a.1 in
    let values : o.values ≡ Int a.0 ∷ [] = one_gave o.values v.0 v.1 ∙ ap (λ (v : Value). v ∷ []) (int_gave v.0 a.0 v.2) in
    let s = subst (λ (vs : List Value). AreOnTop addresses (reverse vs) used o.middle) values o.upper in
    record {
      number = a.0;
      rest = o.rest;
      middle = o.middle;
      on_top = subst (λ (l : List ℕ). IsOnTop addresses (Int a.0) used l) s.2 s.1;
      lower = o.lower;
      does = a.2;
    }

-- what was taken from the top is that int
pub record TakenInt (c : Context) (next : ℤ → List Value → Outcome) (addresses : List ℕ) (done : Memory × Effect) (taken below : List ℕ) (x : ℤ) : Type 0 where
  pub rest : List Value
  pub lower : FrameStands addresses c.frame.locals rest taken below
  pub does : next (again numbers.Int x) rest ≡ Ok done

pub int_taken :
    (c : Context) (next : ℤ → List Value → Outcome) (addresses : List ℕ) (done : Memory × Effect) (used below taken : List ℕ) (x : ℤ)
    → OneInt c next addresses done used below → Takes numbers.Int used taken x → TakenInt c next addresses done taken below x
int_taken c next addresses done used below taken x o take =
    let t = take addresses o.number o.middle o.on_top in
    record {
      rest = o.rest;
      lower = subst (λ (l : List ℕ). FrameStands addresses c.frame.locals o.rest l below) (sym t.1) o.lower;
      does =
          ap (λ (z : ℤ). next z o.rest) (known_again numbers.Int addresses o.number x used o.middle o.on_top t.0) ∙ o.does;
    }

pub record TwoInts (c : Context) (next : ℤ → ℤ → List Value → Outcome) (addresses : List ℕ) (done : Memory × Effect) (used below : List ℕ) : Type 0 where
  pub first : ℤ
  pub second : ℤ
  pub rest : List Value
  pub between : List ℕ
  pub middle : List ℕ
  pub second_on_top : IsOnTop addresses (Int second) used between
  pub first_on_top : IsOnTop addresses (Int first) between middle
  pub lower : FrameStands addresses c.frame.locals rest middle below
  pub does : next first second rest ≡ Ok done

pub two_ints :
    (c : Context) (insn : Instruction) (next : ℤ → ℤ → List Value → Outcome) (addresses : List ℕ) (done : Memory × Effect)
    (used below : List ℕ)
    → ((values rest : List Value) → with_operands c insn values rest
    ≡ (two values >>= λ p. as_int p.0 >>= λ a. as_int p.1 >>= λ b. next a b rest))
    → Operands c insn addresses done used below → TwoInts c next addresses done used below
two_ints c insn next addresses done used below same o =
    let p =
    bound_gave (two o.values) (λ (p : Value × Value). as_int p.0 >>= λ a. as_int p.1 >>= λ b. next a b o.rest) done
    (sym (same o.values o.rest) ∙ o.does) in
    let a = bound_gave (as_int p.0.0) (λ (a : ℤ). as_int p.0.1 >>= λ b. next a b o.rest) done p.2 in
    let b = bound_gave (as_int p.0.1) (λ (b : ℤ). next a.0 b o.rest) done a.2 in
    let values : o.values ≡ Int a.0 ∷ Int b.0 ∷ [] =
    two_gave o.values p.0 p.1 ∙ ap (λ (v : Value). v ∷ p.0.1 ∷ []) (int_gave p.0.0 a.0 a.1)
    ∙ ap (λ (v : Value). Int a.0 ∷ v ∷ []) (int_gave p.0.1 b.0 b.1) in
    let s = subst (λ (vs : List Value). AreOnTop addresses (reverse vs) used o.middle) values o.upper in
    record {
      first = a.0;
      second = b.0;
      rest = o.rest;
      between = s.0;
      middle = o.middle;
      second_on_top = s.1;
      first_on_top = subst (λ (l : List ℕ). IsOnTop addresses (Int a.0) s.0 l) s.2.2 s.2.1;
      lower = o.lower;
      does = b.2;
    }

pub record TakenInts (c : Context) (next : ℤ → ℤ → List Value → Outcome) (addresses : List ℕ) (done : Memory × Effect) (taken below : List ℕ) (x y : ℤ) : Type 0 where
  pub rest : List Value
  pub lower : FrameStands addresses c.frame.locals rest taken below
  pub does : next (again numbers.Int x) (again numbers.Int y) rest ≡ Ok done

pub ints_taken :
    (c : Context) (next : ℤ → ℤ → List Value → Outcome) (addresses : List ℕ) (done : Memory × Effect) (used below between taken : List ℕ)
    (x y : ℤ) → TwoInts c next addresses done used below → Takes numbers.Int used between y → Takes numbers.Int between taken x
    → TakenInts c next addresses done taken below x y
ints_taken c next addresses done used below between taken x y o take_y take_x =
    let upper = take_y addresses o.second o.between o.second_on_top in
    let lower =
    take_x addresses o.first o.middle (subst (λ (l : List ℕ). IsOnTop addresses (Int o.first) l o.middle) (sym upper.1) o.first_on_top) in
    record {
      rest = o.rest;
      lower = subst (λ (l : List ℕ). FrameStands addresses c.frame.locals o.rest l below) (sym lower.1) o.lower;
      does =
          ap (λ (z : ℤ). next z (again numbers.Int y) o.rest)
          (known_again numbers.Int addresses o.first x o.between o.middle o.first_on_top lower.0)
          ∙ ap (λ (z : ℤ). next o.first z o.rest) (known_again numbers.Int addresses o.second y used o.between o.second_on_top upper.0)
          ∙ o.does;
    }
