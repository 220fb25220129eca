-- Jumps that lead on, and the frame behind them.
use Rattle.std.proofs.Common.{◌≡◌, ℕ, ℤ, Bool, true, false, List, Option, Some, Ok, refl, sym, ap, subst, ◌∙◌, IsSome}
use Rattle.jv_code.specs.Targets.{target_of}
use Rattle.jv_meaning_machine.specs.Faults.{found}
use Rattle.jv_meaning_machine.specs.Faults.Fault.{OffsetFault}
use Rattle.jv_meaning_machine.specs.Values.{Value}
use Rattle.jv_meaning_machine.specs.State.{Memory}
use Rattle.jv_meaning_machine.specs.Effects.{Effect, Context}
use Rattle.jv_meaning_machine.specs.Effects.Effect.{Goes}
use Rattle.jv_meaning_machine.specs.Instructions.{jumps, jumps_if}
use Rattle.jv_interp_words.specs.declared.registers.Registers.{Registers}
use Rattle.jv_interp_words.specs.FramesInWords.{in_use, FrameStands}
use Rattle.jv_interp_words.proofs.Gave.{bound_gave, found_gave}
use Rattle.jv_interp_words.specs.Going.{WentOn}
use Rattle.jv_interp_words.specs.Inside.Branches.{LeadsOn, BranchesTo}
use Rattle.jv_interp_words.proofs.FramesStand.{same_done}

-- with the same local variables
pub went :
    (c : Context) (addresses : List ℕ) (done : Memory × Effect) (below : List ℕ) (at : Registers) (words : List ℕ) (stack : List Value)
    → done ≡ (c.memory, Goes at.pc c.frame.locals stack) → FrameStands addresses c.frame.locals stack (in_use words at.top) below
    → WentOn c addresses done below at words
went c addresses done below at words stack e h = record { locals = c.frame.locals; stack = stack; is = e; count = refl; stand = h }

pub jump_goes :
    (c : Context) (distance : ℤ) (stack : List Value) (done : Memory × Effect) → jumps c distance stack ≡ Ok done
    → (offset : ℕ) × (target_of c.frame.offset distance ≡ Some offset) × (done ≡ (c.memory, Goes offset c.frame.locals stack))
jump_goes c distance stack done e =
    let gave =
    bound_gave (found OffsetFault (target_of c.frame.offset distance)) (λ (offset : ℕ). Ok (c.memory, Goes offset c.frame.locals stack)) done e in (
      gave.0,
      found_gave OffsetFault (target_of c.frame.offset distance) gave.0 gave.1,
      same_done (c.memory, Goes gave.0 c.frame.locals stack) done (Ok (c.memory, Goes gave.0 c.frame.locals stack)) refl gave.2,
    )

is_some : (o : Option ℕ) (n : ℕ) → o ≡ Some n → IsSome o
is_some o n e = subst (λ (o : Option ℕ). IsSome o) (sym e) refl

pub jump_leads :
    (c : Context) (distance : ℤ) (stack : List Value) (done : Memory × Effect) (pc : ℕ) → jumps c distance stack ≡ Ok done
    → pc ≡ c.frame.offset → IsSome (target_of pc distance)
jump_leads c distance stack done pc e at =
    let g = jump_goes c distance stack done e in
    subst (λ (n : ℕ). IsSome (target_of n distance)) (sym at) (is_some (target_of c.frame.offset distance) g.0 g.1)

same_offset : (o : Option ℕ) (a b : ℕ) → o ≡ Some a → o ≡ Some b → a ≡ b
same_offset o a b e f = cc

pub jumps_to :
    (c : Context) (distance : ℤ) (stack : List Value) (done : Memory × Effect) (pc offset : ℕ) → jumps c distance stack ≡ Ok done
    → pc ≡ c.frame.offset → target_of pc distance ≡ Some offset → done ≡ (c.memory, Goes offset c.frame.locals stack)
jumps_to c distance stack done pc offset e at f =
    let g = jump_goes c distance stack done e in
    let there : target_of c.frame.offset distance ≡ Some offset = ap (λ (n : ℕ). target_of n distance) (sym at) ∙ f in
    g.2 ∙ ap (λ (n : ℕ). (c.memory, Goes n c.frame.locals stack)) (same_offset (target_of c.frame.offset distance) g.0 offset g.1 there)

-- ---- branches

pub branch_leads :
    (c : Context) (distance : ℤ) (stack : List Value) (done : Memory × Effect) (pc : ℕ) (test taken : Bool)
    → jumps_if c distance stack test ≡ Ok done → pc ≡ c.frame.offset → taken ≡ test → LeadsOn pc distance taken
branch_leads c distance stack done pc test taken e at same = λ yes_taken.
    jump_leads c distance stack done pc (subst (λ (b : Bool). jumps_if c distance stack b ≡ Ok done) (sym same ∙ yes_taken) e) at

pub branch_goes :
    (c : Context) (distance : ℤ) (stack : List Value) (done : Memory × Effect) (pc next offset : ℕ) (test taken : Bool)
    → jumps_if c distance stack test ≡ Ok done → pc ≡ c.frame.offset → next ≡ c.next → taken ≡ test
    → BranchesTo pc distance next taken offset → done ≡ (c.memory, Goes offset c.frame.locals stack)
branch_goes c distance stack done pc next offset test true e at then same h =
    jumps_to c distance stack done pc offset (subst (λ (b : Bool). jumps_if c distance stack b ≡ Ok done) (sym same) e) at h
branch_goes c distance stack done pc next offset test false e at then same h =
    same_done (c.memory, Goes c.next c.frame.locals stack) done (Ok (c.memory, Goes c.next c.frame.locals stack)) refl
    (subst (λ (b : Bool). jumps_if c distance stack b ≡ Ok done) (sym same) e)
    ∙ ap (λ (n : ℕ). (c.memory, Goes n c.frame.locals stack)) (sym (h ∙ then))
