-- Instructions that push, and computations.
use Rattle.std.proofs.Common.{◌≡◌, ℕ, ℤ, ◌<◌, List, [], ◌∷◌, Some, Ok, length, reverse, refl, sym, ap, subst, ◌∙◌, arith, IsSome}
use Rattle.jv_code.specs.Insns.{Instruction}
use Rattle.jv_code.specs.Targets.{target_of}
use Rattle.jv_code.specs.declared.insn.Insn.TheVariants as insns
use Rattle.jv_code.specs.declared.kinds.Computation.{Computation}
use Rattle.jv_code.specs.declared.kinds.JumpForm.{JumpForm}
use Rattle.jv_stackmap.specs.declared.verification.VerificationTypeOf.TheVariants as types
use Rattle.jv_meaning_typing.specs.NumberRules.{exchange, computation}
use Rattle.jv_meaning_machine.specs.Faults.{◌>>=◌}
use Rattle.jv_meaning_machine.specs.Values.{Value}
use Rattle.jv_meaning_machine.specs.Values.Value.{Null}
use Rattle.jv_meaning_machine.specs.State.{Memory}
use Rattle.jv_meaning_machine.specs.Effects.{Effect, Context, Outcome, goes_on}
use Rattle.jv_meaning_machine.specs.Effects.Effect.{Goes}
use Rattle.jv_meaning_machine.specs.Arithmetic.{computed, none}
use Rattle.jv_meaning_machine.specs.Instructions.{with_operands, jumps}
use Rattle.jv_interp_words.specs.declared.registers.Registers.{Registers}
use Rattle.jv_interp_words.specs.ValuesInWords.{AreOnTop}
use Rattle.jv_interp_words.specs.FramesInWords.{in_use, FrameStands}
use Rattle.jv_interp_words.specs.Inside.Computing.{Computes, Gives}
use Rattle.jv_interp_words.proofs.Gave.{bound_gave, none_gave}
use Rattle.jv_interp_words.proofs.InUse.{length-in_use}
use Rattle.jv_interp_words.specs.Going.{Works, CanWork, GoesOn}
use Rattle.jv_interp_words.proofs.FramesStand.{same_done, pushed, room_for}
use Rattle.jv_interp_words.proofs.OperandsStand.{Operands, operands_stand}
use Rattle.jv_interp_words.proofs.Jumped.{went, jump_leads, jumps_to}

-- ---- ways on

pub goes_next :
    (c : Context) (stack : List Value) (done : Memory × Effect) (next : ℕ) → goes_on c stack ≡ Ok done → next ≡ c.next
    → done ≡ (c.memory, Goes next c.frame.locals stack)
goes_next c stack done next e at =
    same_done (c.memory, Goes c.next c.frame.locals stack) done (goes_on c stack) refl e
    ∙ ap (λ (n : ℕ). (c.memory, Goes n c.frame.locals stack)) (sym at)

-- the same frame, at another offset
pub goes_at :
    (c : Context) (stack : List Value) (done : Memory × Effect) (next offset : ℕ) → done ≡ (c.memory, Goes next c.frame.locals stack)
    → offset ≡ next → done ≡ (c.memory, Goes offset c.frame.locals stack)
goes_at c stack done next offset e f = e ∙ ap (λ (n : ℕ). (c.memory, Goes n c.frame.locals stack)) (sym f)

-- ---- no operands

pub record NoOperands (c : Context) (next : List Value → Outcome) (addresses : List ℕ) (done : Memory × Effect) (used below : List ℕ) : Type 0 where
  pub rest : List Value
  pub lower : FrameStands addresses c.frame.locals rest used below
  pub does : next rest ≡ Ok done

pub no_operands :
    (c : Context) (insn : Instruction) (next : List Value → Outcome) (addresses : List ℕ) (done : Memory × Effect) (used below : List ℕ)
    → ((values rest : List Value) → with_operands c insn values rest ≡ (none rest values >>= next))
    → Operands c insn addresses done used below → NoOperands c next addresses done used below
no_operands c insn next addresses done used below same o =
    let left = bound_gave (none o.rest o.values) next done (sym (same o.values o.rest) ∙ o.does) in
    let gone = none_gave o.rest left.0 o.values left.1 in
    let s : used ≡ o.middle = subst (λ (vs : List Value). AreOnTop addresses (reverse vs) used o.middle) gone.0 o.upper in
    record {
      rest = o.rest;
      lower = subst (λ (l : List ℕ). FrameStands addresses c.frame.locals o.rest l below) (sym s) o.lower;
      does = ap next gone.1 ∙ left.2;
    }

pub nop_goes :
    (next : ℕ) (at after : Registers) (words : List ℕ) → after.pc ≡ next → after.top ≡ at.top → GoesOn insns.Nop next at words after words
nop_goes next at after words pc top = λ c addresses done below w.
    let o =
    no_operands c insns.Nop (goes_on c) addresses done (in_use words at.top) below (λ values rest. refl)
    (operands_stand c insns.Nop (exchange [] []) addresses done (in_use words at.top) below w.does w.frame) in
    went c addresses done below after words o.rest
    (goes_at c o.rest done next after.pc (goes_next c o.rest done next o.does w.next_is) pc)
    (subst (λ (n : ℕ). FrameStands addresses c.frame.locals o.rest (in_use words n) below) (sym top) o.lower)

-- ---- null

abbrev pub with_null : Context → List Value → Outcome
with_null c rest = goes_on c (Null ∷ rest)

null_works :
    (next : ℕ) (at : Registers) (words : List ℕ) (c : Context) (addresses : List ℕ) (done : Memory × Effect) (below : List ℕ)
    → Works insns.NullConstant next at words c addresses done below
    → NoOperands c (with_null c) addresses done (in_use words at.top) below
null_works next at words c addresses done below w =
    no_operands c insns.NullConstant (with_null c) addresses done (in_use words at.top) below (λ values rest. refl)
    (operands_stand c insns.NullConstant (exchange [] (types.Null ∷ [])) addresses done (in_use words at.top) below w.does w.frame)

pub null_fits : (next : ℕ) (at : Registers) (words : List ℕ) → CanWork insns.NullConstant next at words → at.top < length words
null_fits next at words h =
    let o = null_works next at words h.c h.addresses h.done h.below h.works in
    let room =
    room_for h.c h.addresses o.rest Null (in_use words at.top) h.below (length words) h.c.memory next h.done o.lower
    (goes_next h.c (Null ∷ o.rest) h.done next o.does h.works.next_is) h.room in
    omega (arith, room, length-in_use words at.top h.works.top_within)

pub null_goes :
    (next : ℕ) (at after : Registers) (words words_after : List ℕ) → after.pc ≡ next
    → in_use words_after after.top ≡ 0 ∷ in_use words at.top → GoesOn insns.NullConstant next at words after words_after
null_goes next at after words words_after pc on = λ c addresses done below w.
    let o = null_works next at words c addresses done below w in
    went c addresses done below after words_after (Null ∷ o.rest)
    (goes_at c (Null ∷ o.rest) done next after.pc (goes_next c (Null ∷ o.rest) done next o.does w.next_is) pc)
    (pushed addresses c.frame.locals o.rest Null (in_use words_after after.top) (in_use words at.top) below o.lower on)

-- ---- computations

pub record ComputationOf (c : Context) (what : Computation) (next : ℕ) (addresses : List ℕ) (done : Memory × Effect) (used below : List ℕ) : Type 0 where
  pub values : List Value
  pub value : Value
  pub rest : List Value
  pub middle : List ℕ
  pub gives : computed what values ≡ Ok value
  pub upper : AreOnTop addresses (reverse values) used middle
  pub lower : FrameStands addresses c.frame.locals rest middle below
  pub is : done ≡ (c.memory, Goes next c.frame.locals (value ∷ rest))

computation_works :
    (what : Computation) (next : ℕ) (at : Registers) (words : List ℕ) (c : Context) (addresses : List ℕ) (done : Memory × Effect)
    (below : List ℕ) → Works (insns.Compute what) next at words c addresses done below
    → ComputationOf c what next addresses done (in_use words at.top) below
computation_works what next at words c addresses done below w =
    let o = operands_stand c (insns.Compute what) (computation what) addresses done (in_use words at.top) below w.does w.frame in
    let gave = bound_gave (computed what o.values) (λ (value : Value). goes_on c (value ∷ o.rest)) done o.does in
    record {
      values = o.values;
      value = gave.0;
      rest = o.rest;
      middle = o.middle;
      gives = gave.1;
      upper = o.upper;
      lower = o.lower;
      is = goes_next c (gave.0 ∷ o.rest) done next gave.2 w.next_is;
    }

pub can_compute :
    (what : Computation) (next : ℕ) (at : Registers) (words : List ℕ) → CanWork (insns.Compute what) next at words
    → Computes what (in_use words at.top) (length words)
can_compute what next at words h =
    let o = computation_works what next at words h.c h.addresses h.done h.below h.works in
    record {
      addresses = h.addresses;
      values = o.values;
      value = o.value;
      below = o.middle;
      gives = o.gives;
      stand = o.upper;
      room = room_for h.c h.addresses o.rest o.value o.middle h.below (length words) h.c.memory next h.done o.lower o.is h.room;
    }

pub computation_goes :
    (what : Computation) (next : ℕ) (at after : Registers) (words words_after : List ℕ) → after.pc ≡ next
    → Gives what (in_use words at.top) (in_use words_after after.top) → GoesOn (insns.Compute what) next at words after words_after
computation_goes what next at after words words_after pc gives = λ c addresses done below w.
    let o = computation_works what next at words c addresses done below w in
    went c addresses done below after words_after (o.value ∷ o.rest)
    (goes_at c (o.value ∷ o.rest) done next after.pc o.is pc)
    (pushed addresses c.frame.locals o.rest o.value (in_use words_after after.top) o.middle below o.lower
    (gives addresses o.values o.value o.middle o.gives o.upper))

-- ---- goto

goto_works :
    (distance : ℤ) (form : JumpForm) (next : ℕ) (at : Registers) (words : List ℕ) (c : Context) (addresses : List ℕ)
    (done : Memory × Effect) (below : List ℕ) → Works (insns.Goto distance form) next at words c addresses done below
    → NoOperands c (jumps c distance) addresses done (in_use words at.top) below
goto_works distance form next at words c addresses done below w =
    no_operands c (insns.Goto distance form) (jumps c distance) addresses done (in_use words at.top) below (λ values rest. refl)
    (operands_stand c (insns.Goto distance form) (exchange [] []) addresses done (in_use words at.top) below w.does w.frame)

pub goto_leads :
    (distance : ℤ) (form : JumpForm) (next : ℕ) (at : Registers) (words : List ℕ) → CanWork (insns.Goto distance form) next at words
    → IsSome (target_of at.pc distance)
goto_leads distance form next at words h =
    let o = goto_works distance form next at words h.c h.addresses h.done h.below h.works in
    jump_leads h.c distance o.rest h.done at.pc o.does h.works.pc_is

pub goto_goes :
    (distance : ℤ) (form : JumpForm) (next : ℕ) (at after : Registers) (words : List ℕ) → target_of at.pc distance ≡ Some after.pc
    → after.top ≡ at.top → GoesOn (insns.Goto distance form) next at words after words
goto_goes distance form next at after words to top = λ c addresses done below w.
    let o = goto_works distance form next at words c addresses done below w in
    went c addresses done below after words o.rest (jumps_to c distance o.rest done at.pc after.pc o.does w.pc_is to)
    (subst (λ (n : ℕ). FrameStands addresses c.frame.locals o.rest (in_use words n) below) (sym top) o.lower)
