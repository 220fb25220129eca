-- Switches (JVMS 6.5, tableswitch and lookupswitch).
use Rattle.std.proofs.Common.{◌≡◌, ℕ, ℤ, ◌≤◌, List, [], ◌∷◌, Some, refl, sym, subst, IsSome}
use Rattle.jv_stackmap.specs.declared.verification.VerificationTypeOf.TheVariants as types
use Rattle.jv_code.specs.Insns.{Instruction}
use Rattle.jv_code.specs.Targets.{target_of}
use Rattle.jv_code.specs.declared.insn.Insn.TheVariants as insns
use Rattle.jv_code.specs.declared.kinds.NumberKind.TheVariants as numbers
use Rattle.jv_meaning_typing.specs.NumberRules.{exchange}
use Rattle.jv_meaning_machine.specs.Values.{Value}
use Rattle.jv_meaning_machine.specs.State.{Memory}
use Rattle.jv_meaning_machine.specs.Effects.{Effect, Context, Outcome}
use Rattle.jv_meaning_machine.specs.Arithmetic.{table_distance, key_distance}
use Rattle.jv_meaning_machine.specs.Instructions.{jumps}
use Rattle.jv_interp_words.specs.declared.registers.Registers.{Registers}
use Rattle.jv_interp_words.specs.FramesInWords.{in_use}
use Rattle.jv_interp_words.specs.Inside.Numbers.{Takes}
use Rattle.jv_interp_words.proofs.Computed.{again}
use Rattle.jv_interp_words.specs.Going.{Works, CanWork, GoesOn}
use Rattle.jv_interp_words.proofs.OperandsStand.{operands_stand, OneInt, one_int, int_taken}
use Rattle.jv_interp_words.proofs.IntBranches.{int_stands}
use Rattle.jv_interp_words.proofs.Jumped.{went, jump_leads, jumps_to}

-- control goes to a distance that the int on top tells
abbrev pub by_number : Context → (ℤ → ℤ) → ℤ → List Value → Outcome
by_number c distance number rest = jumps c (distance number) rest

-- such an instruction
abbrev pub IsSwitch : Instruction → (ℤ → ℤ) → Type 0
IsSwitch insn distance =
    (next : ℕ) (at : Registers) (words : List ℕ) (c : Context) (addresses : List ℕ) (done : Memory × Effect) (below : List ℕ)
    → Works insn next at words c addresses done below → OneInt c (by_number c distance) addresses done (in_use words at.top) below

pub table_switch_is :
    (padding : List ℕ) (default low high : ℤ) (distances : List ℕ)
    → IsSwitch (insns.TableSwitch padding default low high distances) (table_distance default low high distances)
table_switch_is padding default low high distances = λ next at words c addresses done below w.
    one_int c (insns.TableSwitch padding default low high distances) (by_number c (table_distance default low high distances)) addresses done
    (in_use words at.top) below (λ values rest. refl)
    (operands_stand c (insns.TableSwitch padding default low high distances) (exchange (types.Int ∷ []) []) addresses done (in_use words at.top)
    below w.does w.frame)

pub lookup_switch_is :
    (padding : List ℕ) (default : ℤ) (pairs : List ℕ) → IsSwitch (insns.LookupSwitch padding default pairs) (key_distance default pairs)
lookup_switch_is padding default pairs = λ next at words c addresses done below w.
    one_int c (insns.LookupSwitch padding default pairs) (by_number c (key_distance default pairs)) addresses done (in_use words at.top) below
    (λ values rest. refl)
    (operands_stand c (insns.LookupSwitch padding default pairs) (exchange (types.Int ∷ []) []) addresses done (in_use words at.top) below w.does
    w.frame)

pub switch_top :
    (insn : Instruction) (distance : ℤ → ℤ) (next : ℕ) (at : Registers) (words : List ℕ) → IsSwitch insn distance → CanWork insn next at words
    → 1 ≤ at.top
switch_top insn distance next at words is h =
    int_stands h.c (by_number h.c distance) h.addresses h.done words h.below at.top h.works.top_within
    (is next at words h.c h.addresses h.done h.below h.works)

pub switch_leads :
    (insn : Instruction) (distance : ℤ → ℤ) (next : ℕ) (at : Registers) (words taken : List ℕ) (x d : ℤ) → IsSwitch insn distance
    → CanWork insn next at words → Takes numbers.Int (in_use words at.top) taken x → d ≡ distance (again numbers.Int x)
    → IsSome (target_of at.pc d)
switch_leads insn distance next at words taken x d is h take e =
    let o = is next at words h.c h.addresses h.done h.below h.works in
    let t = int_taken h.c (by_number h.c distance) h.addresses h.done (in_use words at.top) h.below taken x o take in
    subst (λ (z : ℤ). IsSome (target_of at.pc z)) (sym e)
    (jump_leads h.c (distance (again numbers.Int x)) t.rest h.done at.pc t.does h.works.pc_is)

pub switch_goes :
    (insn : Instruction) (distance : ℤ → ℤ) (next : ℕ) (at after : Registers) (words : List ℕ) (x d : ℤ) → IsSwitch insn distance
    → Takes numbers.Int (in_use words at.top) (in_use words after.top) x → d ≡ distance (again numbers.Int x)
    → target_of at.pc d ≡ Some after.pc → GoesOn insn next at words after words
switch_goes insn distance next at after words x d is take e to = λ c addresses done below w.
    let o = is next at words c addresses done below w in
    let t = int_taken c (by_number c distance) addresses done (in_use words at.top) below (in_use words after.top) x o take in
    went c addresses done below after words t.rest
    (jumps_to c (distance (again numbers.Int x)) t.rest done at.pc after.pc t.does w.pc_is
    (subst (λ (z : ℤ). target_of at.pc z ≡ Some after.pc) e to))
    t.lower
