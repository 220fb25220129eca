-- The instruction that the bytes at hand spell.
use Rattle.std.proofs.Common.{◌≡◌, ℕ, ◌+◌, ◌*◌, ◌/◌, ◌%◌, ◌<◌, ◌≤◌, Bool, true, false, ◌&&◌, List, [], ◌∷◌, ◌++◌, length, drop, get_or, refl, sym, ap, subst, ◌∙◌, arith, IsTrue, length-append, length-drop}
use Rattle.std.proofs.lemmas.List.{at_drop_more}
use Rattle.jv_code.specs.Insns.{Instruction, insn_bytes, insn_fits}
use Rattle.jv_code.specs.Places.{IsAt, IsStart}
use Rattle.jv_code.specs.Operands.{HasBytes}
use Rattle.jv_code.proofs.OperandLaws.{has_room, stands_as_spelled, bytes_join}
use Rattle.jv_interp_words.specs.declared.registers.Registers.{Registers}
use Rattle.jv_interp_words.specs.Stepping.{CanStep}
use Rattle.jv_interp_words.proofs.StepsStand.{at_hand}

pub is_start : (at : Registers) (words : List ℕ) → CanStep at words → IsStart at.code.now at.pc
is_start at words h =
    let found = at_hand h.program h.s h.t h.addresses h.waiting at words h.from in
    (found.insn, found.is_at)

pub stands_at :
    (insn : Instruction) (at : Registers) (words : List ℕ) → CanStep at words → HasBytes at.code.now at.pc (insn_bytes insn)
    → IsTrue (insn_fits at.pc insn) → IsAt at.code.now at.pc insn
stands_at insn at words h bytes fits = stands_as_spelled at.code.now at.pc insn (is_start at words h) bytes fits

-- an opcode, and what is behind it
pub opcode_and :
    (code : List ℕ) (pc opcode : ℕ) (operands : List ℕ) → HasBytes code pc (opcode ∷ []) → HasBytes code (pc + 1) operands
    → HasBytes code pc (opcode ∷ operands)
opcode_and code pc opcode operands h k = bytes_join code pc (opcode ∷ []) operands h k

-- the code is as long as what stands there
pub bytes_within : (code : List ℕ) (pc : ℕ) (bytes : List ℕ) → HasBytes code pc bytes → 1 ≤ length bytes → pc + length bytes ≤ length code
bytes_within code pc bytes h some =
    omega (arith, ap length h.1, length-append bytes h.0, length-drop pc code, some)

pub byte_stands : (code : List ℕ) (at : ℕ) → at < length code → HasBytes code at (get_or code at 0 ∷ [])
byte_stands code at h = (drop (at + 1) code, at_drop_more (λ (l : List ℕ). l) code at 0 h)

pub two_stand : (code : List ℕ) (at : ℕ) → at + 2 ≤ length code → HasBytes code at (get_or code at 0 ∷ get_or code (at + 1) 0 ∷ [])
two_stand code at h =
    bytes_join code at (get_or code at 0 ∷ []) (get_or code (at + 1) 0 ∷ []) (byte_stands code at (omega arith))
    (byte_stands code (at + 1) (omega arith))

pub join :
    (code : List ℕ) (at : ℕ) (a b : List ℕ) → HasBytes code at a → HasBytes code (at + length a) b → HasBytes code at (a ++ b)
join code at a b h k = bytes_join code at a b h k

-- the byte behind the one behind an opcode
pub next_at : (code : List ℕ) (pc : ℕ) (bytes : List ℕ) → HasBytes code (pc + 2) bytes → HasBytes code (pc + 1 + 1) bytes
next_at code pc bytes h = let e : pc + 2 ≡ pc + 1 + 1 = omega arith in subst (λ (n : ℕ). HasBytes code n bytes) e h

pub both_fit : (a b : Bool) → IsTrue a → IsTrue b → IsTrue (a && b)
both_fit true true h k = refl
both_fit true false h k = k
both_fit false b h k = h

pub half_spelled :
    (code : List ℕ) (at n : ℕ) → at + 2 ≤ length code → get_or code (at + 1) 0 < 256 → n ≡ get_or code at 0 * 256 + get_or code (at + 1) 0
    → HasBytes code at (n / 256 ∷ n % 256 ∷ [])
half_spelled code at n h small e =
    let first : get_or code at 0 ≡ n / 256 = omega (arith, small, e) in
    let second : get_or code (at + 1) 0 ≡ n % 256 = omega (arith, small, e) in
    subst (λ (a : ℕ). HasBytes code at (a ∷ n % 256 ∷ [])) first
    (subst (λ (b : ℕ). HasBytes code at (get_or code at 0 ∷ b ∷ [])) second (two_stand code at h))

-- an instruction's offset has 16 bits
pub offset_small : (at : Registers) (words : List ℕ) → CanStep at words → at.pc < 65536
offset_small at words h =
    let found = at_hand h.program h.s h.t h.addresses h.waiting at words h.from in
    omega (arith, found.is_at.code.few, has_room at.code.now at.pc (found.insn, found.is_at))
