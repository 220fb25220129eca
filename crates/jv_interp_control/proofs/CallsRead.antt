-- Which call stands where the opcode of one stands (JVMS 6.5).
use Rattle.std.proofs.Common.{◌≡◌, ℕ, List, [], ◌∷◌, Some, length, sym, ap, subst, ◌∙◌}
use Rattle.std.specs.List.{flat_map}
use Rattle.jv_format.specs.Format.{◌>>=◌, half}
use Rattle.jv_format.specs.Readers.{both, found_as}
use Rattle.jv_format.proofs.Laws.{is_some, bind_some}
use Rattle.jv_code.specs.declared.insn.Insn.TheVariants.{Invoke, InvokeInterface}
use Rattle.jv_code.specs.declared.kinds.Invocation.{Invocation}
use Rattle.jv_code.specs.declared.kinds.Invocation.TheVariants as calls
use Rattle.jv_code.specs.Insns.{Instruction, insn_bytes}
use Rattle.jv_code.specs.Opcodes.{invoke_opcode}
use Rattle.jv_code.specs.Operands.{HasBytes}
use Rattle.jv_code.specs.Places.{IsAt}
use Rattle.jv_code.specs.Inside.Reading.{count, invoke_interface_of, insn_read}
use Rattle.jv_code.proofs.Laws.{insn_is}
use Rattle.jv_code.proofs.StartLaws.{at_rest}
use Rattle.jv_interp_control.specs.Inside.Nexts.{HasSize}

-- the instruction there is what is read from its opcode on
read_there :
    (bytes : List ℕ) (pc opcode : ℕ) (i : Instruction) (at : IsAt bytes pc i) (h : HasBytes bytes pc (opcode ∷ []))
    → insn_read pc (opcode ∷ h.0) ≡ Some (i, flat_map insn_bytes at.after)
read_there bytes pc opcode i at h =
    let there = at_rest bytes pc i at in
    ap (insn_read pc) (sym h.1 ∙ there.0) ∙ (insn_is pc).again i (flat_map insn_bytes at.after) there.1

three_found :
    (how : Invocation) (operands : List ℕ) (x : Instruction × List ℕ) → (half.read operands >>= found_as (λ (n : ℕ). Invoke how n)) ≡ Some x
    → 3 ≡ length (insn_bytes x.0)
three_found how operands x e =
    let read = bind_some (half.read operands) (found_as (λ (n : ℕ). Invoke how n)) x e in
    ap (λ (y : Instruction × List ℕ). length (insn_bytes y.0)) (is_some _ x read.2)

three_read :
    (how : Invocation) (pc : ℕ) (operands : List ℕ) (x : Instruction × List ℕ) → insn_read pc (invoke_opcode how ∷ operands) ≡ Some x
    → 3 ≡ length (insn_bytes x.0)
three_read calls.Virtual pc operands x e = three_found calls.Virtual operands x e
three_read calls.Special pc operands x e = three_found calls.Special operands x e
three_read calls.Static pc operands x e = three_found calls.Static operands x e

interface_read :
    (pc : ℕ) (operands : List ℕ) (x : Instruction × List ℕ) → insn_read pc (185 ∷ operands) ≡ Some x
    → (index : ℕ) × (n : ℕ) × (InvokeInterface index n ≡ x.0)
interface_read pc operands x e =
    let read = bind_some ((both half count).read operands) (found_as invoke_interface_of) x e in
    (read.0.0.0, read.0.0.1, ap (λ (y : Instruction × List ℕ). y.0) (is_some _ x read.2))

-- an invokeinterface
pub interface_call :
    (bytes : List ℕ) (pc opcode : ℕ) (i : Instruction) → opcode ≡ 185 → IsAt bytes pc i → HasBytes bytes pc (opcode ∷ [])
    → (index : ℕ) × (n : ℕ) × (InvokeInterface index n ≡ i)
interface_call bytes pc opcode i is at there =
    let h = subst (λ (n : ℕ). HasBytes bytes pc (n ∷ [])) is there in
    interface_read pc h.0 (i, flat_map insn_bytes at.after) (read_there bytes pc 185 i at h)

-- its size
pub five_bytes : (opcode : ℕ) → opcode ≡ 185 → HasSize opcode 5
five_bytes opcode is bytes pc i at there =
    let call = interface_call bytes pc opcode i is at there in
    ap (λ (j : Instruction). length (insn_bytes j)) call.2

-- that of the others
pub three_bytes : (how : Invocation) (opcode : ℕ) → opcode ≡ invoke_opcode how → HasSize opcode 3
three_bytes how opcode is bytes pc i at there =
    let h = subst (λ (n : ℕ). HasBytes bytes pc (n ∷ [])) is there in
    three_read how pc h.0 (i, flat_map insn_bytes at.after) (read_there bytes pc (invoke_opcode how) i at h)
