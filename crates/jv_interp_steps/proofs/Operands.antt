-- An opcode that is known, with what is read behind it (JVMS 6.5).
use Rattle.std.proofs.Common.{◌≡◌, ℕ, ◌+◌, List, [], ◌∷◌, ◌++◌, drop, refl, sym, ap, subst, ◌∙◌, arith}
use Rattle.std.specs.List.{flat_map}
use Rattle.std.proofs.lemmas.List.{drop-drop}
use Rattle.jv_format.specs.Format.{byte, half}
use Rattle.jv_code.specs.declared.insn.Insn.TheVariants.{InvokeInterface}
use Rattle.jv_code.specs.Insns.{Instruction, insn_bytes}
use Rattle.jv_code.specs.Operands.{HasBytes}
use Rattle.jv_code.specs.Places.{IsStart}
use Rattle.jv_code.proofs.OperandLaws.{bytes_join}
use Rattle.jv_code.proofs.StartLaws.{at_rest}
use Rattle.jv_interp_control.proofs.CallsRead.{interface_call}
use Rattle.jv_interp_words.proofs.OpcodesStand.{opcode_and}

pub with_index :
    (code : List ℕ) (pc opcode known index : ℕ) → known ≡ opcode → HasBytes code pc (opcode ∷ []) → HasBytes code (pc + 1) (half.spelling index)
    → HasBytes code pc (known ∷ half.spelling index)
with_index code pc opcode known index is there behind =
    opcode_and code pc known (half.spelling index) (subst (λ (n : ℕ). HasBytes code pc (n ∷ [])) (sym is) there) behind

pub with_byte :
    (code : List ℕ) (pc opcode known index : ℕ) → known ≡ opcode → HasBytes code pc (opcode ∷ []) → HasBytes code (pc + 1) (byte.spelling index)
    → HasBytes code pc (known ∷ byte.spelling index)
with_byte code pc opcode known index is there behind =
    opcode_and code pc known (byte.spelling index) (subst (λ (n : ℕ). HasBytes code pc (n ∷ [])) (sym is) there) behind

pub alone : (code : List ℕ) (pc opcode known : ℕ) → known ≡ opcode → HasBytes code pc (opcode ∷ []) → HasBytes code pc (known ∷ [])
alone code pc opcode known is there = subst (λ (n : ℕ). HasBytes code pc (n ∷ [])) (sym is) there

-- an invokeinterface ends with a zero byte
zero_stands : (code : List ℕ) (pc : ℕ) → IsStart code pc → HasBytes code pc (185 ∷ []) → HasBytes code (pc + 4) (0 ∷ [])
zero_stands code pc start h =
    let is = interface_call code pc 185 start.0 refl start.1 h in
    let rest = flat_map insn_bytes start.1.after in
    let spelled = (at_rest code pc start.0 start.1).0 ∙ ap (λ (i : Instruction). insn_bytes i ++ rest) (sym is.2) in
    (rest, sym (drop-drop 4 pc code) ∙ ap (drop 4) spelled)

pub with_count :
    (code : List ℕ) (pc opcode index count : ℕ) → IsStart code pc → 185 ≡ opcode → HasBytes code pc (opcode ∷ [])
    → HasBytes code (pc + 1) (half.spelling index) → HasBytes code (pc + 3) (byte.spelling count)
    → HasBytes code pc (insn_bytes (InvokeInterface index count))
with_count code pc opcode index count start is there behind last =
    let call = subst (λ (n : ℕ). HasBytes code pc (n ∷ [])) (sym is) there in
    let three : pc + 3 ≡ pc + 1 + 2 = omega arith in
    let four : pc + 4 ≡ pc + 3 + 1 = omega arith in
    let end = subst (λ (n : ℕ). HasBytes code n (0 ∷ [])) four (zero_stands code pc start call) in
    let counted = subst (λ (n : ℕ). HasBytes code n (count ∷ 0 ∷ [])) three (bytes_join code (pc + 3) (count ∷ []) (0 ∷ []) last end) in
    opcode_and code pc 185 (half.spelling index ++ (count ∷ 0 ∷ [])) call
    (bytes_join code (pc + 1) (half.spelling index) (count ∷ 0 ∷ []) behind counted)
