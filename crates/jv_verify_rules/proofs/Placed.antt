-- The instruction at an offset of a method.
use Rattle.std.proofs.Common.{◌≡◌, ℕ, Option, Some, None, [], codes, refl, sym, subst}
use Rattle.std.specs.Prelude.{◌↔◌}
use Rattle.jv_code.specs.Insns.{Instruction}
use Rattle.jv_code.specs.Places.{IsAt, IsCode, IsStart}
use Rattle.jv_meaning_typing.specs.Environment.{Environment, instruction_at}
use Rattle.jv_meaning_typing.specs.Laws.{InstructionAtIs}
use Rattle.jv_verify_rules.specs.Method.{MethodContext, IsOfMethod}

-- another method with the same code, which takes and gives nothing
abbrev plain : Environment → Environment
plain env = record env {
  site = record env.site { method = record env.site.method { descriptor = codes "()V"; code = Some env.code } };
  descriptor = record { parameters = []; result = None };
}

stands : InstructionAtIs → (env : Environment) (pc : ℕ) (insn : Instruction) → IsCode env.code.code env.instructions → IsAt env.code.code pc insn ↔ (instruction_at env pc ≡ Some insn)
stands law env pc insn is = law (plain env) pc insn (record { descriptor = refl; code = refl; instructions = is })

pub found_at : InstructionAtIs → (context : MethodContext) (env : Environment) (pc : ℕ) (insn : Instruction) → IsOfMethod context env → IsAt context.code pc insn → Some insn ≡ instruction_at env pc
found_at law context env pc insn of at = sym ((stands law env pc insn of.instructions).0 (subst (λ bytes. IsAt bytes pc insn) (sym of.code) at))

pub none_at : InstructionAtIs → (context : MethodContext) (env : Environment) (pc : ℕ) → IsOfMethod context env → (IsStart context.code pc → ⊥) → None ≡ instruction_at env pc
none_at law context env pc of none = by_found (instruction_at env pc) refl
  where
    by_found : (o : Option Instruction) → instruction_at env pc ≡ o → None ≡ o
    by_found None e = refl
    by_found (Some insn) e = absurd (none (insn, subst (λ bytes. IsAt bytes pc insn) of.code ((stands law env pc insn of.instructions).1 e)))
