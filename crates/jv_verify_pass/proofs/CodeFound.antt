-- The instruction at an offset of a method's code.
use Rattle.std.proofs.Common.{◌≡◌, ℕ, Bool, true, false, List, [], Option, Some, None, refl, sym, ap, subst, ◌∙◌, ◌↔◌, codes, true≢false}
use Rattle.std.specs.Prelude.{IsTrue, is_some}
use Rattle.jv_code.specs.Insns.{Instruction}
use Rattle.jv_code.specs.Places.{IsAt, IsStart}
use Rattle.jv_meaning_typing.specs.Environment.{Environment, IsEnvironment, instruction_at}
use Rattle.jv_meaning_typing.specs.Laws.{InstructionAtIs}
use Rattle.jv_verify_pass.specs.Inside.Parts.{HasCode}

-- a method without parameters that has this code
abbrev method_with : Environment → Environment
method_with env = record {
  world = env.world;
  site = record { by = env.site.by; method = record { access_flags = 0; name = []; descriptor = codes "()V"; code = Some env.code } };
  descriptor = record { parameters = []; result = None };
  code = env.code;
  instructions = env.instructions;
}

module _ (law : InstructionAtIs) (code : List ℕ) (env : Environment) (has : HasCode code env) where
  is_method : IsEnvironment (method_with env)
  is_method = record { descriptor = refl; code = refl; instructions = has.instructions }

  at_is : (pc : ℕ) (insn : Instruction) → IsAt code pc insn ↔ (instruction_at env pc ≡ Some insn)
  at_is pc insn =
      let found = law (method_with env) pc insn is_method in (
        λ at. found.0 (subst (λ (c : List ℕ). IsAt c pc insn) (sym has.code) at),
        λ e. subst (λ (c : List ℕ). IsAt c pc insn) has.code (found.1 e),
      )

  pub found_at : (pc : ℕ) (insn : Instruction) → IsAt code pc insn → Some insn ≡ instruction_at env pc
  found_at pc insn at = sym ((at_is pc insn).0 at)

  pub none_at : (starts : List ℕ) (pc : ℕ) (test : Bool) → starts ≡ code → IsTrue test ↔ IsStart starts pc → test ≡ false → None ≡ instruction_at env pc
  none_at starts pc test same tests off = by_found (instruction_at env pc) refl
    where
      by_found : (o : Option Instruction) → instruction_at env pc ≡ o → None ≡ o
      by_found None e = refl
      by_found (Some insn) e = absurd (true≢false (sym (tests.1 (subst (λ (c : List ℕ). IsStart c pc) (sym same) (insn, (at_is pc insn).1 e))) ∙ off))

  pub some_at : (starts : List ℕ) (pc : ℕ) (test : Bool) → starts ≡ code → IsTrue test ↔ IsStart starts pc → test ≡ is_some (instruction_at env pc)
  some_at starts pc true same tests =
      let start : IsStart code pc = subst (λ (c : List ℕ). IsStart c pc) same (tests.0 refl) in ap is_some (found_at pc start.0 start.1)
  some_at starts pc false same tests = ap is_some (none_at starts pc false same tests refl)
