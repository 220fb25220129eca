-- Where control goes from a branch (JVMS 6.5, if<cond>).
use Rattle.std.specs.Prelude.{◌≡◌, ℕ, ℤ, Bool, true, false, Some, IsSome}
use Rattle.jv_code.specs.Insns.{Instruction}
use Rattle.jv_code.specs.declared.insn.Insn.TheVariants as insns
use Rattle.jv_code.specs.declared.kinds.Condition.{Condition}
use Rattle.jv_code.specs.declared.kinds.Equality.{Equality}
use Rattle.jv_code.specs.declared.kinds.Test.TheVariants as tests
use Rattle.jv_code.specs.Targets.{target_of}

-- A branch that is taken leads somewhere.
abbrev pub LeadsOn : ℕ → ℤ → Bool → Type 0
LeadsOn pc distance taken = taken ≡ true → IsSome (target_of pc distance)

-- To the offset at its distance where it is taken, and else to the next instruction.
abbrev pub BranchesTo : ℕ → ℤ → ℕ → Bool → ℕ → Type 0
BranchesTo pc distance next true offset = target_of pc distance ≡ Some offset
BranchesTo pc distance next false offset = offset ≡ next

-- ---- the branches

abbrev pub if_int : Condition → ℤ → Instruction
if_int condition distance = insns.Branch (tests.IfInt condition) distance

abbrev pub if_ints : Condition → ℤ → Instruction
if_ints condition distance = insns.Branch (tests.IfInts condition) distance

abbrev pub if_same : Equality → ℤ → Instruction
if_same equality distance = insns.Branch (tests.IfReferences equality) distance

abbrev pub if_null : Equality → ℤ → Instruction
if_null equality distance = insns.Branch (tests.IfNull equality) distance
