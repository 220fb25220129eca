-- Where control goes from an instruction (JVMS 2.11.7, 4.10.1.9).
use Rattle.std.specs.Prelude.{◌≡◌, ◌⊎◌, ℕ, ◌+◌, length, Some, IsTrue}
use Rattle.std.specs.List.{Contains}
use Rattle.jv_code.specs.Insns.{Instruction, insn_bytes}
use Rattle.jv_code.specs.Successors.{falls_through, jump_targets}

-- control can go from an instruction at an offset to another offset, a throw to a handler aside
abbrev pub IsSuccessor : ℕ → Instruction → ℕ → Type 0
IsSuccessor pc i next = Contains (jump_targets pc i) (Some next) ⊎ (IsTrue (falls_through i) × (next ≡ pc + length (insn_bytes i)))
