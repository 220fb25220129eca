-- Where control goes from an instruction (JVMS 6.5): by the distances of its jumps, or to the next instruction.
use Rattle.std.specs.Prelude.{◌≡◌, ◌⊎◌, ℕ, ◌+◌, ℤ, Bool, true, false, List, [], ◌∷◌, length, map, Option, Some, IsTrue}
use Rattle.std.specs.List.{Contains}
use Rattle.jv_code.specs.declared.insn.Insn.TheVariants.{Branch, Goto, TableSwitch, LookupSwitch, ReturnValue, Return, Throw}
use Rattle.jv_code.specs.Switches.{distances_in, pairs_in, pair_distance}
use Rattle.jv_code.specs.Insns.{Instruction, insn_bytes}
use Rattle.jv_code.specs.Targets.{target_of}

-- whether the next instruction can follow: not behind goto, a switch, a return or athrow
abbrev pub falls_through : Instruction → Bool
falls_through (Goto z form) = false
falls_through (TableSwitch padding default low high distances) = false
falls_through (LookupSwitch padding default pairs) = false
falls_through (ReturnValue kind) = false
falls_through Return = false
falls_through Throw = false
falls_through _ = true

-- the distances that an instruction can jump, from its own offset; of a switch the default one first
abbrev pub jump_distances : Instruction → List ℤ
jump_distances (Branch test z) = z ∷ []
jump_distances (Goto z form) = z ∷ []
jump_distances (TableSwitch padding default low high distances) = default ∷ distances_in distances
jump_distances (LookupSwitch padding default pairs) = default ∷ map pair_distance (pairs_in pairs)
jump_distances _ = []

-- where it jumps, from an offset; None where that is no offset
abbrev pub jump_targets : ℕ → Instruction → List (Option ℕ)
jump_targets pc i = map (target_of pc) (jump_distances i)
