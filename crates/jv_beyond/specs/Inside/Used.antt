-- How the first instruction is found that names a constant which the profile leaves out.
use Rattle.std.specs.Prelude.{◌≡◌, ℕ, ◌+◌, ◌*◌, ◌<◌, List, Option, Some, None, slice_get}
use Rattle.jv_pool.specs.Constants.{Entry}
use Rattle.jv_class_structure.specs.Parts.{MethodSeen}
use Rattle.jv_class_structure.specs.Structure.{ClassStructure}
use Rattle.jv_code.specs.Insns.{Instruction}
use Rattle.jv_beyond.specs.Beyond.{IsBeyond, place_of, rank}
use Rattle.jv_beyond.specs.Inside.Found.{NoneBelow}
use Rattle.jv_beyond.specs.Uses.{IsConstantBeyond, IsUse, IsUseIn, NamesBeyond}
use Rattle.jv_beyond.specs.declared.beyond.Beyond.{Beyond}

-- among constants with these indices
abbrev pub IsAmong : List Entry → List ℕ → ℕ → Type 0
IsAmong pool indices other = (place : ℕ) × (slice_get indices place ≡ Some other) × IsConstantBeyond pool other

abbrev pub IsFoundAmong : List Entry → List ℕ → Option ℕ → Type 0
IsFoundAmong pool indices (Some other) = IsAmong pool indices other
IsFoundAmong pool indices None = (other : ℕ) → IsAmong pool indices other → ⊥

-- by an instruction
abbrev pub IsFoundBy : List Entry → Instruction → Option ℕ → Type 0
IsFoundBy pool insn (Some other) = NamesBeyond pool insn other
IsFoundBy pool insn None = (other : ℕ) → NamesBeyond pool insn other → ⊥

-- in code: none before an offset, and the first
abbrev pub NoUseBefore : List Entry → (code : List ℕ) → (offset : ℕ) → Type 0
NoUseBefore pool code offset = (pc : ℕ) → pc < offset → IsUseIn pool code pc → ⊥

abbrev pub IsFoundIn : List Entry → (code : List ℕ) → Option ℕ → Type 0
IsFoundIn pool code (Some offset) = IsUseIn pool code offset × NoUseBefore pool code offset
IsFoundIn pool code None = (pc : ℕ) → IsUseIn pool code pc → ⊥

-- in a method's code
abbrev pub NoUseBelow : List Entry → MethodSeen → (offset : ℕ) → Type 0
NoUseBelow pool m offset = (pc : ℕ) → pc < offset → IsUse pool m pc → ⊥

-- in the method at a place
abbrev pub IsUseFound : ClassStructure → (place : ℕ) → Option Beyond → Type 0
IsUseFound c place (Some part) = IsBeyond c part × (rank part ≡ 1) × (NoneBelow c 1 (place * 65536) → NoneBelow c 1 (place_of part))
IsUseFound c place None = NoneBelow c 1 (place * 65536) → NoneBelow c 1 ((place + 1) * 65536)
