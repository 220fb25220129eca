-- Code as a list of instructions, and where each stands (JVMS 4.7.3, 4.9.1).
use Rattle.std.specs.Prelude.{◌≡◌, ℕ, ◌+◌, ◌≤◌, ◌⊎◌, ◌↔◌, Bool, true, ◌&&◌, List, [], ◌∷◌, ◌++◌, length, IsTrue, ℤ, pos, ◌+ℤ◌, ◌-ℤ◌}
use Rattle.std.specs.List.{flat_map}
use Rattle.jv_code.specs.declared.insn.Insn.TheVariants.{TableSwitch, LookupSwitch}
use Rattle.jv_code.specs.Switches.{distances_in, pairs_in, keys_rise}
use Rattle.jv_code.specs.Insns.{Instruction, insn_bytes, insn_fits}

-- each instruction can stand where it does, the first at an offset
abbrev pub all_fit : ℕ → List Instruction → Bool
all_fit at [] = true
all_fit at (i ∷ insns) = insn_fits at i && all_fit (at + length (insn_bytes i)) insns

-- Bytes are code: from 1 to 65,535 bytes, the instructions one after the other (4.7.3, 4.9.1).
pub record IsCode (bytes : List ℕ) (insns : List Instruction) : Type 0 where
  pub spelled : bytes ≡ flat_map insn_bytes insns
  pub fit : IsTrue (all_fit 0 insns)
  pub some : 1 ≤ length bytes
  pub few : length bytes ≤ 65535

-- An instruction stands at an offset of the code: the offset is the sum of the lengths before it.
pub record IsAt (bytes : List ℕ) (pc : ℕ) (i : Instruction) : Type 0 where
  pub before : List Instruction
  pub after : List Instruction
  pub code : IsCode bytes (before ++ i ∷ after)
  pub place : pc ≡ length (flat_map insn_bytes before)

-- an instruction starts at an offset
abbrev pub IsStart : List ℕ → ℕ → Type 0
IsStart bytes pc = (i : Instruction) × IsAt bytes pc i

-- an instruction starts at an offset, or the code ends there
abbrev pub IsStartOrEnd : List ℕ → ℕ → Type 0
IsStartOrEnd bytes pc = IsStart bytes pc ⊎ (pc ≡ length bytes)

-- ---- laws

-- Bytes are one list of instructions at most.
abbrev pub OneList : Type 0
OneList = (bytes : List ℕ) (all others : List Instruction) → IsCode bytes all → IsCode bytes others → all ≡ others

-- An instruction at a start is the one at that place of the list: the lengths of those before it sum to the offset.
pub record Cut (all : List Instruction) (pc : ℕ) (i : Instruction) : Type 0 where
  pub before : List Instruction
  pub after : List Instruction
  pub is : all ≡ before ++ i ∷ after
  pub place : pc ≡ length (flat_map insn_bytes before)

abbrev pub StandsInList : Type 0
StandsInList = (bytes : List ℕ) (all : List Instruction) (pc : ℕ) (i : Instruction) → IsCode bytes all → IsAt bytes pc i ↔ Cut all pc i

-- Between the start of an instruction and its end no other starts.
abbrev pub StartsApart : Type 0
StartsApart =
    (bytes : List ℕ) (pc next : ℕ) (i j : Instruction) → IsAt bytes pc i → IsAt bytes next j → 1 + pc ≤ next
    → pc + length (insn_bytes i) ≤ next

-- At an offset stands one instruction at most.
abbrev pub OneAtOffset : Type 0
OneAtOffset = (bytes : List ℕ) (pc : ℕ) (i j : Instruction) → IsAt bytes pc i → IsAt bytes pc j → i ≡ j

-- An instruction fits where it stands.
abbrev pub FitsThere : Type 0
FitsThere = (bytes : List ℕ) (pc : ℕ) (i : Instruction) → IsAt bytes pc i → IsTrue (insn_fits pc i)

-- Behind an instruction the next one starts, or the code ends.
abbrev pub NextStarts : Type 0
NextStarts = (bytes : List ℕ) (pc : ℕ) (i : Instruction) → IsAt bytes pc i → IsStartOrEnd bytes (pc + length (insn_bytes i))

-- A tableswitch has a distance for each number from the lowest to the highest.
abbrev pub EachHasDistance : Type 0
EachHasDistance =
    (bytes : List ℕ) (pc : ℕ) (padding : List ℕ) (default low high : ℤ) (distances : List ℕ)
    → IsAt bytes pc (TableSwitch padding default low high distances)
    → pos (length (distances_in distances)) ≡ (high -ℤ low) +ℤ pos 1

-- The keys of a lookupswitch rise.
abbrev pub KeysRise : Type 0
KeysRise =
    (bytes : List ℕ) (pc : ℕ) (padding : List ℕ) (default : ℤ) (pairs : List ℕ) → IsAt bytes pc (LookupSwitch padding default pairs)
    → IsTrue (keys_rise (pairs_in pairs))
