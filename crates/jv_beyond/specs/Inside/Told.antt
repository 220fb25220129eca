-- What is said of the part that is found.
use Rattle.std.specs.Prelude.{◌≡◌, ◌++◌, ⊤, ℕ, List, Option, Some, None}
use Rattle.jv_pool.specs.Constants.{Entry, at_index}
use Rattle.jv_class_structure.specs.Structure.{ClassStructure}
use Rattle.jv_code.specs.Insns.{Instruction}
use Rattle.jv_code.specs.Places.{IsAt}
use Rattle.jv_beyond.specs.Inside.Found.{IsFound}
use Rattle.jv_beyond.specs.Text.{TellsPart, constant_text, use_line}
use Rattle.jv_beyond.specs.Uses.{NamesBeyond}
use Rattle.jv_beyond.specs.declared.beyond.Beyond.{Beyond}

-- with some line of source
abbrev pub IsPartTold : ClassStructure → Beyond → (text : List ℕ) → Type 0
IsPartTold c part text = (line : Option ℕ) × TellsPart c part line text

-- of nothing nothing is said here
abbrev pub IsTold : ClassStructure → Option Beyond → (text : List ℕ) → Type 0
IsTold c (Some part) text = IsPartTold c part text
IsTold c None text = ⊤

abbrev pub IsFoundTold : ClassStructure → (text : List ℕ) → Type 0
IsFoundTold c text = (found : Option Beyond) × IsFound c found × IsTold c found text

-- of an instruction: behind the method's line, and with the constant that the profile leaves out
abbrev pub IsNamedTold : List Entry → (head : List ℕ) → (offset : ℕ) → (line : Option ℕ) → Instruction → (text : List ℕ) → Type 0
IsNamedTold pool head offset line insn text =
    (index : ℕ) × NamesBeyond pool insn index
    × ((entry : Entry) × (at_index pool index ≡ Some entry)
    × (text ≡ head ++ use_line pool offset line insn ++ constant_text pool index entry))

-- of that at an offset of code
abbrev pub IsUseTold : List Entry → (head : List ℕ) → (code : List ℕ) → (offset : ℕ) → (line : Option ℕ) → (text : List ℕ) → Type 0
IsUseTold pool head code offset line text =
    (insn : Instruction) × IsAt code offset insn × IsNamedTold pool head offset line insn text
