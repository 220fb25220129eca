-- What is said of a method that breaks a rule, as text (own).
use Rattle.std.specs.Prelude.{ℕ, List, [], ◌∷◌, ◌++◌, codes, Option, Some, None}
use Rattle.std.specs.Fmt.{decimal}
use Rattle.jv_pool.specs.Constants.{Entry}
use Rattle.jv_class.specs.Class.{Method}
use Rattle.jv_code.specs.Insns.{Instruction}
use Rattle.jv_meaning_typing.specs.declared.verdict.VerifyRule.{VerifyRule}
use Rattle.jv_program_base.specs.Escape.{escaped_text}
use Rattle.jv_shown.specs.Instructions.{instruction_text}
use Rattle.jv_shown.specs.Rules.{rule_text}

-- the method by its number, its name and its descriptor
abbrev pub method_text : ℕ → Method → List ℕ
method_text number method =
    codes "  method " ++ decimal number ++ codes ": " ++ escaped_text method.name ++ escaped_text method.descriptor ++ 10 ∷ []

-- a line of source, where there is one
abbrev pub line_text : Option ℕ → List ℕ
line_text None = []
line_text (Some line) = codes ", line " ++ decimal line

-- the instruction at an offset, with the line of source
abbrev pub place_text : List Entry → ℕ → (line : Option ℕ) → Instruction → List ℕ
place_text pool pc line insn =
    codes "  offset " ++ decimal pc ++ line_text line ++ codes ": " ++ instruction_text pool pc insn ++ 10 ∷ []

-- the rule that is broken
abbrev pub broken_text : VerifyRule → List ℕ
broken_text rule = codes "  breaks " ++ rule_text rule ++ 10 ∷ []
