-- What is said of a method by its texts, and of a place.
use Rattle.std.specs.Prelude.{◌≡◌, ℕ, List, [], ◌∷◌, ◌++◌, codes, Option, Some, IsTrue}
use Rattle.std.specs.Fmt.{decimal}
use Rattle.jv_pool.specs.Constants.{Entry}
use Rattle.jv_class_structure.specs.Parts.{CodeSeen, MethodSeen}
use Rattle.jv_class_structure.specs.Structure.{ClassStructure}
use Rattle.jv_class.specs.Class.{Method, class_of}
use Rattle.jv_code.specs.Insns.{Instruction}
use Rattle.jv_code.specs.Places.{IsAt}
use Rattle.jv_meaning_world.specs.World.{Loaded, World}
use Rattle.jv_meaning_world.specs.Verdicts.{declared_by}
use Rattle.jv_meaning_typing.specs.Uses.{Site}
use Rattle.jv_meaning_typing.specs.declared.verdict.VerifyFault.{VerifyFault}
use Rattle.jv_meaning_typing.specs.declared.verdict.VerifyRule.{VerifyRule}
use Rattle.jv_meaning_typing.specs.Judgement.{IsFirstFault}
use Rattle.jv_program_base.specs.Escape.{escaped_text}
use Rattle.jv_explain.specs.Explained.{ExplainsFault, ShowsPlace, is_at_instruction}
use Rattle.jv_explain.specs.Text.{place_text}

-- the method by its number and these texts
abbrev pub named_text : ℕ → List ℕ → List ℕ → List ℕ
named_text number name descriptor =
    codes "  method " ++ decimal number ++ codes ": " ++ escaped_text name ++ escaped_text descriptor ++ 10 ∷ []

-- the instruction that starts at an offset of code, with a line of source
abbrev pub IsPlaceIn : List Entry → (code : List ℕ) → ℕ → (line : Option ℕ) → List ℕ → Type 0
IsPlaceIn pool code pc line text =
    (other : Instruction) → IsAt code pc other → (insn : Instruction) × IsAt code pc insn × (text ≡ place_text pool pc line insn)

-- where a rule is broken at an instruction, one starts there
abbrev pub StandsAt : Site → ℕ → VerifyRule → Type 0
StandsAt site pc rule =
    IsTrue (is_at_instruction rule) → (body : CodeSeen) × (site.method.code ≡ Some body) × ((insn : Instruction) × IsAt body.code pc insn)

-- the place of a fault in a method that was shown so: where the rule is broken at an instruction, one starts there
abbrev pub ShowsFaultIn : List Entry → MethodSeen → VerifyFault → (line : Option ℕ) → List ℕ → Type 0
ShowsFaultIn pool shown fault line text =
    (l : Loaded) (m : Method) → l.class.constant_pool ≡ pool → m.code ≡ shown.code → StandsAt (declared_by l m) fault.offset fault.rule
    → ShowsPlace (declared_by l m) fault.offset line fault.rule text

-- of the class of a file
abbrev pub ExplainsIn : ClassStructure → VerifyFault → (above frames text : List ℕ) → Type 0
ExplainsIn file fault above frames text =
    (world : World) (l : Loaded) → class_of file ≡ Some l.class → IsFirstFault world l fault → ExplainsFault l fault above frames text
