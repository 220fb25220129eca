-- What is said of the first rule that a method breaks (JVMS 4.10.1): the method, the instruction, the frames before it and the rule.
use Rattle.std.specs.Prelude.{◌≡◌, ℕ, Bool, true, false, List, [], ◌++◌, Option, Some, slice_get}
use Rattle.jv_class.specs.Class.{Method}
use Rattle.jv_class_structure.specs.Parts.{CodeSeen}
use Rattle.jv_code.specs.Insns.{Instruction}
use Rattle.jv_code.specs.Places.{IsAt}
use Rattle.jv_meaning_world.specs.FileContent.{FileContent}
use Rattle.jv_meaning_world.specs.declared.content.Content.TheVariants.{Holds}
use Rattle.jv_meaning_world.specs.World.{Loaded, loaded}
use Rattle.jv_meaning_world.specs.Verdicts.{declared_by}
use Rattle.jv_meaning_typing.specs.Uses.{Site}
use Rattle.jv_meaning_typing.specs.declared.verdict.VerifyRule.{VerifyRule}
use Rattle.jv_meaning_typing.specs.declared.verdict.VerifyRule.TheVariants as rules
use Rattle.jv_meaning_typing.specs.declared.verdict.VerifyFault.{VerifyFault}
use Rattle.jv_meaning_typing.specs.declared.verdict.Verdict.{Verdict}
use Rattle.jv_meaning_typing.specs.declared.verdict.Verdict.TheVariants.{Verify}
use Rattle.jv_explain.specs.Text.{broken_text, method_text, place_text}

-- the instruction at an offset of a method's code, with a line of source
pub record ShowsInstruction (site : Site) (pc : ℕ) (line : Option ℕ) (text : List ℕ) : Type 0 where
  pub body : CodeSeen
  pub has_code : site.method.code ≡ Some body
  pub insn : Instruction
  pub at : IsAt body.code pc insn
  pub told : text ≡ place_text site.by.class.constant_pool pc line insn

-- a rule that is broken at an instruction, and not by the whole code
abbrev pub is_at_instruction : VerifyRule → Bool
is_at_instruction rules.Code = false
is_at_instruction rules.HandlerTable = false
is_at_instruction rules.MapFrames = false
is_at_instruction rule = true

-- where it is broken at none, no place is shown
abbrev pub ShowsPlace : Site → ℕ → (line : Option ℕ) → VerifyRule → List ℕ → Type 0
ShowsPlace site pc line rules.Code text = text ≡ []
ShowsPlace site pc line rules.HandlerTable text = text ≡ []
ShowsPlace site pc line rules.MapFrames text = text ≡ []
ShowsPlace site pc line rule text = ShowsInstruction site pc line text

-- the method, the text of what stands above the place, the place, the text of the frames there, and the rule; and the line of source of
-- the instruction, as the file may say it (4.7.12), which no definition here speaks of
pub record ExplainsFault (l : Loaded) (fault : VerifyFault) (above frames text : List ℕ) : Type 0 where
  pub method : Method
  pub at : slice_get l.class.methods fault.method ≡ Some method
  pub line : Option ℕ
  pub place : List ℕ
  pub shown : ShowsPlace (declared_by l method) fault.offset line fault.rule place
  pub told : text ≡ method_text fault.method method ++ above ++ place ++ frames ++ broken_text fault.rule

-- of a class whose method breaks a rule, with the texts of what stands above and of the frames there, and of nothing else
abbrev pub IsExplanation : FileContent → Verdict → (above frames text : List ℕ) → Type 0
IsExplanation (Holds class) (Verify fault) above frames text = ExplainsFault (loaded false class) fault above frames text
IsExplanation content verdict above frames text = text ≡ []
