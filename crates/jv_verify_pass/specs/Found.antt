-- What is found of a method's code whose handlers and stack map keep their rules (JVMS 4.10.1.6).
use Rattle.std.specs.Prelude.{ℕ, List, length, Option, Some, None, IsTrue}
use Rattle.jv_stackmap.specs.Frames.{PlacedFrame}
use Rattle.jv_meaning_typing.specs.declared.verdict.VerifyRule.{VerifyRule}
use Rattle.jv_meaning_typing.specs.declared.verdict.VerifyRule.TheVariants as rules
use Rattle.jv_meaning_typing.specs.Environment.{Environment}
use Rattle.jv_meaning_typing.specs.Typing.{Assignment, IsTypingBelow, ends_code, last_instruction}
use Rattle.jv_meaning_typing.specs.Judgement.{BreaksFirst, GoesOnBehind}
use Rattle.jv_verify_pass.specs.declared.fault.CodeFault.{CodeFault}

-- all instructions are type safe in one assignment, and control does not go on behind the last
pub record IsTyped (env : Environment) (maps : List PlacedFrame) : Type 0 where
  pub frames : Assignment
  pub below : IsTypingBelow env maps (length env.code.code) frames
  pub end : IsTrue (ends_code (last_instruction env))

-- the first rule that is broken, at the least offset
abbrev pub IsBroken : Environment → List PlacedFrame → ℕ → VerifyRule → Type 0
IsBroken env maps offset rules.EndOfCode = GoesOnBehind env maps offset
IsBroken env maps offset rule = BreaksFirst env maps offset rule

abbrev pub IsFound : Environment → List PlacedFrame → Option CodeFault → Type 0
IsFound env maps None = IsTyped env maps
IsFound env maps (Some fault) = IsBroken env maps fault.offset fault.rule
