-- Laws of type checking, as a checker and the soundness of what it accepts need them.
use Rattle.std.specs.Prelude.{◌≡◌, ◌↔◌, ℕ, ◌<◌, List, Some}
use Rattle.jv_stackmap.specs.Frames.{Frame, PlacedFrame}
use Rattle.jv_code.specs.Insns.{Instruction}
use Rattle.jv_code.specs.Places.{IsAt}
use Rattle.jv_meaning_world.specs.FileContent.{FileContent}
use Rattle.jv_meaning_world.specs.World.{HostClasses, Loaded, World}
use Rattle.jv_meaning_typing.specs.Uses.{Site}
use Rattle.jv_meaning_typing.specs.declared.verdict.VerifyRule.{VerifyRule}
use Rattle.jv_meaning_typing.specs.declared.verdict.Verdict.{Verdict}
use Rattle.jv_meaning_typing.specs.Environment.{Environment, IsEnvironment, offset_behind, instruction_at}
use Rattle.jv_meaning_typing.specs.Typing.{Assignment, FallsInto, IsTypeSafe, IsTypingBelow, HasTyping}
use Rattle.jv_meaning_typing.specs.Judgement.{BreaksRule, IsVerdictOfClass, IsVerdictOfFile}

-- A law: the instruction at an offset of a method's list is the one that stands there in its code.
abbrev pub InstructionAtIs : Type 0
InstructionAtIs =
    (env : Environment) (pc : ℕ) (insn : Instruction) → IsEnvironment env → IsAt env.code.code pc insn ↔ (instruction_at env pc ≡ Some insn)

-- ---- a typing, instruction by instruction

-- A law: one frame at most falls into an offset.
abbrev pub OneFalls : Type 0
OneFalls =
    (env : Environment) (frames : Assignment) (pc : ℕ) (one other : Frame) → IsEnvironment env → FallsInto env frames pc one
    → FallsInto env frames pc other → one ≡ other

-- A law: a typing below an instruction that is type safe too is one below the next.
abbrev pub TypingGrows : Type 0
TypingGrows =
    (env : Environment) (maps : List PlacedFrame) (frames : Assignment) (pc : ℕ) (insn : Instruction) → IsEnvironment env
    → instruction_at env pc ≡ Some insn → IsTypingBelow env maps pc frames → IsTypeSafe env maps frames pc insn
    → IsTypingBelow env maps (offset_behind pc insn) frames

-- A law: a typing below an offset is one whatever the frames from there on are.
abbrev pub TypingIsLocal : Type 0
TypingIsLocal =
    (env : Environment) (maps : List PlacedFrame) (frames others : Assignment) (end : ℕ) → ((pc : ℕ) → pc < end → frames pc ≡ others pc)
    → IsTypingBelow env maps end frames → IsTypingBelow env maps end others

-- ---- verdicts

-- A law: a method with a typing breaks no rule.
abbrev pub TypingOrFault : Type 0
TypingOrFault =
    (world : World) (site : Site) (offset : ℕ) (broken : VerifyRule) → HasTyping world site → BreaksRule world site offset broken → ⊥

-- A law: a class has one verdict at most.
abbrev pub OneJudgement : Type 0
OneJudgement = (world : World) (l : Loaded) (v w : Verdict) → IsVerdictOfClass world l v → IsVerdictOfClass world l w → v ≡ w

-- A law: a file of a guest has one verdict at most.
abbrev pub OneJudgementOfFile : Type 0
OneJudgementOfFile =
    (host : HostClasses) (files : List FileContent) (place : ℕ) (v w : Verdict) → IsVerdictOfFile host files place v
    → IsVerdictOfFile host files place w → v ≡ w
