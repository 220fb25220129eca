-- What is found of a method, of a class and of a file (JVMS 4.10): a typing, or the first rule that is broken.
use Rattle.std.specs.Prelude.{◌≡◌, ℕ, ◌≤◌, false, List, length, slice_get, Option, Some, None, IsSome, IsTrue, not, take}
use Rattle.std.specs.List.{All}
use Rattle.jv_class.specs.Class.{Method}
use Rattle.jv_code.specs.Insns.{Instruction}
use Rattle.jv_meaning_world.specs.FileContent.{FileContent}
use Rattle.jv_meaning_world.specs.declared.content.Content.TheVariants.{Holds}
use Rattle.jv_meaning_world.specs.World.{HostClasses, Loaded, World, loaded, world_of}
use Rattle.jv_meaning_world.specs.declared.verdict.LoadVerdict.{LoadVerdict}
use Rattle.jv_meaning_world.specs.Verdicts.{verdict_of_class, load_verdict, declared_by}
use Rattle.jv_meaning_typing.specs.Uses.{Site}
use Rattle.jv_meaning_typing.specs.declared.verdict.VerifyRule.{VerifyRule}
use Rattle.jv_meaning_typing.specs.declared.verdict.VerifyRule.TheVariants as rules
use Rattle.jv_meaning_typing.specs.declared.verdict.VerifyFault.{VerifyFault}
use Rattle.jv_meaning_typing.specs.declared.verdict.Verdict.{Verdict}
use Rattle.jv_meaning_typing.specs.declared.verdict.Verdict.TheVariants as verdicts
use Rattle.jv_meaning_typing.specs.Environment.{Environment, IsEnvironment, instruction_at, offset_behind}
use Rattle.jv_meaning_typing.specs.Typing.{argument_words, HandlersKeepRules, AreFrames, frame_at, Assignment, IsAssignedBy, Merges, handlers_hold, instruction_holds, targets_hold, IsTypingBelow, ends_code, HasTyping}
use Rattle.jv_stackmap.specs.Frames.{PlacedFrame}

-- ---- the first rule that a method breaks, and where

-- The rules at one instruction in their order: the ones before hold, and this one does not.
abbrev pub BreaksAt : Environment → List PlacedFrame → Assignment → ℕ → Instruction → VerifyRule → Type 0
BreaksAt env maps frames pc insn rules.Merge = Merges env frames pc (frame_at maps pc) → ⊥
BreaksAt env maps frames pc insn rules.CoveredHandler =
    Merges env frames pc (frame_at maps pc) × IsTrue (not (handlers_hold env maps pc insn (frames pc)))
BreaksAt env maps frames pc insn rules.Instruction =
    Merges env frames pc (frame_at maps pc) × IsTrue (handlers_hold env maps pc insn (frames pc))
    × IsTrue (not (instruction_holds env pc insn (frames pc)))
BreaksAt env maps frames pc insn rules.BranchTarget =
    Merges env frames pc (frame_at maps pc) × IsTrue (handlers_hold env maps pc insn (frames pc))
    × IsTrue (instruction_holds env pc insn (frames pc)) × IsTrue (not (targets_hold env maps pc insn (frames pc)))
BreaksAt env maps frames pc insn _ = ⊥

-- at the least offset: those below are type safe in the same assignment
pub record BreaksFirst (env : Environment) (maps : List PlacedFrame) (pc : ℕ) (broken : VerifyRule) : Type 0 where
  pub frames : Assignment
  pub below : IsTypingBelow env maps pc frames
  pub insn : Instruction
  pub starts : instruction_at env pc ≡ Some insn
  pub assigned : IsAssignedBy env frames pc (frame_at maps pc)
  pub breaks : BreaksAt env maps frames pc insn broken

-- all instructions are type safe, and control goes on behind the last one, which starts at the offset
pub record GoesOnBehind (env : Environment) (maps : List PlacedFrame) (pc : ℕ) : Type 0 where
  pub frames : Assignment
  pub below : IsTypingBelow env maps (length env.code.code) frames
  pub insn : Instruction
  pub starts : instruction_at env pc ≡ Some insn
  pub last : offset_behind pc insn ≡ length env.code.code
  pub goes_on : IsTrue (not (ends_code (Some insn)))

-- a list of instructions, with arguments that fit max_locals
pub record IsCodeOf (env : Environment) : Type 0 where
  pub is : IsEnvironment env
  pub arguments : argument_words env ≤ env.code.max_locals

-- an environment of a method, whose code is one
pub record InEnvironment (world : World) (site : Site) (P : Environment → Type 0) : Type 0 where
  pub env : Environment
  pub world_is : env.world ≡ world
  pub site_is : env.site ≡ site
  pub code : IsCodeOf env
  pub holds : P env

-- in one whose handlers and stack map keep their rules
pub record WithFrames (world : World) (site : Site) (P : Environment → List PlacedFrame → Type 0) : Type 0 where
  pub env : Environment
  pub world_is : env.world ≡ world
  pub site_is : env.site ≡ site
  pub code : IsCodeOf env
  pub handlers : HandlersKeepRules env
  pub maps : List PlacedFrame
  pub frames : AreFrames env maps
  pub holds : P env maps

-- Rules on the whole code are at offset 0, in their order; then those at instructions; and then that on the code's end.
abbrev pub BreaksRule : World → Site → ℕ → VerifyRule → Type 0
BreaksRule world site offset rules.Code =
    (offset ≡ 0) × ((env : Environment) → env.world ≡ world → env.site ≡ site → IsCodeOf env → ⊥)
BreaksRule world site offset rules.HandlerTable = (offset ≡ 0) × InEnvironment world site (λ env. HandlersKeepRules env → ⊥)
BreaksRule world site offset rules.MapFrames =
    (offset ≡ 0) × InEnvironment world site (λ env. HandlersKeepRules env × ((maps : List PlacedFrame) → AreFrames env maps → ⊥))
BreaksRule world site offset rules.EndOfCode = WithFrames world site (λ env maps. GoesOnBehind env maps offset)
BreaksRule world site offset rule = WithFrames world site (λ env maps. BreaksFirst env maps offset rule)

-- ---- classes

-- each method with code among these has a typing
abbrev pub AreTyped : World → Loaded → List Method → Type 0
AreTyped world l methods = All (λ m. IsSome m.code → HasTyping world (declared_by l m)) methods

-- the methods before this one have typings, and this one, which has code, breaks a rule
pub record IsFirstFault (world : World) (l : Loaded) (fault : VerifyFault) : Type 0 where
  pub method : Method
  pub at : slice_get l.class.methods fault.method ≡ Some method
  pub has_code : IsSome method.code
  pub before : AreTyped world l (take fault.method l.class.methods)
  pub breaks : BreaksRule world (declared_by l method) fault.offset fault.rule

-- a class whose methods are to be looked at
abbrev pub IsVerdictOfMethods : World → Loaded → Verdict → Type 0
IsVerdictOfMethods world l (verdicts.Refused why) = ⊥
IsVerdictOfMethods world l (verdicts.Verify fault) = IsFirstFault world l fault
IsVerdictOfMethods world l verdicts.Accepted = AreTyped world l l.class.methods

-- what is wrong with a class or a file before that comes first
abbrev pub IsVerdictBehind : World → Loaded → Option LoadVerdict → Verdict → Type 0
IsVerdictBehind world l (Some why) verdict = verdict ≡ verdicts.Refused why
IsVerdictBehind world l None verdict = IsVerdictOfMethods world l verdict

-- of a class of the world
abbrev pub IsVerdictOfClass : World → Loaded → Verdict → Type 0
IsVerdictOfClass world l verdict = IsVerdictBehind world l (verdict_of_class world l) verdict

-- ---- files

-- a file that holds no class has been refused before
abbrev pub IsVerdictOfContent : World → Option LoadVerdict → Option FileContent → Verdict → Type 0
IsVerdictOfContent world why (Some (Holds class)) verdict = IsVerdictBehind world (loaded false class) why verdict
IsVerdictOfContent world (Some why) content verdict = verdict ≡ verdicts.Refused why
IsVerdictOfContent world None content verdict = ⊥

-- of the file of a guest at a place, the first at 0
abbrev pub IsVerdictOfFile : HostClasses → List FileContent → ℕ → Verdict → Type 0
IsVerdictOfFile host files place verdict =
    IsVerdictOfContent (world_of host files) (load_verdict host files place) (slice_get files place) verdict
