-- The frames where a method breaks a rule.
use Rattle.std.proofs.Common.{◌≡◌, ℕ, true, false, List, [], Option, Some, None, refl}
use Rattle.jv_class.specs.Class.{Class}
use Rattle.jv_meaning_world.specs.FileContent.{FileContent}
use Rattle.jv_meaning_world.specs.Numbers.{HoldsAtNumber}
use Rattle.jv_meaning_world.specs.declared.content.Content.TheVariants.{OtherVersion, NoClassFile, MoreThanProfile, Holds}
use Rattle.jv_meaning_world.specs.declared.verdict.LoadVerdict.{LoadVerdict}
use Rattle.jv_meaning_world.specs.World.{Loaded, World, loaded}
use Rattle.jv_meaning_world.specs.Verdicts.{declared_by}
use Rattle.jv_meaning_typing.specs.Uses.{Site}
use Rattle.jv_meaning_typing.specs.declared.verdict.VerifyRule.{VerifyRule}
use Rattle.jv_meaning_typing.specs.declared.verdict.VerifyRule.TheVariants as rules
use Rattle.jv_meaning_typing.specs.declared.verdict.VerifyFault.{VerifyFault}
use Rattle.jv_meaning_typing.specs.declared.verdict.Verdict.{Verdict}
use Rattle.jv_meaning_typing.specs.declared.verdict.Verdict.TheVariants.{Accepted, Refused, Verify}
use Rattle.jv_meaning_typing.specs.Judgement.{BreaksRule, IsFirstFault, IsVerdictOfContent, WithFrames}
use Rattle.jv_verify.specs.Before.{IsTypedTo}
use Rattle.jv_verify.specs.Frames.{IsTypedIn}
use Rattle.jv_verify.proofs.BrokenThere.{below_end, below_first}
use Rattle.jv_program_explain.specs.Frames.{AreFramesShown, ShowsFrames, ShowsFramesOf}
use Rattle.jv_explain.specs.Explained.{is_at_instruction}
use Rattle.jv_program_explain.specs.Inside.Numbered.{StandsAt}

-- ---- the instructions below are type safe

module _ (world : World) (site : Site) (pc : ℕ) where
  pub below : (broken : VerifyRule) → is_at_instruction broken ≡ true → BreaksRule world site pc broken → WithFrames world site (λ env maps. IsTypedTo env maps pc)
  below rules.Code on h = absurd cc
  below rules.HandlerTable on h = absurd cc
  below rules.MapFrames on h = absurd cc
  below rules.Merge on h = below_first world site pc rules.Merge h
  below rules.CoveredHandler on h = below_first world site pc rules.CoveredHandler h
  below rules.Instruction on h = below_first world site pc rules.Instruction h
  below rules.BranchTarget on h = below_first world site pc rules.BranchTarget h
  below rules.EndOfCode on h = below_end world site pc h

pub typed_in : (world : World) (l : Loaded) (fault : VerifyFault) → is_at_instruction fault.rule ≡ true → IsFirstFault world l fault → IsTypedIn world l fault.method fault.offset
typed_in world l fault on first = record {
  method = first.method;
  at = first.at;
  holds = below world (declared_by l first.method) fault.offset fault.rule on first.breaks;
}

-- ---- what is shown

pub at_place : (world : World) (l : Loaded) (fault : VerifyFault) (text : List ℕ) (broken : VerifyRule) → is_at_instruction broken ≡ true → ShowsFrames world l fault text
    → ShowsFramesOf world l fault broken text
at_place world l fault text rules.Code on h = absurd cc
at_place world l fault text rules.HandlerTable on h = absurd cc
at_place world l fault text rules.MapFrames on h = absurd cc
at_place world l fault text rules.Merge on h = h
at_place world l fault text rules.CoveredHandler on h = h
at_place world l fault text rules.Instruction on h = h
at_place world l fault text rules.BranchTarget on h = h
at_place world l fault text rules.EndOfCode on h = h

pub at_none : (world : World) (l : Loaded) (fault : VerifyFault) (text : List ℕ) (broken : VerifyRule) → is_at_instruction broken ≡ false → text ≡ []
    → ShowsFramesOf world l fault broken text
at_none world l fault text rules.Code off e = e
at_none world l fault text rules.HandlerTable off e = e
at_none world l fault text rules.MapFrames off e = e
at_none world l fault text rules.Merge off e = absurd cc
at_none world l fault text rules.CoveredHandler off e = absurd cc
at_none world l fault text rules.Instruction off e = absurd cc
at_none world l fault text rules.BranchTarget off e = absurd cc
at_none world l fault text rules.EndOfCode off e = absurd cc

-- ---- of a file

pub fault_shown : (world : World) (number : ℕ) (why : Option LoadVerdict) (content : FileContent) (fault : VerifyFault) (text : List ℕ)
    → HoldsAtNumber world number (λ l. ShowsFramesOf world l fault fault.rule text) → IsVerdictOfContent world why (Some content) (Verify fault) → StandsAt world number content
    → AreFramesShown world content (Verify fault) text
fault_shown world number why (Holds class) fault text h is stands = h (loaded false class) (stands class refl)
fault_shown world number (Some w) OtherVersion fault text h is stands = absurd cc
fault_shown world number (Some w) NoClassFile fault text h is stands = absurd cc
fault_shown world number (Some w) MoreThanProfile fault text h is stands = absurd cc
fault_shown world number None OtherVersion fault text h is stands = absurd is
fault_shown world number None NoClassFile fault text h is stands = absurd is
fault_shown world number None MoreThanProfile fault text h is stands = absurd is

pub none_shown : (world : World) (content : FileContent) (v : Verdict) (text : List ℕ) → ((fault : VerifyFault) → v ≡ Verify fault → ⊥) → text ≡ [] → AreFramesShown world content v text
none_shown world content (Verify fault) text never e = absurd (never fault refl)
none_shown world (Holds class) Accepted text never e = e
none_shown world (Holds class) (Refused w) text never e = e
none_shown world OtherVersion Accepted text never e = e
none_shown world OtherVersion (Refused w) text never e = e
none_shown world NoClassFile Accepted text never e = e
none_shown world NoClassFile (Refused w) text never e = e
none_shown world MoreThanProfile Accepted text never e = e
none_shown world MoreThanProfile (Refused w) text never e = e

-- a file that is accepted holds a class
pub class_of_accepted : (world : World) (why : Option LoadVerdict) (content : FileContent) → IsVerdictOfContent world why (Some content) Accepted → (class : Class) × (content ≡ Holds class)
class_of_accepted world why (Holds class) is = (class, refl)
class_of_accepted world (Some w) OtherVersion is = absurd cc
class_of_accepted world (Some w) NoClassFile is = absurd cc
class_of_accepted world (Some w) MoreThanProfile is = absurd cc
class_of_accepted world None OtherVersion is = absurd is
class_of_accepted world None NoClassFile is = absurd is
class_of_accepted world None MoreThanProfile is = absurd is
