-- The instructions below the one at which a method breaks a rule.
use Rattle.std.proofs.Common.{◌≡◌, ℕ, zero, suc, ◌<◌, true, false, List, [], ◌∷◌, length, Option, Some, None, refl, arith}
use Rattle.std.specs.Prelude.{slice_get}
use Rattle.jv_class_structure.specs.Parts.{CodeSeen}
use Rattle.jv_class.specs.Class.{Method}
use Rattle.jv_meaning_world.specs.FileContent.{FileContent}
use Rattle.jv_meaning_world.specs.Numbers.{HoldsAtNumber}
use Rattle.jv_meaning_world.specs.declared.content.Content.TheVariants.{OtherVersion, NoClassFile, MoreThanProfile, Holds}
use Rattle.jv_meaning_world.specs.declared.verdict.LoadVerdict.{LoadVerdict}
use Rattle.jv_meaning_world.specs.Verdicts.{declared_by}
use Rattle.jv_meaning_world.specs.World.{Loaded, World, loaded}
use Rattle.jv_meaning_typing.specs.declared.verdict.VerifyRule.{VerifyRule}
use Rattle.jv_meaning_typing.specs.declared.verdict.VerifyRule.TheVariants as rules
use Rattle.jv_meaning_typing.specs.declared.verdict.VerifyFault.{VerifyFault}
use Rattle.jv_meaning_typing.specs.declared.verdict.Verdict.{Verdict}
use Rattle.jv_meaning_typing.specs.declared.verdict.Verdict.TheVariants.{Accepted, Refused, Verify}
use Rattle.jv_meaning_typing.specs.Judgement.{IsFirstFault, IsVerdictOfContent}
use Rattle.jv_explain.specs.Explained.{is_at_instruction}
use Rattle.jv_links.proofs.Answered.{some_of}
use Rattle.jv_program_explain.specs.Explain.{TellsBelow}
use Rattle.jv_program_explain.specs.Listing.{IsFaultListed, IsFaultListedOf, IsListedTo}
use Rattle.jv_program_explain.specs.Inside.Numbered.{StandsAt}

pub class_there : (world : List Loaded) (k : ℕ) → k < length world → (l : Loaded) × (slice_get world k ≡ Some l)
class_there [] k h = absurd (omega (arith, h))
class_there (x ∷ xs) zero h = (x, refl)
class_there (x ∷ xs) (suc k) h = class_there xs k (omega (arith, h))

-- the instructions below the one at which a method breaks a rule, listed
abbrev pub ListsBelow : World → Loaded → VerifyFault → (line : ℕ → Option ℕ) → List ℕ → Type 0
ListsBelow world l fault line text =
    (m : Method) (body : CodeSeen) → slice_get l.class.methods fault.method ≡ Some m → m.code ≡ Some body → IsListedTo world (declared_by l m) line body.code fault.offset text

pub fault_listed : (world : World) (l : Loaded) (fault : VerifyFault) (first : IsFirstFault world l fault) (line : ℕ → Option ℕ) (text : List ℕ) → ListsBelow world l fault line text
    → IsFaultListed world l fault text
fault_listed world l fault first line text listed =
    let (body, has) = some_of first.method.code first.has_code in
    record { method = first.method; at = first.at; body = body; has_code = has; line = line; listed = listed first.method body first.at has }

-- ---- by the rule

pub listed_at_place : (world : World) (l : Loaded) (fault : VerifyFault) (text : List ℕ) (broken : VerifyRule) → is_at_instruction broken ≡ true → IsFaultListed world l fault text
    → IsFaultListedOf world l fault broken text
listed_at_place world l fault text rules.Code on h = absurd cc
listed_at_place world l fault text rules.HandlerTable on h = absurd cc
listed_at_place world l fault text rules.MapFrames on h = absurd cc
listed_at_place world l fault text rules.Merge on h = h
listed_at_place world l fault text rules.CoveredHandler on h = h
listed_at_place world l fault text rules.Instruction on h = h
listed_at_place world l fault text rules.BranchTarget on h = h
listed_at_place world l fault text rules.EndOfCode on h = h

pub listed_at_none : (world : World) (l : Loaded) (fault : VerifyFault) (text : List ℕ) (broken : VerifyRule) → is_at_instruction broken ≡ false → text ≡ []
    → IsFaultListedOf world l fault broken text
listed_at_none world l fault text rules.Code off e = e
listed_at_none world l fault text rules.HandlerTable off e = e
listed_at_none world l fault text rules.MapFrames off e = e
listed_at_none world l fault text rules.Merge off e = absurd cc
listed_at_none world l fault text rules.CoveredHandler off e = absurd cc
listed_at_none world l fault text rules.Instruction off e = absurd cc
listed_at_none world l fault text rules.BranchTarget off e = absurd cc
listed_at_none world l fault text rules.EndOfCode off e = absurd cc

-- ---- of a file

pub fault_below : (world : World) (number : ℕ) (why : Option LoadVerdict) (content : FileContent) (fault : VerifyFault) (text : List ℕ)
    → HoldsAtNumber world number (λ l. IsFaultListedOf world l fault fault.rule text) → IsVerdictOfContent world why (Some content) (Verify fault) → StandsAt world number content
    → TellsBelow world content (Verify fault) text
fault_below world number why (Holds class) fault text h is stands = h (loaded false class) (stands class refl)
fault_below world number (Some w) OtherVersion fault text h is stands = absurd cc
fault_below world number (Some w) NoClassFile fault text h is stands = absurd cc
fault_below world number (Some w) MoreThanProfile fault text h is stands = absurd cc
fault_below world number None OtherVersion fault text h is stands = absurd is
fault_below world number None NoClassFile fault text h is stands = absurd is
fault_below world number None MoreThanProfile fault text h is stands = absurd is

pub none_below : (world : World) (content : FileContent) (v : Verdict) (text : List ℕ) → ((fault : VerifyFault) → v ≡ Verify fault → ⊥) → text ≡ [] → TellsBelow world content v text
none_below world content (Verify fault) text never e = absurd (never fault refl)
none_below world (Holds class) Accepted text never e = e
none_below world (Holds class) (Refused w) text never e = e
none_below world OtherVersion Accepted text never e = e
none_below world OtherVersion (Refused w) text never e = e
none_below world NoClassFile Accepted text never e = e
none_below world NoClassFile (Refused w) text never e = e
none_below world MoreThanProfile Accepted text never e = e
none_below world MoreThanProfile (Refused w) text never e = e
