-- The class of a file by its number.
use Rattle.std.specs.Prelude.{◌≡◌, ◌<◌, ⊤, ℕ, Bool, true, false, length, Option, Some, None, slice_get}
use Rattle.jv_class.specs.Class.{Class}
use Rattle.jv_meaning_world.specs.FileContent.{FileContent}
use Rattle.jv_meaning_world.specs.declared.content.Content.TheVariants.{Holds, MoreThanProfile, NoClassFile, OtherVersion}
use Rattle.jv_meaning_world.specs.declared.verdict.LoadVerdict.{LoadVerdict}
use Rattle.jv_meaning_world.specs.declared.verdict.LoadVerdict.TheVariants.{Format, Unsupported, Version}
use Rattle.jv_meaning_world.specs.Numbers.{HoldsAtNumber}
use Rattle.jv_meaning_world.specs.World.{World, loaded}
use Rattle.jv_meaning_typing.specs.declared.verdict.Verdict.{Verdict}
use Rattle.jv_meaning_typing.specs.declared.verdict.Verdict.TheVariants as verdicts
use Rattle.jv_meaning_typing.specs.Judgement.{IsVerdictOfMethods}

-- what a verdict says was wrong before methods were looked at
abbrev pub why_of : Verdict → Option LoadVerdict
why_of (verdicts.Refused why) = Some why
why_of _ = None

-- the verdict is about the methods of a class
abbrev pub is_on_methods : Verdict → Bool
is_on_methods (verdicts.Refused why) = false
is_on_methods _ = true

-- the class with a number is a guest's, and this is the verdict on its methods
pub record IsJudgedAt (world : World) (number : ℕ) (verdict : Verdict) : Type 0 where
  pub class : number < length world
  pub guest : HoldsAtNumber world number (λ l. l.by_system ≡ false)
  pub judged : HoldsAtNumber world number (λ l. IsVerdictOfMethods world l verdict)

-- it is the one that a file holds
abbrev pub StandsAt : World → ℕ → FileContent → Type 0
StandsAt world number content = (class : Class) → content ≡ Holds class → slice_get world number ≡ Some (loaded false class)

-- `Version` is the verdict on bytes of another version alone, `Format` that on bytes that are no class file, and `Unsupported` that on a
-- file with more than the profile
abbrev pub IsContentFor : Verdict → FileContent → Type 0
IsContentFor (verdicts.Refused Version) content = content ≡ OtherVersion
IsContentFor (verdicts.Refused Format) content = content ≡ NoClassFile
IsContentFor (verdicts.Refused Unsupported) content = content ≡ MoreThanProfile
IsContentFor verdict content = ⊤
