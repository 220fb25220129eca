-- What is said of the first files of a guest.
use Rattle.std.specs.Prelude.{◌≡◌, ℕ, List, Some, length, slice_get, take}
use Rattle.jv_class.specs.Class.{Class}
use Rattle.jv_meaning_world.specs.FileContent.{FileContent, AreContents}
use Rattle.jv_meaning_world.specs.Library.{with_library}
use Rattle.jv_meaning_world.specs.World.{world_of}
use Rattle.jv_meaning_typing.specs.declared.verdict.Verdict.{Verdict}
use Rattle.jv_verify.specs.Files.{AreVerified, Verified}
use Rattle.jv_verify.specs.Inside.Numbered.{number_behind}
use Rattle.jv_program_explain.specs.Explain.{AreExplained, IsSaid}
use Rattle.jv_program_explain.specs.declared.settings.ExplainSettings.{ExplainSettings}

-- and the number of the class of the next one
pub record AreExplainedBelow (s : ExplainSettings) (given : List Class) (files : List (List ℕ)) (contents : List FileContent)
    (verdicts : List Verdict) (below number : ℕ) (said : List (List ℕ)) : Type 0 where
  pub number_is : number ≡ number_behind (with_library given) (take below contents)
  pub count : length said ≡ below
  pub each : (place : ℕ) (bytes : List ℕ) (content : FileContent) (verdict : Verdict) (text : List ℕ)
      → slice_get files place ≡ Some bytes → slice_get contents place ≡ Some content
      → slice_get verdicts place ≡ Some verdict → slice_get said place ≡ Some text
      → IsSaid s (world_of (with_library given) contents) bytes content verdict text

-- of files of which this is found, whatever they hold
abbrev pub AreSaid : ExplainSettings → (files : List (List ℕ)) → Verified → (said : List (List ℕ)) → Type 0
AreSaid s files verified said =
    (given : List Class) (contents : List FileContent) → AreContents files contents → AreVerified given contents verified
    → AreExplained s given files contents verified.verdicts said
