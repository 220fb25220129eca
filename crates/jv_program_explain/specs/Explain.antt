-- What the program says of the files of a guest and of their verdicts (JVMS 4.10, 5.3.5).
use Rattle.std.specs.Prelude.{◌≡◌, ℕ, Bool, true, false, List, [], ◌++◌, Option, None, Some, length, slice_get, string_bytes}
use Rattle.jv_class.specs.Class.{Class}
use Rattle.jv_meaning_world.specs.FileContent.{FileContent}
use Rattle.jv_meaning_world.specs.declared.content.Content.TheVariants.{Holds}
use Rattle.jv_meaning_world.specs.declared.verdict.LoadVerdict.{LoadVerdict}
use Rattle.jv_meaning_world.specs.declared.verdict.LoadVerdict.TheVariants.{Format, Unsupported, Version}
use Rattle.jv_meaning_world.specs.Library.{with_library}
use Rattle.jv_meaning_world.specs.World.{World, loaded, world_of}
use Rattle.jv_meaning_typing.specs.declared.verdict.Verdict.{Verdict}
use Rattle.jv_meaning_typing.specs.declared.verdict.Verdict.TheVariants.{Accepted, Refused, Verify}
use Rattle.jv_limits.specs.FileLimits.{first_file_refusal}
use Rattle.jv_verify.specs.Files.{AreFilesOf, HostStands, Verified}
use Rattle.jv_program_base.specs.declared.outcome.Outcome.{Outcome}
use Rattle.jv_program_check.specs.Text.{check_status}
use Rattle.jv_beyond.specs.Text.{TellsBeyond}
use Rattle.jv_malformed.specs.Text.{TellsFault, TellsVersion}
use Rattle.jv_explain.specs.Explained.{IsExplanation}
use Rattle.jv_explain.specs.Supers.{IsRefusalTold}
use Rattle.jv_links.specs.Text.{AreLinksTold}
use Rattle.jv_program_explain.specs.Listing.{AreMethodsListed, IsFaultListedOf}
use Rattle.jv_program_explain.specs.Frames.{AreFramesShown}
use Rattle.jv_program_explain.specs.Text.{explain_report}
use Rattle.jv_program_explain.specs.declared.settings.ExplainSettings.{ExplainSettings}

-- the references that don't resolve of the class that an accepted file holds (5.4.3)
abbrev pub TellsLinks : World → FileContent → List ℕ → Type 0
TellsLinks world (Holds class) text = AreLinksTold world (loaded false class) text
TellsLinks world content text = text ≡ []

-- the methods of that class, with the frame before each instruction (4.10.1.6)
abbrev pub TellsFrames : World → FileContent → List ℕ → Type 0
TellsFrames world (Holds class) text = AreMethodsListed world (loaded false class) text
TellsFrames world content text = text ≡ []

-- a text that is asked for; else nothing
abbrev pub IsAsked : Bool → (List ℕ → Type 0) → List ℕ → Type 0
IsAsked true Tells text = Tells text
IsAsked false Tells text = text ≡ []

-- what is asked of an accepted file: the methods first
pub record IsAcceptedTold (s : ExplainSettings) (world : World) (content : FileContent) (text : List ℕ) : Type 0 where
  pub listing : List ℕ
  pub frames : IsAsked s.frames (TellsFrames world content) listing
  pub references : List ℕ
  pub links : IsAsked s.links (TellsLinks world content) references
  pub told : text ≡ listing ++ references

-- of a class whose method breaks a rule at an instruction those below it, each with the frame before it
abbrev pub TellsBelow : World → FileContent → Verdict → List ℕ → Type 0
TellsBelow world (Holds class) (Verify fault) text = IsFaultListedOf world (loaded false class) fault fault.rule text
TellsBelow world content verdict text = text ≡ []

-- what its verdict is about, with the frames there, below the instructions that come before, where these are asked for
pub record IsExplainedBy (s : ExplainSettings) (world : World) (content : FileContent) (verdict : Verdict) (text : List ℕ) : Type 0 where
  pub above : List ℕ
  pub listed : IsAsked s.frames (TellsBelow world content verdict) above
  pub frames : List ℕ
  pub shown : AreFramesShown world content verdict frames
  pub told : IsExplanation content verdict above frames text

-- what is said of a refusal, of a file with these bytes: of one of another version which it is, of one that is no class file the first part
-- that is at fault, of one with more than the profile the first that is beyond it, else what its class was refused for
abbrev pub IsRefusedTold : World → (bytes : List ℕ) → FileContent → LoadVerdict → List ℕ → Type 0
IsRefusedTold world bytes content Version text = TellsVersion bytes text
IsRefusedTold world bytes content Format text = TellsFault bytes text
IsRefusedTold world bytes content Unsupported text = TellsBeyond bytes text
IsRefusedTold world bytes content why text = IsRefusalTold world content why text

-- what is said of a file with these bytes: of one that is accepted what is asked for, else what its verdict is about
abbrev pub IsSaid : ExplainSettings → World → (bytes : List ℕ) → FileContent → Verdict → List ℕ → Type 0
IsSaid s world bytes content Accepted text = IsAcceptedTold s world content text
IsSaid s world bytes content (Refused why) text = IsRefusedTold world bytes content why text
IsSaid s world bytes content verdict text = IsExplainedBy s world content verdict text

-- of each file of a guest what is said of its verdict, or of its class in the guest's world, with a library of these classes
pub record AreExplained (s : ExplainSettings) (given : List Class) (files : List (List ℕ)) (contents : List FileContent)
    (verdicts : List Verdict) (said : List (List ℕ)) : Type 0 where
  pub count : length said ≡ length verdicts
  pub each : (place : ℕ) (bytes : List ℕ) (content : FileContent) (verdict : Verdict) (text : List ℕ)
      → slice_get files place ≡ Some bytes → slice_get contents place ≡ Some content
      → slice_get verdicts place ≡ Some verdict → slice_get said place ≡ Some text
      → IsSaid s (world_of (with_library given) contents) bytes content verdict text

-- The files are within the limits, and the library, of which these are the files, stands beside them; the text has for each file the line
-- of `check` and what is said of its verdict, or of its class, in JSON or not, nothing takes its place, and the status is that of
-- `check`. In JSON a file may have a line of source, of which no definition here speaks (4.7.12).
pub record IsExplained (s : ExplainSettings) (library names files : List (List ℕ)) (outcome : Outcome) : Type 0 where
  pub allowed : first_file_refusal files ≡ None
  pub found : Verified
  pub right : AreFilesOf library files found
  pub stands : HostStands found
  pub said : List (List ℕ)
  pub explained : AreExplained s right.given files right.contents found.verdicts said
  pub lines : List (Option ℕ)
  pub lined : length lines ≡ length found.verdicts
  pub report : string_bytes outcome.report ≡ explain_report s.json names found.verdicts lines said
  pub alone : outcome.raw ≡ None
  pub status : outcome.status ≡ check_status found.verdicts
