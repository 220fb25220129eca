-- The instruction at which the last object was thrown in a guest, as the guest's own files have it (JVMS 4.6, 5.3.5).
use Rattle.std.specs.Prelude.{◌≡◌, ℕ, ◌<◌, Bool, true, false, IsTrue, List, Option, Some, None, slice_get}
use Rattle.jv_meaning_world.specs.declared.verdict.LoadVerdict.TheVariants.{Version, Format, Unsupported, Reserved, Duplicate}
use Rattle.jv_meaning_typing.specs.declared.verdict.Verdict.{Verdict}
use Rattle.jv_meaning_typing.specs.declared.verdict.Verdict.TheVariants.{Refused}
use Rattle.jv_meaning_machine.specs.State.{ThrowPlace}
use Rattle.jv_meaning_machine.specs.Observation.{Observed}
use Rattle.jv_place.specs.Instruction.{IsInstructionIn}

-- the class of a file with this verdict is the one of its name: its file holds a class, whose name no other class had before (5.3.5)
abbrev pub is_taken : Verdict → Bool
is_taken (Refused Version) = false
is_taken (Refused Format) = false
is_taken (Refused Unsupported) = false
is_taken (Refused Reserved) = false
is_taken (Refused Duplicate) = false
is_taken verdict = true

-- at a place in a file with this verdict: none where its class isn't taken
abbrev pub IsShownBy : List ℕ → Verdict → ThrowPlace → Option (List ℕ) → Type 0
IsShownBy bytes verdict p (Some text) = IsTrue (is_taken verdict) × IsInstructionIn bytes p (Some text)
IsShownBy bytes verdict p None = IsTrue (is_taken verdict) → IsInstructionIn bytes p None

-- none of the first files shows one
abbrev pub NoneShownBefore : List (List ℕ) → List Verdict → ThrowPlace → (number : ℕ) → Type 0
NoneShownBefore files verdicts p number =
    (k : ℕ) (file : List ℕ) (verdict : Verdict) → k < number → slice_get files k ≡ Some file → slice_get verdicts k ≡ Some verdict
    → IsShownBy file verdict p None

-- the first file that shows one, with its verdict
pub record IsFirstShown (files : List (List ℕ)) (verdicts : List Verdict) (p : ThrowPlace) (text : List ℕ) : Type 0 where
  pub number : ℕ
  pub file : List ℕ
  pub found : slice_get files number ≡ Some file
  pub verdict : Verdict
  pub judged : slice_get verdicts number ≡ Some verdict
  pub shown : IsShownBy file verdict p (Some text)
  pub first : NoneShownBefore files verdicts p number

-- That of the first of files that shows one; none where none does.
abbrev pub IsShownAmong : List (List ℕ) → List Verdict → ThrowPlace → Option (List ℕ) → Type 0
IsShownAmong files verdicts p (Some text) = IsFirstShown files verdicts p text
IsShownAmong files verdicts p None = (number : ℕ) → NoneShownBefore files verdicts p number

-- at the place of a guest's last throw, where it has one
abbrev pub IsShownAt : List (List ℕ) → List Verdict → Option ThrowPlace → Option (List ℕ) → Type 0
IsShownAt files verdicts None text = text ≡ None
IsShownAt files verdicts (Some p) text = IsShownAmong files verdicts p text

abbrev pub IsInstructionOfThrow : (files : List (List ℕ)) → Observed → Option (List ℕ) → Type 0
IsInstructionOfThrow files o text = IsShownAt files o.verdicts o.place text
