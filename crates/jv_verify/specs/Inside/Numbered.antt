-- The numbers of the classes of a guest's files (JVMS 5.3), and the verdicts on the files one by one.
use Rattle.std.specs.Prelude.{◌≡◌, ℕ, ◌+◌, Bool, true, false, List, length, take, Option, Some, None, slice_get, if◌then◌else◌}
use Rattle.jv_class.specs.Class.{Class}
use Rattle.jv_meaning_world.specs.FileContent.{FileContent}
use Rattle.jv_meaning_world.specs.Library.{with_library}
use Rattle.jv_meaning_world.specs.declared.verdict.LoadVerdict.{LoadVerdict}
use Rattle.jv_meaning_world.specs.declared.verdict.LoadVerdict.TheVariants.{Version, Format, Unsupported, Reserved, Duplicate}
use Rattle.jv_meaning_world.specs.World.{HostClasses, World, classes_in}
use Rattle.jv_meaning_world.specs.Numbers.{HoldsAtNumber}
use Rattle.jv_meaning_typing.specs.declared.verdict.Verdict.{Verdict}
use Rattle.jv_meaning_typing.specs.declared.verdict.Verdict.TheVariants as verdicts
use Rattle.jv_meaning_typing.specs.Judgement.{IsVerdictOfMethods, IsVerdictOfFile}
use Rattle.jv_loader.specs.Loading.{Loading, AreLoaded}
use Rattle.jv_verify.specs.Files.{AreVerdicts}

-- the class of a file is one of the world's, where this is wrong with the file before its methods are looked at
abbrev pub joins : Option LoadVerdict → Bool
joins (Some Version) = false
joins (Some Format) = false
joins (Some Unsupported) = false
joins (Some Reserved) = false
joins (Some Duplicate) = false
joins _ = true

-- the number of the next file's class
abbrev pub next_number : ℕ → Option LoadVerdict → ℕ
next_number number why = if joins why then number + 1 else number

-- the number of the class of the file behind these, behind the classes that a host gives
abbrev pub number_behind : HostClasses → List FileContent → ℕ
number_behind host earlier = length host.system + length (classes_in host earlier)

-- the verdict on a file whose class has this number
abbrev pub IsVerdictAt : World → ℕ → Option LoadVerdict → Verdict → Type 0
IsVerdictAt world number (Some why) verdict = verdict ≡ verdicts.Refused why
IsVerdictAt world number None verdict = HoldsAtNumber world number (λ l. IsVerdictOfMethods world l verdict)

-- the verdicts on the first files, and the number of the next one's class
pub record AreVerdictsBelow (given : List Class) (contents : List FileContent) (below next : ℕ) (verdicts : List Verdict) : Type 0 where
  pub number : next ≡ number_behind (with_library given) (take below contents)
  pub count : length verdicts ≡ below
  pub verdict : (place : ℕ) (v : Verdict) → slice_get verdicts place ≡ Some v → IsVerdictOfFile (with_library given) contents place v

-- the verdicts on the files that classes were loaded from
abbrev pub AreVerdictsOn : Loading → List Verdict → Type 0
AreVerdictsOn classes verdicts =
    (library files : List (List ℕ)) (are : AreLoaded library files classes) → AreVerdicts are.given are.contents verdicts

-- these classes were loaded behind those of a library
abbrev pub AreOfLibrary : Loading → Type 0
AreOfLibrary classes = (library : List (List ℕ)) × (files : List (List ℕ)) × AreLoaded library files classes
