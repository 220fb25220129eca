-- The verdicts on a guest's files (JVMS 4.10, 5.3), with the classes that the guest can name, and those of them that its host gives.
use Rattle.std.specs.Prelude.{◌≡◌, ℕ, ◌+◌, ◌<◌, false, List, length, Option, Some, None, slice_get, IsTrue}
use Rattle.std.specs.List.{All, Contains}
use Rattle.jv_class.specs.Class.{Class}
use Rattle.jv_meaning_world.specs.FileContent.{FileContent, AreContents}
use Rattle.jv_meaning_world.specs.declared.content.Content.TheVariants.{Holds}
use Rattle.jv_meaning_world.specs.Library.{IsLibrary, with_library}
use Rattle.jv_meaning_world.specs.Numbers.{HoldsAtNumber}
use Rattle.jv_meaning_world.specs.World.{HostClasses, Loaded, World, loaded, world_of}
use Rattle.jv_meaning_typing.specs.declared.verdict.Verdict.{Verdict}
use Rattle.jv_meaning_typing.specs.declared.verdict.Verdict.TheVariants.{Accepted}
use Rattle.jv_meaning_typing.specs.Judgement.{AreTyped, IsVerdictOfClass, IsVerdictOfFile}
use Rattle.jv_meaning_machine.specs.Alone.{Stands}

-- ---- the files of a guest

-- the classes that the guest can name; how many of them its host gives, which come first; and the verdict on each of the guest's files
pub record Verified : Type 0 where
  pub world : World
  pub host : ℕ
  pub verdicts : List Verdict

-- these are the verdicts on files that hold this, one for each, beside a library of these classes
pub record AreVerdicts (given : List Class) (contents : List FileContent) (verdicts : List Verdict) : Type 0 where
  pub count : length verdicts ≡ length contents
  pub verdict : (place : ℕ) (v : Verdict) → slice_get verdicts place ≡ Some v → IsVerdictOfFile (with_library given) contents place v

-- what is found of files that hold this, beside a library of these classes
pub record AreVerified (given : List Class) (contents : List FileContent) (verified : Verified) : Type 0 where
  pub world : verified.world ≡ world_of (with_library given) contents
  pub host : verified.host ≡ length (with_library given).system + length (with_library given).front
  pub verdicts : AreVerdicts given contents verified.verdicts

-- these files hold the classes, beside the library's, and the verdicts are on them
pub record AreFilesOf (library files : List (List ℕ)) (verified : Verified) : Type 0 where
  pub given : List Class
  pub gives : IsLibrary library given
  pub contents : List FileContent
  pub read : AreContents files contents
  pub found : AreVerified given contents verified

abbrev pub IsOfFiles : Verified → Type 0
IsOfFiles verified = (given : List Class) × (contents : List FileContent) × AreVerified given contents verified

-- each method with code of a class whose file is accepted has a typing
abbrev pub AcceptedAreTyped : List FileContent → Verified → Type 0
AcceptedAreTyped contents verified =
    (place : ℕ) (class : Class) → slice_get contents place ≡ Some (Holds class) → slice_get verified.verdicts place ≡ Some Accepted
    → AreTyped verified.world (loaded false class) class.methods

-- ---- the system's classes

-- a class of the world that is the system's
abbrev pub IsOfSystem : World → Loaded → Type 0
IsOfSystem world l = Contains world l × IsTrue l.by_system

-- each of them is accepted
abbrev pub IsSystemAccepted : World → Type 0
IsSystemAccepted world = (l : Loaded) → IsOfSystem world l → IsVerdictOfClass world l Accepted

-- each method with code of each of them has a typing
abbrev pub IsSystemTyped : World → Type 0
IsSystemTyped world = (l : Loaded) → IsOfSystem world l → AreTyped world l l.class.methods

-- ---- the classes that a host gives: the system's, and those in front of a guest's own

-- each of them is accepted, whatever library and files this was found of
abbrev pub HostStands : Verified → Type 0
HostStands verified =
    (given : List Class) (contents : List FileContent) → AreVerified given contents verified
    → Stands verified.world (with_library given)

-- each method with code of each of these has a typing
pub record AreHostTyped (world : World) (host : HostClasses) : Type 0 where
  pub system : IsSystemTyped world
  pub front : All (λ c. AreTyped world (loaded false c) c.methods) host.front

-- where they stand, each method with code of each of them has a typing
abbrev pub StandingAreTyped : Verified → Type 0
StandingAreTyped verified =
    (given : List Class) (contents : List FileContent) → AreVerified given contents verified
    → Stands verified.world (with_library given)
    → AreHostTyped verified.world (with_library given)

-- each class with a number below this one is accepted
abbrev pub AreAcceptedBelow : World → ℕ → Type 0
AreAcceptedBelow world number = (k : ℕ) → k < number → HoldsAtNumber world k (λ l. IsVerdictOfClass world l Accepted)

-- the class with this number is one that the host gives, this is its verdict, which isn't that it is accepted, and those before it are
pub record IsBroken (verified : Verified) (number : ℕ) (found : Verdict) : Type 0 where
  pub given : number < verified.host
  pub verdict : HoldsAtNumber verified.world number (λ l. IsVerdictOfClass verified.world l found)
  pub broken : found ≡ Accepted → ⊥
  pub before : AreAcceptedBelow verified.world number

-- the first class that the host gives that isn't accepted, by its number, and its verdict; none where each is accepted
abbrev pub IsFirstBroken : Verified → Option (ℕ × Verdict) → Type 0
IsFirstBroken verified None = HostStands verified
IsFirstBroken verified (Some found) = IsBroken verified found.0 found.1
