-- Which classes of a guest were accepted together with all classes and interfaces above them (JVMS 4.10, 5.4.1), by their numbers: as the
-- verdicts on the guest's files tell it.
use Rattle.std.specs.Prelude.{◌≡◌, ℕ, Bool, true, false, not, ◌&&◌, ◌||◌, ◌+◌, ◌<◌, List, ◌++◌, length, replicate, Option, Some, None, slice_get}
use Rattle.std.specs.List.{filter_map, list_all}
use Rattle.jv_meaning_world.specs.declared.verdict.LoadVerdict.TheVariants.{Version, Format, Unsupported, Reserved, Duplicate}
use Rattle.jv_meaning_world.specs.Library.{with_library}
use Rattle.jv_meaning_world.specs.World.{Loaded, World}
use Rattle.jv_meaning_world.specs.Above.{above, is_above}
use Rattle.jv_meaning_typing.specs.declared.verdict.Verdict.{Verdict}
use Rattle.jv_meaning_typing.specs.declared.verdict.Verdict.TheVariants as verdicts
use Rattle.jv_meaning_machine.specs.Alone.{Judged, IsJudged}
use Rattle.jv_verify.specs.Files.{Verified}
use Rattle.jv_interp_control.specs.Moves.{AreVerified}

-- ---- from verdicts

-- Whether the class of a file with a verdict was accepted, where it is one of the world's: with these five verdicts it isn't (own).
abbrev pub class_accepted : Verdict → Option Bool
class_accepted (verdicts.Refused Version) = None
class_accepted (verdicts.Refused Format) = None
class_accepted (verdicts.Refused Unsupported) = None
class_accepted (verdicts.Refused Reserved) = None
class_accepted (verdicts.Refused Duplicate) = None
class_accepted verdicts.Accepted = Some true
class_accepted _ = Some false

-- of each class of the world: so many that the host gives stand first, and all of them were; behind them stand those of the files, in their
-- order
abbrev pub accepted_by : (host : ℕ) → List Verdict → List Bool
accepted_by host all = replicate host true ++ filter_map class_accepted all

-- ---- what is told of classes

-- what a test says of each class of a world, by the class's number
abbrev pub TellsEach : World → List Bool → (Loaded → Bool) → Type 0
TellsEach world flags test = (number : ℕ) (l : Loaded) → slice_get world number ≡ Some l → slice_get flags number ≡ Some (test l)

-- flags tell true of each of the first ones
abbrev pub AreToldBefore : List Bool → ℕ → Type 0
AreToldBefore flags count = (number : ℕ) (told : Bool) → number < count → slice_get flags number ≡ Some told → told ≡ true

-- a test that is passed by a class, where that is above another one
abbrev pub holds_if_above : World → (Loaded → Bool) → Loaded → Loaded → Bool
holds_if_above world test l to = not (is_above world to.class.name l.class) || test to

-- a test that is passed by a class and all classes and interfaces above it
abbrev pub holds_with_above : World → (Loaded → Bool) → Loaded → Bool
holds_with_above world test l = test l && list_all test (above world l.class)

-- whatever test the flags tell of, these tell of it together with all that is above
abbrev pub TellWithAbove : World → List Bool → List Bool → Type 0
TellWithAbove world flags all = (test : Loaded → Bool) → TellsEach world flags test → TellsEach world all (holds_with_above world test)

-- ---- of guests

-- Of each guest that has these classes and these verdicts, the machine takes a class for verified exactly where this is told (5.4.1).
abbrev pub AreVerifiedClasses : Verified → List Bool → Type 0
AreVerifiedClasses found all =
    (library files : List (List ℕ)) (judged : Judged) (right : IsJudged library files judged) → judged.program.world ≡ found.world
    → judged.verdicts ≡ found.verdicts
    → found.host ≡ length (with_library right.given).system + length (with_library right.given).front → AreVerified judged.program all
