-- Laws of what a guest shows (own): it is one thing.
use Rattle.std.specs.Prelude.{◌≡◌, ℕ, ◌+◌, ◌≤◌, List, [], length, Some, None, slice_get}
use Rattle.jv_class.specs.Class.{Class}
use Rattle.jv_meaning_world.specs.FileContent.{FileContent, AreContents}
use Rattle.jv_meaning_world.specs.Library.{IsLibrary, with_library}
use Rattle.jv_meaning_typing.specs.declared.verdict.Verdict.{Verdict}
use Rattle.jv_meaning_typing.specs.Judgement.{IsVerdictOfFile}
use Rattle.jv_meaning_machine.specs.State.End.{Running, NoMain}
use Rattle.jv_meaning_machine.specs.Start.{Budget}
use Rattle.jv_meaning_machine.specs.Alone.{GuestFiles, Judged, IsJudged, Feed}
use Rattle.jv_meaning_machine.specs.Observation.{Observed, Shows, FaultsWithin}
use Rattle.jv_meaning_machine.specs.Laws.Kept.{BeginsWith}

-- What is to be found of files is one thing: their classes, the verdict on each, the instructions of code and the units of texts.
abbrev pub OneJudged : Type 0
OneJudged =
    (library files : List (List ℕ)) (one other : Judged) → IsJudged library files one → IsJudged library files other → one ≡ other

-- Where files are a library, a guest's have contents, and each content a verdict, there is something to be found of them.
abbrev pub JudgedByVerdicts : Type 0
JudgedByVerdicts =
    (library files : List (List ℕ)) (given : List Class) (contents : List FileContent) (verdicts : List Verdict)
    → IsLibrary library given → AreContents files contents → length verdicts ≡ length contents
    → ((place : ℕ) (verdict : Verdict) → slice_get verdicts place ≡ Some verdict
    → IsVerdictOfFile (with_library given) contents place verdict)
    → (judged : Judged) × IsJudged library files judged × (judged.verdicts ≡ verdicts)

-- What a guest without files shows where there is no library: there is no main method.
abbrev pub ShowsNoMain : Type 0
ShowsNoMain =
    (main input : List ℕ) (b : Budget) (feeds : List Feed) (n : ℕ)
    → Shows (record { library = []; files = []; main = main; input = input }) b feeds n
    (record { verdicts = []; steps = n; output = []; throws = 0; last = None; place = None; end = NoMain })

-- What a guest shows alone after so many of its own steps is one thing.
abbrev pub ShowsOneThing : Type 0
ShowsOneThing =
    (g : GuestFiles) (b : Budget) (feeds : List Feed) (n : ℕ) (one other : Observed) → Shows g b feeds n one → Shows g b feeds n other
    → one ≡ other

-- Where its machine meets a fault within these steps, it shows nothing.
abbrev pub FaultsShowNothing : Type 0
FaultsShowNothing =
    (g : GuestFiles) (b : Budget) (feeds : List Feed) (n : ℕ) (o : Observed) → FaultsWithin g b feeds n → Shows g b feeds n o → ⊥

-- Once it shows an end, it shows the same after any more steps, but for their number, whatever it is fed.
abbrev pub EndedShowsTheSame : Type 0
EndedShowsTheSame =
    (g : GuestFiles) (b : Budget) (feeds : List Feed) (n more : ℕ) (o : Observed) → Shows g b feeds n o → (o.end ≡ Running → ⊥)
    → Shows g b feeds (n + more) (record o { steps = n + more })

-- A fault within some number of steps is one within any greater number.
abbrev pub FaultsStay : Type 0
FaultsStay =
    (g : GuestFiles) (b : Budget) (feeds : List Feed) (n more : ℕ) → FaultsWithin g b feeds n → FaultsWithin g b feeds (n + more)

-- What it shows later it has shown the front of: it showed something after fewer steps, what it wrote stands at the front of
-- what it wrote later, and it threw no more.
pub record ShowedBefore (g : GuestFiles) (b : Budget) (feeds : List Feed) (n : ℕ) (later : Observed) : Type 0 where
  pub earlier : Observed
  pub shows : Shows g b feeds n earlier
  pub verdicts : later.verdicts ≡ earlier.verdicts
  pub output : BeginsWith later.output earlier.output
  pub throws : earlier.throws ≤ later.throws

abbrev pub ShowsMore : Type 0
ShowsMore =
    (g : GuestFiles) (b : Budget) (feeds : List Feed) (n more : ℕ) (o : Observed) → Shows g b feeds (n + more) o
    → ShowedBefore g b feeds n o
