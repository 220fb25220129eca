-- What a job does to what a handle holds.
use Rattle.std.specs.Prelude.{◌≡◌, ℕ, ◌⊎◌, List, map, take, drop}
use Rattle.jv_limits.specs.Bytes.{bytes_of}
use Rattle.jv_meaning_machine.specs.State.{ThrowPlace}
use Rattle.jv_meaning_machine.specs.Start.{Budget}
use Rattle.jv_meaning_machine.specs.Alone.{GuestFiles}
use Rattle.jv_host.specs.Host.{Admission}
use Rattle.libjvhost.specs.Codes.{ok, host_memory, library_broken}
use Rattle.libjvhost.specs.Told.{AreNumbers, IsPlaceTold, budget_told, files_told, place_names, told_verdict}
use Rattle.libjvhost.specs.Calls.{Admits, Turns, Runs, Feeds, Observes, Copies, Places, TellsVerdict, end_class, last_class}
use Rattle.libjvhost.specs.Calls.{IsAdmitAnswer, IsBrokenBeside, IsCheckAnswer, IsJudged, StandsBeside}
use Rattle.libjvhost.specs.declared.jobs.Job.{Job}
use Rattle.libjvhost.specs.declared.jobs.Job.TheVariants as jobs
use Rattle.libjvhost.specs.declared.done.Done.{Done}

-- the place of the last throw in numbers, and its names
abbrev pub IsPlaceIn : Done → ThrowPlace → Type 0
IsPlaceIn done p = IsPlaceTold done.place p × (done.bytes.items ≡ place_names p)

-- verdicts, beside a library of these files
abbrev pub AreToldBeside : (library files : List (List ℕ)) → Done → Type 0
AreToldBeside library files done = StandsBeside library files (λ found. done.verdicts.items ≡ map told_verdict found.verdicts)

-- the same, or the library doesn't stand, or memory was refused
pub record VerifiesSo (library files : List (List ℕ)) (done : Done) : Type 0 where
  pub answer : (done.code ≡ ok) ⊎ (done.code ≡ host_memory) ⊎ ((done.code ≡ library_broken) × IsBrokenBeside library files)
  pub told : done.code ≡ ok → AreToldBeside library files done

-- the same of files that may be refused
pub record ChecksSo (library files : List (List ℕ)) (room : ℕ) (done : Done) : Type 0 where
  pub answer : IsCheckAnswer library files room done.code
  pub told : done.code ≡ ok → AreToldBeside library files done

-- what a guest that was alone in a host shows, with so many of its bytes, or why there is none
pub record JudgesSo (g : GuestFiles) (b : Budget) (n room : ℕ) (done : Done) : Type 0 where
  pub answer : IsAdmitAnswer g b 0 done.code
  pub judged : done.code ≡ ok → IsJudged g b n (λ o. AreNumbers done.seen o × (done.bytes.items ≡ take room o.output))

abbrev pub Does : Job → (library : List (List ℕ)) → (old new : List Admission) → Done → Type 0
Does (jobs.Admit guest) library old new done = Admits (files_told library guest) (budget_told guest) old new done.code done.number
Does (jobs.Turn id n) library old new done = Turns id.0 n old new done.code done.number
Does (jobs.Run n rounds) library old new done = Runs n rounds old new done.code done.number
Does (jobs.Feed id bytes) library old new done = Feeds id.0 bytes.now old new done.code
Does (jobs.Observe id) library old new done = Observes id.0 old new done.code (AreNumbers done.seen)
Does (jobs.Output id from most) library old new done =
    Copies id.0 old new done.code (λ o. done.bytes.items ≡ take most (drop from o.output))
Does (jobs.Last id) library old new done = Copies id.0 old new done.code (λ o. done.bytes.items ≡ last_class o.last)
Does (jobs.EndClass id) library old new done = Copies id.0 old new done.code (λ o. done.bytes.items ≡ end_class o.end)
Does (jobs.Verdict id file) library old new done = TellsVerdict id.0 file old new done.code done.verdict
Does (jobs.Place id) library old new done = Places id.0 old new done.code (IsPlaceIn done)
Does (jobs.Check files room) library old new done = (new ≡ old) × ChecksSo library (map bytes_of files.now) room done
Does (jobs.Judge guest n room) library old new done =
    (new ≡ old) × JudgesSo (files_told library guest) (budget_told guest) n room done
