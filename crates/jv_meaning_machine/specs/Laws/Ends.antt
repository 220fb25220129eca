-- Laws of ends (own): a guest that has ended stays as it is.
use Rattle.std.specs.Prelude.{◌≡◌, ◌↔◌, ℕ, ◌+◌, List, [], Ok}
use Rattle.jv_meaning_machine.specs.State.{Program, State}
use Rattle.jv_meaning_machine.specs.State.End.{Running}
use Rattle.jv_meaning_machine.specs.Step.{step, after_steps}
use Rattle.jv_meaning_machine.specs.Start.{Budget}
use Rattle.jv_meaning_machine.specs.Alone.{GuestFiles, Judged, IsJudged, Feed, fed, alone}
use Rattle.jv_meaning_machine.specs.Laws.Feeds.{came_behind}

-- A state without frames, in which a guest has ended, stays.
abbrev pub EndedStays : Type 0
EndedStays = (program : Program) (s : State) → s.frames ≡ [] → step program s ≡ Ok s

-- It stays for any number of steps.
abbrev pub EndedStaysOver : Type 0
EndedStaysOver = (program : Program) (n : ℕ) (s : State) → s.frames ≡ [] → after_steps program n s ≡ Ok s

-- There is no frame exactly where the guest has ended.
abbrev pub EndFits : State → Type 0
EndFits s = (s.frames ≡ []) ↔ (s.control.end ≡ Running → ⊥)

-- A step leads from a state in which that is so to another one.
abbrev pub EndFitsBehind : Type 0
EndFitsBehind = (program : Program) (before later : State) → EndFits before → step program before ≡ Ok later → EndFits later

-- So it is in each state of a guest alone.
abbrev pub EndFitsAlone : Type 0
EndFitsAlone =
    (judged : Judged) (g : GuestFiles) (b : Budget) (feeds : List Feed) (n : ℕ) (s : State) → IsJudged g.library g.files judged
    → alone judged g b feeds n ≡ Ok s → EndFits s

-- A guest that has ended stays as it is, over any number of its own steps, but for the input that joins.
abbrev pub EndedGuestStays : Type 0
EndedGuestStays =
    (judged : Judged) (g : GuestFiles) (b : Budget) (feeds : List Feed) (n more : ℕ) (s : State) → IsJudged g.library g.files judged
    → alone judged g b feeds n ≡ Ok s → (s.control.end ≡ Running → ⊥)
    → alone judged g b feeds (n + more) ≡ Ok (fed (came_behind n more feeds) s)
