-- A guest has no frame exactly where it has ended.
use Rattle.std.proofs.Common.{◌≡◌, ℕ, zero, suc, ◌+◌, add-zero, add-suc, false, List, [], Option, Some, None, Ok, refl, sym, ap, subst, ◌∙◌, codes, if◌then◌else◌}
use Rattle.jv_meaning_world.specs.World.{World, class_named}
use Rattle.jv_meaning_world.specs.Overriding.{Declared}
use Rattle.jv_meaning_machine.specs.Faults.{OrFault, found, ◌>>=◌}
use Rattle.jv_meaning_machine.specs.Faults.Fault.{ReferenceFault}
use Rattle.jv_meaning_machine.specs.Frames.{Frame}
use Rattle.jv_meaning_machine.specs.State.{Program, Memory, State, state_of, ClassState, ClassStates, class_state}
use Rattle.jv_meaning_machine.specs.State.ClassState.{Untouched, Initialized}
use Rattle.jv_meaning_machine.specs.State.End.{Running, NoMain}
use Rattle.jv_meaning_machine.specs.Initialization.{main_method, is_verified}
use Rattle.jv_meaning_machine.specs.Start.{Budget, start_memory, start_control, start_with, start}
use Rattle.jv_meaning_machine.specs.Alone.{GuestFiles, Judged, IsJudged, Feed, came_at, fed, alone}
use Rattle.jv_meaning_machine.specs.Step.{step}
use Rattle.jv_meaning_machine.specs.Laws.Feeds.{came_behind}
use Rattle.jv_meaning_machine.specs.Laws.Ends.{EndFitsBehind, EndFitsAlone, EndedGuestStays}
use Rattle.jv_meaning_machine.proofs.Leading.{Leads, leaf, bound}
use Rattle.jv_meaning_machine.proofs.Fed.{alone_keeps, fed_nothing, fed_both}
use Rattle.jv_meaning_machine.proofs.Began.{begun_in}
use Rattle.jv_meaning_machine.proofs.Ended.{ended_stays}
use Rattle.jv_meaning_machine.proofs.Mains.{main_is_its_own}
use Rattle.jv_meaning_machine.proofs.Going.{IsKept, Went, ends, begin_first_goes, step_goes}

-- ---- the start, where what is kept holds before anything is done

-- a main method is one of the guest's own classes
abbrev MainIsOwn : World → List ℕ → Type 0
MainIsOwn world main = (d : Declared) → main_method world main ≡ Some d → d.by.by_system ≡ false

module _ (G : ClassStates → ℕ → List Frame → Type 0) (kept : IsKept G) (first : G [] 0 []) where
  start_with_goes :
      (program :
      Program) (main : List ℕ) (b : Budget) (memory : Memory) (o : Option Declared) → ((d : Declared) → o ≡ Some d
      → d.by.by_system ≡ false)
      → Leads State (Went G kept) (start_with program main b memory o)
  start_with_goes program main b memory None own =
      leaf (Went G kept) (state_of memory [] (start_control main b NoMain))
      (ends G kept memory (start_control main b Running) NoMain (λ e. absurd cc) (record { running = refl; holds = first }))
  start_with_goes program main b memory (Some d) own =
      let untouched : class_state [] d.by ≡ Untouched = ap (λ by_system. if by_system then Initialized else Untouched) (own d refl) in
      subst (λ (state : ClassState). Leads State (Went G kept) (begun_in program memory [] (start_control main b Running) d.by state))
      (sym untouched)
      (begin_first_goes G kept program memory [] (start_control main b Running) d.by (is_verified program d.by) untouched
      (record { running = refl; holds = first }))

  start_goes :
      (program : Program) (main input : List ℕ) (b : Budget) → MainIsOwn program.world main
      → Leads State (Went G kept) (start program main input b)
  start_goes program main input b own =
      bound (found ReferenceFault (class_named program.world (codes "java/lang/OutOfMemoryError")))
      (λ error. start_with program main b (start_memory program.world input b error) (main_method program.world main))
      (λ error e. start_with_goes program main b (start_memory program.world input b error) (main_method program.world main) own)

  pub alone_goes :
      (judged : Judged) (g : GuestFiles) (b : Budget) (feeds : List Feed) (n : ℕ) (s : State) → IsJudged g.library g.files judged
      → alone judged g b feeds n ≡ Ok s → Went G kept s
  alone_goes judged g b feeds n s right e =
      (alone_keeps judged g b feeds (Went G kept) (λ s t h f. step_goes G kept judged.program s t h f) (λ bytes s h. h)
      (start_goes judged.program g.main g.input b own) n).at
      s e
    where
      own : MainIsOwn judged.program.world g.main
      own d f =
          (main_is_its_own g.library right.given right.contents g.main d right.gives
          (subst (λ (w : World). main_method w g.main ≡ Some d) right.world f)).0

-- ---- the laws

abbrev Nothing : ClassStates → ℕ → List Frame → Type 0
Nothing states throws frames = Unit {0}

nothing_kept : IsKept Nothing
nothing_kept = record {
  throws = λ states throws frames h. tt;
  enters = λ states throws frames frame h. tt;
  leaves = λ states throws frames frame h. tt;
  begins = λ states throws frames l tasks e h. tt;
  goes_on = λ states throws frames frame tasks h. tt;
  finishes = λ states throws frames frame h. tt;
  fails = λ states throws frames frame h. tt;
}

pub end_fits_behind : EndFitsBehind
end_fits_behind program before later h e = (step_goes Nothing nothing_kept program before later (h, tt) e).0

pub end_fits_alone : EndFitsAlone
end_fits_alone judged g b feeds n s right e = (alone_goes Nothing nothing_kept tt judged g b feeds n s right e).0

abbrev given : State → OrFault State
given s = Ok s

-- an ended state is fed, and stays but for that
pub stays_fed :
    (judged : Judged) (g : GuestFiles) (b : Budget) (feeds : List Feed) (n more : ℕ) (s : State) → alone judged g b feeds n ≡ Ok s
    → s.frames ≡ [] → alone judged g b feeds (n + more) ≡ Ok (fed (came_behind n more feeds) s)
stays_fed judged g b feeds n zero s e empty =
    ap (λ (k : ℕ). alone judged g b feeds k) (add-zero n) ∙ e ∙ ap (λ (t : State). given t) (sym (fed_nothing s))
stays_fed judged g b feeds n (suc more) s e empty =
    ap (λ (k : ℕ). alone judged g b feeds k) (add-suc n more)
    ∙ ap (λ (o : OrFault State). o >>= step judged.program >>= λ t. Ok (fed (came_at (suc (n + more)) feeds) t))
    (stays_fed judged g b feeds n more s e empty)
    ∙ ap (λ (o : OrFault State). o >>= λ t. Ok (fed (came_at (suc (n + more)) feeds) t))
    (ended_stays judged.program (fed (came_behind n more feeds) s) empty)
    ∙ ap (λ (t : State). given t) (fed_both (came_behind n more feeds) (came_at (suc (n + more)) feeds) s)

pub ended_guest_stays : EndedGuestStays
ended_guest_stays judged g b feeds n more s right e ended =
    stays_fed judged g b feeds n more s e ((end_fits_alone judged g b feeds n s right e).1 ended)
