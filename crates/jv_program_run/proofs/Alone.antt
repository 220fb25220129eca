-- What the guests of a host that has run show is what they show alone.
use Rattle.std.proofs.Common.{◌≡◌, ◌≢◌, ℕ, zero, suc, ◌*◌, ◌<◌, Bool, false, cond, List, [], ◌∷◌, length, Option, Some, refl, sym, ap, subst, ◌∙◌, arith}
use Rattle.std.specs.Prelude.{map, slice_get, ◌||◌, Result, Ok, Err, IfOk, string_bytes}
use Rattle.std.specs.List.{list_any}
use Rattle.std.proofs.lemmas.List.{length-map}
use Rattle.jv_meaning_machine.specs.State.{End}
use Rattle.jv_meaning_machine.specs.State.End.{Running, Returned, Threw, NoMain}
use Rattle.jv_meaning_machine.specs.Start.{Budget}
use Rattle.jv_meaning_machine.specs.Alone.{Feed, GuestFiles}
use Rattle.jv_meaning_machine.specs.Observation.{Observed, Shows}
use Rattle.jv_meaning_machine.specs.Laws.Shown.{ShowsOneThing}
use Rattle.jv_host.specs.Started.{budget_of}
use Rattle.jv_host.specs.Host.{Admission, fed_bytes}
use Rattle.jv_host.specs.Calls.{IsShown, NoneRuns}
use Rattle.jv_program_run.specs.declared.settings.RunSettings.{RunSettings}
use Rattle.jv_program_run.specs.Feeding.{feeds_to}
use Rattle.jv_program_run.specs.Guests.{NamedGuest}
use Rattle.jv_program_run.specs.declared.brought.Brought.{Brought}
use Rattle.jv_program_base.specs.declared.outcome.Outcome.{Outcome}
use Rattle.jv_program_base.specs.Outcome.{raw_bytes}
use Rattle.jv_program_run.specs.Outcome.{AreAllowed, IsRunAlone, IsRunOutcome, IsToldOf, WereNeeded, tells_places}
use Rattle.jv_program_run.specs.Instruction.{IsInstructionOfThrow}
use Rattle.jv_program_run.specs.Json.{run_report}
use Rattle.jv_program_run.specs.Report.{Told, is_running, raw_output, run_status}
use Rattle.jv_program_run.specs.Inside.Brought.{named_guest_of}
use Rattle.jv_program_run.specs.Inside.Play.{AreReportsOn, HasRun, IsReportOn, at_start}
use Rattle.jv_program_run.specs.Inside.Turns.{HasPlayed, SomeWent}
use Rattle.jv_program_base.proofs.Places.{found_in_map, some_same, within}
use Rattle.jv_program_run.proofs.WhatWasRead.{count_of_bytes}

-- such a host has as many guests as were admitted
pub all_there : (s : RunSettings) (brought : List Brought) (before after : Option (List ℕ)) (host : List Admission) → HasRun s (map named_guest_of brought) before after host
    → length host ≡ length brought
all_there s brought before after host ran =
    ran.played.count ∙ ap length ran.started ∙ length-map (map named_guest_of brought) (at_start (budget_of s.budget)) ∙ length-map brought named_guest_of

some_in : (all : List Told) (place : ℕ) → place < length all → (t : Told) × (slice_get all place ≡ Some t)
some_in [] place lt = absurd (omega (arith, lt))
some_in (t ∷ all) zero lt = (t, refl)
some_in (t ∷ all) (suc place) lt = some_in all place (omega (arith, lt))

module _ (one : ShowsOneThing) where
  -- what a guest that had its turns since its start shows
  played_alone : (n turns : ℕ) (a : Admission) (o : Observed) → HasPlayed n turns a → Shows a.guest a.budget a.feeds a.steps o → IsRunAlone a.guest a.budget a.feeds n turns o
  played_alone n turns a o played shown = record {
    steps = a.steps;
    alone = shown;
    running = played.running;
    few = played.few;
    over = λ early.
        let over = played.over early in
        let same : over.0 ≡ o = one a.guest a.budget a.feeds a.steps over.0 o over.1 shown in
        subst (λ (x : Observed). x.end ≢ Running) same over.2;
    fed = played.fed;
  }

  pub shown_alone : (n turns : ℕ) (a : Admission) (o : Observed) (g : GuestFiles) (b : Budget) (feeds : List Feed) → a.guest ≡ g → a.budget ≡ b → a.feeds ≡ feeds
      → HasPlayed n turns a → Shows a.guest a.budget a.feeds a.steps o → IsRunAlone g b feeds n turns o
  shown_alone n turns a o g b feeds guest budget fed played shown =
      subst (λ (x : GuestFiles). IsRunAlone x b feeds n turns o) guest
      (subst (λ (x : Budget). IsRunAlone a.guest x feeds n turns o) budget
      (subst (λ (x : List Feed). IsRunAlone a.guest a.budget x n turns o) fed (played_alone n turns a o played shown)))

  -- what is told of the guests of a host that has run
  told : (s : RunSettings) (guests : List NamedGuest) (before after : Option (List ℕ)) (host : List Admission) (place : ℕ) (named : NamedGuest) (t : Told)
      (ran : HasRun s guests before after host) → slice_get guests place ≡ Some named → IsReportOn (tells_places s) guests host place t → IsToldOf s ran.feeds ran.rounds place named t
  told s guests before after host place named t ran found report =
      let b = budget_of s.budget in
      let same : report.named ≡ named = some_same report.named named (sym report.found ∙ found) in
      let start : slice_get ran.start place ≡ Some (at_start b named) =
      ap (λ (gs : List Admission). slice_get gs place) ran.started ∙ found_in_map (at_start b) guests place named found in
      let now = ran.played.each place (at_start b named) start in
      let a = report.is.shown.guest in
      let it : now.0 ≡ a = some_same now.0 a (sym now.1 ∙ report.is.shown.found) in
      let guest : a.guest ≡ named.guest = sym (ap (λ (x : Admission). x.guest) it) ∙ now.2.guest in
      let budget : a.budget ≡ b = sym (ap (λ (x : Admission). x.budget) it) ∙ now.2.budget in
      let played : HasPlayed s.quantum ran.rounds a = subst (λ (x : Admission). HasPlayed s.quantum ran.rounds x) it now.2.played in
      record {
        number = report.is.number;
        word = report.is.word ∙ ap (λ (x : NamedGuest). x.word) same;
        names = report.is.names ∙ ap (λ (x : NamedGuest). x.names) same;
        fits = λ some.
            let fed = ran.fed place a report.is.shown.found in
            let few = ran.fits place a report.is.shown.found (λ none. some (sym fed ∙ none)) in
            let brought : length a.guest.input ≡ length named.guest.input = ap (λ (g : GuestFiles). length g.input) guest in
            let came : fed_bytes a.feeds ≡ fed_bytes (feeds_to s.stdin ran.feeds place) = ap fed_bytes fed in
            let count = count_of_bytes (feeds_to s.stdin ran.feeds place) in
            omega (arith, few, brought, came, count);
        seen = shown_alone s.quantum ran.rounds a t.seen named.guest b (feeds_to s.stdin ran.feeds place) guest budget (ran.fed place a report.is.shown.found) played report.is.shown.alone;
        instruction = λ places.
            subst (λ (x : NamedGuest). IsInstructionOfThrow x.guest.files t.seen t.in_file.instruction) same (report.is.instruction places);
      }

  -- a guest that is over isn't told to run
  ended : (e : End) → e ≢ Running → is_running e ≡ false
  ended Running h = absurd (h refl)
  ended Returned h = refl
  ended (Threw name) h = refl
  ended NoMain h = refl

  is_over : (host : List Admission) (place : ℕ) (t : Told) → NoneRuns host → IsShown host place t.seen → is_running t.seen.end ≡ false
  is_over host place t none shown =
      let a = shown.guest in
      let over = none place a shown.found in
      let same : over.0 ≡ t.seen = one a.guest a.budget a.feeds a.steps over.0 t.seen over.1 shown.alone in
      ended t.seen.end (subst (λ (x : Observed). x.end ≢ Running) same over.2)

  none_told : (all : List Told) → ((place : ℕ) (t : Told) → slice_get all place ≡ Some t → is_running t.seen.end ≡ false) → list_any (λ t. is_running t.seen.end) all ≡ false
  none_told [] each = refl
  none_told (t ∷ all) each =
      ap (λ (b : Bool). b || list_any (λ t. is_running t.seen.end) all) (each 0 t refl)
      ∙ none_told all (λ place other found. each (suc place) other found)

  -- a guest that took more steps is told to have taken more
  told_at : (n before : ℕ) (places : Bool) (guests : List NamedGuest) (host : List Admission) (count : ℕ) (all : List Told) → AreReportsOn places guests host count all
      → length host ≡ count → (place : ℕ) (a : Admission) → slice_get host place ≡ Some a → n * before < a.steps → WereNeeded n (suc before) all
  told_at n before places guests host count all reports same place a found least =
      let there : place < length host = within host place a found in
      let many = reports.many in
      let it = some_in all place (omega (arith, there, many, same)) in
      let shown = (reports.each place it.0 it.1).is.shown in
      let who : shown.guest ≡ a = some_same shown.guest a (sym shown.found ∙ found) in
      let steps : it.0.seen.steps ≡ shown.guest.steps = ap (λ (o : Observed). o.steps) shown.alone.shown in
      let taken : shown.guest.steps ≡ a.steps = ap (λ (x : Admission). x.steps) who in
      (place, it.0, it.1, omega (arith, least, steps, taken))

  were_needed : (n rounds : ℕ) (places : Bool) (guests : List NamedGuest) (host : List Admission) (count : ℕ) (all : List Told) → AreReportsOn places guests host count all
      → length host ≡ count → SomeWent n rounds host → WereNeeded n rounds all
  were_needed n zero places guests host count all reports same went = tt
  were_needed n (suc before) places guests host count all reports same went = told_at n before places guests host count all reports same went.0 went.1 went.2 went.3

  -- what is said of the guests of such a host
  pub said : {E : Type 0} (s : RunSettings) (brought : List Brought) (host : List Admission) (all : List Told)
      → AreAllowed (budget_of s.budget) (map named_guest_of brought) (length brought) → AreReportsOn (tells_places s) (map named_guest_of brought) host (length brought) all
      → {lent : List Told} → lent ≡ all → (result : Result Outcome E) → IfOk result (λ outcome. string_bytes outcome.report ≡ run_report s.json s.places lent)
      → IfOk result (λ outcome. raw_bytes outcome ≡ raw_output s.raw lent) → IfOk result (λ outcome. outcome.status ≡ run_status lent)
      → IfOk result (λ outcome. (before after : Option (List ℕ)) → HasRun s (map named_guest_of brought) before after host
      → IsRunOutcome s (map named_guest_of brought) before after outcome)
  said s brought host all allowed reports same (Err e) report raw status = tt
  said s brought host all allowed reports same (Ok outcome) report raw status = λ before after ran. record {
    allowed =
        subst (λ (k : ℕ). AreAllowed (budget_of s.budget) (map named_guest_of brought) k) (sym (length-map brought named_guest_of)) allowed;
    rounds = ran.rounds;
    most = ran.most;
    feeds = ran.feeds;
    input = ran.input;
    told = all;
    count = reports.many ∙ sym (length-map brought named_guest_of);
    each = λ place named t found there. told s (map named_guest_of brought) before after host place named t ran found (reports.each place t there);
    full = λ early.
        ap (λ (b : Bool). cond b 5 0)
        (none_told all (λ place t found. is_over host place t (ran.full early) (reports.each place t found).is.shown));
    needed = λ some.
        were_needed s.quantum ran.rounds (tells_places s) (map named_guest_of brought) host (length brought) all reports (all_there s brought before after host ran) (ran.needed some);
    report = subst (λ (ts : List Told). string_bytes outcome.report ≡ run_report s.json s.places ts) same report;
    raw = subst (λ (ts : List Told). raw_bytes outcome ≡ raw_output s.raw ts) same raw;
    status = subst (λ (ts : List Told). outcome.status ≡ run_status ts) same status;
  }
