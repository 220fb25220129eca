-- What two hosts show of guests that are alike.
use Rattle.std.proofs.Common.{◌≡◌, ℕ, List, Some, subst}
use Rattle.std.specs.Prelude.{slice_get}
use Rattle.jv_meaning_machine.specs.Start.{Budget}
use Rattle.jv_meaning_machine.specs.Alone.{GuestFiles}
use Rattle.jv_meaning_machine.specs.Observation.{Observed, Shows}
use Rattle.jv_meaning_machine.specs.Laws.Shown.{ShowsOneThing}
use Rattle.jv_meaning_machine.specs.Laws.Feeds.{SameBytesShowTheSame}
use Rattle.jv_host.specs.Host.{Admission}
use Rattle.jv_host.specs.Calls.{IsShown}
use Rattle.jv_host.specs.Worlds.{TwoWorlds}

-- what is shown of a guest, it shows alone
shown_alone :
    (guests : List Admission) (id : ℕ) (a : Admission) (o : Observed) → slice_get guests id ≡ Some a → IsShown guests id o
    → Shows a.guest a.budget a.feeds a.steps o
shown_alone guests id a o found h =
    let there = h.found in
    let same : h.guest ≡ a = cc in
    subst (λ (x : Admission). Shows x.guest x.budget x.feeds x.steps o) same h.alone

pub two_worlds : SameBytesShowTheSame → ShowsOneThing → TwoWorlds
two_worlds same one_thing one other id place a b o p found there alike h k =
    one_thing b.guest b.budget b.feeds b.steps o p
    (subst (λ (n : ℕ). Shows b.guest b.budget b.feeds n o) alike.steps
    (subst (λ (u : Budget). Shows b.guest u b.feeds a.steps o) alike.budget
    (subst (λ (g : GuestFiles). Shows g a.budget b.feeds a.steps o) alike.guest
    (same a.guest a.budget a.feeds b.feeds a.steps o alike.fed (shown_alone one id a o found h)))))
    (shown_alone other place b p there k)
