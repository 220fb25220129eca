use Rattle.std.proofs.Common.{◌≡◌, Some, List, slice_get, sym, subst}
use Rattle.jv_host.specs.Host.{Admission}
use Rattle.jv_host.specs.Faultless.{NeverFaults}
use Rattle.jv_host.specs.Inside.Holding.{admission_of}
use Rattle.jv_host.proofs.Places.{item_of_image}
use Rattle.jv_host.proofs.Faultless.{never_faults}
use Rattle.jv_host.proofs.host.Host.no_guest_faults.Goals as goal

pub returns : goal.returns
returns g c = λ id a e.
    let there =
    item_of_image admission_of c.self.inside.guests.items id a
    (subst (λ (l : List Admission). slice_get l id ≡ Some a) (sym c.self.view_is) e) in
    let stands = (c.self.invariant.each id there.0 there.1).stands in
    subst NeverFaults there.2 (never_faults c.one_judged.ensures c.never_faults.ensures (admission_of there.0) stands.judged stands.right stands.library_stands)
