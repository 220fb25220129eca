use Rattle.std.proofs.Common.{◌≡◌, Bool, Some, None, List, length, ◌≤◌, slice_get, sym, ap, subst, ◌∙◌}
use Rattle.jv_interp.specs.Showing.{IsAnswered}
use Rattle.jv_host.specs.declared.admission.Admitted.{Admitted}
use Rattle.jv_host.specs.Host.{Admission, IsOverAfter}
use Rattle.jv_host.specs.Inside.Holding.{admission_of}
use Rattle.jv_host.proofs.Places.{item_at, item_of_map, none_of_map}
use Rattle.jv_host.proofs.RunsNow.{runs_now, over_now}
use Rattle.jv_host.proofs.host.Host.is_running.Goals as goal

pub returns-in-Some-clause-running : goal.returns-in-Some-clause-running
returns-in-Some-clause-running g c = λ is.
    let at = c.in-Some.ensures.lookup.3 in
    let a = c.in-Some.admitted.now in
    let found =
    sym (ap (λ (l : List Admitted). slice_get l c.args.id) c.deref.ensures.value) ∙ item_at c.deref.result.now c.args.id a at.0 (at.1 a) in (
      admission_of a,
      subst (λ (l : List Admission). slice_get l c.args.id ≡ Some (admission_of a)) c.self.view_is
          (item_of_map admission_of c.self.inside.guests.items c.args.id a found),
      runs_now a (c.self.invariant.addresses c.args.id) (g.S.Store.content c.self.inside.store) (c.self.invariant.each c.args.id a found)
          (subst (λ (b : Bool). IsAnswered a.guest b) is c.is_running.ensures),
    )

pub returns-in-Some-clause-over : goal.returns-in-Some-clause-over
returns-in-Some-clause-over g c = λ is b e.
    let at = c.in-Some.ensures.lookup.3 in
    let a = c.in-Some.admitted.now in
    let found =
    sym (ap (λ (l : List Admitted). slice_get l c.args.id) c.deref.ensures.value) ∙ item_at c.deref.result.now c.args.id a at.0 (at.1 a) in
    let there =
    subst (λ (l : List Admission). slice_get l c.args.id ≡ Some (admission_of a)) c.self.view_is
    (item_of_map admission_of c.self.inside.guests.items c.args.id a found) in
    let same : admission_of a ≡ b = cc in
    subst (λ (x : Admission). IsOverAfter x x.steps) same
    (over_now a (c.self.invariant.addresses c.args.id) (g.S.Store.content c.self.inside.store) (c.self.invariant.each c.args.id a found)
    (subst (λ (b : Bool). IsAnswered a.guest b) is c.is_running.ensures))

pub returns-in-None-clause-over : goal.returns-in-None-clause-over
returns-in-None-clause-over g c = λ is b e.
    let none =
    subst (λ (l : List Admission). slice_get l c.args.id ≡ None) c.self.view_is
    (none_of_map admission_of c.self.inside.guests.items c.args.id
    (subst (λ (l : List Admitted). length l ≤ c.args.id) c.deref.ensures.value c.in-None.ensures.lookup.3)) in
    absurd cc
