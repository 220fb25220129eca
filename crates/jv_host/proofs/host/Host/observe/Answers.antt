use Rattle.std.proofs.Common.{◌≡◌, Some, None, List, map, length, ◌≤◌, slice_get, refl, sym, ap, subst, ◌∙◌}
use Rattle.jv_interp.specs.Started.{budget_of}
use Rattle.jv_host.specs.declared.admission.Admitted.{Admitted}
use Rattle.jv_host.specs.Files.{guest_of}
use Rattle.jv_host.specs.Host.{Admission}
use Rattle.jv_host.specs.Inside.Holding.{feed_of, admission_of}
use Rattle.jv_host.proofs.Places.{item_at, item_of_map, none_of_map}
use Rattle.jv_host.proofs.host.Host.observe.Goals as goal

pub observe-requires : goal.observe-requires
observe-requires g c =
    let at = c.in-Some.ensures.lookup.3 in
    let a = c.in-Some.admitted.now in
    let found =
    sym (ap (λ (l : List Admitted). slice_get l c.args.id.0) c.deref.ensures.value) ∙ item_at c.deref.result.now c.args.id.0 a at.0 (at.1 a) in (
      g.S.Store.content c.self.inside.store,
      record {
        g = guest_of a.files;
        b = budget_of a.budget;
        feeds = map feed_of a.feeds.items;
        n = a.guest.steps;
        addresses = c.self.invariant.addresses c.args.id.0;
        stands = (c.self.invariant.each c.args.id.0 a found).stands;
      },
    )

pub returns-in-Some-clause-ok : goal.returns-in-Some-clause-ok
returns-in-Some-clause-ok g c =
    let at = c.in-Some.ensures.lookup.3 in
    let a = c.in-Some.admitted.now in
    let found =
    sym (ap (λ (l : List Admitted). slice_get l c.args.id.0) c.deref.ensures.value) ∙ item_at c.deref.result.now c.args.id.0 a at.0 (at.1 a) in
    record {
      guest = admission_of a;
      found = subst (λ (l : List Admission). slice_get l c.args.id.0 ≡ Some (admission_of a)) c.self.view_is (item_of_map admission_of c.self.inside.guests.items c.args.id.0 a found);
      alone =
          c.observe.ensures (guest_of a.files) (budget_of a.budget) (map feed_of a.feeds.items) a.guest.steps (c.self.invariant.addresses c.args.id.0)
          (g.S.Store.content c.self.inside.store) (c.self.invariant.each c.args.id.0 a found).stands;
    }

pub returns-in-Some-clause-no_guest : goal.returns-in-Some-clause-no_guest
returns-in-Some-clause-no_guest g c =
    let at = c.in-Some.ensures.lookup.3 in
    let a = c.in-Some.admitted.now in
    let found =
    sym (ap (λ (l : List Admitted). slice_get l c.args.id.0) c.deref.ensures.value) ∙ item_at c.deref.result.now c.args.id.0 a at.0 (at.1 a) in
    let there = subst (λ (l : List Admission). slice_get l c.args.id.0 ≡ Some (admission_of a)) c.self.view_is (item_of_map admission_of c.self.inside.guests.items c.args.id.0 a found) in
    (λ e. absurd cc, λ none. absurd cc)

pub returns-in-None-clause-no_guest : goal.returns-in-None-clause-no_guest
returns-in-None-clause-no_guest g c = (
  λ e.
      subst (λ (l : List Admission). slice_get l c.args.id.0 ≡ None) c.self.view_is
      (none_of_map admission_of c.self.inside.guests.items c.args.id.0
      (subst (λ (l : List Admitted). length l ≤ c.args.id.0) c.deref.ensures.value c.in-None.ensures.lookup.3)),
  λ none. refl,
)
