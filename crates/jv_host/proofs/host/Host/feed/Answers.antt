use Rattle.std.proofs.Common.{◌≡◌, ◌≢◌, Some, None, Option, List, length, map, set, slice_get, refl, ap, subst, ◌∙◌}
use Rattle.jv_limits.specs.declared.fault.FeedFault.TheVariants.{HostMemory}
use Rattle.jv_host.specs.Host.{Admission, fed_now, changed_at, after_feed}
use Rattle.jv_host.specs.Limits.{feed_refusal_of, feed_refusal}
use Rattle.jv_host.specs.Inside.Holding.{admission_of}
use Rattle.jv_host.proofs.Places.{item_at, item_of_map, map_of_changed, map_of_same, on_ok, on_err, if_err, ok_and_err}
use Rattle.jv_host.proofs.Holdings.{one_stayed}
use Rattle.jv_host.proofs.host.Host.feed.Goals as goal

pub feed-requires : goal.feed-requires
feed-requires g c =
    let at = c.in-Some.ensures.item.3 in
    let now = c.in-Some.admitted.now in
    let found = item_at c.self.inside.guests.items c.args.id.0 now at.0 (at.1 now) in
    (g.S.Store.content c.self.inside.store, (c.self.invariant.addresses c.args.id.0, c.self.invariant.each c.args.id.0 now found))

pub invariant_of-self-2 : goal.invariant_of-self-2
invariant_of-self-2 g c =
    let at = c.in-Some.ensures.item.3 in
    let now = c.in-Some.admitted.now in
    let found = item_at c.self.inside.guests.items c.args.id.0 now at.0 (at.1 now) in
    one_stayed c.self.inside.guests.items _ _ c.self.invariant c.args.id.0 _ now c.feed.new.self _ found c.feed.ensures.held c.feed.ensures.cells
    refl refl

pub returns-clause-fed : goal.returns-clause-fed
returns-clause-fed g c =
    let at = c.in-Some.ensures.item.3 in
    let items = c.self.inside.guests.items in
    let now = c.in-Some.admitted.now in
    let found = item_at items c.args.id.0 now at.0 (at.1 now) in
    on_ok c.feed.result (admission_of c.feed.new.self ≡ fed_now c.args.bytes.now (admission_of now))
    (map admission_of (set items c.args.id.0 c.feed.new.self) ≡ after_feed c.args.self.now c.args.id.0 c.args.bytes.now)
    (λ is.
    map_of_changed admission_of (fed_now c.args.bytes.now) items c.args.id.0 now c.feed.new.self found is
    ∙ ap (λ (l : List Admission). changed_at (fed_now c.args.bytes.now) l c.args.id.0) c.self.view_is)
    c.feed.ensures.fed

pub returns-clause-allowed : goal.returns-clause-allowed
returns-clause-allowed g c =
    let at = c.in-Some.ensures.item.3 in
    let items = c.self.inside.guests.items in
    let now = c.in-Some.admitted.now in
    let there =
    subst (λ (l : List Admission). slice_get l c.args.id.0 ≡ Some (admission_of now)) c.self.view_is
    (item_of_map admission_of items c.args.id.0 now (item_at items c.args.id.0 now at.0 (at.1 now))) in
    on_ok c.feed.result (feed_refusal_of (Some (admission_of now)) (length c.args.bytes.now) ≡ None)
    (feed_refusal c.args.self.now c.args.id.0 c.args.bytes.now ≡ None)
    (λ is. ap (λ (o : Option Admission). feed_refusal_of o (length c.args.bytes.now)) there ∙ is)
    c.feed.ensures.allowed

pub returns-clause-refused : goal.returns-clause-refused
returns-clause-refused g c =
    let at = c.in-Some.ensures.item.3 in
    let items = c.self.inside.guests.items in
    let now = c.in-Some.admitted.now in
    let there =
    subst (λ (l : List Admission). slice_get l c.args.id.0 ≡ Some (admission_of now)) c.self.view_is
    (item_of_map admission_of items c.args.id.0 now (item_at items c.args.id.0 now at.0 (at.1 now))) in
    if_err c.feed.result (λ fault. fault ≢ HostMemory → feed_refusal_of (Some (admission_of now)) (length c.args.bytes.now) ≡ Some fault)
    (λ fault. fault ≢ HostMemory → feed_refusal c.args.self.now c.args.id.0 c.args.bytes.now ≡ Some fault)
    (λ fault h other. ap (λ (o : Option Admission). feed_refusal_of o (length c.args.bytes.now)) there ∙ h other)
    c.feed.ensures.refused

pub returns-clause-memory : goal.returns-clause-memory
returns-clause-memory g c = λ e.
    let at = c.in-Some.ensures.item.3 in
    let items = c.self.inside.guests.items in
    let now = c.in-Some.admitted.now in
    let there =
    subst (λ (l : List Admission). slice_get l c.args.id.0 ≡ Some (admission_of now)) c.self.view_is
    (item_of_map admission_of items c.args.id.0 now (item_at items c.args.id.0 now at.0 (at.1 now))) in
    ap (λ (o : Option Admission). feed_refusal_of o (length c.args.bytes.now)) there ∙ c.feed.ensures.memory e

pub returns-clause-nothing : goal.returns-clause-nothing
returns-clause-nothing g c = λ empty err. absurd (ok_and_err c.feed.result (c.feed.ensures.nothing empty) err)

pub returns-clause-same : goal.returns-clause-same
returns-clause-same g c =
    let at = c.in-Some.ensures.item.3 in
    let items = c.self.inside.guests.items in
    let now = c.in-Some.admitted.now in
    let found = item_at items c.args.id.0 now at.0 (at.1 now) in
    on_err c.feed.result (admission_of c.feed.new.self ≡ admission_of now)
    (map admission_of (set items c.args.id.0 c.feed.new.self) ≡ c.args.self.now)
    (λ is. map_of_same admission_of items c.args.id.0 now c.feed.new.self found is ∙ c.self.view_is)
    c.feed.ensures.same
