use Rattle.std.proofs.Common.{◌≡◌, ℕ, Some, List, map, set, slice_get, ap, subst, ◌∙◌}
use Rattle.jv_host.specs.Host.{Admission, stepped, changed_at}
use Rattle.jv_host.specs.Calls.{IsCutTurn}
use Rattle.jv_host.specs.Inside.Holding.{admission_of}
use Rattle.jv_host.proofs.Places.{item_at, item_of_map, map_of_changed}
use Rattle.jv_host.proofs.Holdings.{has_room, one_went}
use Rattle.jv_host.proofs.host.Host.turn.Goals as goal

pub turn-taken-requires-clause-held : goal.turn-taken-requires-clause-held
turn-taken-requires-clause-held g c =
    let at = c.in-Some.ensures.item.3 in
    let found = item_at c.self.inside.guests.items c.args.id.0 c.in-Some.admitted.now at.0 (at.1 c.in-Some.admitted.now) in
    (c.self.invariant.addresses c.args.id.0, c.self.invariant.each c.args.id.0 c.in-Some.admitted.now found)

pub turn-taken-requires-clause-cells : goal.turn-taken-requires-clause-cells
turn-taken-requires-clause-cells g c =
    let at = c.in-Some.ensures.item.3 in
    let found = item_at c.self.inside.guests.items c.args.id.0 c.in-Some.admitted.now at.0 (at.1 c.in-Some.admitted.now) in
    has_room c.self.inside.guests.items _ _ c.self.invariant c.args.id.0 c.in-Some.admitted.now found

pub invariant_of-self-then-taken : goal.invariant_of-self-then-taken
invariant_of-self-then-taken g c =
    let at = c.in-Some.ensures.item.3 in
    let found = item_at c.self.inside.guests.items c.args.id.0 c.in-Some.admitted.now at.0 (at.1 c.in-Some.admitted.now) in
    one_went c.self.inside.guests.items _ _ c.self.invariant c.args.id.0 _ c.in-Some.admitted.now c.turn-taken.new.self _ found c.turn-taken.ensures.goes
    c.turn-taken.ensures.room

pub invariant_of-self-2 : goal.invariant_of-self-2
invariant_of-self-2 g c =
    let at = c.in-Some.ensures.item.3 in
    let found = item_at c.self.inside.guests.items c.args.id.0 c.in-Some.admitted.now at.0 (at.1 c.in-Some.admitted.now) in
    one_went c.self.inside.guests.items _ _ c.self.invariant c.args.id.0 _ c.in-Some.admitted.now c.turn-taken.new.self _ found c.turn-taken.ensures.goes
    c.turn-taken.ensures.room

pub returns-clause-ok : goal.returns-clause-ok
returns-clause-ok g c =
    let at = c.in-Some.ensures.item.3 in
    let items = c.self.inside.guests.items in
    let now = c.in-Some.admitted.now in
    let steps = c.turn-taken.result.steps in
    let found = item_at items c.args.id.0 now at.0 (at.1 now) in
    record {
      guest = admission_of now;
      found = subst (λ (l : List Admission). slice_get l c.args.id.0 ≡ Some (admission_of now)) c.self.view_is (item_of_map admission_of items c.args.id.0 now found);
      had = c.turn-taken.ensures.had c.if-taken.false;
      after =
          map_of_changed admission_of (stepped steps) items c.args.id.0 now c.turn-taken.new.self found c.turn-taken.ensures.after
          ∙ ap (λ (l : List Admission). changed_at (stepped steps) l c.args.id.0) c.self.view_is;
    }

pub returns-then-taken-clause-memory : goal.returns-then-taken-clause-memory
returns-then-taken-clause-memory g c = λ k is.
    let at = c.in-Some.ensures.item.3 in
    let items = c.self.inside.guests.items in
    let now = c.in-Some.admitted.now in
    let steps = c.turn-taken.result.steps in
    let found = item_at items c.args.id.0 now at.0 (at.1 now) in
    let same : steps ≡ k = cc in
    subst (λ (n : ℕ). IsCutTurn c.args.self.now (map admission_of (set items c.args.id.0 c.turn-taken.new.self)) c.args.id.0 c.args.n n) same
    (record {
      guest = admission_of now;
      found = subst (λ (l : List Admission). slice_get l c.args.id.0 ≡ Some (admission_of now)) c.self.view_is (item_of_map admission_of items c.args.id.0 now found);
      had = c.turn-taken.ensures.cut c.if-taken.true;
      after =
          map_of_changed admission_of (stepped steps) items c.args.id.0 now c.turn-taken.new.self found c.turn-taken.ensures.after
          ∙ ap (λ (l : List Admission). changed_at (stepped steps) l c.args.id.0) c.self.view_is;
    })

pub returns-clause-no_guest : goal.returns-clause-no_guest
returns-clause-no_guest g c =
    let at = c.in-Some.ensures.item.3 in
    let items = c.self.inside.guests.items in
    let now = c.in-Some.admitted.now in
    let found = item_at items c.args.id.0 now at.0 (at.1 now) in
    let there = subst (λ (l : List Admission). slice_get l c.args.id.0 ≡ Some (admission_of now)) c.self.view_is (item_of_map admission_of items c.args.id.0 now found) in
    (λ e. absurd cc, λ none. absurd cc)

pub returns-then-taken-clause-no_guest : goal.returns-then-taken-clause-no_guest
returns-then-taken-clause-no_guest g c =
    let at = c.in-Some.ensures.item.3 in
    let items = c.self.inside.guests.items in
    let now = c.in-Some.admitted.now in
    let found = item_at items c.args.id.0 now at.0 (at.1 now) in
    let there = subst (λ (l : List Admission). slice_get l c.args.id.0 ≡ Some (admission_of now)) c.self.view_is (item_of_map admission_of items c.args.id.0 now found) in
    (λ e. absurd cc, λ none. absurd cc)
