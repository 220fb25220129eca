use Rattle.std.proofs.Common.{◌<◌, ◌∙◌, ap, arith, length, map, rules, set, sym, subst}
use Rattle.std.specs.Prelude.{Result, Ok, Err, OnErr}
use Rattle.std.proofs.lemmas.List.{length-map, map-set}
use Rattle.std.proofs.lemmas.Result.{on_err_weaker, on_ok_weaker}
use Rattle.jv_verify_wants.specs.Wanted.{wanted_at, AddsWant}
use Rattle.jv_verify_wants.specs.Inside.Allowed.{kept_of, AreAllowed}
use Rattle.jv_verify_wants.proofs.Places.{added, allowed_at, allowed_set, kept, read_at, same_wanted}
use Rattle.jv_verify_wants.proofs.wants.Wants.add.Goals as goal

either_way : {X E P : Type 0} (r : Result X E) → P → OnErr r P
either_way (Ok x) p = tt
either_way (Err e) p = p

pub returns-in_err-make_room-in_default : goal.returns-in_err-make_room-in_default
returns-in_err-make_room-in_default c = record {
  ok = search rules;
  refused =
      either_way c.from_residual.result
      (same_wanted c.args.self.now (map kept_of c.make_room.new.variables.items) c.args.offset
      (λ p. c.make_room.ensures.same p ∙ ap (λ ks. wanted_at ks p) c.self.view_is));
  allowed = λ types are. c.make_room.ensures.allowed types c.args.offset (subst (AreAllowed types c.args.offset) (sym c.self.view_is) are);
}

pub returns-in_ok-make_room-in_default : goal.returns-in_ok-make_room-in_default
returns-in_ok-make_room-in_default c =
    let vs = c.make_room.new.variables.items in
    let at = c.from-at.result in
    let v = c.index_mut.result.now in
    let new = map kept_of (set vs at c.add.new.self) in
    let lt : at < length vs = c.in_ok-make_room-in_default.ensures.there in
    let within : at < length (map kept_of vs) = omega (arith, lt, length-map vs kept_of) in
    let read = read_at vs at v lt c.index_mut.ensures.value in
    let set_is = map-set kept_of vs at c.add.new.self in record {
      ok =
          on_ok_weaker c.add.result
          (λ adds. subst (λ place. AddsWant c.args.self.now new place c.args.item c.args.until c.args.offset) c.from-at.ensures
          (added c.args.self.now (map kept_of vs) new at (kept_of v) (kept_of c.add.new.self)
          (λ p. c.make_room.ensures.same p ∙ ap (λ ks. wanted_at ks p) c.self.view_is) within read set_is c.args.item c.args.until c.args.offset
          c.in_default.not-Top adds))
          c.add.ensures.ok;
      refused =
          on_err_weaker c.add.result
          (kept c.args.self.now (map kept_of vs) new at (kept_of v) (kept_of c.add.new.self)
          (λ p. c.make_room.ensures.same p ∙ ap (λ ks. wanted_at ks p) c.self.view_is) within read set_is c.args.offset)
          c.add.ensures.refused;
      allowed = λ types are.
          let room = c.make_room.ensures.allowed types c.args.offset (subst (AreAllowed types c.args.offset) (sym c.self.view_is) are) in
          allowed_set types c.args.offset (map kept_of vs) new at (kept_of c.add.new.self) set_is room
          (c.add.ensures.allowed types (allowed_at types c.args.offset (map kept_of vs) at (kept_of v) within read room));
    }
