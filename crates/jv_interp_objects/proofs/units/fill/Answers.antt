use Rattle.std.proofs.Common.{◌<◌, length, refl, ◌∙◌, arith}
use Rattle.jv_interp_objects.proofs.Filled.{filling_begins, is_some_text, has_place, fits, filling_goes_on, filling_ends, few_units}
use Rattle.jv_interp_objects.proofs.units.fill.Goals as goal

pub loop-rest-init : goal.loop-rest-init
loop-rest-init g c = record {
  filling = filling_begins c.args.text.now c.args.address (g.S.Store.content c.args.store.now);
  room = refl;
}

pub front_unit-unit-requires : goal.front_unit-unit-requires
front_unit-unit-requires g c =
    let q = c.requires.can in
    let p = c.loop-rest.invariant.filling.each q.units q.first q.second q.earlier q.spells q.joined in
    let some : 0 < length c.loop-rest.rest.now = grind arith in
    is_some_text p.left c.loop-rest.rest.now p.spells some

pub set-requires : goal.set-requires
set-requires g c =
    let q = c.requires.can in
    let p = c.loop-rest.invariant.filling.each q.units q.first q.second q.earlier q.spells q.joined in
    let some : 0 < length c.loop-rest.rest.now = grind arith in
    has_place q.units q.first q.second q.earlier c.loop-rest.rest.now c.loop-rest.place c.args.address (g.S.Store.content c.loop-rest.store) p some

pub overflow_add-place : goal.overflow_add-place
overflow_add-place g c =
    let q = c.requires.can in
    let p = c.loop-rest.invariant.filling.each q.units q.first q.second q.earlier q.spells q.joined in
    let some : 0 < length c.loop-rest.rest.now = grind arith in
    let few = c.requires.few in
    let fewer = few_units q.units c.args.text.now q.spells in
    let n = fits q.units q.first q.second q.earlier c.loop-rest.rest.now c.loop-rest.place c.args.address (g.S.Store.content c.loop-rest.store) p some (omega (arith, few, fewer)) in
    omega (arith, n)

pub loop-rest-preserved : goal.loop-rest-preserved
loop-rest-preserved g c =
    let some : 0 < length c.loop-rest.rest.now = grind arith in
    record {
      filling =
          filling_goes_on c.args.text.now c.loop-rest.rest.now c.front_unit-unit.result.1.now c.loop-rest.place c.args.address c.front_unit-unit.result.0
          (g.S.Store.content c.args.store.now) (g.S.Store.content c.loop-rest.store) (g.S.Store.content c.set.new.self)
          c.loop-rest.invariant.filling some c.front_unit-unit.ensures c.set.ensures.content;
      room = c.set.ensures.room ∙ c.loop-rest.invariant.room;
    }

pub returns-clause-fills : goal.returns-clause-fills
returns-clause-fills g c =
    filling_ends c.args.text.now c.loop-rest.rest.now c.loop-rest.place c.args.address (g.S.Store.content c.args.store.now)
    (g.S.Store.content c.loop-rest.store) c.loop-rest.invariant.filling (grind arith)
