use Rattle.std.proofs.Common.{◌≡◌, ℕ, ◌-◌, Some, None, sym, ap, ◌∙◌, arith}
use Rattle.jv_class_structure.specs.Inside.Kept.{found_info, seen_found}
use Rattle.jv_class_structure.specs.Inside.Reading.{one_more, gathered, stack_map_kept}
use Rattle.jv_class_structure.proofs.Gathering.{gathers, one_more-seen}
use Rattle.jv_class_structure.proofs.Packing.{rest_itself, rest_more, found_before, found_joined}
use Rattle.jv_class_structure.proofs.attributes.stack_maps_listed.Goals as goal

pub loop-init : goal.loop-init
loop-init c =
    let all : c.args.count - 0 ≡ c.args.count = omega arith in
    record { same = ap (λ (n : ℕ). gathered (stack_map_kept c.args.pool.now) n None c.args.bytes.now) all; there = record { within = tt; after = rest_itself c.args.bytes.now } }

pub loop-preserved : goal.loop-preserved
loop-preserved c =
    let joined : one_more c.loop.found c.in-Some.map ≡ Some c.in-Some-one_more.joined = sym c.one_more.ensures ∙ c.in-Some-one_more.is in
    record {
      same =
          gathers (stack_map_kept c.args.pool.now) (seen_found c.loop.found) (seen_found c.in-Some.map) (seen_found c.in-Some-one_more.joined)
          c.args.count c.loop.counter c.loop.rest.now c.in-Some.after.now _
          c.loop-test.true c.in-Some.ensures.found (one_more-seen found_info c.loop.found c.in-Some.map c.in-Some-one_more.joined joined) c.loop.invariant.same;
      there = record {
        within =
            found_joined c.args.bytes.now c.loop.found c.in-Some.map c.in-Some-one_more.joined joined c.loop.invariant.there.within
            (found_before c.args.bytes.now c.loop.rest.now c.in-Some.map c.loop.invariant.there.after c.in-Some.ensures.there.within);
        after = rest_more c.args.bytes.now c.loop.rest.now c.in-Some.after.now c.loop.invariant.there.after c.in-Some.ensures.there.after;
      };
    }
