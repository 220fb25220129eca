use Rattle.std.proofs.Common.{ap, ◌∙◌, w32}
use Rattle.std.proofs.lemmas.Int.{to_z-of_z}
use Rattle.jv_verify_types.specs.Numbered.{frame_of}
use Rattle.jv_code.specs.Switches.{distances_in}
use Rattle.jv_verify_pass.specs.Pass.{maps_of, names_in}
use Rattle.jv_verify_pass.specs.Inside.Walk.{distance_holds}
use Rattle.jv_verify_pass.proofs.Switching.{distances}
use Rattle.jv_verify_pass.proofs.targets.table_holds.Goals as goal

pub returns-then-distance_holds-clause-flows : goal.returns-then-distance_holds-clause-flows
returns-then-distance_holds-clause-flows c = λ env is.
    distances env (maps_of c.args.pass.now) (frame_of (names_in c.args.pass.now) c.args.frame.now) c.args.offset c.args.default
    (distances_in c.args.distances.now) c.distance_holds.result c.distances_hold.result
    (c.distance_holds.ensures.flows env is ∙ ap (distance_holds env (maps_of c.args.pass.now) (frame_of (names_in c.args.pass.now) c.args.frame.now)
    c.args.offset) (to_z-of_z w32 c.args.default c.ranges.default)) c.if-distance_holds.true (c.distances_hold.ensures.flows env is)

pub distances_hold-requires : goal.distances_hold-requires
distances_hold-requires c = record { seen = (c.requires.seen.0, c.distance_holds.ensures.seen c.requires.seen.0 c.requires.seen.1) }

pub returns-then-distance_holds-clause-seen : goal.returns-then-distance_holds-clause-seen
returns-then-distance_holds-clause-seen c = λ at seen. c.distances_hold.ensures.seen at (c.distance_holds.ensures.seen at seen)
