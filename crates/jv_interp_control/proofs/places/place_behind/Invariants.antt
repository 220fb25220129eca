use Rattle.std.proofs.Common.{◌≡◌, drop, reverse}
use Rattle.jv_interp_control.specs.Inside.Places.{record_place}
use Rattle.jv_interp_control.proofs.places.place_behind.Given as goal

abbrev pub invariant-loop-behind : goal.invariant-loop-behind
invariant-loop-behind l = record_place (drop l.passed (reverse l.records)) ≡ record_place (drop l.behind (reverse l.records))
