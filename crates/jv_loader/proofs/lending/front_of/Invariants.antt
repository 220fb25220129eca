use Rattle.std.proofs.Common.{◌≡◌, Some, map, take}
use Rattle.std.specs.Prelude.{slice_get}
use Rattle.jv_loader.specs.Inside.Headers.{headers_in}
use Rattle.jv_loader.specs.Inside.Tables.{in_front}
use Rattle.jv_loader.proofs.lending.front_of.Given as goal

abbrev pub invariant-loop-place : goal.invariant-loop-place
invariant-loop-place l = map (slice_get l.list) l.front.items ≡ map Some (in_front (headers_in l.headers) (take l.place l.list))
