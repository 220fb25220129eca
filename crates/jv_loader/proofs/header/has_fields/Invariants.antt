use Rattle.std.proofs.Common.{◌≡◌, map, take}
use Rattle.jv_loader.specs.Inside.Headers.{field_in, field_of}
use Rattle.jv_loader.proofs.header.has_fields.Given as goal

abbrev pub invariant-loop-place : goal.invariant-loop-place
invariant-loop-place l = take l.place (map field_of l.class.class.fields) ≡ take l.place (map field_in l.fields)
