use Rattle.std.proofs.Common.{take}
use Rattle.jv_verify_maps.specs.Inside.Made.{AreMade}
use Rattle.jv_verify_maps.proofs.making.map_words.Given as goal

abbrev pub invariant-loop-place : goal.invariant-loop-place
invariant-loop-place l = AreMade l.types (take l.place l.frames) l.words.items l.made.items
