use Rattle.jv_place.specs.Inside.Found.{NoneBefore}
use Rattle.jv_place.proofs.method.text_in.Given as goal

abbrev pub invariant-loop-place : goal.invariant-loop-place
invariant-loop-place l = NoneBefore l.file l.place l.wanted
