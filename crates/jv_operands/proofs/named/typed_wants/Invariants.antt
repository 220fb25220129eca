use Rattle.std.proofs.Common.{◌≡◌, take}
use Rattle.std.specs.Prelude.{map}
use Rattle.jv_operands.specs.Seen.{seen_want}
use Rattle.jv_operands.specs.Inside.Named.{wanted_as}
use Rattle.jv_operands.proofs.named.typed_wants.Given as goal

abbrev pub invariant-loop-of : goal.invariant-loop-of
invariant-loop-of l = map seen_want l.wants.items ≡ map wanted_as (take l.of-index l.types)
