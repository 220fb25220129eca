use Rattle.std.proofs.Common.{refl, arith}
use Rattle.jv_store.proofs.Contents.{rises-append, rises-written, rises-without}
use Rattle.jv_store.proofs.laws.rising.Goals as goal

pub returns : goal.returns
returns c = record {
  empty = refl;
  new = λ blocks a ws h above. rises-append 0 blocks a ws h (omega (arith, above)) above;
  written = λ blocks a i w h. rises-written 0 blocks a i w h;
  without = λ blocks a h. rises-without 0 blocks a h;
}
