use Rattle.jv_pool.proofs.Listing.{Listed}
use Rattle.jv_pool.proofs.reading.listed.Given as goal

abbrev pub invariant-loop : goal.invariant-loop
invariant-loop l = Listed l.length l.counter l.unusable l.places.items l.rest l.bytes
