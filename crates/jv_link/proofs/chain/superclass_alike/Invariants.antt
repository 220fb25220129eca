use Rattle.std.proofs.Common.{◌≡◌, Some}
use Rattle.jv_meaning_world.specs.Overriding.{Declared, alike_in}
use Rattle.jv_lookups.specs.Places.{method_at}
use Rattle.jv_lookups.proofs.Found.{IsLeft}
use Rattle.jv_link.proofs.chain.superclass_alike.Given as goal

abbrev pub invariant-loop-superclass : goal.invariant-loop-superclass
invariant-loop-superclass l = (e : Declared) → method_at l.table l.called ≡ Some e → IsLeft l.table (λ s. alike_in s e.method) l.superclass-items l.superclass-index
