use Rattle.jv_link_cache.specs.Linked.{IsLinked}
use Rattle.jv_link_tests.proofs.guest.wrong_in.Given as goal

abbrev pub invariant-loop-line : goal.invariant-loop-line
invariant-loop-line l = IsLinked l.classes.world l.linked
