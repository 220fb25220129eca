use Rattle.std.proofs.Common.{◌-◌}
use Rattle.jv_classes.proofs.Followed.{HasFollowed}
use Rattle.jv_classes.proofs.table.chain_of.Given as goal

abbrev pub invariant-loop : goal.invariant-loop
invariant-loop l = HasFollowed l.classes l.number l.chain.items (l.end - l.counter) l.next
