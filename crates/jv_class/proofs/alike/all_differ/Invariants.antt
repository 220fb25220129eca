use Rattle.std.proofs.Common.{◌≡◌, ℕ, take}
use Rattle.std.specs.Prelude.{nat_eq}
use Rattle.std.specs.Ordering.{nat_cmp}
use Rattle.std.specs.List.{IsDistinct, list_any}
use Rattle.std.specs.BTreeSet.{contains}
use Rattle.jv_class.proofs.alike.all_differ.Given as goal

abbrev pub invariant-loop-key : goal.invariant-loop-key
invariant-loop-key l = ((q : ℕ) → contains nat_cmp l.seen q ≡ list_any (nat_eq q) (take l.key-index l.keys)) × IsDistinct nat_eq (take l.key-index l.keys)
