use Rattle.std.proofs.Common.{◌≡◌, ◌+◌, List, ◌++◌, length, take}
use Rattle.jv_meaning_world.specs.Numbers.{HoldsAtNumber}
use Rattle.jv_meaning_world.specs.Overriding.{Declared}
use Rattle.jv_interp_members.specs.Inside.Counted.{own_methods}
use Rattle.jv_interp_members.specs.Methods.{AreRows}
use Rattle.jv_interp_members.proofs.methods.add_methods.Given as goal

abbrev pub invariant-loop-member : goal.invariant-loop-member
invariant-loop-member l =
    HoldsAtNumber l.table l.class (λ m. (methods : List Declared) → AreRows l.table methods l.fn.rows.items
    → AreRows l.table (methods ++ take l.member (own_methods m)) l.rows.items)
    × (length l.rows.items ≡ length l.fn.rows.items + l.member)
