use Rattle.std.proofs.Common.{ℕ, List, take}
use Rattle.jv_stackmap.specs.Entries.{HaveWidths}
use Rattle.jv_verify_types.specs.Typed.{typed_all}
use Rattle.jv_verify_pass.proofs.maps.widths_of.Given as goal

abbrev pub invariant-loop-item : goal.invariant-loop-item
invariant-loop-item l = (names : List (List ℕ)) → HaveWidths (typed_all names (take l.item-index l.entries)) l.widths.items
