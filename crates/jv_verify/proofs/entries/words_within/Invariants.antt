use Rattle.std.proofs.Common.{◌≡◌, ◌≤◌, ℕ, List, take}
use Rattle.jv_stackmap.specs.Types.{words}
use Rattle.jv_verify_types.specs.Typed.{typed_all}
use Rattle.jv_verify.proofs.entries.words_within.Given as goal

abbrev pub invariant-loop-item : goal.invariant-loop-item
invariant-loop-item l = record { counted : (names : List (List ℕ)) → l.count ≡ words (typed_all names (take l.item-index l.items)); within : l.count ≤ l.most }
