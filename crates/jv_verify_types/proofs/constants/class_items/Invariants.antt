use Rattle.std.proofs.Common.{◌≡◌, ℕ, List, length}
use Rattle.jv_verify_types.specs.Inside.KeptTexts.{Item, AreKept, AreItemsBelow}
use Rattle.jv_verify_types.proofs.constants.class_items.Given as goal

abbrev pub invariant-loop-index : goal.invariant-loop-index
invariant-loop-index l = record {
  size : length l.items.items ≡ l.index;
  below : (names : List (List ℕ)) (arguments : List Item) → AreKept names arguments l.pool l.texts → AreItemsBelow l.index names l.pool l.items.items;
}
