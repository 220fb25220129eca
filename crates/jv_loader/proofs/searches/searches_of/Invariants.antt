use Rattle.std.proofs.Common.{◌≡◌, ℕ, ◌<◌, [], length, get_or}
use Rattle.jv_loader.specs.Inside.Searches.{IsSearch, lists_of}
use Rattle.jv_loader.proofs.searches.searches_of.Given as goal

abbrev pub invariant-loop-number : goal.invariant-loop-number
invariant-loop-number l =
    (length l.searches.items ≡ l.number) × ((k : ℕ) → k < l.number → IsSearch l.table k (get_or (lists_of l.searches.items) k []))
