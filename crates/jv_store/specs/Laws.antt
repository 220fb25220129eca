-- What laws of contents say, where a clause would be long.
use Rattle.std.specs.Prelude.{◌≡◌, ◌≢◌, ℕ, ◌<◌, cond, nat_eq, List, [], ◌∷◌, ◌++◌, set}
use Rattle.jv_store.specs.Content.{words_at, greatest, written}

-- a block above all others has its words, and no other block has others than before
abbrev pub NewWords : Type 0
NewWords =
    (c : List (ℕ × List ℕ)) (a : ℕ) (ws : List ℕ) (b : ℕ) → greatest c < a
    → words_at (c ++ (a, ws) ∷ []) b ≡ cond (nat_eq a b) ws (words_at c b)

-- a write changes one word of one block
abbrev pub WrittenWords : Type 0
WrittenWords =
    (c : List (ℕ × List ℕ)) (a i w b : ℕ) → words_at (written c a i w) b ≡ cond (nat_eq a b) (set (words_at c a) i w) (words_at c b)

-- and so in the newest block
abbrev pub WrittenNewest : Type 0
WrittenNewest =
    (c : List (ℕ × List ℕ)) (a : ℕ) (ws : List ℕ) (i w : ℕ) → greatest c < a
    → written (c ++ (a, ws) ∷ []) a i w ≡ c ++ (a, set ws i w) ∷ []

-- a write to an older block and the coming of a newer one commute
abbrev pub WrittenOlder : Type 0
WrittenOlder =
    (c : List (ℕ × List ℕ)) (a b i w : ℕ) (ws : List ℕ) → b ≢ a → written (c ++ (a, ws) ∷ []) b i w ≡ written c b i w ++ (a, ws) ∷ []
