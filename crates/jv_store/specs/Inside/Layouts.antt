-- How the two stores lay their blocks out.
use Rattle.std.specs.Prelude.{ℕ, ◌+◌, ◌-◌, Bool, true, ◌&&◌, nat_eq, nat_lt, List, [], ◌∷◌, length, take, drop}

-- blocks in a row, whose addresses count on from a number
abbrev pub numbered : ℕ → List (List ℕ) → List (ℕ × List ℕ)
numbered before [] = []
numbered before (words ∷ blocks) = (before + 1, words) ∷ numbered (before + 1) blocks

-- one list of words, cut where the blocks start; an address is a start plus 1, and the words begin at the first start
abbrev pub cut : List ℕ → List ℕ → List (ℕ × List ℕ)
cut [] words = []
cut (start ∷ []) words = (start + 1, words) ∷ []
cut (start ∷ next ∷ starts) words = (start + 1, take (next - start) words) ∷ cut (next ∷ starts) (drop (next - start) words)

-- each start is below the next, and the last is below the end
abbrev pub rising : List ℕ → ℕ → Bool
rising [] end = nat_eq end 0
rising (start ∷ []) end = nat_lt start end
rising (start ∷ next ∷ starts) end = nat_lt start next && rising (next ∷ starts) end

-- the starts of blocks that fill the words up to an end
abbrev pub fill : List ℕ → ℕ → Bool
fill [] end = nat_eq end 0
fill (start ∷ starts) end = nat_eq start 0 && rising (start ∷ starts) end

-- each block has a word
abbrev pub none_empty : List (ℕ × List ℕ) → Bool
none_empty [] = true
none_empty (block ∷ blocks) = nat_lt 0 (length block.1) && none_empty blocks
