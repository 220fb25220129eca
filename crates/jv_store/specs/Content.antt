-- The content of a store: a list of blocks, each an address and its words, the newest last. A store adds a block above
-- all others and takes the newest back, so the addresses of what it holds rise from 1 on (`IsRising`), and the content is
-- a map from addresses, never 0, to lists of words.
use Rattle.std.specs.Prelude.{ℕ, ◌+◌, max, cond, nat_eq, nat_lt, Bool, true, ◌&&◌, IsTrue, List, [], ◌∷◌, length, set}

-- the words of the block at an address, and none where no block stands there
abbrev pub words_at : List (ℕ × List ℕ) → ℕ → List ℕ
words_at [] address = []
words_at (block ∷ blocks) address = cond (nat_eq block.0 address) block.1 (words_at blocks address)

-- the words of all blocks together
abbrev pub words_held : List (ℕ × List ℕ) → ℕ
words_held [] = 0
words_held (block ∷ blocks) = length block.1 + words_held blocks

-- the greatest address, and 0 where there is no block
abbrev pub greatest : List (ℕ × List ℕ) → ℕ
greatest [] = 0
greatest (block ∷ blocks) = max block.0 (greatest blocks)

-- the content with one word of the block at an address changed
abbrev pub written : List (ℕ × List ℕ) → ℕ → ℕ → ℕ → List (ℕ × List ℕ)
written [] address place word = []
written (block ∷ blocks) address place word = cond (nat_eq block.0 address) ((block.0, set block.1 place word) ∷ blocks)
    (block ∷ written blocks address place word)

-- the content without the block at an address
abbrev pub without : List (ℕ × List ℕ) → ℕ → List (ℕ × List ℕ)
without [] address = []
without (block ∷ blocks) address = cond (nat_eq block.0 address) blocks (block ∷ without blocks address)

-- addresses rise along the blocks, from above a number
abbrev pub rises_from : ℕ → List (ℕ × List ℕ) → Bool
rises_from least [] = true
rises_from least (block ∷ blocks) = nat_lt least block.0 && rises_from block.0 blocks

-- addresses rise from 1 on
abbrev pub IsRising : List (ℕ × List ℕ) → Type 0
IsRising content = IsTrue (rises_from 0 content)
