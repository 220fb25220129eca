-- The blocks of arrays of arrays (JVMS 6.5, multianewarray; own): the outer one's comes first, and behind it those of each array in it, one
-- after the other.
use Rattle.std.specs.Prelude.{◌≡◌, ℕ, ◌+◌, ◌-◌, ◌*◌, ◌<◌, ⊤, List, [], ◌∷◌, ◌++◌, length, replicate}
use Rattle.jv_store.specs.Content.{greatest}
use Rattle.jv_interp_heap.specs.ObjectsInBlocks.{Blocks}

-- ---- what arrays with these counts cost, the outer one's first, where each component of the innermost has so many words

abbrev pub nested_cost : ℕ → List ℕ → ℕ
nested_cost slots [] = 0
nested_cost slots (count ∷ []) = 2 + count * slots
nested_cost slots (count ∷ more) = 2 + count * 1 + count * nested_cost slots more

-- the words of a component of the outer one: a reference's, unless it is the innermost
abbrev pub outer_slots : ℕ → List ℕ → ℕ
outer_slots slots (count ∷ second ∷ more) = 1
outer_slots slots _ = slots

-- how many arrays are in the outer one
abbrev pub inner_size : List ℕ → ℕ
inner_size (count ∷ second ∷ more) = count
inner_size _ = 0

-- ---- their blocks

-- blocks of one kind follow on one another, each kind's first one under its address
abbrev pub Follow : (Blocks → ℕ → Type 0) → List ℕ → Blocks → Type 0
Follow Kind [] blocks = blocks ≡ []
Follow Kind (address ∷ more) blocks =
    (own : Blocks) × (rest : Blocks) × (blocks ≡ own ++ rest) × Kind own address × Follow Kind more rest

-- Blocks are those of arrays with these counts, of which the outer one has an address and a first word. The components of the arrays in
-- an array have a dimension less, which their first word tells.
abbrev pub AreNested : ℕ → List ℕ → ℕ → Blocks → ℕ → Type 0
AreNested slots [] word blocks address = ⊥
AreNested slots (count ∷ []) word blocks address = blocks ≡ (address, word ∷ count ∷ replicate (count * slots) 0) ∷ []
AreNested slots (count ∷ more) word blocks address =
    (inner : List ℕ) × (rest : Blocks) × (blocks ≡ (address, word ∷ count ∷ inner) ∷ rest) × (length inner ≡ count)
    × Follow (AreNested slots more (word - 65536)) inner rest

-- each block is above all before it
abbrev pub EachAbove : Blocks → Blocks → Type 0
EachAbove before [] = ⊤
EachAbove before (block ∷ more) = (greatest before < block.0) × EachAbove (before ++ block ∷ []) more

-- such arrays joined a store
pub record NestedJoin (slots : ℕ) (counts : List ℕ) (word : ℕ) (before after : Blocks) (address : ℕ) : Type 0 where
  pub blocks : Blocks
  pub are : AreNested slots counts word blocks address
  pub above : EachAbove before blocks
  pub joins : after ≡ before ++ blocks

-- ---- arrays that are in an array already, and are the newest: so many with these counts

pub record HasInner (slots : ℕ) (counts : List ℕ) (word size outer : ℕ) (blocks : Blocks) : Type 0 where
  pub earlier : Blocks
  pub first : ℕ
  pub second : ℕ
  pub inner : List ℕ
  pub others : List ℕ
  pub made : Blocks
  pub above : greatest earlier < outer
  pub size_is : length inner ≡ size
  pub follow : Follow (AreNested slots counts word) inner made
  pub each_above : EachAbove (earlier ++ (outer, first ∷ second ∷ (inner ++ others)) ∷ []) made
  pub are : blocks ≡ (earlier ++ (outer, first ∷ second ∷ (inner ++ others)) ∷ []) ++ made

pub record CanTakeInner (slots : ℕ) (counts : List ℕ) (size outer : ℕ) (blocks : Blocks) : Type 0 where
  pub word : ℕ
  pub has : HasInner slots counts word size outer blocks

-- they are taken back
abbrev pub TakesInner : ℕ → List ℕ → ℕ → ℕ → Blocks → Blocks → Type 0
TakesInner slots counts size outer before after =
    (word : ℕ) (h : HasInner slots counts word size outer before)
    → after ≡ h.earlier ++ (outer, h.first ∷ h.second ∷ (h.inner ++ h.others)) ∷ []
