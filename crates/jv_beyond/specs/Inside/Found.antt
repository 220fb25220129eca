-- How the first part that is beyond the profile is found: of each rank the first.
use Rattle.std.specs.Prelude.{◌≡◌, ℕ, ◌<◌, Option, Some, None}
use Rattle.jv_class_structure.specs.Structure.{ClassStructure}
use Rattle.jv_beyond.specs.Beyond.{IsBeyond, IsFirstBeyond, place_of, rank}
use Rattle.jv_beyond.specs.declared.beyond.Beyond.{Beyond}

-- no part of a rank at a place, below it, or at all
abbrev pub NoneAt : ClassStructure → (of : ℕ) → (place : ℕ) → Type 0
NoneAt c of place = (other : Beyond) → rank other ≡ of → place_of other ≡ place → IsBeyond c other → ⊥

abbrev pub NoneBelow : ClassStructure → (of : ℕ) → (place : ℕ) → Type 0
NoneBelow c of place = (other : Beyond) → rank other ≡ of → place_of other < place → IsBeyond c other → ⊥

abbrev pub NoneOf : ClassStructure → (of : ℕ) → Type 0
NoneOf c of = (other : Beyond) → rank other ≡ of → IsBeyond c other → ⊥

-- the first part of a rank
pub record IsFirstOf (c : ClassStructure) (of : ℕ) (part : Beyond) : Type 0 where
  pub is : IsBeyond c part
  pub ranked : rank part ≡ of
  pub first : NoneBelow c of (place_of part)

abbrev pub IsFoundOf : ClassStructure → (of : ℕ) → Option Beyond → Type 0
IsFoundOf c of (Some part) = IsFirstOf c of part
IsFoundOf c of None = NoneOf c of

-- a part of this rank at a place, or none
abbrev pub IsFoundAt : ClassStructure → (of : ℕ) → (place : ℕ) → Option Beyond → Type 0
IsFoundAt c of place (Some part) = IsBeyond c part × (rank part ≡ of) × (place_of part ≡ place)
IsFoundAt c of place None = NoneAt c of place

-- the part that is named, or none
abbrev pub IsFound : ClassStructure → Option Beyond → Type 0
IsFound c (Some part) = IsFirstBeyond c part
IsFound c None = (part : Beyond) → IsBeyond c part → ⊥
