-- Two functions from offsets to places, while they are merged.
use Rattle.std.proofs.Common.{◌≡◌, ℕ, List, take, min}
use Rattle.jv_link_handlers.specs.declared.pieces.Piece.{Piece}
use Rattle.jv_link_handlers.specs.Inside.Pieces.{place_in, RiseTo, Stands}

-- so many pieces of each are merged, and an offset is reached
pub record Merging (one other made : List Piece) (left left_place right right_place start : ℕ) : Type 0 where
  pub left_stands : Stands one left left_place start
  pub right_stands : Stands other right right_place start
  pub rise : RiseTo made start
  pub made_is : (x : ℕ) → place_in made x ≡ min (place_in (take left one) x) (place_in (take right other) x)
