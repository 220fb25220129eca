-- A function from offsets to places, piece by piece.
use Rattle.std.specs.Prelude.{◌≡◌, ℕ, ◌<◌, ◌≤◌, List, [], ◌∷◌, if◌then◌else◌, nat_le, get_or, length, take}
use Rattle.jv_link_handlers.specs.declared.pieces.Piece.{Piece}

-- from an offset on, its place, up to where the next piece starts
abbrev pub place_after : ℕ → List Piece → ℕ → ℕ
place_after now [] x = now
place_after now (p ∷ ps) x = place_after (if nat_le p.start x then p.place else now) ps x

-- before the first piece there is none
abbrev pub place_in : List Piece → ℕ → ℕ
place_in ps x = place_after 65535 ps x

abbrev pub blank : Piece
blank = record { start = 0; place = 0 }

abbrev pub start_of : List Piece → ℕ → ℕ
start_of ps k = (get_or ps k blank).start

pub record Rise (ps : List Piece) : Type 0 where
  pub rise : (i j : ℕ) → i ≤ j → j < length ps → start_of ps i ≤ start_of ps j

-- none starts behind an offset
pub record RiseTo (ps : List Piece) (x : ℕ) : Type 0 where
  pub rise : Rise ps
  pub within : (k : ℕ) → k < length ps → start_of ps k ≤ x

-- so many pieces start at or before an offset, and say a place from there on
pub record Stands (ps : List Piece) (k place x : ℕ) : Type 0 where
  pub within : k ≤ length ps
  pub next : k < length ps → x ≤ start_of ps k
  pub place_is : (y : ℕ) → x ≤ y → place_in (take k ps) y ≡ place
