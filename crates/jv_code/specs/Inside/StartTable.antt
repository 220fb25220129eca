-- A table of the offsets where instructions start.
use Rattle.std.specs.Prelude.{◌≡◌, ◌↔◌, ℕ, Bool, true, List, Some, slice_get}
use Rattle.jv_code.specs.Places.{IsStart}

-- it marks nothing
abbrev pub IsBlank : List Bool → Type 0
IsBlank table = (pc : ℕ) → slice_get table pc ≡ Some true → ⊥

-- it marks the starts and nothing else
abbrev pub IsStartTable : List ℕ → List Bool → Type 0
IsStartTable bytes table = (pc : ℕ) → (slice_get table pc ≡ Some true) ↔ IsStart bytes pc
