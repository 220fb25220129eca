-- Entries in rows.
use Rattle.std.specs.Prelude.{◌≡◌, ◌⊎◌, ℕ, List, Option, Some, None, slice_get}
use Rattle.std.specs.List.{All}
use Rattle.jv_link_cache.specs.declared.rows.Row.{Row}

abbrev pub entry_of : {E : Type 0} → ℕ → Option (Row E) → Option E
entry_of place None = None
entry_of place (Some row) = slice_get row.entries.items place

abbrev pub entry_at : {E : Type 0} → List (Row E) → ℕ → ℕ → Option E
entry_at rows row place = entry_of place (slice_get rows row)

-- each entry is right, by its row and its place there
abbrev pub AreRows : {E : Type 0} → (ℕ → ℕ → E → Type 0) → List (Row E) → Type 0
AreRows {E} P rows = (row place : ℕ) (entry : E) → entry_at rows row place ≡ Some entry → P row place entry

abbrev pub IsEmptyRow : {E : Type 0} → E → Row E → Type 0
IsEmptyRow empty row = All (λ entry. entry ≡ empty) row.entries.items

-- after empty ones were added, each entry is empty or was there
abbrev pub IsReached : {E : Type 0} → E → Row E → Row E → Type 0
IsReached {E} empty before after =
    (at : ℕ) (e : E) → slice_get after.entries.items at ≡ Some e → (e ≡ empty) ⊎ (slice_get before.entries.items at ≡ Some e)

-- after one was kept at a place, each entry is empty, or was there, or is that one
abbrev pub IsKeptIn : {E : Type 0} → E → ℕ → E → Row E → Row E → Type 0
IsKeptIn {E} empty place entry before after =
    (at : ℕ) (e : E) → slice_get after.entries.items at ≡ Some e
    → (e ≡ empty) ⊎ (slice_get before.entries.items at ≡ Some e) ⊎ ((at ≡ place) × (e ≡ entry))

abbrev pub IsKept : {E : Type 0} → E → ℕ → ℕ → E → List (Row E) → List (Row E) → Type 0
IsKept {E} empty row place entry before after =
    (number at : ℕ) (e : E) → entry_at after number at ≡ Some e
    → (e ≡ empty) ⊎ (entry_at before number at ≡ Some e) ⊎ ((number ≡ row) × (at ≡ place) × (e ≡ entry))
