-- Constants by their places.
use Rattle.std.proofs.Common.{◌≡◌, ℕ, zero, suc, ◌-◌, ◌<◌, List, Some, None, ap, ◌∙◌, arith}
use Rattle.std.specs.Prelude.{slice_get}
use Rattle.std.specs.Option.{option_map}
use Rattle.std.proofs.lemmas.Option.{slice_get-map}
use Rattle.jv_pool.specs.Constants.{usable}
use Rattle.jv_pool.specs.Inside.Reading.{entry_of, entries_in, entry_at}

pub entry_there : (bytes places : List ℕ) (index place : ℕ) → 0 < index → slice_get places (index - 1) ≡ Some place → entry_at (entries_in bytes places) index ≡ entry_of bytes place
entry_there bytes places zero place lt e = absurd (omega arith)
entry_there bytes places (suc n) place lt e =
    let here : n ≡ suc n - 1 = omega arith in
    ap usable (slice_get-map (entry_of bytes) places n ∙ ap (λ (k : ℕ). option_map (entry_of bytes) (slice_get places k)) here ∙ ap (option_map (entry_of bytes)) e)

pub entry_past : (bytes places : List ℕ) (index : ℕ) → 0 < index → slice_get places (index - 1) ≡ None → entry_at (entries_in bytes places) index ≡ None
entry_past bytes places zero lt e = absurd (omega arith)
entry_past bytes places (suc n) lt e =
    let here : n ≡ suc n - 1 = omega arith in
    ap usable (slice_get-map (entry_of bytes) places n ∙ ap (λ (k : ℕ). option_map (entry_of bytes) (slice_get places k)) here ∙ ap (option_map (entry_of bytes)) e)
