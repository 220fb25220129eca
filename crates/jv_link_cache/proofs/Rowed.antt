-- Entries in rows are right from the start, and stay so.
use Rattle.std.proofs.Common.{◌≡◌, ◌⊎◌, inl, inr, ℕ, List, Option, Some, None, refl, sym, subst}
use Rattle.std.specs.Prelude.{slice_get}
use Rattle.std.specs.List.{All}
use Rattle.std.proofs.lemmas.Option.{get_or_from_slice_get, slice_get_within}
use Rattle.jv_link_cache.specs.declared.rows.Row.{Row}
use Rattle.jv_link_cache.specs.Inside.Rows.{entry_of, entry_at, AreRows, IsEmptyRow, IsKept}

all_at : {X : Type 0} (P : X → Type 0) (xs : List X) (k : ℕ) (x : X) → All P xs → slice_get xs k ≡ Some x → P x
all_at P xs k x all e = subst P (get_or_from_slice_get xs k x x e) (all k x (slice_get_within xs k x e))

module _ {E : Type 0} (P : ℕ → ℕ → E → Type 0) where
  pub rows_begin : (empty : E) (rows : List (Row E)) → ((number at : ℕ) → P number at empty) → All (IsEmptyRow empty) rows → AreRows P rows
  rows_begin empty rows none all number at e here = by (slice_get rows number) refl here
    where
      by : (o : Option (Row E)) → slice_get rows number ≡ o → entry_of at o ≡ Some e → P number at e
      by None is there = absurd cc
      by (Some row) is there =
          subst (P number at) (sym (all_at (λ x. x ≡ empty) row.entries.items at e (all_at (IsEmptyRow empty) rows number row all is) there)) (none number at)

  pub rows_keep : (empty entry : E) (row place : ℕ) (before after : List (Row E)) → ((number at : ℕ) → P number at empty) → P row place entry
      → AreRows P before → IsKept empty row place entry before after → AreRows P after
  rows_keep empty entry row place before after none right all kept number at e here = by (kept number at e here)
    where
      by : (e ≡ empty) ⊎ (entry_at before number at ≡ Some e) ⊎ ((number ≡ row) × (at ≡ place) × (e ≡ entry)) → P number at e
      by (inl is) = subst (P number at) (sym is) (none number at)
      by (inr (inl there)) = all number at e there
      by (inr (inr is)) = subst (λ n. P n at e) (sym is.0) (subst (λ p. P row p e) (sym is.1) (subst (P row place) (sym is.2) right))
