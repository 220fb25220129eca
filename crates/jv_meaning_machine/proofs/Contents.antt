-- What fields hold.
use Rattle.std.proofs.Common.{◌≡◌, Bool, true, false, cond, [], ◌∷◌, Some, refl, sym, ap, ◌∙◌, true≢false}
use Rattle.std.specs.Prelude.{IsSome}
use Rattle.jv_meaning_machine.specs.Objects.{same_key, value_at, with_value}
use Rattle.jv_meaning_machine.specs.Laws.Stores.{StoredIsThere}

pub stored_is_there : StoredIsThere
stored_is_there key value [] h = absurd (true≢false (sym h))
stored_is_there key value (entry ∷ more) h = by_test (same_key key entry.0) refl h (stored_is_there key value more)
  where
    by_test :
        (b : Bool) → same_key key entry.0 ≡ b → IsSome (cond b (Some entry.1) (value_at key more))
        → (IsSome (value_at key more) → value_at key (with_value key value more) ≡ Some value)
        → value_at key (cond b ((entry.0, value) ∷ more) (entry ∷ with_value key value more)) ≡ Some value
    by_test true e h again = ap (λ (b : Bool). cond b (Some value) (value_at key more)) e
    by_test false e h again =
        ap (λ (b : Bool). cond b (Some entry.1) (value_at key (with_value key value more))) e ∙ again h
