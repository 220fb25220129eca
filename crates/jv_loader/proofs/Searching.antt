-- Searches, class by class.
use Rattle.std.proofs.Common.{◌≡◌, ℕ, ◌+◌, ◌<◌, ◌≤◌, true, false, List, [], ◌∷◌, ◌++◌, length, get_or, nat_lt, refl, sym, ap, ◌∙◌, subst, arith}
use Rattle.std.specs.Global.{Vec}
use Rattle.std.proofs.lemmas.Bool.{ltb-true, ltb-false}
use Rattle.std.proofs.lemmas.List.{map-append, length-map, length-append, get_or_append_left, get_or-map}
use Rattle.std.proofs.Math.Seq.{get_or-append_seam}
use Rattle.jv_meaning_world.specs.World.{World}
use Rattle.jv_loader.specs.Inside.Searches.{IsSearch, AreSearches, numbers_in, lists_of}

pub one_more : (world : World) (lists new : List (Vec ℕ)) (v : Vec ℕ) (n : ℕ) → new ≡ lists ++ v ∷ [] → length lists ≡ n →
    ((k : ℕ) → k < n → IsSearch world k (get_or (lists_of lists) k [])) → IsSearch world n v.items
    → (length new ≡ n + 1) × ((k : ℕ) → k < n + 1 → IsSearch world k (get_or (lists_of new) k []))
one_more world lists new v n made many each last = (
  ap length made ∙ (length-append lists (v ∷ []) ∙ ap (λ m. m + 1) many),
  λ k less. by_place k less,
)
  where
    as_many : length (lists_of lists) ≡ n
    as_many = length-map lists numbers_in ∙ many

    whole : lists_of new ≡ lists_of lists ++ v.items ∷ []
    whole = ap lists_of made ∙ map-append numbers_in lists (v ∷ [])

    by_place : (k : ℕ) → k < n + 1 → IsSearch world k (get_or (lists_of new) k [])
    by_place k less = elim (nat_lt k n) as (λ t. nat_lt k n ≡ t → IsSearch world k (get_or (lists_of new) k [])) [
      | true ↦ λ e.
          let below = ltb-true k n e in
          subst (IsSearch world k) (sym (ap (λ ls. get_or ls k []) whole ∙ get_or_append_left (lists_of lists) (v.items ∷ []) [] k (subst (λ m. k < m) (sym as_many) below))) (each k below)
      | false ↦ λ e.
          let past : n ≤ k = ltb-false k n e in
          let same : k ≡ n = omega (arith, past, less) in
          let place : length (lists_of lists) ≡ k = as_many ∙ sym same in
          subst (IsSearch world k)
          (sym (ap (λ ls. get_or ls k []) whole ∙
          (ap (get_or_at (lists_of lists ++ v.items ∷ [])) (sym place) ∙ get_or-append_seam (lists_of lists) v.items [] [])))
          (subst (λ m. IsSearch world m v.items) (sym same) last)
    ] refl
      where
        get_or_at : List (List ℕ) → ℕ → List ℕ
        get_or_at ls m = get_or ls m []

pub all_of : (world : World) (lists : List (Vec ℕ)) (n : ℕ) → length world ≤ n → n ≤ length world → length lists ≡ n →
    ((k : ℕ) → k < n → IsSearch world k (get_or (lists_of lists) k [])) → AreSearches world (lists_of lists)
all_of world lists n h k many each =
    let same : n ≡ length world = omega (arith, h, k) in
    record {
      many = length-map lists numbers_in ∙ (many ∙ same);
      each = λ j less. each j (subst (λ m. j < m) (sym same) less);
    }

pub list_there : (lists : List (Vec ℕ)) (k : ℕ) (v : Vec ℕ) → k < length lists → v ≡ get_or lists k v → get_or (lists_of lists) k [] ≡ v.items
list_there lists k v h e = get_or-map numbers_in lists k v [] h ∙ ap numbers_in (sym e)
