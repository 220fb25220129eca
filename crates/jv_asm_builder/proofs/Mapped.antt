-- What is left of a list, as what its parts stand for.
use Rattle.std.proofs.Common.{◌≡◌, ℕ, ◌+◌, ◌<◌, List, [], ◌∷◌, length, drop, get_or, refl, sym, ap, ◌∙◌, arith}
use Rattle.std.specs.Prelude.{map, zero, suc}
use Rattle.std.proofs.lemmas.List.{drop_more, length-map}

mapped_at : {X Y : Type 0} (view : X → Y) (xs : List X) (i : ℕ) (d : X) → get_or (map view xs) i (view d) ≡ view (get_or xs i d)
mapped_at view [] i d = refl
mapped_at view (x ∷ xs) zero d = refl
mapped_at view (x ∷ xs) (suc i) d = mapped_at view xs i d

pub mapped_left : {X Y : Type 0} (view : X → Y) (xs : List X) (i : ℕ) (x : X) → i < length xs → x ≡ get_or xs i x
    → drop i (map view xs) ≡ view x ∷ drop (i + 1) (map view xs)
mapped_left view xs i x lt is =
    let within : i < length (map view xs) = (let long = length-map xs view in omega arith) in
    drop_more (map view xs) i (view x) within ∙ ap (λ y. y ∷ drop (i + 1) (map view xs)) (mapped_at view xs i x ∙ ap view (sym is))
