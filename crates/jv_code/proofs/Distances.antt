-- The distances of a tableswitch that bytes hold.
use Rattle.std.proofs.Common.{◌≡◌, ℕ, zero, suc, ◌+◌, ◌*◌, ◌/◌, ◌<◌, ◌≤◌, List, [], ◌∷◌, Option, Some, None, length, drop, refl, subst, ap, ◌∙◌, arith}
use Rattle.std.specs.Prelude.{ℤ, pos, negsuc, ◌+ℤ◌, IsTrue, slice_get}
use Rattle.std.specs.List.{flat_map, list_all}
use Rattle.std.proofs.lemmas.Bool.{and_parts, eqb-true}
use Rattle.std.proofs.lemmas.Option.{slice_get_past}
use Rattle.jv_format.proofs.Laws.{is_some}
use Rattle.jv_code.specs.Numbers.{signed32}
use Rattle.jv_code.specs.Switches.{number_of, distances_in, distances_fit, DistancesStand}
use Rattle.jv_code.proofs.Laws.{signed32_is}

abbrev Distances : List ℕ → ℤ → List ℕ → Type 0
Distances bytes z rest = (distances_in bytes ≡ z ∷ distances_in rest) × (length rest < length bytes)

pub distance_found : (bytes : List ℕ) (z : ℤ) (rest : List ℕ) → signed32.read bytes ≡ Some (z, rest) → (distances_in bytes ≡ z ∷ distances_in rest) × (length rest < length bytes)
distance_found [] z rest e = absurd cc
distance_found (a ∷ []) z rest e = absurd cc
distance_found (a ∷ b ∷ []) z rest e = absurd cc
distance_found (a ∷ b ∷ c ∷ []) z rest e = absurd cc
distance_found (a ∷ b ∷ c ∷ d ∷ bytes) z rest e =
    let found : ℤ × List ℕ = (number_of a b c d, bytes) in
    subst (λ (y : ℤ × List ℕ). Distances (a ∷ b ∷ c ∷ d ∷ bytes) y.0 y.1) (is_some found (z, rest) e) (refl, omega arith)

pub distances_count : (bytes : List ℕ) → length (distances_in bytes) ≡ length bytes / 4
distances_count (a ∷ b ∷ c ∷ d ∷ rest) = let more = distances_count rest in omega (arith, more)
distances_count [] = refl
distances_count (a ∷ []) = refl
distances_count (a ∷ b ∷ []) = refl
distances_count (a ∷ b ∷ c ∷ []) = refl

pub none_past : (bytes : List ℕ) (place : ℕ) → length bytes / 4 ≤ place → slice_get (distances_in bytes) place ≡ None
none_past bytes place le = slice_get_past (distances_in bytes) place (omega (arith, distances_count bytes))

-- the first distance behind that many others
abbrev pub distance_behind : List ℕ → ℕ → Option ℤ
distance_behind bytes place = slice_get (distances_in (drop (4 * place) bytes)) 0

four : (place : ℕ) → 4 * suc place ≡ suc (suc (suc (suc (4 * place))))
four place = omega arith

pub distance_there : (bytes : List ℕ) (place : ℕ) → distance_behind bytes place ≡ slice_get (distances_in bytes) place
distance_there bytes zero = refl
distance_there (a ∷ b ∷ c ∷ d ∷ rest) (suc place) = rw (four place) (distance_there rest place)
distance_there [] (suc place) = rw (four place) refl
distance_there (a ∷ []) (suc place) = rw (four place) refl
distance_there (a ∷ b ∷ []) (suc place) = rw (four place) refl
distance_there (a ∷ b ∷ c ∷ []) (suc place) = rw (four place) refl

-- ---- laws

pub distances_stand : DistancesStand
distances_stand [] h = refl
distances_stand (z ∷ zs) h =
    let parts = and_parts (signed32.fits z) (list_all signed32.fits zs) h in
    let again = signed32_is.again z (flat_map signed32.spelling zs) parts.0 in
    (distance_found (flat_map signed32.spelling (z ∷ zs)) z (flat_map signed32.spelling zs) again).0 ∙ ap (λ (r : List ℤ). z ∷ r) (distances_stand zs parts.1)

pub each_distance : (z : ℤ) (bytes : List ℕ) → IsTrue (distances_fit z bytes) → pos (length (distances_in bytes)) ≡ z +ℤ pos 1
each_distance (pos n) bytes h =
    let long : length bytes ≡ 4 * (n + 1) = eqb-true _ _ h in
    let count : length (distances_in bytes) ≡ n + 1 = omega (arith, distances_count bytes) in
    ap pos count
each_distance (negsuc n) bytes h = absurd cc
