-- Pairs of a lookupswitch at the front of bytes.
use Rattle.std.proofs.Common.{◌≡◌, ◌≢◌, ℕ, ◌-◌, zero, suc, ◌*◌, ◌/◌, ◌<◌, ◌≤◌, List, [], ◌∷◌, Option, Some, None, length, drop, refl, subst, ap, ◌∙◌, arith}
use Rattle.std.specs.Prelude.{ℤ, map, slice_get}
use Rattle.std.specs.List.{flat_map, list_all}
use Rattle.std.specs.Option.{option_map}
use Rattle.std.proofs.lemmas.Bool.{and_parts}
use Rattle.std.proofs.lemmas.Option.{slice_get_past, slice_get-map}
use Rattle.jv_format.proofs.Laws.{is_some, both_is}
use Rattle.jv_code.specs.Numbers.{signed32}
use Rattle.jv_code.specs.Switches.{number_of, pairs_in, pair, pair_distance, PairsStand}
use Rattle.jv_code.proofs.Laws.{signed32_is}

abbrev Pairs : List ℕ → ℤ × ℤ → List ℕ → Type 0
Pairs bytes p rest = (pairs_in bytes ≡ p ∷ pairs_in rest) × (length rest < length bytes)

pub pair_found : (bytes : List ℕ) (p : ℤ × ℤ) (rest : List ℕ) → pair.read bytes ≡ Some (p, rest) → (pairs_in bytes ≡ p ∷ pairs_in rest) × (length rest < length bytes)
pair_found [] p rest e = absurd cc
pair_found (a ∷ []) p rest e = absurd cc
pair_found (a ∷ b ∷ []) p rest e = absurd cc
pair_found (a ∷ b ∷ c ∷ []) p rest e = absurd cc
pair_found (a ∷ b ∷ c ∷ d ∷ []) p rest e = absurd cc
pair_found (a ∷ b ∷ c ∷ d ∷ s ∷ []) p rest e = absurd cc
pair_found (a ∷ b ∷ c ∷ d ∷ s ∷ t ∷ []) p rest e = absurd cc
pair_found (a ∷ b ∷ c ∷ d ∷ s ∷ t ∷ u ∷ []) p rest e = absurd cc
pair_found (a ∷ b ∷ c ∷ d ∷ s ∷ t ∷ u ∷ v ∷ bytes) p rest e =
    let found : (ℤ × ℤ) × List ℕ = ((number_of a b c d, number_of s t u v), bytes) in
    let same : found ≡ (p, rest) = is_some found (p, rest) e in
    subst (λ (y : (ℤ × ℤ) × List ℕ). Pairs (a ∷ b ∷ c ∷ d ∷ s ∷ t ∷ u ∷ v ∷ bytes) y.0 y.1) same (refl, omega arith)

pub pairs_count : (bytes : List ℕ) → length (pairs_in bytes) ≡ length bytes / 8
pairs_count (a ∷ b ∷ c ∷ d ∷ e ∷ f ∷ g ∷ h ∷ rest) = let more = pairs_count rest in omega (arith, more)
pairs_count [] = refl
pairs_count (a ∷ []) = refl
pairs_count (a ∷ b ∷ []) = refl
pairs_count (a ∷ b ∷ c ∷ []) = refl
pairs_count (a ∷ b ∷ c ∷ d ∷ []) = refl
pairs_count (a ∷ b ∷ c ∷ d ∷ e ∷ []) = refl
pairs_count (a ∷ b ∷ c ∷ d ∷ e ∷ f ∷ []) = refl
pairs_count (a ∷ b ∷ c ∷ d ∷ e ∷ f ∷ g ∷ []) = refl

pub no_pair_past : (bytes : List ℕ) (place : ℕ) → length bytes / 8 ≤ place → slice_get (pairs_in bytes) place ≡ None
no_pair_past bytes place le = slice_get_past (pairs_in bytes) place (omega (arith, pairs_count bytes))

-- the distances behind the default one are those of the pairs
pub distance_behind_default : (default : ℤ) (pairs : List (ℤ × ℤ)) (place : ℕ) → place ≢ 0 → slice_get (default ∷ map pair_distance pairs) place ≡
    option_map pair_distance (slice_get pairs (place - 1))
distance_behind_default default pairs zero h = absurd (h refl)
distance_behind_default default pairs (suc place) h =
    let back : place ≡ suc place - 1 = omega arith in
    slice_get-map pair_distance pairs place ∙ ap (λ (k : ℕ). option_map pair_distance (slice_get pairs k)) back

-- the first pair behind that many others
abbrev pub pair_behind : List ℕ → ℕ → Option (ℤ × ℤ)
pair_behind bytes place = slice_get (pairs_in (drop (8 * place) bytes)) 0

eight : (place : ℕ) → 8 * suc place ≡ suc (suc (suc (suc (suc (suc (suc (suc (8 * place))))))))
eight place = omega arith

pub pair_there : (bytes : List ℕ) (place : ℕ) → pair_behind bytes place ≡ slice_get (pairs_in bytes) place
pair_there bytes zero = refl
pair_there (a ∷ b ∷ c ∷ d ∷ e ∷ f ∷ g ∷ h ∷ rest) (suc place) = rw (eight place) (pair_there rest place)
pair_there [] (suc place) = rw (eight place) refl
pair_there (a ∷ []) (suc place) = rw (eight place) refl
pair_there (a ∷ b ∷ []) (suc place) = rw (eight place) refl
pair_there (a ∷ b ∷ c ∷ []) (suc place) = rw (eight place) refl
pair_there (a ∷ b ∷ c ∷ d ∷ []) (suc place) = rw (eight place) refl
pair_there (a ∷ b ∷ c ∷ d ∷ e ∷ []) (suc place) = rw (eight place) refl
pair_there (a ∷ b ∷ c ∷ d ∷ e ∷ f ∷ []) (suc place) = rw (eight place) refl
pair_there (a ∷ b ∷ c ∷ d ∷ e ∷ f ∷ g ∷ []) (suc place) = rw (eight place) refl

-- ---- laws

pub pairs_stand : PairsStand
pairs_stand [] h = refl
pairs_stand (p ∷ ps) h =
    let parts = and_parts (pair.fits p) (list_all pair.fits ps) h in
    let again = (both_is signed32 signed32 signed32_is signed32_is).again p (flat_map pair.spelling ps) parts.0 in
    (pair_found (flat_map pair.spelling (p ∷ ps)) p (flat_map pair.spelling ps) again).0 ∙ ap (λ (r : List (ℤ × ℤ)). p ∷ r) (pairs_stand ps parts.1)
