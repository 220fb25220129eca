-- Marks as numbers that bear a stamp.
use Rattle.std.proofs.Common.{◌≡◌, ℕ, zero, suc, ◌+◌, ◌<◌, ◌≤◌, Bool, true, false, List, [], ◌∷◌, length, set, get_or, nat_eq, refl, sym, ap, ◌∙◌, arith}
use Rattle.std.specs.Prelude.{replicate}
use Rattle.std.specs.List.{All}
use Rattle.std.proofs.lemmas.Bool.{ne_eqb, eq-eqb}
use Rattle.std.proofs.lemmas.List.{length-map, map-set}
use Rattle.jv_lookups.specs.Inside.Stamps.{marked_by, AreUpTo}

-- a stamp that is later than all marks nothing
pub none_marked : (stamp : ℕ) (stamps : List ℕ) → All (λ s. s < stamp) stamps → marked_by stamp stamps ≡ replicate (length stamps) false
none_marked stamp [] h = refl
none_marked stamp (s ∷ stamps) h =
    let here : s < stamp = h 0 0 (omega arith) in
    let first : nat_eq s stamp ≡ false = ne_eqb s stamp (λ e. absurd (omega (arith, e))) in
    ap (λ b. b ∷ marked_by stamp stamps) first ∙ ap (λ bs. false ∷ bs) (none_marked stamp stamps (λ k d less. h (suc k) d (omega (arith, less))))

pub none_marked_after : (stamp : ℕ) (stamps : List ℕ) (old : List Bool) → AreUpTo stamp stamps → marked_by stamp stamps ≡ old → marked_by (stamp + 1) stamps ≡ replicate (length old) false
none_marked_after stamp stamps old h e =
    none_marked (stamp + 1) stamps (λ k d less. let upto : get_or stamps k d ≤ stamp = h k d less in omega arith)
    ∙ ap (λ n. replicate n false) (sym (length-map stamps (λ s. nat_eq s stamp)) ∙ ap length e)

-- all stamps are 0
pub none_marked_anew : (n : ℕ) (stamps : List ℕ) → stamps ≡ replicate n 0 → marked_by 1 stamps ≡ replicate n false
none_marked_anew n stamps e = ap (marked_by 1) e ∙ of_zeros n
  where
    of_zeros : (n : ℕ) → marked_by 1 (replicate n 0) ≡ replicate n false
    of_zeros zero = refl
    of_zeros (suc n) = ap (λ bs. false ∷ bs) (of_zeros n)

pub marked_more : (stamp : ℕ) (stamps after : List ℕ) (old : List Bool) (number : ℕ) → marked_by stamp stamps ≡ old → after ≡ set stamps number stamp → marked_by stamp after ≡ set old number true
marked_more stamp stamps after old number e w =
    ap (marked_by stamp) w
    ∙ (map-set (λ s. nat_eq s stamp) stamps number stamp ∙ (ap (λ b. set (marked_by stamp stamps) number b) (eq-eqb stamp stamp refl) ∙ ap (λ bs. set bs number true) e))

pub none_marked_again : (n : ℕ) (stamp : ℕ) (stamps after : List ℕ) (old : List Bool) → after ≡ replicate n 0 → length stamps ≡ n →
    marked_by stamp stamps ≡ old → marked_by 1 after ≡ replicate (length old) false
none_marked_again n stamp stamps after old e many was =
    none_marked_anew n after e ∙ ap (λ k. replicate k false) (sym many ∙ (sym (length-map stamps (λ s. nat_eq s stamp)) ∙ ap length was))
