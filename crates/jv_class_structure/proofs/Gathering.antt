-- The one value among the items of a list: the loop that looks for it, and what it finds.
use Rattle.std.proofs.Common.{◌≡◌, ℕ, suc, ◌+◌, ◌-◌, ◌<◌, false, eqb, length, List, [], ◌∷◌, Option, Some, None, refl, sym, ap, ◌∙◌, arith}
use Rattle.std.specs.Option.{option_map}
use Rattle.jv_format.specs.Format.{Format, ◌>>=◌}
use Rattle.jv_format.specs.Readers.{contents, whole, enclosed, enclosed_read}
use Rattle.jv_class_structure.specs.Inside.Reading.{one_more, gathered}

-- one item more
pub gathers : {V : Type 0} (f : Format (Option V)) (found next joined : Option V) (count i : ℕ) (bytes after : List ℕ)
    (total : Option (Option V × List ℕ)) → i < count → f.read bytes ≡ Some (next, after) → one_more found next ≡ Some joined
    → gathered f (count - i) found bytes ≡ total → gathered f (count - (i + 1)) joined after ≡ total
gathers {V = V} f found next joined count i bytes after total lt h m so_far =
    let k : count - i ≡ suc (count - (i + 1)) = omega arith in
    let one : gathered f (count - i) found bytes ≡ gathered f (count - (i + 1)) joined after = rw (k, h, m) refl in
    sym one ∙ so_far

-- joining goes along with what is seen of values
pub one_more-seen : {V W : Type 0} (see : V → W) (found next joined : Option V) → one_more found next ≡ Some joined → one_more (option_map see found)
    (option_map see next) ≡ Some (option_map see joined)
one_more-seen see None next joined e = cc
one_more-seen see (Some v) None joined e = cc
one_more-seen see (Some v) (Some w) joined e = absurd cc

-- values that do not go together
pub gathers-none : {V : Type 0} (f : Format (Option V)) (found next : Option V) (count i : ℕ) (bytes after : List ℕ)
    (total : Option (Option V × List ℕ)) → i < count → f.read bytes ≡ Some (next, after) → one_more found next ≡ None
    → gathered f (count - i) found bytes ≡ total → total ≡ None
gathers-none f found next count i bytes after total lt h m so_far =
    let k : count - i ≡ suc (count - (i + 1)) = omega arith in
    let one : gathered f (count - i) found bytes ≡ None = rw (k, h, m) refl in
    sym so_far ∙ one

pub one_more-none : {V W : Type 0} (see : V → W) (found next : Option V) → one_more found next ≡ None → one_more (option_map see found) (option_map see next) ≡ None
one_more-none see None next e = absurd cc
one_more-none see (Some v) None e = absurd cc
one_more-none see (Some v) (Some w) e = refl

-- ---- what does not fill its contents

not_whole : {A : Type 0} (rest after : List ℕ) (a : A) → eqb (length after) 0 ≡ false → whole rest (a, after) ≡ None
not_whole rest [] a h = absurd cc
not_whole rest (x ∷ after) a h = refl

pub not_enclosed : {A : Type 0} (f : Format A) (bytes inside rest after : List ℕ) (a : A) → contents.read bytes ≡ Some (inside, rest) →
    f.read inside ≡ Some (a, after) → eqb (length after) 0 ≡ false → (enclosed f).read bytes ≡ None
not_enclosed {A = A} f bytes inside rest after a c e h =
    ap (λ (o : Option (List ℕ × List ℕ)). o >>= enclosed_read f) c ∙ ap (λ (o : Option (A × List ℕ)). o >>= whole rest) e ∙ not_whole rest after a h
