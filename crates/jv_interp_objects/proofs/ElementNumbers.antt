-- Elements by number (JVMS 6.5, instanceof).
use Rattle.std.proofs.Common.{◌≡◌, ℕ, zero, suc, ◌+◌, ◌-◌, ◌<◌, ◌≤◌, Bool, false, nat_le, List, length, refl, ap, ◌∙◌, arith, slice_get}
use Rattle.std.proofs.lemmas.Grind.{common_steps}
use Rattle.jv_text.specs.declared.descriptor.Base.{Base}
use Rattle.jv_text.specs.declared.descriptor.Base.TheVariants as bases
use Rattle.jv_text.specs.declared.descriptor.Element.{Element}
use Rattle.jv_text.specs.declared.descriptor.Element.TheVariants as elements
use Rattle.jv_meaning_world.specs.World.{World}
use Rattle.jv_meaning_world.specs.Flow.{extended}
use Rattle.jv_meaning_world.specs.Numbers.{IsNumbered, HoldsAtBoth}
use Rattle.std.proofs.lemmas.Option.{slice_get_within}
use Rattle.jv_meaning_machine.specs.Objects.{is_at_or_below}
use Rattle.jv_interp_heap.specs.ObjectsInBlocks.{base_number, IsElement}
use Rattle.jv_interp_heap.specs.SystemNumbers.{IsGuestsWorld}
use Rattle.jv_meaning_world.proofs.Up.{found_is_named}
use Rattle.jv_interp_objects.proofs.ClassNumbers.{above_arrays}

-- ---- base types

base_below : (b : Base) → base_number b < 8
base_below bases.Byte = omega arith
base_below bases.Char = omega arith
base_below bases.Double = omega arith
base_below bases.Float = omega arith
base_below bases.Int = omega arith
base_below bases.Long = omega arith
base_below bases.Short = omega arith
base_below bases.Boolean = omega arith

pub few_elements : (world : World) (e : Element (List ℕ)) (n : ℕ) → IsElement world e n → n < 8 + length world
few_elements world (elements.Base b) n h = let small = base_below b in omega (arith, small, h)
few_elements world (elements.Class name) n h =
    let inside = slice_get_within world h.0 h.1.l h.1.at in let is = h.2 in omega (arith, inside, is)

-- ---- the one is the other, or below it

module _ (world : World) where
  pub of_classes :
      (a b : Element (List ℕ)) (from to : ℕ) (answer : Bool) → 8 ≤ from → 8 ≤ to → IsElement world a from → IsElement world b to
      → HoldsAtBoth world (from - 8) (to - 8) (λ l m. answer ≡ is_at_or_below world l.class.name m.class.name)
      → answer ≡ extended (is_at_or_below world) zero a zero b
  of_classes (elements.Base p) b from to answer more many h g holds = let small = base_below p in absurd (omega (arith, small, h, more))
  of_classes (elements.Class x) (elements.Base q) from to answer more many h g holds =
      let small = base_below q in absurd (omega (arith, small, g, many))
  of_classes (elements.Class x) (elements.Class y) from to answer more many h g holds =
      let first : from - 8 ≡ h.0 = let is = h.2 in omega (arith, is) in
      let second : to - 8 ≡ g.0 = let is = g.2 in omega (arith, is) in
      holds h.1.l (ap (slice_get world) first ∙ h.1.at) g.1.l (ap (slice_get world) second ∙ g.1.at)
      ∙ ap (λ (n : List ℕ). is_at_or_below world n g.1.l.class.name) (found_is_named world x h.1.l h.1.named)
      ∙ ap (λ (n : List ℕ). is_at_or_below world x n) (found_is_named world y g.1.l g.1.named)

  -- ---- each array is below it

  pub below_first : (a b : Element (List ℕ)) (element more : ℕ) → element < 8 → IsElement world b element → false ≡ extended (is_at_or_below world) (suc more) a zero b
  below_first a (elements.Base q) element more less h = refl
  below_first a (elements.Class y) element more less h = let is = h.2 in absurd (omega (arith, is, less))

  pub from_first :
      IsGuestsWorld world → IsNumbered world → (a b : Element (List ℕ)) (element more : ℕ) → 8 ≤ element → IsElement world b element
      → nat_le element 10 ≡ extended (is_at_or_below world) (suc more) a zero b
  from_first guests numbers a (elements.Base q) element more many h = let small = base_below q in absurd (omega (arith, small, h, many))
  from_first guests numbers a (elements.Class y) element more many h =
      ap (λ (n : ℕ). nat_le n 10) h.2 ∙ shifted h.0 ∙ above_arrays world guests numbers y h.0 h.1
    where
      shifted : (n : ℕ) → nat_le (8 + n) 10 ≡ nat_le n 2
      shifted n = grind (arith, common_steps)

-- ---- dimensions

module _ (classes : List ℕ → List ℕ → Bool) where
  pub as_many : (m n : ℕ) (a b : Element (List ℕ)) → m ≡ n → extended classes m a n b ≡ extended classes zero a zero b
  as_many zero zero a b h = refl
  as_many zero (suc n) a b h = absurd cc
  as_many (suc m) zero a b h = absurd cc
  as_many (suc m) (suc n) a b h = as_many m n a b (omega (arith, h))

  pub fewer : (m n : ℕ) (a b : Element (List ℕ)) → m < n → extended classes m a n b ≡ false
  fewer zero zero a b h = absurd (omega (arith, h))
  fewer zero (suc n) (elements.Base p) b h = refl
  fewer zero (suc n) (elements.Class x) b h = refl
  fewer (suc m) zero a b h = absurd (omega (arith, h))
  fewer (suc m) (suc n) a b h = fewer m n a b (omega (arith, h))

  pub more : (m n : ℕ) (a b : Element (List ℕ)) → n < m → extended classes m a n b ≡ extended classes 1 a zero b
  more zero n a b h = absurd (omega (arith, h))
  more (suc m) zero a (elements.Base q) h = refl
  more (suc m) zero a (elements.Class y) h = refl
  more (suc m) (suc n) a b h = more m n a b (omega (arith, h))
