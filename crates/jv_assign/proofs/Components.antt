-- Components by how their dimensions compare.
use Rattle.std.proofs.Common.{◌≡◌, ℕ, zero, suc, ◌<◌, List, false, refl, arith}
use Rattle.jv_text.specs.declared.descriptor.Element.{Element}
use Rattle.jv_text.specs.declared.descriptor.Element.TheVariants as elements
use Rattle.jv_meaning_world.specs.World.{World}
use Rattle.jv_meaning_world.specs.Flow.{component_flows}

-- of as many dimensions: as the elements
pub as_many : (world : World) (m n : ℕ) (e f : Element (List ℕ)) → m ≡ n → component_flows world m e n f ≡ component_flows world 0 e 0 f
as_many world zero zero e f h = refl
as_many world zero (suc n) e f h = absurd cc
as_many world (suc m) zero e f h = absurd cc
as_many world (suc m) (suc n) e f h = as_many world m n e f (omega (arith, h))

-- of more: as an array to an element
pub more : (world : World) (m n : ℕ) (e f : Element (List ℕ)) → n < m → component_flows world m e n f ≡ component_flows world 1 e 0 f
more world zero n e f h = absurd (omega (arith, h))
more world (suc m) zero e (elements.Base b) h = refl
more world (suc m) zero e (elements.Class y) h = refl
more world (suc m) (suc n) e f h = more world m n e f (omega (arith, h))

-- of fewer: not at all
pub fewer : (world : World) (m n : ℕ) (e f : Element (List ℕ)) → m < n → component_flows world m e n f ≡ false
fewer world zero zero e f h = absurd (omega (arith, h))
fewer world zero (suc n) e f h = refl
fewer world (suc m) zero e f h = absurd (omega (arith, h))
fewer world (suc m) (suc n) e f h = fewer world m n e f (omega (arith, h))
