-- Types by numbers and the first words of blocks.
use Rattle.std.proofs.Common.{◌≡◌, ℕ, ◌<◌, Bool, false, List, length, get_or, sym, ap, subst, ◌∙◌, arith}
use Rattle.jv_text.specs.declared.descriptor.FieldTypeOf.{FieldTypeOf}
use Rattle.jv_meaning_world.specs.World.{World}
use Rattle.jv_meaning_world.specs.Flow.{extended}
use Rattle.jv_meaning_machine.specs.Objects.{Object, is_at_or_below, is_subtype}
use Rattle.jv_meaning_machine.specs.Objects.Object.{InstanceOf, ArrayWith}
use Rattle.jv_interp_heap.specs.ObjectsInBlocks.{ObjectStands}
use Rattle.jv_interp_objects.specs.declared.types.NumberedType.{NumberedType}
use Rattle.jv_interp_objects.specs.Types.{IsOfType, HasWord}
use Rattle.jv_interp_objects.proofs.ElementNumbers.{as_many, fewer, more}

-- the first word of a block in which an object stands
pub first_word :
    (world : World) (addresses : List ℕ) (object : Object) (block : List ℕ) → ObjectStands world addresses object block
    → HasWord world object (get_or block 0 0)
first_word world addresses (InstanceOf instance) block h =
    subst (λ (l : List ℕ). HasWord world (InstanceOf instance) (get_or l 0 0)) (sym h.words_are) (h.class, h.few)
first_word world addresses (ArrayWith components values) block h =
    subst (λ (l : List ℕ). HasWord world (ArrayWith components values) (get_or l 0 0)) (sym h.words_are) h.type

pub some_word : (world : World) (addresses : List ℕ) (object : Object) (block : List ℕ) → ObjectStands world addresses object block → 0 < length block
some_word world addresses (InstanceOf instance) block h = let e = ap length h.words_are in omega (arith, e)
some_word world addresses (ArrayWith components values) block h = let e = ap length h.words_are in omega (arith, e)

-- ---- one type and another

module _ (world : World) (from to : NumberedType) (a b : FieldTypeOf (List ℕ)) (h : IsOfType world a from) (g : IsOfType world b to) where
  pub same_dimensions :
      (answer : Bool) → from.dimensions ≡ to.dimensions
      → answer ≡ extended (is_at_or_below world) 0 a.element 0 b.element → answer ≡ is_subtype world a b
  same_dimensions answer same e =
      e ∙ sym (as_many (is_at_or_below world) a.dimensions b.dimensions a.element b.element (sym h.dimensions ∙ same ∙ g.dimensions))

  pub fewer_dimensions : from.dimensions < to.dimensions → false ≡ is_subtype world a b
  fewer_dimensions less =
      let first = h.dimensions in let second = g.dimensions in
      sym (fewer (is_at_or_below world) a.dimensions b.dimensions a.element b.element (omega (arith, first, second, less)))

  pub more_dimensions :
      (answer : Bool) → to.dimensions < from.dimensions
      → answer ≡ extended (is_at_or_below world) 1 a.element 0 b.element → answer ≡ is_subtype world a b
  more_dimensions answer less e =
      let first = h.dimensions in let second = g.dimensions in
      e ∙ sym (more (is_at_or_below world) a.dimensions b.dimensions a.element b.element (omega (arith, first, second, less)))
