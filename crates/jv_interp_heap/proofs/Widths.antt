-- How many words a value has, by the type of what holds it: as many as the type, two for a long.
use Rattle.std.proofs.Common.{◌≡◌, ℕ, zero, suc, Bool, true, false, List, ◌++◌, Option, Some, None, replicate, codes, refl, sym, ap, subst, ◌∙◌, if◌then◌else◌}
use Rattle.std.specs.Str.{bytes_eq}
use Rattle.jv_meaning_world.proofs.Up.{same_name}
use Rattle.jv_text.specs.declared.descriptor.Base.TheVariants as bases
use Rattle.jv_text.specs.declared.descriptor.Element.{Element}
use Rattle.jv_text.specs.declared.descriptor.Element.TheVariants as elements
use Rattle.jv_text.specs.declared.descriptor.FieldTypeOf.{FieldTypeOf}
use Rattle.jv_text.specs.Descriptor.{element_text}
use Rattle.jv_text.specs.Types.{field_type_of}
use Rattle.jv_text.proofs.TypesOf.{field_from}
use Rattle.jv_stackmap.specs.declared.verification.VerificationTypeOf.TheVariants as types
use Rattle.jv_stackmap.specs.Types.{FrameType, value_type, value_type_by, width}
use Rattle.jv_meaning_machine.specs.Values.{Value, value_words, has_type, default_value, default_of_type, default_described, default_of}
use Rattle.jv_meaning_machine.specs.Values.Value.{Int, Long, Null, Reference}
use Rattle.jv_interp_heap.specs.ObjectsInBlocks.{IsIn}

-- ---- by a type

pub typed_words : (t : FrameType) (v : Value) → has_type t v ≡ true → value_words v ≡ width t
typed_words types.Int (Int number) h = refl
typed_words types.Long (Long number) h = refl
typed_words types.Null Null h = refl
typed_words types.Null (Reference id) h = refl
typed_words (types.Class name) Null h = refl
typed_words (types.Class name) (Reference id) h = refl
typed_words (types.Array components) Null h = refl
typed_words (types.Array components) (Reference id) h = refl
typed_words t v h = absurd cc

pub default_words : (t : FrameType) → value_words (default_value t) ≡ width t
default_words types.Int = refl
default_words types.Long = refl
default_words _ = refl

-- zeros stand for the value with which what is of a type begins
pub default_stands : (addresses : List ℕ) (t : FrameType) → IsIn addresses (default_value t) (replicate {A = ℕ} (width t) 0)
default_stands addresses types.Int = (0, refl, refl)
default_stands addresses types.Long = (0, 0, refl, refl)
default_stands addresses _ = refl

-- ---- by a descriptor, `J` alone is a long's (4.3.2)

abbrev pub words_described : List ℕ → ℕ
words_described descriptor = if bytes_eq descriptor (codes "J") then 2 else 1

by_parts :
    (n : ℕ) (element : Element (List ℕ)) → words_described (replicate n 91 ++ element_text element) ≡ width (value_type_by n element)
by_parts zero (elements.Base bases.Byte) = refl
by_parts zero (elements.Base bases.Char) = refl
by_parts zero (elements.Base bases.Double) = refl
by_parts zero (elements.Base bases.Float) = refl
by_parts zero (elements.Base bases.Int) = refl
by_parts zero (elements.Base bases.Long) = refl
by_parts zero (elements.Base bases.Short) = refl
by_parts zero (elements.Base bases.Boolean) = refl
by_parts zero (elements.Class name) = refl
by_parts (suc n) element = refl

pub described_words :
    (descriptor : List ℕ) (type : FieldTypeOf (List ℕ)) → field_type_of descriptor ≡ Some type
    → words_described descriptor ≡ width (value_type type)
described_words descriptor type e =
    ap words_described (field_from descriptor type e).spelled ∙ by_parts type.dimensions type.element

-- no type at all is no long's
not_long : (descriptor : List ℕ) → field_type_of descriptor ≡ None → words_described descriptor ≡ 1
not_long descriptor e = by_test (bytes_eq descriptor (codes "J")) refl
  where
    by_test : (b : Bool) → bytes_eq descriptor (codes "J") ≡ b → ◌≡◌ {A = ℕ} (if b then 2 else 1) 1
    by_test false t = refl
    by_test true t =
        let is : descriptor ≡ codes "J" = same_name descriptor (codes "J") t in
        absurd (long_is_one (subst (λ (d : List ℕ). field_type_of d ≡ None) is e))
      where
        long_is_one : field_type_of (codes "J") ≡ None → ⊥
        long_is_one f = cc

pub default_is : (addresses : List ℕ) (descriptor : List ℕ) → IsIn addresses (default_of descriptor) (replicate {A = ℕ} (words_described descriptor) 0)
default_is addresses descriptor = by_type (field_type_of descriptor) refl
  where
    by_type :
        (o : Option (FieldTypeOf (List ℕ))) → field_type_of descriptor ≡ o
        → IsIn addresses (default_described o) (replicate {A = ℕ} (words_described descriptor) 0)
    by_type None e = ap (λ (n : ℕ). replicate {A = ℕ} n 0) (not_long descriptor e)
    by_type (Some type) e =
        subst (λ (n : ℕ). IsIn addresses (default_of_type type) (replicate {A = ℕ} n 0)) (sym (described_words descriptor type e))
        (default_stands addresses (value_type type))

pub default_is_as_wide : (descriptor : List ℕ) → value_words (default_of descriptor) ≡ words_described descriptor
default_is_as_wide descriptor = by_type (field_type_of descriptor) refl
  where
    by_type : (o : Option (FieldTypeOf (List ℕ))) → field_type_of descriptor ≡ o → value_words (default_described o) ≡ words_described descriptor
    by_type None e = sym (not_long descriptor e)
    by_type (Some type) e = default_words (value_type type) ∙ sym (described_words descriptor type e)
