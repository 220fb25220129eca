-- New objects and arrays, whose fields and components are zero or null, join the others.
use Rattle.std.proofs.Common.{◌≡◌, ℕ, zero, suc, ◌+◌, ◌*◌, ◌<◌, Bool, List, [], ◌∷◌, ◌++◌, map, replicate, sum_by, refl, sym, ap, subst, ◌∙◌, arith}
use Rattle.std.proofs.lemmas.List.{replicate-append-replicate, length-replicate}
use Rattle.std.proofs.lemmas.List.Sums.{sum_by-cons}
use Rattle.jv_text.specs.declared.descriptor.FieldTypeOf.{FieldTypeOf}
use Rattle.jv_stackmap.specs.Types.{value_type, width}
use Rattle.jv_meaning_world.specs.World.{Loaded, World}
use Rattle.jv_meaning_world.specs.LookUps.{DeclaredField}
use Rattle.jv_meaning_typing.specs.Layout.{instance_fields, field_words, object_words}
use Rattle.jv_meaning_machine.specs.Values.{Value, default_of_type}
use Rattle.jv_meaning_machine.specs.Objects.{default_entry, Object, new_instance, new_array}
use Rattle.jv_meaning_machine.specs.Objects.Object.{InstanceOf}
use Rattle.jv_interp_heap.specs.ObjectsInBlocks.{Blocks, AreFields, AreComponents, HasNumber, IsArrayWord, ObjectsStand}
use Rattle.jv_interp_heap.specs.NewBlocks.{Joins}
use Rattle.jv_interp_heap.proofs.Widths.{default_words, default_stands, default_is, default_is_as_wide}
use Rattle.jv_interp_heap.proofs.Joined.{object_joined}

-- ---- zeros

zeros : ℕ → List ℕ
zeros n = replicate n 0

more_zeros : (m n : ℕ) → replicate {A = ℕ} (m + n) 0 ≡ replicate m 0 ++ replicate n 0
more_zeros m n = sym (replicate-append-replicate m n 0)

pub fields_begin :
    (addresses : List ℕ) (fields : List DeclaredField)
    → AreFields addresses fields (map default_entry fields) (replicate {A = ℕ} (sum_by field_words fields) 0)
fields_begin addresses [] = refl
fields_begin addresses (d ∷ fields) = (
  replicate (field_words d) 0,
  replicate (sum_by field_words fields) 0,
  let sum : sum_by field_words (d ∷ fields) ≡ field_words d + sum_by field_words fields = sum_by-cons field_words d fields in
      ap (λ (n : ℕ). replicate {A = ℕ} n 0) sum ∙ more_zeros (field_words d) (sum_by field_words fields),
  refl,
  default_is_as_wide d.field.descriptor,
  default_is addresses d.field.descriptor,
  fields_begin addresses fields,
)

pub components_begin :
    (addresses : List ℕ) (type : FieldTypeOf (List ℕ)) (count : ℕ)
    → AreComponents addresses type (replicate count (default_of_type type)) (replicate {A = ℕ} (count * width (value_type type)) 0)
components_begin addresses type zero =
    let none : 0 * width (value_type type) ≡ 0 = omega arith in
    ap (λ (n : ℕ). replicate {A = ℕ} n 0) none
components_begin addresses type (suc count) =
    let product : suc count * width (value_type type) ≡ width (value_type type) + count * width (value_type type) = omega arith in (
      replicate (width (value_type type)) 0,
      replicate (count * width (value_type type)) 0,
      ap (λ (n : ℕ). replicate {A = ℕ} n 0) product ∙ more_zeros (width (value_type type)) (count * width (value_type type)),
      default_words (value_type type),
      default_stands addresses (value_type type),
      components_begin addresses type count,
    )

-- ---- they join

pub instance_joined :
    (world : World) (objects : List Object) (addresses : List ℕ) (before after : Blocks) (constructed : Bool) (l : Loaded)
    (number address words : ℕ) → ObjectsStand world objects addresses before → (class : HasNumber world l.class.name number) → class.l ≡ l
    → number < 2147483648 → object_words world l ≡ words → Joins (number ∷ replicate words 0) before after address
    → ObjectsStand world (objects ++ InstanceOf (new_instance world constructed l) ∷ []) (addresses ++ address ∷ []) after
instance_joined world objects addresses before after constructed l number address words h class is few size new =
    object_joined world objects addresses before after (InstanceOf (new_instance world constructed l)) address (number ∷ replicate words 0) h
    new.above new.joins
    (record {
      number = number;
      class = class;
      few = few;
      fields = replicate words 0;
      words_are = refl;
      stand =
          subst (λ (k : Loaded). AreFields (addresses ++ address ∷ []) (instance_fields world k) (map default_entry (instance_fields world l)) (replicate {A = ℕ} words 0))
          (sym is)
          (subst (λ (n : ℕ). AreFields (addresses ++ address ∷ []) (instance_fields world l) (map default_entry (instance_fields world l)) (replicate {A = ℕ} n 0))
          size (fields_begin (addresses ++ address ∷ []) (instance_fields world l)));
    })

pub array_joined :
    (world : World) (objects : List Object) (addresses : List ℕ) (before after : Blocks) (components : FieldTypeOf (List ℕ))
    (word count address : ℕ) → ObjectsStand world objects addresses before → IsArrayWord world components word
    → count < 2147483648 → Joins (word ∷ count ∷ replicate (count * width (value_type components)) 0) before after address
    → ObjectsStand world (objects ++ new_array components count ∷ []) (addresses ++ address ∷ []) after
array_joined world objects addresses before after components word count address h type few new =
    object_joined world objects addresses before after (new_array components count) address
    (word ∷ count ∷ replicate (count * width (value_type components)) 0) h new.above new.joins
    (record {
      word = word;
      type = type;
      few =
          let size = length-replicate {A = Value} count (default_of_type components) in
          omega (arith, few, size);
      inside = replicate (count * width (value_type components)) 0;
      words_are =
          ap (λ (n : ℕ). word ∷ n ∷ replicate (count * width (value_type components)) 0)
          (sym (length-replicate {A = Value} count (default_of_type components)));
      stand = components_begin (addresses ++ address ∷ []) components count;
    })
