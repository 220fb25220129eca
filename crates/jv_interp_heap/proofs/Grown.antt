-- What stands under the addresses of objects stands under them and more as well.
use Rattle.std.proofs.Common.{◌≡◌, ℕ, zero, suc, List, [], ◌∷◌, ◌++◌, Some, slice_get}
use Rattle.jv_text.specs.declared.descriptor.FieldTypeOf.{FieldTypeOf}
use Rattle.jv_meaning_world.specs.World.{World}
use Rattle.jv_meaning_world.specs.LookUps.{DeclaredField}
use Rattle.jv_meaning_typing.specs.Layout.{instance_fields}
use Rattle.jv_meaning_machine.specs.Values.{Value}
use Rattle.jv_meaning_machine.specs.Values.Value.{Int, Long, Null, Reference, Half, Unset}
use Rattle.jv_meaning_machine.specs.Objects.{Content, Object}
use Rattle.jv_meaning_machine.specs.Objects.Object.{InstanceOf, ArrayWith}
use Rattle.jv_interp_heap.specs.ObjectsInBlocks.{IsIn, AreFields, AreComponents, ObjectStands}

pub get_more : {A : Type 0} (xs more : List A) (k : ℕ) (x : A) → slice_get xs k ≡ Some x → slice_get (xs ++ more) k ≡ Some x
get_more [] more k x e = absurd cc
get_more (y ∷ ys) more zero x e = e
get_more (y ∷ ys) more (suc k) x e = get_more ys more k x e

module _ (addresses more : List ℕ) where
  pub in_grown : (value : Value) (words : List ℕ) → IsIn addresses value words → IsIn (addresses ++ more) value words
  in_grown (Int value) words h = h
  in_grown (Long value) words h = h
  in_grown Null words h = h
  in_grown (Reference id) words h = (h.0, h.1, get_more addresses more id h.0 h.2)
  in_grown Half words h = h
  in_grown Unset words h = h

  pub fields_grown :
      (fields : List DeclaredField) (content : Content) (words : List ℕ) → AreFields addresses fields content words
      → AreFields (addresses ++ more) fields content words
  fields_grown [] [] words h = h
  fields_grown [] (entry ∷ content) words h = h
  fields_grown (d ∷ fields) [] words h = h
  fields_grown (d ∷ fields) (entry ∷ content) words h =
      (h.0, h.1, h.2, h.3, h.4, in_grown entry.1 h.0 h.5, fields_grown fields content h.1 h.6)

  pub components_grown :
      (type : FieldTypeOf (List ℕ)) (values : List Value) (words : List ℕ) → AreComponents addresses type values words
      → AreComponents (addresses ++ more) type values words
  components_grown type [] words h = h
  components_grown type (value ∷ values) words h = (h.0, h.1, h.2, h.3, in_grown value h.0 h.4, components_grown type values h.1 h.5)

  pub object_grown :
      (world : World) (object : Object) (words : List ℕ) → ObjectStands world addresses object words
      → ObjectStands world (addresses ++ more) object words
  object_grown world (InstanceOf instance) words h = record {
    number = h.number;
    class = h.class;
    few = h.few;
    fields = h.fields;
    words_are = h.words_are;
    stand = fields_grown (instance_fields world h.class.l) instance.fields h.fields h.stand;
  }
  object_grown world (ArrayWith components values) words h = record {
    word = h.word;
    type = h.type;
    few = h.few;
    inside = h.inside;
    words_are = h.words_are;
    stand = components_grown components values h.inside h.stand;
  }
