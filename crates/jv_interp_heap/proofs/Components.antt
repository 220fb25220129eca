-- What stands in an array at an index, and what is stored there.
use Rattle.std.proofs.Common.{◌≡◌, ℕ, zero, suc, ◌+◌, ◌*◌, List, [], ◌∷◌, ◌++◌, Some, length, refl, sym, ap, subst, ◌∙◌, arith, slice_get, slice_set, length-append, append_assoc}
use Rattle.jv_text.specs.declared.descriptor.FieldTypeOf.{FieldTypeOf}
use Rattle.jv_stackmap.specs.Types.{value_type, width}
use Rattle.jv_meaning_machine.specs.Values.{Value, value_words}
use Rattle.jv_interp_heap.specs.ObjectsInBlocks.{IsIn, AreComponents}
use Rattle.jv_interp_heap.proofs.Fields.{own_length, StandsAt}

-- where a component stands, and what stands there once another one of its type is stored
pub record StandsAmong (addresses : List ℕ) (type : FieldTypeOf (List ℕ)) (values : List Value) (index : ℕ) (value : Value) (place : ℕ) (words : List ℕ) : Type 0 where
  pub at : StandsAt addresses value place words
  pub kind : value_words value ≡ width (value_type type)
  pub stored :
      (new : Value) (own : List ℕ) → IsIn addresses new own → value_words new ≡ width (value_type type)
      → AreComponents addresses type (slice_set values index new) (at.before ++ (own ++ at.behind))

module _ (addresses : List ℕ) (type : FieldTypeOf (List ℕ)) where
  abbrev slots : ℕ
  slots = width (value_type type)

  pub component_stands :
      (values : List Value) (words : List ℕ) (index : ℕ) (value : Value) → AreComponents addresses type values words
      → slice_get values index ≡ Some value → StandsAmong addresses type values index value (index * slots) words
  component_stands [] words index value h e = absurd cc
  component_stands (v ∷ values) words zero value h e =
      let is : v ≡ value = cc in
      record {
        at = record {
          before = [];
          own = h.0;
          behind = h.1;
          words_are = h.2;
          place_is = let n : 0 ≡ 0 * slots = omega arith in n;
          stands = subst (λ (x : Value). IsIn addresses x h.0) is h.4;
        };
        kind = subst (λ (x : Value). value_words x ≡ width (value_type type)) is h.3;
        stored = λ new own stands kind. (own, h.1, refl, kind, stands, h.5);
      }
  component_stands (v ∷ values) words (suc index) value h e =
      let rest = component_stands values h.1 index value h.5 e in
      let size = own_length addresses v h.0 h.4 in
      let product : suc index * slots ≡ slots + index * slots = omega arith in
      record {
        at = record {
          before = h.0 ++ rest.at.before;
          own = rest.at.own;
          behind = rest.at.behind;
          words_are = h.2 ∙ ap (λ (l : List ℕ). h.0 ++ l) rest.at.words_are ∙ sym (append_assoc h.0 rest.at.before (rest.at.own ++ rest.at.behind));
          place_is = omega (arith, product, size, h.3, rest.at.place_is, length-append h.0 rest.at.before);
          stands = rest.at.stands;
        };
        kind = rest.kind;
        stored =
            λ new own stands kind. (
              h.0,
              rest.at.before ++ (own ++ rest.at.behind),
              append_assoc h.0 rest.at.before (own ++ rest.at.behind),
              h.3,
              h.4,
              rest.stored new own stands kind,
            );
      }

  -- all of them have so many words
  pub components_length :
      (values : List Value) (words : List ℕ) → AreComponents addresses type values words → length words ≡ length values * slots
  components_length [] words h = let n : 0 ≡ 0 * slots = omega arith in ap length h ∙ n
  components_length (v ∷ values) words h =
      let rest = components_length values h.1 h.5 in
      let size = own_length addresses v h.0 h.4 in
      let product : suc (length values) * slots ≡ slots + length values * slots = omega arith in
      ap length h.2 ∙ omega (arith, product, size, h.3, rest, length-append h.0 h.1)
