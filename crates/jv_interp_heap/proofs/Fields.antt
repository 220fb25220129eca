-- What a field holds, by the field's place among others, and what is stored there.
use Rattle.std.proofs.Common.{◌≡◌, ℕ, ◌+◌, Bool, true, false, List, [], ◌∷◌, ◌++◌, Option, Some, None, length, refl, sym, ap, subst, ◌∙◌, arith, length-append, append_assoc, if◌then◌else◌}
use Rattle.std.specs.Option.{option_map}
use Rattle.jv_meaning_world.specs.LookUps.{DeclaredField}
use Rattle.jv_meaning_typing.specs.Layout.{field_words}
use Rattle.jv_meaning_machine.specs.Values.{Value, value_words}
use Rattle.jv_meaning_machine.specs.Values.Value.{Int, Long, Null, Reference, Half, Unset}
use Rattle.jv_meaning_machine.specs.Objects.{FieldKey, key_of, same_key, Content, value_at, with_value}
use Rattle.jv_interp_heap.specs.ObjectsInBlocks.{IsIn, AreFields, place_among}

-- its words are as many as it has
pub own_length : (addresses : List ℕ) (value : Value) (own : List ℕ) → IsIn addresses value own → length own ≡ value_words value
own_length addresses (Int number) own h = ap length h.1
own_length addresses (Long number) own h = ap length h.2
own_length addresses Null own h = ap length h
own_length addresses (Reference id) own h = ap length h.1
own_length addresses Half own h = absurd h
own_length addresses Unset own h = absurd h

-- ---- where it stands

pub record StandsAt (addresses : List ℕ) (value : Value) (place : ℕ) (words : List ℕ) : Type 0 where
  pub before : List ℕ
  pub own : List ℕ
  pub behind : List ℕ
  pub words_are : words ≡ before ++ (own ++ behind)
  pub place_is : length before ≡ place
  pub stands : IsIn addresses value own

-- that, and what stands there once another value of as many words is stored
pub record StandsIn (addresses : List ℕ) (fields : List DeclaredField) (content : Content) (key : FieldKey) (value : Value) (place : ℕ) (words : List ℕ) : Type 0 where
  pub at : StandsAt addresses value place words
  pub stored :
      (new : Value) (own : List ℕ) → IsIn addresses new own → value_words new ≡ value_words value
      → AreFields addresses fields (with_value key new content) (at.before ++ (own ++ at.behind))

some_same : {A : Type 0} (x y : A) → Some x ≡ Some y → x ≡ y
some_same x y e = cc

module _ (addresses : List ℕ) (key : FieldKey) (value : Value) where
  pub field_stands :
      (fields : List DeclaredField) (content : Content) (words : List ℕ) (place : ℕ) → AreFields addresses fields content words
      → place_among key fields ≡ Some place → value_at key content ≡ Some value
      → StandsIn addresses fields content key value place words
  field_stands [] content words place h p e = absurd cc
  field_stands (d ∷ fields) [] words place h p e = absurd h
  field_stands (d ∷ fields) (entry ∷ content) words place h p e =
      by_test (λ n q f. field_stands fields content h.1 n h.6 q f) (same_key key (key_of d)) refl p
      (subst (λ (k : FieldKey). (if same_key key k then Some entry.1 else value_at key content) ≡ Some value) h.3 e)
    where
      Again : Type 0
      Again =
          (n : ℕ) → place_among key fields ≡ Some n → value_at key content ≡ Some value → StandsIn addresses fields content key value n h.1

      -- the entry is its field's
      on_entry : (b : Bool) → same_key key (key_of d) ≡ b → same_key key entry.0 ≡ b
      on_entry b t = ap (same_key key) h.3 ∙ t

      behind_entry :
          Again → (n : ℕ) → same_key key (key_of d) ≡ false → place_among key fields ≡ Some n → field_words d + n ≡ place
          → value_at key content ≡ Some value → StandsIn addresses (d ∷ fields) (entry ∷ content) key value place words
      behind_entry again n t q sum f =
          let rest = again n q f in
          let size = own_length addresses entry.1 h.0 h.5 in
          record {
            at = record {
              before = h.0 ++ rest.at.before;
              own = rest.at.own;
              behind = rest.at.behind;
              words_are = h.2 ∙ ap (λ (l : List ℕ). h.0 ++ l) rest.at.words_are ∙ sym (append_assoc h.0 rest.at.before (rest.at.own ++ rest.at.behind));
              place_is = omega (arith, sum, size, h.4, rest.at.place_is, length-append h.0 rest.at.before);
              stands = rest.at.stands;
            };
            stored =
                λ new own stands width.
                subst (λ (b : Bool). AreFields addresses (d ∷ fields) (if b then (entry.0, new) ∷ content else entry ∷ with_value key new content) ((h.0 ++ rest.at.before) ++ (own ++ rest.at.behind)))
                (sym (on_entry false t)) (
                  h.0,
                  rest.at.before ++ (own ++ rest.at.behind),
                  append_assoc h.0 rest.at.before (own ++ rest.at.behind),
                  h.3,
                  h.4,
                  h.5,
                  rest.stored new own stands width,
                );
          }

      by_place :
          Again → (o : Option ℕ) → place_among key fields ≡ o → option_map (λ n. field_words d + n) o ≡ Some place → same_key key (key_of d) ≡ false
          → value_at key content ≡ Some value → StandsIn addresses (d ∷ fields) (entry ∷ content) key value place words
      by_place again None q p t f = absurd cc
      by_place again (Some n) q p t f = behind_entry again n t q (some_same (field_words d + n) place p) f

      by_test :
          Again → (b : Bool) → same_key key (key_of d) ≡ b
          → (if b then Some 0 else option_map (λ n. field_words d + n) (place_among key fields)) ≡ Some place
          → (if b then Some entry.1 else value_at key content) ≡ Some value
          → StandsIn addresses (d ∷ fields) (entry ∷ content) key value place words
      by_test again true t p f =
          let is : entry.1 ≡ value = some_same entry.1 value f in
          record {
            at = record {
              before = [];
              own = h.0;
              behind = h.1;
              words_are = h.2;
              place_is = some_same 0 place p;
              stands = subst (λ (v : Value). IsIn addresses v h.0) is h.5;
            };
            stored =
                λ new own stands width.
                subst (λ (b : Bool). AreFields addresses (d ∷ fields) (if b then (entry.0, new) ∷ content else entry ∷ with_value key new content) (own ++ h.1))
                (sym (on_entry true t))
                (own, h.1, refl, h.3, width ∙ ap value_words (sym is) ∙ h.4, stands, h.6);
          }
      by_test again false t p f = by_place again (place_among key fields) refl p t f
