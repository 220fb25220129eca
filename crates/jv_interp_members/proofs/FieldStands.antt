-- The value of an object's field in the words of its block.
use Rattle.std.proofs.Common.{◌≡◌, ℕ, suc, ◌+◌, Bool, true, false, ◌&&◌, List, [], ◌∷◌, ◌++◌, Some, codes, length, refl, sym, ap, subst, ◌∙◌, if◌then◌else◌}
use Rattle.std.specs.Prelude.{IsTrue}
use Rattle.std.specs.Option.{option_map}
use Rattle.std.specs.Str.{bytes_eq}
use Rattle.jv_meaning_world.specs.World.{Loaded, World, class_named}
use Rattle.jv_meaning_world.specs.Verdicts.{is_loadable}
use Rattle.jv_meaning_world.specs.LookUps.{DeclaredField}
use Rattle.jv_meaning_world.proofs.Up.{same_name}
use Rattle.jv_meaning_typing.specs.Layout.{instance_fields, field_words}
use Rattle.jv_meaning_machine.specs.Values.{Value, value_words}
use Rattle.jv_meaning_machine.specs.Objects.{FieldKey, key_of, same_key, Content, value_at, with_value, Instance}
use Rattle.jv_meaning_machine.specs.Laws.Shapes.{field_cells}
use Rattle.jv_interp_heap.specs.ObjectsInBlocks.{IsIn, AreFields, place_among, BeginsAt, InstanceStands}
use Rattle.jv_interp_heap.proofs.Fields.{field_stands}
use Rattle.jv_interp_members.proofs.Got.{some_same}

-- ---- a field that holds something has a place, and as many words as its descriptor says

last_of : (a b c : Bool) → (a && b && c) ≡ true → c ≡ true
last_of true true true e = refl
last_of true true false e = absurd cc
last_of true false c e = absurd cc
last_of false b c e = absurd cc

abbrev cells_described : List ℕ → ℕ
cells_described descriptor = if bytes_eq descriptor (codes "J") then 2 else 1

pub same_cells : (key other : FieldKey) → same_key key other ≡ true → field_cells key ≡ field_cells other
same_cells key other e =
    ap cells_described (same_name key.descriptor other.descriptor
    (last_of (bytes_eq key.name other.name) (bytes_eq key.class other.class) (bytes_eq key.descriptor other.descriptor) e))

module _ (addresses : List ℕ) (key : FieldKey) (value : Value) where
  -- it has
  pub value_width :
      (fields : List DeclaredField) (content : Content) (words : List ℕ) → AreFields addresses fields content words
      → value_at key content ≡ Some value → value_words value ≡ field_cells key
  value_width [] [] words h e = absurd cc
  value_width [] (entry ∷ content) words h e = absurd h
  value_width (d ∷ fields) [] words h e = absurd h
  value_width (d ∷ fields) (entry ∷ content) words h e = by_test (same_key key entry.0) refl e (λ f. value_width fields content h.1 h.6 f)
    where
      by_test :
          (b : Bool) → same_key key entry.0 ≡ b → (if b then Some entry.1 else value_at key content) ≡ Some value
          → (value_at key content ≡ Some value → value_words value ≡ field_cells key) → value_words value ≡ field_cells key
      by_test true t f more =
          let is : entry.1 ≡ value = some_same entry.1 value f in
          ap value_words (sym is) ∙ h.4 ∙ ap field_cells (sym h.3) ∙ sym (same_cells key entry.0 t)
      by_test false t f more = more f

  pub place_there :
      (fields : List DeclaredField) (content : Content) (words : List ℕ) → AreFields addresses fields content words
      → value_at key content ≡ Some value → (place : ℕ) × (place_among key fields ≡ Some place)
  place_there [] [] words h e = absurd cc
  place_there [] (entry ∷ content) words h e = absurd h
  place_there (d ∷ fields) [] words h e = absurd h
  place_there (d ∷ fields) (entry ∷ content) words h e =
      by_test (same_key key (key_of d)) refl
      (subst (λ (k : FieldKey). (if same_key key k then Some entry.1 else value_at key content) ≡ Some value) h.3 e)
      (λ f. place_there fields content h.1 h.6 f)
    where
      by_test :
          (b : Bool) → same_key key (key_of d) ≡ b → (if b then Some entry.1 else value_at key content) ≡ Some value
          → (value_at key content ≡ Some value → (place : ℕ) × (place_among key fields ≡ Some place))
          → (place : ℕ) × ((if b then Some 0 else option_map (λ n. field_words d + n) (place_among key fields)) ≡ Some place)
      by_test true t f more = (0, refl)
      by_test false t f more =
          let rest = more f in
          (field_words d + rest.0, ap (option_map (λ n. field_words d + n)) rest.1)

-- ---- in the block of an object

pub record FieldIn (world : World) (addresses : List ℕ) (instance : Instance) (d : DeclaredField) (value : Value) (word : ℕ) (block : List ℕ) : Type 0 where
  pub before : List ℕ
  pub own : List ℕ
  pub behind : List ℕ
  pub block_is : block ≡ before ++ (own ++ behind)
  pub place_is : length before ≡ suc word
  pub stands : IsIn addresses value own
  pub width : value_words value ≡ field_words d
  pub stored :
      (new : Value) (words : List ℕ) → IsIn addresses new words → value_words new ≡ value_words value
      → InstanceStands world addresses (record instance { fields = with_value (key_of d) new instance.fields }) (before ++ (words ++ behind))

pub field_in :
    (world : World) (addresses : List ℕ) (instance : Instance) (block : List ℕ) (d : DeclaredField) (value : Value) (word : ℕ)
    → ((l : Loaded) → class_named world instance.class ≡ Some l → IsTrue (is_loadable world l))
    → InstanceStands world addresses instance block → BeginsAt world d word → value_at (key_of d) instance.fields ≡ Some value
    → FieldIn world addresses instance d value word block
field_in world addresses instance block d value word loadable h begins e =
    let fields = instance_fields world h.class.l in
    let place = place_there addresses (key_of d) value fields instance.fields h.fields h.stand e in
    let is : place.0 ≡ word = begins instance.class h.class.l place.0 h.class.named (loadable h.class.l h.class.named) place.1 in
    let there = field_stands addresses (key_of d) value fields instance.fields h.fields place.0 h.stand place.1 e in
    let at = there.at in
    record {
      before = h.number ∷ at.before;
      own = at.own;
      behind = at.behind;
      block_is = h.words_are ∙ ap (λ (l : List ℕ). h.number ∷ l) at.words_are;
      place_is = ap suc (at.place_is ∙ is);
      stands = at.stands;
      width = value_width addresses (key_of d) value fields instance.fields h.fields h.stand e;
      stored =
          λ new words stands width.
          record {
            number = h.number;
            class = h.class;
            few = h.few;
            fields = at.before ++ (words ++ at.behind);
            words_are = refl;
            stand = there.stored new words stands width;
          };
    }
