-- The constant of a static field comes to stand at the field's word (JVMS 5.5, step 6).
use Rattle.std.proofs.Common.{◌≡◌, ℕ, zero, suc, ◌+◌, ◌≤◌, Bool, true, false, List, [], ◌∷◌, ◌++◌, Option, Some, None, length, set, refl, sym, ap, subst, ◌∙◌, arith, length-append, append_assoc, if◌then◌else◌, slice_get}
use Rattle.std.proofs.Math.Seq.{set-append_seam}
use Rattle.std.specs.Option.{option_map}
use Rattle.std.specs.Global.{Vec}
use Rattle.jv_text.specs.declared.descriptor.Element.{Element}
use Rattle.jv_text.specs.declared.descriptor.Element.TheVariants as elements
use Rattle.jv_text.specs.declared.descriptor.FieldTypeOf.{FieldTypeOf}
use Rattle.jv_text.specs.Types.{field_type_of}
use Rattle.jv_stackmap.specs.Types.{value_type}
use Rattle.jv_meaning_world.specs.World.{World}
use Rattle.jv_meaning_world.specs.LookUps.{DeclaredField}
use Rattle.jv_meaning_typing.specs.Layout.{field_words}
use Rattle.jv_meaning_machine.specs.Values.{Value, value_words, has_type, narrowed_by, narrowed}
use Rattle.jv_meaning_machine.specs.Values.Value.{Reference}
use Rattle.jv_meaning_machine.specs.Objects.{FieldKey, key_of, same_key, Content, value_at, with_value}
use Rattle.jv_meaning_machine.specs.State.{Memory}
use Rattle.jv_meaning_machine.specs.Fields.{with_static}
use Rattle.jv_interp_heap.specs.declared.narrowing.Narrowing.{Narrowing}
use Rattle.jv_interp_heap.specs.Narrowing.{narrowing_of, Narrows}
use Rattle.jv_interp_heap.specs.ObjectsInBlocks.{Blocks, IsIn, AreFields, place_among}
use Rattle.jv_interp_heap.proofs.Widths.{typed_words, described_words}
use Rattle.jv_interp_heap.proofs.Carried.{one_own, two_own}
use Rattle.jv_interp_heap.proofs.Fields.{StandsIn, field_stands, own_length}
use Rattle.jv_interp_held.specs.declared.held.Held.{Held}
use Rattle.jv_interp_held.specs.HeldInWords.{static_fields, MemoryStands}
use Rattle.jv_interp_members.proofs.PutStands.{long_stays}
use Rattle.jv_interp_members.proofs.FieldStands.{value_width}

-- a field among others has a value
value_there :
    (addresses : List ℕ) (key : FieldKey) (fields : List DeclaredField) (content : Content) (words : List ℕ) (place : ℕ)
    → AreFields addresses fields content words → place_among key fields ≡ Some place → (value : Value) × (value_at key content ≡ Some value)
value_there addresses key [] content words place h p = absurd cc
value_there addresses key (d ∷ fields) [] words place h p = absurd h
value_there addresses key (d ∷ fields) (entry ∷ content) words place h p =
    by_test (λ n q. value_there addresses key fields content h.1 n h.6 q) (same_key key (key_of d)) refl p
  where
    Again : Type 0
    Again = (n : ℕ) → place_among key fields ≡ Some n → (value : Value) × (value_at key content ≡ Some value)

    by_place :
        Again → (o : Option ℕ) → place_among key fields ≡ o → option_map (λ n. field_words d + n) o ≡ Some place
        → (value : Value) × (value_at key content ≡ Some value)
    by_place again None q p = absurd cc
    by_place again (Some n) q p = again n q

    by_test :
        Again → (b : Bool) → same_key key (key_of d) ≡ b
        → (if b then Some 0 else option_map (λ n. field_words d + n) (place_among key fields)) ≡ Some place
        → (value : Value) × ((if same_key key entry.0 then Some entry.1 else value_at key content) ≡ Some value)
    by_test again true t p = (entry.1, ap (λ b. if b then Some entry.1 else value_at key content) (ap (same_key key) h.3 ∙ t))
    by_test again false t p =
        let rest = by_place again (place_among key fields) refl p in
        (rest.0, ap (λ b. if b then Some entry.1 else value_at key content) (ap (same_key key) h.3 ∙ t) ∙ rest.1)

not_narrowed : (n : ℕ) (element : Element (List ℕ)) (object : ℕ) → narrowed_by n element (Reference object) ≡ Reference object
not_narrowed zero (elements.Base base) object = refl
not_narrowed zero (elements.Class name) object = refl
not_narrowed (suc n) element object = refl

module _ (world : World) (texts : List (List ℕ)) (memory : Memory) (addresses : List ℕ) (held : Held) (blocks : Blocks) (d : DeclaredField) (type : FieldTypeOf (List ℕ)) (word : ℕ) (value : Value)
    (m : MemoryStands world texts memory addresses held blocks) (typed : field_type_of d.field.descriptor ≡ Some type)
    (begins : place_among (key_of d) (static_fields world) ≡ Some word) (kind : has_type (value_type type) value ≡ true) where
  abbrev statics : List ℕ
  statics = held.statics.items

  has : (old : Value) × (value_at (key_of d) memory.statics ≡ Some old)
  has = value_there addresses (key_of d) (static_fields world) memory.statics statics word m.statics begins

  there : StandsIn addresses (static_fields world) memory.statics (key_of d) has.0 word statics
  there = field_stands addresses (key_of d) has.0 (static_fields world) memory.statics statics word m.statics begins has.1

  width_is : value_words value ≡ field_words d
  width_is = typed_words (value_type type) value kind ∙ sym (described_words d.field.descriptor type typed)

  old_width : value_words has.0 ≡ value_words value
  old_width = value_width addresses (key_of d) has.0 (static_fields world) memory.statics statics m.statics has.1 ∙ sym width_is

  pub statics_length : word + value_words value ≤ length statics
  statics_length =
      let at = there.at in
      let own = own_length addresses has.0 at.own at.stands in
      let size = ap length at.words_are in
      let e = old_width in
      omega (arith, own, size, e, at.place_is, length-append at.before (at.own ++ at.behind), length-append at.own at.behind)

  stands_now :
      (all : Vec ℕ) (own : List ℕ) → IsIn addresses (narrowed type value) own → value_words (narrowed type value) ≡ value_words has.0
      → all.items ≡ there.at.before ++ (own ++ there.at.behind)
      → MemoryStands world texts (with_static (key_of d) (narrowed type value) memory) addresses (record held { statics = all }) blocks
  stands_now all own stands width are = record {
    objects = m.objects;
    statics =
        subst (λ (ws : List ℕ). AreFields addresses (static_fields world) (with_value (key_of d) (narrowed type value) memory.statics) ws) (sym are)
        (there.stored (narrowed type value) own stands width);
    literals = m.literals;
    error_stands = m.error_stands;
    arguments_stand = m.arguments_stand;
    cells = m.cells;
    output_left = m.output_left;
    output = m.output;
    output_room = m.output_room;
    read_within = m.read_within;
    input = m.input;
  }

  -- ---- one word

  pub one_stored :
      (how : Narrowing) (all : Vec ℕ) (from stored : ℕ) → value_words value ≡ 1 → IsIn addresses value (from ∷ []) → narrowing_of type ≡ how
      → Narrows how from stored → all.items ≡ set statics word stored
      → MemoryStands world texts (with_static (key_of d) (narrowed type value) memory) addresses (record held { statics = all }) blocks
  one_stored how all from stored one value_in how_is narrows are =
      let new_in = narrows addresses type value how_is kind value_in in
      let size = sym (own_length addresses (narrowed type value) (stored ∷ []) new_in) in
      let own = one_own there.at.own (own_length addresses has.0 there.at.own there.at.stands ∙ old_width ∙ one) in
      let now : set statics word stored ≡ there.at.before ++ stored ∷ there.at.behind =
      ap (λ (l : List ℕ). set l word stored) (there.at.words_are ∙ ap (λ (l : List ℕ). there.at.before ++ (l ++ there.at.behind)) own.1)
      ∙ ap (λ (n : ℕ). set (there.at.before ++ own.0 ∷ there.at.behind) n stored) (sym there.at.place_is)
      ∙ set-append_seam there.at.before own.0 there.at.behind stored in
      stands_now all (stored ∷ []) new_in (size ∙ sym (old_width ∙ one)) (are ∙ now)

  -- a reference, which nothing narrows
  pub reference_stored :
      (all : Vec ℕ) (object address : ℕ) → value ≡ Reference object → slice_get addresses object ≡ Some address → all.items ≡ set statics word address
      → MemoryStands world texts (with_static (key_of d) (narrowed type value) memory) addresses (record held { statics = all }) blocks
  reference_stored all object address is at are =
      let value_in : IsIn addresses value (address ∷ []) = subst (λ (v : Value). IsIn addresses v (address ∷ [])) (sym is) (address, refl, at) in
      let stays : narrowed type value ≡ value = ap (narrowed type) is ∙ not_narrowed type.dimensions type.element object ∙ sym is in
      let new_in = subst (λ (v : Value). IsIn addresses v (address ∷ [])) (sym stays) value_in in
      let one : value_words value ≡ 1 = ap value_words is in
      let size = sym (own_length addresses (narrowed type value) (address ∷ []) new_in) in
      let own = one_own there.at.own (own_length addresses has.0 there.at.own there.at.stands ∙ old_width ∙ one) in
      let now : set statics word address ≡ there.at.before ++ address ∷ there.at.behind =
      ap (λ (l : List ℕ). set l word address) (there.at.words_are ∙ ap (λ (l : List ℕ). there.at.before ++ (l ++ there.at.behind)) own.1)
      ∙ ap (λ (n : ℕ). set (there.at.before ++ own.0 ∷ there.at.behind) n address) (sym there.at.place_is)
      ∙ set-append_seam there.at.before own.0 there.at.behind address in
      stands_now all (address ∷ []) new_in (size ∙ sym (old_width ∙ one)) (are ∙ now)

  -- ---- two

  pub two_stored :
      (all : Vec ℕ) (low high : ℕ) → value_words value ≡ 2 → IsIn addresses value (low ∷ high ∷ [])
      → all.items ≡ set (set statics word low) (word + 1) high
      → MemoryStands world texts (with_static (key_of d) (narrowed type value) memory) addresses (record held { statics = all }) blocks
  two_stored all low high two value_in are =
      let new_in = subst (λ (v : Value). IsIn addresses v (low ∷ high ∷ [])) (sym (long_stays type value two)) value_in in
      let size = sym (own_length addresses (narrowed type value) (low ∷ high ∷ []) new_in) in
      let own = two_own there.at.own (own_length addresses has.0 there.at.own there.at.stands ∙ old_width ∙ two) in
      let first : set statics word low ≡ there.at.before ++ low ∷ own.1 ∷ there.at.behind =
      ap (λ (l : List ℕ). set l word low) (there.at.words_are ∙ ap (λ (l : List ℕ). there.at.before ++ (l ++ there.at.behind)) own.2)
      ∙ ap (λ (n : ℕ). set (there.at.before ++ own.0 ∷ own.1 ∷ there.at.behind) n low) (sym there.at.place_is)
      ∙ set-append_seam there.at.before own.0 (own.1 ∷ there.at.behind) low in
      let longer : length (there.at.before ++ low ∷ []) ≡ word + 1 =
      let e = there.at.place_is in omega (arith, e, length-append there.at.before (low ∷ [])) in
      let second : set (there.at.before ++ low ∷ own.1 ∷ there.at.behind) (word + 1) high ≡ there.at.before ++ low ∷ high ∷ there.at.behind =
      ap (λ (l : List ℕ). set l (word + 1) high) (sym (append_assoc there.at.before (low ∷ []) (own.1 ∷ there.at.behind)))
      ∙ ap (λ (n : ℕ). set ((there.at.before ++ low ∷ []) ++ own.1 ∷ there.at.behind) n high) (sym longer)
      ∙ set-append_seam (there.at.before ++ low ∷ []) own.1 there.at.behind high
      ∙ append_assoc there.at.before (low ∷ []) (high ∷ there.at.behind) in
      stands_now all (low ∷ high ∷ []) new_in (size ∙ sym (old_width ∙ two)) (are ∙ ap (λ (l : List ℕ). set l (word + 1) high) first ∙ second)
