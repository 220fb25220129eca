-- A field that gets another value, in the block of its object: all else stands as it did.
use Rattle.std.proofs.Common.{◌≡◌, ℕ, suc, ◌+◌, List, [], ◌∷◌, ◌++◌, Some, length, set, sym, ap, subst, ◌∙◌, arith, slice_get, length-append, append_assoc}
use Rattle.std.proofs.Math.Seq.{set-append_seam}
use Rattle.jv_store.specs.Content.{words_at, written}
use Rattle.jv_meaning_world.specs.World.{World}
use Rattle.jv_meaning_world.specs.LookUps.{DeclaredField}
use Rattle.jv_meaning_machine.specs.Values.{Value, value_words}
use Rattle.jv_meaning_machine.specs.Objects.{key_of, Instance}
use Rattle.jv_meaning_machine.specs.Objects.Object.{InstanceOf}
use Rattle.jv_meaning_machine.specs.State.{Memory}
use Rattle.jv_meaning_machine.specs.Fields.{with_object, with_field_value}
use Rattle.jv_interp_heap.specs.ObjectsInBlocks.{Blocks, IsIn}
use Rattle.jv_interp_heap.proofs.Fields.{own_length}
use Rattle.jv_interp_heap.proofs.Carried.{one_own, two_own}
use Rattle.jv_interp_heap.proofs.Changed.{Changes, word_written, then_changed, object_changed}
use Rattle.jv_interp_held.specs.declared.held.Held.{Held}
use Rattle.jv_interp_held.specs.HeldInWords.{MemoryStands}
use Rattle.jv_interp_members.proofs.FieldStands.{FieldIn}

module _ (world : World) (texts : List (List ℕ)) (memory : Memory) (addresses : List ℕ) (held : Held) (blocks : Blocks) (d : DeclaredField) (word id address : ℕ)
    (instance : Instance) (old new : Value) (h : MemoryStands world texts memory addresses held blocks) (at : slice_get addresses id ≡ Some address)
    (there : slice_get memory.objects id ≡ Some (InstanceOf instance)) (field : FieldIn world addresses instance d old word (words_at blocks address))
    (width : value_words new ≡ value_words old) where
  changed :
      (after : Blocks) (own : List ℕ) → IsIn addresses new own → Changes address (field.before ++ (own ++ field.behind)) blocks after
      → MemoryStands world texts (with_object id (with_field_value (key_of d) new instance) memory) addresses held after
  changed after own stands changes = record {
    objects =
        object_changed world memory.objects addresses blocks after id address (InstanceOf instance) (with_field_value (key_of d) new instance)
        (field.before ++ (own ++ field.behind)) h.objects at there changes (field.stored new own stands width);
    statics = h.statics;
    literals = h.literals;
    error_stands = h.error_stands;
    arguments_stand = h.arguments_stand;
    cells = h.cells;
    output_left = h.output_left;
    output = h.output;
    output_room = h.output_room;
    read_within = h.read_within;
    input = h.input;
  }

  one_more : suc word ≡ word + 1
  one_more = omega arith

  -- of one word
  pub word_changed :
      (new_word : ℕ) → IsIn addresses new (new_word ∷ []) → value_words old ≡ 1
      → MemoryStands world texts (with_object id (with_field_value (key_of d) new instance) memory) addresses held (written blocks address (word + 1) new_word)
  word_changed new_word stands one =
      let own = one_own field.own (own_length addresses old field.own field.stands ∙ one) in
      let block : words_at blocks address ≡ field.before ++ own.0 ∷ field.behind =
      field.block_is ∙ ap (λ (l : List ℕ). field.before ++ (l ++ field.behind)) own.1 in
      let now : set (words_at blocks address) (word + 1) new_word ≡ field.before ++ new_word ∷ field.behind =
      ap (λ (l : List ℕ). set l (word + 1) new_word) block
      ∙ ap (λ (n : ℕ). set (field.before ++ own.0 ∷ field.behind) n new_word) (sym (field.place_is ∙ one_more))
      ∙ set-append_seam field.before own.0 field.behind new_word in
      changed (written blocks address (word + 1) new_word) (new_word ∷ []) stands
      (subst (λ (l : List ℕ). Changes address l blocks (written blocks address (word + 1) new_word)) now (word_written blocks address (word + 1) new_word))

  -- of a long's two
  pub long_changed :
      (low high : ℕ) → IsIn addresses new (low ∷ high ∷ []) → value_words old ≡ 2
      → MemoryStands world texts (with_object id (with_field_value (key_of d) new instance) memory) addresses held
      (written (written blocks address (word + 1) low) address (word + 2) high)
  long_changed low high stands two =
      let own = two_own field.own (own_length addresses old field.own field.stands ∙ two) in
      let block : words_at blocks address ≡ field.before ++ own.0 ∷ own.1 ∷ field.behind =
      field.block_is ∙ ap (λ (l : List ℕ). field.before ++ (l ++ field.behind)) own.2 in
      let first : set (words_at blocks address) (word + 1) low ≡ field.before ++ low ∷ own.1 ∷ field.behind =
      ap (λ (l : List ℕ). set l (word + 1) low) block
      ∙ ap (λ (n : ℕ). set (field.before ++ own.0 ∷ own.1 ∷ field.behind) n low) (sym (field.place_is ∙ one_more))
      ∙ set-append_seam field.before own.0 (own.1 ∷ field.behind) low in
      let longer : length (field.before ++ low ∷ []) ≡ word + 2 =
      let e = field.place_is in omega (arith, e, length-append field.before (low ∷ [])) in
      let second : set (field.before ++ low ∷ own.1 ∷ field.behind) (word + 2) high ≡ field.before ++ low ∷ high ∷ field.behind =
      ap (λ (l : List ℕ). set l (word + 2) high) (sym (append_assoc field.before (low ∷ []) (own.1 ∷ field.behind)))
      ∙ ap (λ (n : ℕ). set ((field.before ++ low ∷ []) ++ own.1 ∷ field.behind) n high) (sym longer)
      ∙ set-append_seam (field.before ++ low ∷ []) own.1 field.behind high
      ∙ append_assoc field.before (low ∷ []) (high ∷ field.behind) in
      let between = written blocks address (word + 1) low in
      let one = subst (λ (l : List ℕ). Changes address l blocks between) first (word_written blocks address (word + 1) low) in
      let other = word_written between address (word + 2) high in
      let now : set (words_at between address) (word + 2) high ≡ field.before ++ low ∷ high ∷ field.behind =
      ap (λ (l : List ℕ). set l (word + 2) high) one.own ∙ second in
      changed (written between address (word + 2) high) (low ∷ high ∷ []) stands
      (then_changed address (field.before ++ low ∷ own.1 ∷ field.behind) (field.before ++ low ∷ high ∷ field.behind) blocks between
      (written between address (word + 2) high) one
      (subst (λ (l : List ℕ). Changes address l between (written between address (word + 2) high)) now other))
