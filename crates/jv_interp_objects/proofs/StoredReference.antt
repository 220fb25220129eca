-- aastore on words: what the machine does stands afterwards.
use Rattle.std.proofs.Common.{◌≡◌, ℕ, zero, suc, ◌+◌, ◌-◌, ◌*◌, ◌<◌, ◌≤◌, ℤ, pos, Bool, true, false, List, [], ◌∷◌, ◌++◌, Some, Ok, length, set, get_or, slice_get, slice_set, refl, sym, ap, subst, ◌∙◌, arith, append-nil}
use Rattle.std.specs.Int.{w32}
use Rattle.std.proofs.lemmas.Int.{to_z_pos}
use Rattle.std.proofs.lemmas.List.{length-set}
use Rattle.std.proofs.lemmas.Option.{slice_get-get_or}
use Rattle.std.proofs.Math.Seq.{set-append_seam}
use Rattle.jv_store.specs.Content.{words_at, written}
use Rattle.jv_stackmap.specs.Types.{value_type, width}
use Rattle.jv_code.specs.declared.insn.Insn.TheVariants as insns
use Rattle.jv_meaning_world.specs.Library.{with_library}
use Rattle.jv_meaning_world.specs.World.{World, world_of}
use Rattle.jv_meaning_machine.specs.Values.{Value, value_words, narrowed}
use Rattle.jv_meaning_machine.specs.Values.Value.{Null}
use Rattle.jv_meaning_machine.specs.Objects.{is_instance_of}
use Rattle.jv_meaning_machine.specs.Objects.Object.{ArrayWith}
use Rattle.jv_meaning_machine.specs.State.{Memory}
use Rattle.jv_meaning_machine.specs.Effects.{Effect, Context, Outcome, null_pointer, array_index, array_store}
use Rattle.jv_meaning_machine.specs.Effects.Effect.{Goes, Raises}
use Rattle.jv_meaning_machine.specs.Fields.{with_object}
use Rattle.jv_meaning_machine.specs.Arrays.{can_stand, store_reference_if, store_reference_at, store_reference}
use Rattle.jv_meaning_machine.specs.Instructions.{execute}
use Rattle.jv_interp_words.specs.declared.registers.Registers.{Registers}
use Rattle.jv_interp_words.specs.FramesInWords.{in_use, FrameStands}
use Rattle.jv_interp_words.proofs.Gave.{bound_gave}
use Rattle.jv_interp_heap.specs.ObjectsInBlocks.{Blocks, IsIn, HasNumber, IsArrayWord, ObjectStands, ArrayStands}
use Rattle.jv_interp_heap.proofs.Fields.{own_length}
use Rattle.jv_interp_heap.proofs.Carried.{one_own}
use Rattle.jv_interp_heap.proofs.Components.{StandsAmong, component_stands, components_length}
use Rattle.jv_interp_heap.proofs.Changed.{Changes, word_written, object_changed}
use Rattle.jv_interp_held.specs.declared.effect.Effect.TheVariants as effects
use Rattle.jv_interp_held.specs.Executing.{Place, place}
use Rattle.jv_interp_held.specs.HeldInWords.{MemoryStands}
use Rattle.jv_interp_held.specs.Growing.{DidIn}
use Rattle.jv_interp_heap.specs.SystemNumbers.{AreSystemNumbers}
use Rattle.jv_interp_heap.proofs.Numbered.{system_numbers}
use Rattle.jv_interp_held.proofs.Growths.{changed_grows}
use Rattle.jv_interp_objects.proofs.Loaded.{index_within, index_outside}
use Rattle.jv_interp_held.proofs.Entered.{done_same}
use Rattle.jv_interp_objects.proofs.Went.{raises_in, goes_in}
use Rattle.jv_interp_objects.specs.declared.types.NumberedType.{NumberedType}
use Rattle.jv_interp_objects.specs.Types.{IsOfType, HasWord}
use Rattle.jv_interp_objects.specs.Storing.{Storing}
use Rattle.jv_interp_objects.specs.Inside.Standing.{IsReference, TellsStanding}
use Rattle.jv_interp_objects.proofs.TypeWords.{first_word, some_word}
use Rattle.jv_interp_objects.proofs.TopReference.{RefersTo}
use Rattle.jv_interp_objects.proofs.TakesArray.{TakesArray, takes_array, StoreOf, store_of, reference_width, reference_stays, ThreeOnTop, three_on_top, reference_in, CanBe, can_be}

module _ (world : World) (next : ℕ) (here : Place) (texts : List (List ℕ)) (c : Context) (addresses : List ℕ) (done : Memory × Effect) (below : List ℕ)
    (h : Storing world next here texts c addresses done below) where
  abbrev part : Context → Outcome
  part = λ c. execute c insns.ReferenceArrayStore

  pub it : TakesArray c done
  it = takes_array c done h.executes.does

  pub top : ThreeOnTop addresses c.frame.locals it.value it.index it.array it.rest here.words here.at.top below
  top =
      three_on_top addresses c.frame.locals c.frame.stack it.value it.index it.array it.rest here.words here.at.top below
      h.executes.memory.objects.are h.executes.frame it.stood it.value_kind it.array_kind h.executes.top_within

  abbrev value_word : ℕ
  value_word = get_or here.words (here.at.top - 1) 0

  abbrev index_word : ℕ
  index_word = get_or here.words (here.at.top - 2) 0

  abbrev address : ℕ
  address = get_or here.words (here.at.top - 3) 0

  abbrev block : List ℕ
  block = words_at here.blocks address

  raises :
      (class : List ℕ) (number : ℕ) → done ≡ (c.memory, Raises class) → ((w : World) → AreSystemNumbers w → HasNumber w class number)
      → DidIn here.blocks texts here (effects.Raises number) c addresses done below
  raises class number is numbered =
      raises_in part texts next here c addresses done below h.executes class number is
      (subst (λ (w : World). HasNumber w class number) (sym (h.world_is ∙ h.guests.world_is))
      (numbered (world_of (with_library h.guests.given) h.guests.contents) (system_numbers h.guests.given h.guests.contents)))

  pub null_raises : address ≡ 0 → DidIn here.blocks texts here (effects.Raises 15) c addresses done below
  null_raises zero_is =
      raises null_pointer 15
      (done_same (c.memory, Raises null_pointer) done
      (subst (λ (v : Value). store_reference c v it.index it.value it.rest ≡ Ok done) (top.array_null zero_is) it.does))
      (λ w n. n.null_pointer)

  -- ---- an array

  module _ (other : address ≡ 0 → ⊥) where
    pub r : RefersTo addresses it.array address
    r = top.array_refers other

    pub of : StoreOf c it.index it.value r.id it.rest done
    of =
        store_of c it.index it.value r.id it.rest done
        (subst (λ (v : Value). store_reference c v it.index it.value it.rest ≡ Ok done) r.is it.does)

    stands : ArrayStands c.program.world addresses of.components of.values block
    stands = h.executes.memory.objects.each r.id address (ArrayWith of.components of.values) r.at of.there

    width_is : width (value_type of.components) ≡ 1
    width_is = reference_width of.components of.passes

    pub length_word : get_or block 1 0 ≡ length of.values
    length_word = ap (λ (l : List ℕ). get_or l 1 0) stands.words_are

    pub block_length : length block ≡ 2 + length of.values
    block_length =
        let size = components_length addresses of.components of.values stands.inside stands.stand in
        let same : length of.values * width (value_type of.components) ≡ length of.values * 1 = ap (λ (n : ℕ). length of.values * n) width_is in
        ap length stands.words_are ∙ omega (arith, size, same)

    pub few_values : length of.values < 2147483648
    few_values = stands.few

    pub array_word : IsArrayWord world of.components (get_or block 0 0)
    array_word =
        subst (λ (w : World). IsArrayWord w of.components (get_or block 0 0)) h.world_is
        (subst (λ (l : List ℕ). IsArrayWord c.program.world of.components (get_or l 0 0)) (sym stands.words_are) stands.type)

    pub large_word : 2147483648 ≤ get_or block 0 0
    large_word = let is = array_word.is in omega (arith, is)

    pub outside_raises : length of.values ≤ index_word → DidIn here.blocks texts here (effects.Raises 17) c addresses done below
    outside_raises outside =
        let none = index_outside index_word of.values it.index top.index_is outside in
        raises array_index 17
        (done_same (c.memory, Raises array_index) done
        (sym (ap (store_reference_at c r.id (of.components, of.values) it.index it.value it.rest) none) ∙ of.does)) (λ w n. n.array_index)

    -- ---- that has the index

    module _ (within : index_word < length of.values) where
      abbrev old : Value
      old = get_or of.values index_word Null

      there : slice_get of.values index_word ≡ Some old
      there = slice_get-get_or of.values index_word Null within

      number : it.index ≡ pos index_word
      number = let few = stands.few in top.index_is ∙ to_z_pos w32 index_word (omega (arith, few, within))

      pub record Standing : Type 0 where
        pub answer : Bool
        pub can : can_stand c of.components it.value ≡ Ok answer
        pub does : store_reference_if c r.id (of.components, of.values) (pos index_word) it.value it.rest answer ≡ Ok done

      pub standing : Standing
      standing =
          let at = index_within index_word of.values it.index top.index_is stands.few within in
          let does : store_reference_at c r.id (of.components, of.values) (pos index_word) it.value it.rest (Some old) ≡ Ok done =
          subst (λ (z : ℤ). store_reference_at c r.id (of.components, of.values) z it.value it.rest (Some old) ≡ Ok done) number
          (sym (ap (store_reference_at c r.id (of.components, of.values) it.index it.value it.rest) (at ∙ there)) ∙ of.does) in
          let answer =
          bound_gave (can_stand c of.components it.value)
          (λ (b : Bool). store_reference_if c r.id (of.components, of.values) (pos index_word) it.value it.rest b) done does in
          record { answer = answer.0; can = answer.1; does = answer.2 }

      can : CanBe c of.components it.value standing.answer
      can = can_be c of.components it.value standing.answer standing.can

      pub value_refers : IsReference world here.blocks value_word
      value_refers apart =
          let v = top.value_refers apart in
          let o = can.object v.id v.is in
          let object = h.executes.memory.objects.each v.id value_word o.0 v.at o.1 in
          record {
            some = some_word c.program.world addresses o.0 (words_at here.blocks value_word) object;
            object = o.0;
            word =
                subst (λ (w : World). HasWord w o.0 (get_or (words_at here.blocks value_word) 0 0)) h.world_is
                (first_word c.program.world addresses o.0 (words_at here.blocks value_word) object);
          }

      agrees :
          (numbers : NumberedType) → IsOfType world of.components numbers → (answer : Bool)
          → TellsStanding world here.blocks value_word numbers answer → answer ≡ standing.answer
      agrees numbers type answer tells = by_word value_word refl
        where
          by_word : (w : ℕ) → value_word ≡ w → answer ≡ standing.answer
          by_word zero is = tells.null is ∙ sym (can.null (top.value_null is))
          by_word (suc n) is =
              let apart : value_word ≡ 0 → ⊥ = λ e. absurd cc in
              let v = top.value_refers apart in
              let o = can.object v.id v.is in
              let object = h.executes.memory.objects.each v.id value_word o.0 v.at o.1 in
              tells.object apart o.0 of.components
              (subst (λ (w : World). HasWord w o.0 (get_or (words_at here.blocks value_word) 0 0)) h.world_is
              (first_word c.program.world addresses o.0 (words_at here.blocks value_word) object)) type
              ∙ ap (λ (w : World). is_instance_of w o.0 of.components) (sym h.world_is) ∙ o.2

      pub store_raises :
          (numbers : NumberedType) → IsOfType world of.components numbers → (answer : Bool)
          → TellsStanding world here.blocks value_word numbers answer → answer ≡ false
          → DidIn here.blocks texts here (effects.Raises 9) c addresses done below
      store_raises numbers type answer tells is =
          raises array_store 9
          (done_same (c.memory, Raises array_store) done
          (subst (λ (b : Bool). store_reference_if c r.id (of.components, of.values) (pos index_word) it.value it.rest b ≡ Ok done)
          (sym (agrees numbers type answer tells) ∙ is) standing.does)) (λ w n. n.array_store)

      -- ---- what is stored

      among : StandsAmong addresses of.components of.values index_word old (index_word * width (value_type of.components)) stands.inside
      among = component_stands addresses of.components of.values stands.inside index_word old stands.stand there

      abbrev new_value : Value
      new_value = narrowed of.components it.value

      abbrev new_values : List Value
      new_values = slice_set of.values index_word new_value

      new_in : IsIn addresses new_value (value_word ∷ [])
      new_in =
          subst (λ (v : Value). IsIn addresses v (value_word ∷ [])) (sym (reference_stays of.components it.value it.value_kind))
          (reference_in addresses it.value value_word top.value_null top.value_refers)

      new_words : value_words new_value ≡ width (value_type of.components)
      new_words = sym (own_length addresses new_value (value_word ∷ []) new_in) ∙ sym width_is

      abbrev around : List ℕ
      around = stands.word ∷ length of.values ∷ among.at.before

      around_length : length around ≡ index_word + 2
      around_length =
          let same : index_word * width (value_type of.components) ≡ index_word * 1 = ap (λ (n : ℕ). index_word * n) width_is in
          let at = among.at.place_is in
          omega (arith, same, at)

      new_block : set block (index_word + 2) value_word ≡ around ++ value_word ∷ among.at.behind
      new_block =
          let own = one_own among.at.own (own_length addresses old among.at.own among.at.stands ∙ among.kind ∙ width_is) in
          let was : block ≡ around ++ own.0 ∷ among.at.behind =
          stands.words_are ∙ ap (λ (l : List ℕ). stands.word ∷ length of.values ∷ l) among.at.words_are
          ∙ ap (λ (l : List ℕ). around ++ (l ++ among.at.behind)) own.1 in
          ap (λ (l : List ℕ). set l (index_word + 2) value_word) was
          ∙ ap (λ (n : ℕ). set (around ++ own.0 ∷ among.at.behind) n value_word) (sym around_length)
          ∙ set-append_seam around own.0 among.at.behind value_word

      changes : Changes address (around ++ value_word ∷ among.at.behind) here.blocks (written here.blocks address (index_word + 2) value_word)
      changes =
          subst (λ (l : List ℕ). Changes address l here.blocks (written here.blocks address (index_word + 2) value_word)) new_block
          (word_written here.blocks address (index_word + 2) value_word)

      object : ObjectStands c.program.world addresses (ArrayWith of.components new_values) (around ++ value_word ∷ among.at.behind)
      object =
          let same_count = length-set of.values index_word new_value in
          let few = stands.few in
          record {
            word = stands.word;
            type = stands.type;
            few = omega (arith, few, same_count);
            inside = among.at.before ++ (value_word ∷ among.at.behind);
            words_are = ap (λ (n : ℕ). stands.word ∷ n ∷ (among.at.before ++ (value_word ∷ among.at.behind))) (sym same_count);
            stand = among.stored new_value (value_word ∷ []) new_in new_words;
          }

      memory : MemoryStands c.program.world texts (with_object r.id (ArrayWith of.components new_values) c.memory) addresses here.held (written here.blocks address (index_word + 2) value_word)
      memory =
          let m = h.executes.memory in
          record {
            objects =
                object_changed c.program.world c.memory.objects addresses here.blocks (written here.blocks address (index_word + 2) value_word) r.id address
                (ArrayWith of.components of.values) (ArrayWith of.components new_values) (around ++ value_word ∷ among.at.behind) m.objects r.at of.there
                changes object;
            statics = m.statics;
            literals = m.literals;
            error_stands = m.error_stands;
            arguments_stand = m.arguments_stand;
            cells = m.cells;
            output_left = m.output_left;
            output = m.output;
            output_room = m.output_room;
            read_within = m.read_within;
            input = m.input;
          }

      pub stored :
          (numbers : NumberedType) → IsOfType world of.components numbers → (answer : Bool)
          → TellsStanding world here.blocks value_word numbers answer → answer ≡ true → (at : Registers) (after : Blocks)
          → after ≡ written here.blocks address (index_word + 2) value_word → at.pc ≡ next → at.top ≡ here.at.top - 3
          → DidIn here.blocks texts (place at here.words here.held after) effects.Goes c addresses done below
      stored numbers type answer tells is at after e pc_is top_is =
          let blocks_after = written here.blocks address (index_word + 2) value_word in
          let new_memory = with_object r.id (ArrayWith of.components new_values) c.memory in
          let does =
          done_same (new_memory, Goes c.next c.frame.locals it.rest) done
          (subst (λ (b : Bool). store_reference_if c r.id (of.components, of.values) (pos index_word) it.value it.rest b ≡ Ok done)
          (sym (agrees numbers type answer tells) ∙ is) standing.does) in
          subst (λ (b : Blocks). DidIn here.blocks texts (place at here.words here.held b) effects.Goes c addresses done below) (sym e)
          (goes_in part texts next here c addresses done below h.executes at here.words here.held blocks_after [] new_memory it.rest does pc_is
          (subst (λ (l : List ℕ). FrameStands l c.frame.locals it.rest (in_use here.words at.top) below) (sym (append-nil addresses))
          (subst (λ (n : ℕ). FrameStands addresses c.frame.locals it.rest (in_use here.words n) below) (sym top_is) top.lower))
          (subst (λ (l : List ℕ). MemoryStands c.program.world texts new_memory l here.held blocks_after) (sym (append-nil addresses)) memory)
          (changed_grows addresses (around ++ value_word ∷ among.at.behind) r.id address here.blocks blocks_after r.at changes))
