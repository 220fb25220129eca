-- Stores of numbers into arrays on words: what the machine does stands afterwards.
use Rattle.std.proofs.Common.{◌≡◌, ℕ, zero, suc, ◌+◌, ◌-◌, ◌*◌, ◌<◌, ◌≤◌, ℤ, pos, true, List, [], ◌∷◌, ◌++◌, Some, Ok, length, set, get_or, drop, slice_get, slice_set, refl, sym, ap, subst, ◌∙◌, arith, append-nil, append_assoc, length-append}
use Rattle.std.specs.Int.{w32, cast_signed}
use Rattle.std.proofs.lemmas.Int.{to_z_pos}
use Rattle.std.proofs.lemmas.List.{length-set}
use Rattle.std.proofs.lemmas.Option.{slice_get-get_or}
use Rattle.std.proofs.Math.Seq.{set-append_seam}
use Rattle.jv_store.specs.Content.{words_at, written}
use Rattle.jv_text.specs.declared.descriptor.Element.{Element}
use Rattle.jv_text.specs.declared.descriptor.Element.TheVariants as elements
use Rattle.jv_text.specs.declared.descriptor.FieldTypeOf.{FieldTypeOf}
use Rattle.jv_stackmap.specs.Types.{FrameType, value_type, width}
use Rattle.jv_code.specs.declared.kinds.NumberElement.{NumberElement}
use Rattle.jv_meaning_world.specs.World.{World}
use Rattle.jv_meaning_typing.specs.NumberRules.{element_number}
use Rattle.jv_meaning_machine.specs.Values.{Value, value_words, has_type, narrowed, narrowed_by}
use Rattle.jv_meaning_machine.specs.Values.Value.{Int, Long, Null, Reference, Half, Unset}
use Rattle.jv_meaning_machine.specs.Objects.Object.{ArrayWith}
use Rattle.jv_meaning_machine.specs.State.{Memory}
use Rattle.jv_meaning_machine.specs.Effects.{Effect, Context, null_pointer, array_index}
use Rattle.jv_meaning_machine.specs.Effects.Effect.{Goes, Raises}
use Rattle.jv_meaning_machine.specs.Fields.{with_object}
use Rattle.jv_meaning_machine.specs.Arrays.{store_at, store_number, store_component}
use Rattle.jv_interp_words.specs.declared.registers.Registers.{Registers}
use Rattle.jv_interp_words.specs.ValuesInWords.{IsOnTop}
use Rattle.jv_interp_words.specs.FramesInWords.{in_use, FrameStands}
use Rattle.jv_interp_words.proofs.InUse.{in_use_top, length-in_use}
use Rattle.jv_interp_heap.specs.declared.narrowing.Narrowing.{Narrowing}
use Rattle.jv_interp_heap.specs.ObjectsInBlocks.{Blocks, IsIn, HasNumber, IsArrayWord, ObjectStands, ArrayStands}
use Rattle.jv_interp_heap.specs.Narrowing.{Narrows}
use Rattle.jv_interp_heap.proofs.Fields.{own_length}
use Rattle.jv_interp_heap.proofs.Carried.{word_taken, long_taken, one_own, two_own}
use Rattle.jv_interp_heap.proofs.Components.{StandsAmong, component_stands, components_length}
use Rattle.jv_interp_heap.proofs.Changed.{Changes, word_written, then_changed, object_changed}
use Rattle.jv_interp_heap.proofs.Widths.{typed_words}
use Rattle.jv_interp_held.specs.declared.effect.Effect.TheVariants as effects
use Rattle.jv_interp_held.specs.EffectsInWords.{EffectStands}
use Rattle.jv_interp_held.specs.Executing.{Place, place}
use Rattle.jv_interp_held.specs.Growing.{DidIn}
use Rattle.jv_interp_held.specs.HeldInWords.{MemoryStands}
use Rattle.jv_interp_heap.proofs.Numbered.{system_numbers}
use Rattle.jv_interp_held.proofs.Popped.{Popped, frame_popped, some_used, null_word, reference_word, not_zero}
use Rattle.jv_interp_held.proofs.Growths.{changed_grows}
use Rattle.jv_interp_held.proofs.Raised.{raised_in}
use Rattle.jv_interp_objects.proofs.Loaded.{index_within, index_outside}
use Rattle.jv_interp_objects.specs.Stores.{Storing, NarrowsBy}
use Rattle.jv_interp_objects.proofs.Went.{done_same}
use Rattle.jv_interp_objects.proofs.Thrice.{TakesThree, takes_three, StoreOf, store_of, held_type}

-- a long is stored as it is
pub long_stays : (type : FieldTypeOf (List ℕ)) (value : Value) → value_words value ≡ 2 → narrowed type value ≡ value
long_stays type (Long number) e = by_parts type.dimensions type.element
  where
    by_parts : (n : ℕ) (element : Element (List ℕ)) → narrowed_by n element (Long number) ≡ Long number
    by_parts zero (elements.Base base) = refl
    by_parts zero (elements.Class name) = refl
    by_parts (suc n) element = refl
long_stays type (Int number) e = absurd cc
long_stays type Null e = absurd cc
long_stays type (Reference id) e = absurd cc
long_stays type Half e = absurd cc
long_stays type Unset e = absurd cc

module _ (slots next : ℕ) (here : Place) (texts : List (List ℕ)) (c : Context) (kind : NumberElement) (addresses : List ℕ) (done : Memory × Effect) (below : List ℕ)
    (h : Storing slots next here texts c kind addresses done below) where
  pub t : TakesThree c kind done
  t = takes_three c kind done h.executes.does

  pub value_width : value_words t.value ≡ slots
  value_width = typed_words (element_number kind) t.value t.kind_is ∙ h.slots_are

  pub first : Popped addresses c.frame.locals t.value (Int t.index ∷ t.array ∷ t.rest) (in_use here.words here.at.top) below
  first = frame_popped addresses c.frame.locals c.frame.stack t.value (Int t.index ∷ t.array ∷ t.rest) (in_use here.words here.at.top) below h.executes.frame t.stood

  pub second : Popped addresses c.frame.locals (Int t.index) (t.array ∷ t.rest) first.under below
  second = frame_popped addresses c.frame.locals (Int t.index ∷ t.array ∷ t.rest) (Int t.index) (t.array ∷ t.rest) first.under below first.lower refl

  pub third : Popped addresses c.frame.locals t.array t.rest second.under below
  third = frame_popped addresses c.frame.locals (t.array ∷ t.rest) t.array t.rest second.under below second.lower refl

  pub top_within : here.at.top ≤ length here.words
  top_within = h.executes.top_within

  has_top : 1 ≤ here.at.top
  has_top = some_used addresses t.value here.words here.at.top first.under h.executes.top_within first.on_top

  top_used : in_use here.words here.at.top ≡ get_or here.words (here.at.top - 1) 0 ∷ in_use here.words (here.at.top - 1)
  top_used = in_use_top here.words here.at.top has_top h.executes.top_within

  -- ---- the value, of one word or two

  pub record Above (value_words_are : List ℕ) : Type 0 where
    pub enough : slots ≤ here.at.top
    pub under_is : first.under ≡ in_use here.words (here.at.top - slots)
    pub value_in : IsIn addresses t.value value_words_are

  pub one_above : slots ≡ 1 → Above (get_or here.words (here.at.top - 1) 0 ∷ [])
  one_above one =
      let k = word_taken addresses t.value (in_use here.words here.at.top) first.under first.on_top (value_width ∙ one) in
      let both = sym k.used_is ∙ top_used in
      let is : k.word ≡ get_or here.words (here.at.top - 1) 0 = ap (λ (l : List ℕ). get_or l 0 0) both in
      let some = has_top in
      record {
        enough = omega (arith, some, one);
        under_is = ap (λ (l : List ℕ). drop 1 l) both ∙ ap (λ (n : ℕ). in_use here.words (here.at.top - n)) (sym one);
        value_in = subst (λ (w : ℕ). IsIn addresses t.value (w ∷ [])) is k.stands;
      }

  pub two_above : slots ≡ 2 → Above (get_or here.words (here.at.top - 2) 0 ∷ get_or here.words (here.at.top - 1) 0 ∷ [])
  two_above two =
      let k = long_taken addresses t.value (in_use here.words here.at.top) first.under first.on_top (value_width ∙ two) in
      let length_is = ap (λ (l : List ℕ). length l) k.used_is in
      let size = length-in_use here.words here.at.top h.executes.top_within in
      let enough : 2 ≤ here.at.top = omega (arith, length_is, size) in
      let lower : here.at.top - 1 ≤ length here.words = let a = h.executes.top_within in omega (arith, a) in
      let next_used = in_use_top here.words (here.at.top - 1) (omega (arith, enough)) lower in
      let minus : here.at.top - 1 - 1 ≡ here.at.top - 2 = omega arith in
      let second_used : in_use here.words (here.at.top - 1) ≡ get_or here.words (here.at.top - 2) 0 ∷ in_use here.words (here.at.top - 2) =
      subst (λ (n : ℕ). in_use here.words (here.at.top - 1) ≡ get_or here.words n 0 ∷ in_use here.words n) minus next_used in
      let both = sym k.used_is ∙ top_used ∙ ap (λ (l : List ℕ). get_or here.words (here.at.top - 1) 0 ∷ l) second_used in
      let high : k.high ≡ get_or here.words (here.at.top - 1) 0 = ap (λ (l : List ℕ). get_or l 0 0) both in
      let low : k.low ≡ get_or here.words (here.at.top - 2) 0 = ap (λ (l : List ℕ). get_or l 1 0) both in
      record {
        enough = omega (arith, enough, two);
        under_is = ap (λ (l : List ℕ). drop 2 l) both ∙ ap (λ (n : ℕ). in_use here.words (here.at.top - n)) (sym two);
        value_in =
            subst (λ (w : ℕ). IsIn addresses t.value (w ∷ get_or here.words (here.at.top - 1) 0 ∷ [])) low
            (subst (λ (w : ℕ). IsIn addresses t.value (k.low ∷ w ∷ [])) high k.stands);
      }

  -- ---- the index and the array below it

  module _ (value_words_are : List ℕ) (u : Above value_words_are) where
    abbrev index_word : ℕ
    index_word = get_or here.words (here.at.top - slots - 1) 0

    abbrev address : ℕ
    address = get_or here.words (here.at.top - slots - 2) 0

    within_index : here.at.top - slots ≤ length here.words
    within_index = let a = h.executes.top_within in omega (arith, a)

    some_index : 1 ≤ here.at.top - slots
    some_index =
        some_used addresses (Int t.index) here.words (here.at.top - slots) second.under within_index
        (subst (λ (l : List ℕ). IsOnTop addresses (Int t.index) l second.under) u.under_is second.on_top)

    both : second.on_top.0 ∷ second.under ≡ index_word ∷ in_use here.words (here.at.top - slots - 1)
    both = sym second.on_top.1 ∙ u.under_is ∙ in_use_top here.words (here.at.top - slots) some_index within_index

    index_is : t.index ≡ cast_signed w32 index_word
    index_is = second.on_top.2 ∙ ap (λ (l : List ℕ). cast_signed w32 (get_or l 0 0)) both

    under_is : second.under ≡ in_use here.words (here.at.top - slots - 1)
    under_is = ap (λ (l : List ℕ). drop 1 l) both

    within_array : here.at.top - slots - 1 ≤ length here.words
    within_array = let a = h.executes.top_within in omega (arith, a)

    some_array : 1 ≤ here.at.top - slots - 1
    some_array =
        some_used addresses t.array here.words (here.at.top - slots - 1) third.under within_array
        (subst (λ (l : List ℕ). IsOnTop addresses t.array l third.under) under_is third.on_top)

    pub enough : slots + 2 ≤ here.at.top
    enough = let a = some_array in omega (arith, a)

    used_is : in_use here.words (here.at.top - slots - 1) ≡ address ∷ in_use here.words (here.at.top - slots - 2)
    used_is =
        let minus : here.at.top - slots - 1 - 1 ≡ here.at.top - slots - 2 = omega arith in
        subst (λ (n : ℕ). in_use here.words (here.at.top - slots - 1) ≡ get_or here.words n 0 ∷ in_use here.words n) minus
        (in_use_top here.words (here.at.top - slots - 1) some_array within_array)

    on_top : IsOnTop addresses t.array (address ∷ in_use here.words (here.at.top - slots - 2)) third.under
    on_top = subst (λ (l : List ℕ). IsOnTop addresses t.array l third.under) (under_is ∙ used_is) third.on_top

    -- ---- null

    pub raises : address ≡ 0 → DidIn here.blocks texts here (effects.Raises 15) c addresses done below
    raises zero_is = by_reference t.array t.does on_top
      where
        by_reference :
            (v : Value) → store_number c kind t.index t.value v t.rest ≡ Ok done
            → IsOnTop addresses v (address ∷ in_use here.words (here.at.top - slots - 2)) third.under
            → DidIn here.blocks texts here (effects.Raises 15) c addresses done below
        by_reference Null does on =
            raised_in (λ c. store_component c kind) texts next here c addresses done below h.executes null_pointer 15
            (done_same (c.memory, Raises null_pointer) done does)
            (subst (λ (w : World). HasNumber w null_pointer 15) (sym h.guests.world_is) (system_numbers h.guests.given h.guests.contents).null_pointer)
        by_reference (Reference id) does on =
            let r = reference_word addresses id address _ third.under on in
            absurd (not_zero addresses id address h.executes.memory.objects.are r.0 zero_is)
        by_reference (Int n) does on = absurd cc
        by_reference (Long n) does on = absurd cc
        by_reference Half does on = absurd cc
        by_reference Unset does on = absurd cc

    -- ---- an array

    pub record Inside : Type 0 where
      pub id : ℕ
      pub at : slice_get addresses id ≡ Some address
      pub of : StoreOf c kind t.index t.value id t.rest done
      pub stands : ArrayStands c.program.world addresses of.components of.values (words_at here.blocks address)
      pub rest_is : in_use here.words (here.at.top - slots - 2) ≡ third.under

    pub inside : (address ≡ 0 → ⊥) → Inside
    inside other = by_reference t.array t.does on_top
      where
        by_reference :
            (v : Value) → store_number c kind t.index t.value v t.rest ≡ Ok done
            → IsOnTop addresses v (address ∷ in_use here.words (here.at.top - slots - 2)) third.under → Inside
        by_reference Null does on = absurd (other (null_word addresses address _ third.under on).0)
        by_reference (Reference id) does on =
            let r = reference_word addresses id address _ third.under on in
            let of = store_of c kind t.index t.value id t.rest done does in
            record {
              id = id;
              at = r.0;
              of = of;
              stands = h.executes.memory.objects.each id address (ArrayWith of.components of.values) r.0 of.there;
              rest_is = r.1;
            }
        by_reference (Int n) does on = absurd cc
        by_reference (Long n) does on = absurd cc
        by_reference Half does on = absurd cc
        by_reference Unset does on = absurd cc

    -- components have as many words as the value
    component_type : (i : Inside) → value_type i.of.components ≡ element_number kind
    component_type i = held_type kind i.of.components i.of.passes

    pub width_is : (i : Inside) → width (value_type i.of.components) ≡ slots
    width_is i = ap width (component_type i) ∙ h.slots_are

    pub length_word : (i : Inside) → get_or (words_at here.blocks address) 1 0 ≡ length i.of.values
    length_word i = ap (λ (l : List ℕ). get_or l 1 0) i.stands.words_are

    pub block_length : (i : Inside) → length (words_at here.blocks address) ≡ 2 + length i.of.values * slots
    block_length i =
        let size = components_length addresses i.of.components i.of.values i.stands.inside i.stands.stand in
        let same : length i.of.values * width (value_type i.of.components) ≡ length i.of.values * slots = ap (λ (n : ℕ). length i.of.values * n) (width_is i) in
        ap length i.stands.words_are ∙ omega (arith, size, same)

    pub raises_index : (i : Inside) → length i.of.values ≤ index_word → DidIn here.blocks texts here (effects.Raises 17) c addresses done below
    raises_index i outside =
        let none = index_outside index_word i.of.values t.index index_is outside in
        raised_in (λ c. store_component c kind) texts next here c addresses done below h.executes array_index 17
        (done_same (c.memory, Raises array_index) done
        (sym (ap (store_at c i.id (i.of.components, i.of.values) t.index t.value t.rest) none) ∙ i.of.does))
        (subst (λ (w : World). HasNumber w array_index 17) (sym h.guests.world_is) (system_numbers h.guests.given h.guests.contents).array_index)

    -- ---- what is stored

    abbrev new_value : (i : Inside) → Value
    new_value i = narrowed i.of.components t.value

    pub typed : (i : Inside) → has_type (value_type i.of.components) t.value ≡ true
    typed i = subst (λ (k : FrameType). has_type k t.value ≡ true) (sym (component_type i)) t.kind_is

    pub record Component (i : Inside) : Type 0 where
      pub old : Value
      pub is : done ≡ (with_object i.id (ArrayWith i.of.components (slice_set i.of.values index_word (new_value i))) c.memory, Goes c.next c.frame.locals t.rest)
      pub among : StandsAmong addresses i.of.components i.of.values index_word old (index_word * width (value_type i.of.components)) i.stands.inside

    pub component : (i : Inside) → index_word < length i.of.values → Component i
    component i in_range =
        let at = index_within index_word i.of.values t.index index_is i.stands.few in_range in
        let few = i.stands.few in
        let number : t.index ≡ pos index_word = index_is ∙ to_z_pos w32 index_word (omega (arith, few, in_range)) in
        let old = get_or i.of.values index_word Null in
        let there : slice_get i.of.values index_word ≡ Some old = slice_get-get_or i.of.values index_word Null (omega (arith, in_range)) in
        let does : store_at c i.id (i.of.components, i.of.values) (pos index_word) t.value t.rest (Some old) ≡ Ok done =
        subst (λ (z : ℤ). store_at c i.id (i.of.components, i.of.values) z t.value t.rest (Some old) ≡ Ok done) number
        (sym (ap (store_at c i.id (i.of.components, i.of.values) t.index t.value t.rest) (at ∙ there)) ∙ i.of.does) in
        record {
          old = old;
          is =
              done_same (with_object i.id (ArrayWith i.of.components (slice_set i.of.values index_word (new_value i))) c.memory, Goes c.next c.frame.locals t.rest)
              done does;
          among = component_stands addresses i.of.components i.of.values i.stands.inside index_word old i.stands.stand there;
        }

    -- the block, around the component
    abbrev around : (i : Inside) (k : Component i) → List ℕ
    around i k = i.stands.word ∷ length i.of.values ∷ k.among.at.before

    block_is : (i : Inside) (k : Component i) → words_at here.blocks address ≡ around i k ++ (k.among.at.own ++ k.among.at.behind)
    block_is i k = i.stands.words_are ∙ ap (λ (l : List ℕ). i.stands.word ∷ length i.of.values ∷ l) k.among.at.words_are

    around_length : (i : Inside) (k : Component i) → length (around i k) ≡ index_word * slots + 2
    around_length i k =
        let same : index_word * width (value_type i.of.components) ≡ index_word * slots = ap (λ (n : ℕ). index_word * n) (width_is i) in
        let at = k.among.at.place_is in
        omega (arith, same, at)

    new_words : (i : Inside) (own : List ℕ) → IsIn addresses (new_value i) own → length own ≡ slots → value_words (new_value i) ≡ width (value_type i.of.components)
    new_words i own stands size = sym (own_length addresses (new_value i) own stands) ∙ size ∙ sym (width_is i)

    -- the array with another component
    changed :
        (i : Inside) (k : Component i) (after : Blocks) (own : List ℕ) (at : Registers) → IsIn addresses (new_value i) own → length own ≡ slots
        → Changes address (around i k ++ (own ++ k.among.at.behind)) here.blocks after → at.pc ≡ next → at.top ≡ here.at.top - slots - 2
        → DidIn here.blocks texts (place at here.words here.held after) effects.Goes c addresses done below
    changed i k after own at stands size changes pc_is top_is =
        let new = ArrayWith i.of.components (slice_set i.of.values index_word (new_value i)) in
        let same_count = length-set i.of.values index_word (new_value i) in
        let few = i.stands.few in
        let object : ObjectStands c.program.world addresses new (around i k ++ (own ++ k.among.at.behind)) =
        record {
          word = i.stands.word;
          type = i.stands.type;
          few = omega (arith, few, same_count);
          inside = k.among.at.before ++ (own ++ k.among.at.behind);
          words_are =
              ap (λ (n : ℕ). i.stands.word ∷ n ∷ (k.among.at.before ++ (own ++ k.among.at.behind))) (sym same_count);
          stand = k.among.stored (new_value i) own stands (new_words i own stands size);
        } in
        let memory : MemoryStands c.program.world texts (with_object i.id new c.memory) addresses here.held after =
        let m = h.executes.memory in
        record {
          objects =
              object_changed c.program.world c.memory.objects addresses here.blocks after i.id address (ArrayWith i.of.components i.of.values) new
              (around i k ++ (own ++ k.among.at.behind)) m.objects i.at i.of.there changes object;
          statics = m.statics;
          literals = m.literals;
          error_stands = m.error_stands;
          arguments_stand = m.arguments_stand;
          cells = m.cells;
          output_left = m.output_left;
          output = m.output;
          output_room = m.output_room;
          read_within = m.read_within;
          input = m.input;
        } in
        subst (λ (x : Memory × Effect). DidIn here.blocks texts (place at here.words here.held after) effects.Goes c addresses x below) (sym k.is)
        (record {
          did = record {
            more = [];
            effect_stands =
                subst (λ (l : List ℕ). EffectStands c.program.world l c.frame (Goes c.next c.frame.locals t.rest) effects.Goes at (in_use here.words at.top) below)
                (sym (append-nil addresses))
                (record {
                  pc_is = pc_is ∙ h.executes.next_is;
                  count = refl;
                  stand =
                      subst (λ (l : List ℕ). FrameStands addresses c.frame.locals t.rest l below)
                      (sym (ap (in_use here.words) top_is ∙ i.rest_is)) third.lower;
                });
            memory = subst (λ (l : List ℕ). MemoryStands c.program.world texts (with_object i.id new c.memory) l here.held after) (sym (append-nil addresses)) memory;
          };
          grows = changed_grows addresses (around i k ++ (own ++ k.among.at.behind)) i.id address here.blocks after i.at changes;
        })

    -- ---- one word

    pub stored_word :
        (i : Inside) (k : Component i) (stored : ℕ) (at : Registers) (after : Blocks) → slots ≡ 1 → IsIn addresses (new_value i) (stored ∷ [])
        → at.pc ≡ next → at.top ≡ here.at.top - slots - 2 → after ≡ written here.blocks address (index_word + 2) stored
        → DidIn here.blocks texts (place at here.words here.held after) effects.Goes c addresses done below
    stored_word i k stored at after one stands pc_is top_is e =
        let own = one_own k.among.at.own (own_length addresses k.old k.among.at.own k.among.at.stands ∙ k.among.kind ∙ width_is i ∙ one) in
        let place_is : index_word + 2 ≡ length (around i k) =
        let p : index_word * slots ≡ index_word * 1 = ap (λ (n : ℕ). index_word * n) one in let a = around_length i k in omega (arith, p, a) in
        let block : words_at here.blocks address ≡ around i k ++ own.0 ∷ k.among.at.behind =
        block_is i k ∙ ap (λ (l : List ℕ). around i k ++ (l ++ k.among.at.behind)) own.1 in
        let now : set (words_at here.blocks address) (index_word + 2) stored ≡ around i k ++ stored ∷ k.among.at.behind =
        ap (λ (l : List ℕ). set l (index_word + 2) stored) block
        ∙ ap (λ (n : ℕ). set (around i k ++ own.0 ∷ k.among.at.behind) n stored) place_is
        ∙ set-append_seam (around i k) own.0 k.among.at.behind stored in
        subst (λ (b : Blocks). DidIn here.blocks texts (place at here.words here.held b) effects.Goes c addresses done below) (sym e)
        (changed i k (written here.blocks address (index_word + 2) stored) (stored ∷ []) at stands (sym one)
        (subst (λ (l : List ℕ). Changes address l here.blocks (written here.blocks address (index_word + 2) stored)) now
        (word_written here.blocks address (index_word + 2) stored)) pc_is top_is)

    -- ---- a long's two

    pub stored_long :
        (i : Inside) (k : Component i) (low high : ℕ) (at : Registers) (after : Blocks) → slots ≡ 2 → IsIn addresses (new_value i) (low ∷ high ∷ [])
        → at.pc ≡ next → at.top ≡ here.at.top - slots - 2
        → after ≡ written (written here.blocks address (index_word * 2 + 2) low) address (index_word * 2 + 3) high
        → DidIn here.blocks texts (place at here.words here.held after) effects.Goes c addresses done below
    stored_long i k low high at after two stands pc_is top_is e =
        let own = two_own k.among.at.own (own_length addresses k.old k.among.at.own k.among.at.stands ∙ k.among.kind ∙ width_is i ∙ two) in
        let place_is : index_word * 2 + 2 ≡ length (around i k) =
        let p : index_word * slots ≡ index_word * 2 = ap (λ (n : ℕ). index_word * n) two in let a = around_length i k in omega (arith, p, a) in
        let block : words_at here.blocks address ≡ around i k ++ own.0 ∷ own.1 ∷ k.among.at.behind =
        block_is i k ∙ ap (λ (l : List ℕ). around i k ++ (l ++ k.among.at.behind)) own.2 in
        let one_set : set (words_at here.blocks address) (index_word * 2 + 2) low ≡ around i k ++ low ∷ own.1 ∷ k.among.at.behind =
        ap (λ (l : List ℕ). set l (index_word * 2 + 2) low) block
        ∙ ap (λ (n : ℕ). set (around i k ++ own.0 ∷ own.1 ∷ k.among.at.behind) n low) place_is
        ∙ set-append_seam (around i k) own.0 (own.1 ∷ k.among.at.behind) low in
        let longer : index_word * 2 + 3 ≡ length (around i k ++ low ∷ []) = omega (arith, place_is, length-append (around i k) (low ∷ [])) in
        let two_set : set (around i k ++ low ∷ own.1 ∷ k.among.at.behind) (index_word * 2 + 3) high ≡ around i k ++ low ∷ high ∷ k.among.at.behind =
        ap (λ (l : List ℕ). set l (index_word * 2 + 3) high) (sym (append_assoc (around i k) (low ∷ []) (own.1 ∷ k.among.at.behind)))
        ∙ ap (λ (n : ℕ). set ((around i k ++ low ∷ []) ++ own.1 ∷ k.among.at.behind) n high) longer
        ∙ set-append_seam (around i k ++ low ∷ []) own.1 k.among.at.behind high
        ∙ append_assoc (around i k) (low ∷ []) (high ∷ k.among.at.behind) in
        let between = written here.blocks address (index_word * 2 + 2) low in
        let one = subst (λ (l : List ℕ). Changes address l here.blocks between) one_set (word_written here.blocks address (index_word * 2 + 2) low) in
        let other = word_written between address (index_word * 2 + 3) high in
        let now : set (words_at between address) (index_word * 2 + 3) high ≡ around i k ++ low ∷ high ∷ k.among.at.behind =
        ap (λ (l : List ℕ). set l (index_word * 2 + 3) high) one.own ∙ two_set in
        subst (λ (b : Blocks). DidIn here.blocks texts (place at here.words here.held b) effects.Goes c addresses done below) (sym e)
        (changed i k (written between address (index_word * 2 + 3) high) (low ∷ high ∷ []) at stands (sym two)
        (then_changed address (around i k ++ low ∷ own.1 ∷ k.among.at.behind) (around i k ++ low ∷ high ∷ k.among.at.behind) here.blocks between
        (written between address (index_word * 2 + 3) high) one
        (subst (λ (l : List ℕ). Changes address l between (written between address (index_word * 2 + 3) high)) now other)) pc_is top_is)

    -- ---- how the array narrows

    pub value_stored : (i : Inside) (how : Narrowing) (stored : ℕ) → slots ≡ 1 → Narrows how (get_or here.words (here.at.top - 1) 0) stored →
        NarrowsBy how kind c.program.world (get_or (words_at here.blocks address) 0 0) → value_words_are ≡ get_or here.words (here.at.top - 1) 0 ∷
        [] → IsIn addresses (new_value i) (stored ∷ [])
    value_stored i how stored one narrows by same =
        let word_is : get_or (words_at here.blocks address) 0 0 ≡ i.stands.word = ap (λ (l : List ℕ). get_or l 0 0) i.stands.words_are in
        let type = subst (λ (w : ℕ). IsArrayWord c.program.world i.of.components w) (sym word_is) i.stands.type in
        narrows addresses i.of.components t.value (by i.of.components type i.of.passes) (typed i)
        (subst (λ (l : List ℕ). IsIn addresses t.value l) same u.value_in)
