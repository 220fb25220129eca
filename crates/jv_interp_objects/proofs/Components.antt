-- Loads from an array on words: what the machine does stands afterwards.
use Rattle.std.proofs.Common.{◌≡◌, ℕ, ◌+◌, ◌-◌, ◌*◌, ◌<◌, ◌≤◌, List, [], ◌∷◌, ◌++◌, Some, Ok, length, set, refl, sym, ap, subst, ◌∙◌, get_or, drop, arith, slice_get, append_assoc, length-append}
use Rattle.std.specs.Int.{w32, cast_signed}
use Rattle.std.proofs.Math.Seq.{get_or-append_seam}
use Rattle.std.proofs.lemmas.Option.{slice_get-get_or}
use Rattle.jv_store.specs.Content.{words_at}
use Rattle.jv_text.specs.declared.descriptor.FieldTypeOf.{FieldTypeOf}
use Rattle.jv_stackmap.specs.Types.{value_type, width}
use Rattle.jv_meaning_world.specs.World.{World}
use Rattle.jv_meaning_machine.specs.Values.{Value}
use Rattle.jv_meaning_machine.specs.Values.Value.{Int, Long, Null, Reference, Half, Unset}
use Rattle.jv_meaning_machine.specs.Objects.Object.{ArrayWith}
use Rattle.jv_meaning_machine.specs.State.{Memory}
use Rattle.jv_meaning_machine.specs.Effects.{Effect, Context, null_pointer, array_index}
use Rattle.jv_meaning_machine.specs.Effects.Effect.{Goes, Raises}
use Rattle.jv_meaning_machine.specs.Arrays.{at_place, load_at, load_from, load_component}
use Rattle.jv_interp_words.specs.declared.registers.Registers.{Registers}
use Rattle.jv_interp_words.specs.ValuesInWords.{IsOnTop}
use Rattle.jv_interp_words.specs.FramesInWords.{in_use}
use Rattle.jv_interp_words.proofs.InUse.{in_use_top, in_use_pushed, in_use_two}
use Rattle.jv_interp_heap.specs.ObjectsInBlocks.{IsIn, HasNumber, ArrayStands}
use Rattle.jv_interp_heap.proofs.Carried.{word_pushed, long_pushed, one_own, two_own}
use Rattle.jv_interp_heap.proofs.Fields.{own_length}
use Rattle.jv_interp_heap.proofs.Components.{StandsAmong, component_stands, components_length}
use Rattle.jv_interp_held.specs.declared.effect.Effect.TheVariants as effects
use Rattle.jv_interp_held.specs.Executing.{Place, place, Did}
use Rattle.jv_interp_heap.proofs.Numbered.{system_numbers}
use Rattle.jv_interp_held.proofs.Popped.{Popped, frame_popped, frame_pushed, some_used, null_word, reference_word, not_zero}
use Rattle.jv_interp_held.proofs.Raised.{raised, went_on}
use Rattle.jv_interp_objects.specs.Loads.{Loading}
use Rattle.jv_interp_objects.proofs.Loaded.{done_same, TakesBoth, takes_both, load_of, index_within, index_outside}

module _ (slots next : ℕ) (here : Place) (texts : List (List ℕ)) (c : Context) (test : FieldTypeOf (List ℕ) → Rattle.std.specs.Prelude.Bool)
    (addresses : List ℕ) (done : Memory × Effect) (below : List ℕ)
    (h : Loading slots next here texts c test addresses done below) where
  pub t : TakesBoth c test done
  t = takes_both c test done h.executes.does

  pub first : Popped addresses c.frame.locals (Int t.index) (t.array ∷ t.rest) (in_use here.words here.at.top) below
  first = frame_popped addresses c.frame.locals c.frame.stack (Int t.index) (t.array ∷ t.rest) (in_use here.words here.at.top) below h.executes.frame t.stood

  pub second : Popped addresses c.frame.locals t.array t.rest first.under below
  second = frame_popped addresses c.frame.locals (t.array ∷ t.rest) t.array t.rest first.under below first.lower refl

  some : 1 ≤ here.at.top
  some = some_used addresses (Int t.index) here.words here.at.top first.under h.executes.top_within first.on_top

  abbrev index_word : ℕ
  index_word = get_or here.words (here.at.top - 1) 0

  abbrev array_word : ℕ
  array_word = get_or here.words (here.at.top - 2) 0

  both : first.on_top.0 ∷ first.under ≡ index_word ∷ in_use here.words (here.at.top - 1)
  both = sym first.on_top.1 ∙ in_use_top here.words here.at.top some h.executes.top_within

  under_is : first.under ≡ in_use here.words (here.at.top - 1)
  under_is = ap (λ (l : List ℕ). drop 1 l) both

  index_is : t.index ≡ cast_signed w32 index_word
  index_is = first.on_top.2 ∙ ap (λ (l : List ℕ). cast_signed w32 (get_or l 0 0)) both

  less : here.at.top - 1 ≤ length here.words
  less = let a = h.executes.top_within in omega (arith, a)

  pub two : 2 ≤ here.at.top
  two =
      let s =
      some_used addresses t.array here.words (here.at.top - 1) second.under less
      (subst (λ (u : List ℕ). IsOnTop addresses t.array u second.under) under_is second.on_top) in
      omega (arith, s)

  pub top_within : here.at.top ≤ length here.words
  top_within = h.executes.top_within

  used_is : in_use here.words (here.at.top - 1) ≡ array_word ∷ in_use here.words (here.at.top - 2)
  used_is =
      let minus : here.at.top - 1 - 1 ≡ here.at.top - 2 = omega arith in
      let enough : 1 ≤ here.at.top - 1 = let a = two in omega (arith, a) in
      subst (λ (n : ℕ). in_use here.words (here.at.top - 1) ≡ get_or here.words n 0 ∷ in_use here.words n) minus
      (in_use_top here.words (here.at.top - 1) enough less)

  on_top : IsOnTop addresses t.array (array_word ∷ in_use here.words (here.at.top - 2)) second.under
  on_top = subst (λ (u : List ℕ). IsOnTop addresses t.array u second.under) (under_is ∙ used_is) second.on_top

  -- ---- null

  pub raises : array_word ≡ 0 → Did texts here (effects.Raises 15) c addresses done below
  raises zero_is = by_reference t.array t.does on_top
    where
      by_reference :
          (v : Value) → load_from c test t.index v t.rest ≡ Ok done → IsOnTop addresses v (array_word ∷ in_use here.words (here.at.top - 2)) second.under
          → Did texts here (effects.Raises 15) c addresses done below
      by_reference Null does on =
          raised (λ c. load_component c test) texts next here c addresses done below h.executes null_pointer 15
          (done_same (c.memory, Raises null_pointer) done does)
          (subst (λ (w : World). HasNumber w null_pointer 15) (sym h.guests.world_is) (system_numbers h.guests.given h.guests.contents).null_pointer)
      by_reference (Reference id) does on =
          let r = reference_word addresses id array_word _ second.under on in
          absurd (not_zero addresses id array_word h.executes.memory.objects.are r.0 zero_is)
      by_reference (Int n) does on = absurd cc
      by_reference (Long n) does on = absurd cc
      by_reference Half does on = absurd cc
      by_reference Unset does on = absurd cc

  -- ---- an array

  pub record Inside : Type 0 where
    pub components : FieldTypeOf (List ℕ)
    pub values : List Value
    pub stands : ArrayStands c.program.world addresses components values (words_at here.blocks array_word)
    pub width_is : width (value_type components) ≡ slots
    pub does : load_at c t.rest (at_place t.index values) ≡ Ok done
    pub rest_is : in_use here.words (here.at.top - 2) ≡ second.under

  pub inside : (array_word ≡ 0 → ⊥) → Inside
  inside other = by_reference t.array t.does on_top
    where
      by_reference :
          (v : Value) → load_from c test t.index v t.rest ≡ Ok done → IsOnTop addresses v (array_word ∷ in_use here.words (here.at.top - 2)) second.under → Inside
      by_reference Null does on = absurd (other (null_word addresses array_word _ second.under on).0)
      by_reference (Reference id) does on =
          let r = reference_word addresses id array_word _ second.under on in
          let l = load_of c test t.index id t.rest done does in
          record {
            components = l.components;
            values = l.values;
            stands = h.executes.memory.objects.each id array_word (ArrayWith l.components l.values) r.0 l.there;
            width_is = h.slots_are l.components l.passes;
            does = l.does;
            rest_is = r.1;
          }
      by_reference (Int n) does on = absurd cc
      by_reference (Long n) does on = absurd cc
      by_reference Half does on = absurd cc
      by_reference Unset does on = absurd cc

  pub length_word : (i : Inside) → get_or (words_at here.blocks array_word) 1 0 ≡ length i.values
  length_word i = ap (λ (l : List ℕ). get_or l 1 0) i.stands.words_are

  pub block_length : (i : Inside) → length (words_at here.blocks array_word) ≡ 2 + length i.values * slots
  block_length i =
      let size = components_length addresses i.components i.values i.stands.inside i.stands.stand in
      let same : length i.values * width (value_type i.components) ≡ length i.values * slots = ap (λ (n : ℕ). length i.values * n) i.width_is in
      ap length i.stands.words_are ∙ omega (arith, size, same)

  pub raises_index : (i : Inside) → length i.values ≤ index_word → Did texts here (effects.Raises 17) c addresses done below
  raises_index i outside =
      let none = index_outside index_word i.values t.index index_is outside in
      raised (λ c. load_component c test) texts next here c addresses done below h.executes array_index 17
      (done_same (c.memory, Raises array_index) done (sym (ap (load_at c t.rest) none) ∙ i.does))
      (subst (λ (w : World). HasNumber w array_index 17) (sym h.guests.world_is) (system_numbers h.guests.given h.guests.contents).array_index)

  -- ---- a component

  pub record Component (i : Inside) : Type 0 where
    pub value : Value
    pub is : done ≡ (c.memory, Goes c.next c.frame.locals (value ∷ t.rest))
    pub among : StandsAmong addresses i.components i.values index_word value (index_word * width (value_type i.components)) i.stands.inside

  pub component : (i : Inside) → index_word < length i.values → Component i
  component i in_range =
      let at = index_within index_word i.values t.index index_is i.stands.few in_range in
      let value = get_or i.values index_word Null in
      let there : slice_get i.values index_word ≡ Some value = slice_get-get_or i.values index_word Null (omega (arith, in_range)) in
      let does : load_at c t.rest (Some value) ≡ Ok done = sym (ap (load_at c t.rest) (at ∙ there)) ∙ i.does in
      record {
        value = value;
        is = done_same (c.memory, Goes c.next c.frame.locals (value ∷ t.rest)) done does;
        among = component_stands addresses i.components i.values i.stands.inside index_word value i.stands.stand there;
      }

  -- the frame goes on with the component in place of the array and the index
  went :
      (i : Inside) (k : Component i) (at : Registers) (words : List ℕ) → at.pc ≡ next → IsOnTop addresses k.value (in_use words at.top) (in_use here.words (here.at.top - 2))
      → Did texts (place at words here.held here.blocks) effects.Goes c addresses done below
  went i k at words pc_is stands =
      went_on (λ c. load_component c test) texts next here c addresses done below h.executes at words (k.value ∷ t.rest) k.is pc_is
      (frame_pushed addresses c.frame.locals k.value t.rest (in_use words at.top) second.under below second.lower
      (subst (λ (u : List ℕ). IsOnTop addresses k.value (in_use words at.top) u) i.rest_is stands))

  -- the block, around the component
  abbrev around : (i : Inside) (k : Component i) → List ℕ
  around i k = i.stands.word ∷ length i.values ∷ k.among.at.before

  block_is : (i : Inside) (k : Component i) → words_at here.blocks array_word ≡ around i k ++ (k.among.at.own ++ k.among.at.behind)
  block_is i k = i.stands.words_are ∙ ap (λ (l : List ℕ). i.stands.word ∷ length i.values ∷ l) k.among.at.words_are

  around_length : (i : Inside) (k : Component i) → length (around i k) ≡ index_word * slots + 2
  around_length i k =
      let same : index_word * width (value_type i.components) ≡ index_word * slots = ap (λ (n : ℕ). index_word * n) i.width_is in
      let at = k.among.at.place_is in
      omega (arith, same, at)

  pub got_word :
      (i : Inside) (k : Component i) (at : Registers) → slots ≡ 1 → at.pc ≡ next → at.top ≡ here.at.top - 1
      → Did texts (place at (set here.words (here.at.top - 2) (get_or (words_at here.blocks array_word) (index_word + 2) 0)) here.held here.blocks) effects.Goes c addresses done below
  got_word i k at one pc_is top_is =
      let own = one_own k.among.at.own (own_length addresses k.value k.among.at.own k.among.at.stands ∙ k.among.kind ∙ i.width_is ∙ one) in
      let place_is : index_word + 2 ≡ length (around i k) =
      let e : index_word * slots ≡ index_word * 1 = ap (λ (n : ℕ). index_word * n) one in let a = around_length i k in omega (arith, e, a) in
      let seam : get_or (words_at here.blocks array_word) (index_word + 2) 0 ≡ own.0 =
      ap (λ (l : List ℕ). get_or l (index_word + 2) 0) (block_is i k ∙ ap (λ (l : List ℕ). around i k ++ (l ++ k.among.at.behind)) own.1)
      ∙ ap (λ (n : ℕ). get_or (around i k ++ own.0 ∷ k.among.at.behind) n 0) place_is
      ∙ get_or-append_seam (around i k) own.0 k.among.at.behind 0 in
      let word_in : IsIn addresses k.value (own.0 ∷ []) = subst (λ (l : List ℕ). IsIn addresses k.value l) own.1 k.among.at.stands in
      let within : here.at.top - 2 < length here.words = let a = top_within in let b = two in omega (arith, a, b) in
      let up : here.at.top - 2 + 1 ≡ at.top = let b = two in omega (arith, b, top_is) in
      let used =
      subst (λ (n : ℕ). in_use (set here.words (here.at.top - 2) own.0) n ≡ own.0 ∷ in_use here.words (here.at.top - 2)) up
      (in_use_pushed here.words (here.at.top - 2) own.0 within) in
      subst (λ (x : ℕ). Did texts (place at (set here.words (here.at.top - 2) x) here.held here.blocks) effects.Goes c addresses done below) (sym seam)
      (went i k at (set here.words (here.at.top - 2) own.0) pc_is
      (subst (λ (u : List ℕ). IsOnTop addresses k.value u (in_use here.words (here.at.top - 2))) (sym used)
      (word_pushed addresses k.value own.0 (in_use here.words (here.at.top - 2)) word_in)))

  pub got_long :
      (i : Inside) (k : Component i) (at : Registers) → slots ≡ 2 → at.pc ≡ next → at.top ≡ here.at.top
      → Did texts (place at (set (set here.words (here.at.top - 2) (get_or (words_at here.blocks array_word) (index_word * 2 + 2) 0))
      (here.at.top - 1) (get_or (words_at here.blocks array_word) (index_word * 2 + 3) 0)) here.held here.blocks) effects.Goes c addresses done
      below
  got_long i k at two_slots pc_is top_is =
      let own = two_own k.among.at.own (own_length addresses k.value k.among.at.own k.among.at.stands ∙ k.among.kind ∙ i.width_is ∙ two_slots) in
      let low = own.0 in
      let high = own.1 in
      let place_is : index_word * 2 + 2 ≡ length (around i k) =
      let e : index_word * slots ≡ index_word * 2 = ap (λ (n : ℕ). index_word * n) two_slots in let a = around_length i k in omega (arith, e, a) in
      let block : words_at here.blocks array_word ≡ around i k ++ low ∷ high ∷ k.among.at.behind =
      block_is i k ∙ ap (λ (l : List ℕ). around i k ++ (l ++ k.among.at.behind)) own.2 in
      let low_is : get_or (words_at here.blocks array_word) (index_word * 2 + 2) 0 ≡ low =
      ap (λ (l : List ℕ). get_or l (index_word * 2 + 2) 0) block
      ∙ ap (λ (n : ℕ). get_or (around i k ++ low ∷ high ∷ k.among.at.behind) n 0) place_is
      ∙ get_or-append_seam (around i k) low (high ∷ k.among.at.behind) 0 in
      let longer : index_word * 2 + 3 ≡ length (around i k ++ low ∷ []) = omega (arith, place_is, length-append (around i k) (low ∷ [])) in
      let high_is : get_or (words_at here.blocks array_word) (index_word * 2 + 3) 0 ≡ high =
      ap (λ (l : List ℕ). get_or l (index_word * 2 + 3) 0) (block ∙ sym (append_assoc (around i k) (low ∷ []) (high ∷ k.among.at.behind)))
      ∙ ap (λ (n : ℕ). get_or ((around i k ++ low ∷ []) ++ high ∷ k.among.at.behind) n 0) longer
      ∙ get_or-append_seam (around i k ++ low ∷ []) high k.among.at.behind 0 in
      let word_in : IsIn addresses k.value (low ∷ high ∷ []) = subst (λ (l : List ℕ). IsIn addresses k.value l) own.2 k.among.at.stands in
      let within : here.at.top - 2 + 1 < length here.words = let a = top_within in let b = two in omega (arith, a, b) in
      let up : here.at.top - 2 + 1 ≡ here.at.top - 1 = let b = two in omega (arith, b) in
      let up_two : here.at.top - 2 + 2 ≡ at.top = let b = two in omega (arith, b, top_is) in
      let used_two = in_use_two here.words (here.at.top - 2) low high within in
      let used =
      subst (λ (n : ℕ). in_use (set (set here.words (here.at.top - 2) low) n high) at.top ≡ high ∷ low ∷ in_use here.words (here.at.top - 2)) up
      (subst (λ (n : ℕ). in_use (set (set here.words (here.at.top - 2) low) (here.at.top - 2 + 1) high) n ≡ high ∷ low ∷ in_use here.words (here.at.top - 2)) up_two used_two) in
      subst (λ (x : ℕ). Did texts
      (place at (set (set here.words (here.at.top - 2) x) (here.at.top - 1) (get_or (words_at here.blocks array_word) (index_word * 2 + 3) 0))
      here.held here.blocks) effects.Goes c addresses done below) (sym low_is)
      (subst (λ (x : ℕ). Did texts (place at (set (set here.words (here.at.top - 2) low) (here.at.top - 1) x) here.held here.blocks) effects.Goes c addresses done below) (sym high_is)
      (went i k at (set (set here.words (here.at.top - 2) low) (here.at.top - 1) high) pc_is
      (subst (λ (u : List ℕ). IsOnTop addresses k.value u (in_use here.words (here.at.top - 2))) (sym used)
      (long_pushed addresses k.value low high (in_use here.words (here.at.top - 2)) word_in))))
