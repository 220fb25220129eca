-- `arrayLike` on words: what the machine does stands afterwards.
use Rattle.std.proofs.Common.{◌≡◌, ℕ, zero, suc, ◌&&◌, ◌==◌, if◌then◌else◌, ◌+◌, ◌-◌, ◌*◌, ◌<◌, ◌≤◌, ℤ, true, List, [], ◌∷◌, ◌++◌, Ok, length, replicate, set, get_or, refl, sym, ap, subst, ◌∙◌, arith}
use Rattle.jv_store.specs.Content.{words_at}
use Rattle.jv_text.specs.declared.descriptor.FieldTypeOf.{FieldTypeOf}
use Rattle.jv_text.specs.declared.descriptor.Base.TheVariants as bases
use Rattle.jv_text.specs.declared.descriptor.Element.{Element}
use Rattle.jv_text.specs.declared.descriptor.Element.TheVariants as elements
use Rattle.jv_text.specs.Descriptor.{field_slots, is_wide}
use Rattle.jv_stackmap.specs.Types.{value_type, value_type_by, width}
use Rattle.jv_meaning_typing.specs.FrameChanges.{is_reference}
use Rattle.jv_meaning_world.specs.World.{World}
use Rattle.jv_meaning_machine.specs.Faults.{tested, ◌>>=◌}
use Rattle.jv_meaning_machine.specs.Faults.Fault.{ReferenceFault}
use Rattle.jv_meaning_machine.specs.Values.{Value, is_reference_value}
use Rattle.jv_meaning_machine.specs.Values.Value.{Int, Long, Null, Reference, Half, Unset}
use Rattle.jv_meaning_machine.specs.Objects.{new_array}
use Rattle.jv_meaning_machine.specs.Objects.Object.{ArrayWith}
use Rattle.jv_meaning_machine.specs.State.{Memory}
use Rattle.jv_meaning_machine.specs.Costs.{array_cells, paid, next_object}
use Rattle.jv_meaning_machine.specs.Operands.{object_at}
use Rattle.jv_meaning_machine.specs.Effects.{Effect, Context, Outcome, out_of_memory, negative_size, null_pointer}
use Rattle.jv_meaning_machine.specs.Effects.Effect.{Goes, Throws, Raises}
use Rattle.jv_meaning_machine.specs.Arrays.{Components, array_in, holds_references, make_array, push_arrays}
use Rattle.jv_meaning_machine.specs.Calls.{array_like}
use Rattle.jv_interp_words.specs.declared.registers.Registers.{Registers}
use Rattle.jv_interp_words.specs.FramesInWords.{in_use}
use Rattle.jv_interp_words.proofs.Gave.{bound_gave, tested_gave}
use Rattle.jv_interp_words.proofs.Grown.{frame_grown}
use Rattle.jv_interp_words.proofs.InUse.{in_use_pushed}
use Rattle.jv_interp_heap.specs.ObjectsInBlocks.{Blocks, ArrayStands, HasNumber}
use Rattle.jv_interp_heap.specs.NewBlocks.{Joins}
use Rattle.jv_interp_heap.proofs.NewObjects.{array_joined}
use Rattle.jv_interp_heap.proofs.Numbered.{system_numbers}
use Rattle.jv_interp_held.specs.declared.effect.Effect.TheVariants as effects
use Rattle.jv_interp_held.specs.Executing.{Place, place}
use Rattle.jv_interp_held.specs.Growing.{DidIn}
use Rattle.jv_interp_held.specs.Host.{RunningOnTwo}
use Rattle.jv_interp_held.proofs.Growths.{joined_grows}
use Rattle.jv_interp_held.proofs.Popped.{frame_pushed}
use Rattle.jv_interp_objects.specs.Payments.{IsLacking, IsMade}
use Rattle.jv_interp_objects.proofs.Counted.{negative_count, small_count}
use Rattle.jv_interp_objects.proofs.HostObjects.{TwoOnTop, two_on_top}
use Rattle.jv_interp_objects.proofs.Loaded.{array_there}
use Rattle.jv_interp_objects.proofs.More.{memory_grown, last_place}
use Rattle.jv_interp_objects.proofs.NestedObjects.{array_slots}
use Rattle.jv_interp_objects.proofs.TakesArray.{reference_width}
use Rattle.jv_interp_objects.proofs.Went.{done_same, paid_lacks, paid_left, lacks_in, raises_in, goes_in}

-- an array of references has components of one cell
reference_cells : (components : FieldTypeOf (List ℕ)) → holds_references components ≡ true → field_slots components ≡ 1
reference_cells components h = by_parts components.dimensions components.element h
  where
    by_parts : (n : ℕ) (e : Element (List ℕ)) → is_reference (value_type_by n e) ≡ true → ◌≡◌ {A = ℕ} (if n == 0 && is_wide e then 2 else 1) 1
    by_parts zero (elements.Base bases.Byte) k = refl
    by_parts zero (elements.Base bases.Char) k = refl
    by_parts zero (elements.Base bases.Double) k = absurd cc
    by_parts zero (elements.Base bases.Float) k = refl
    by_parts zero (elements.Base bases.Int) k = refl
    by_parts zero (elements.Base bases.Long) k = absurd cc
    by_parts zero (elements.Base bases.Short) k = refl
    by_parts zero (elements.Base bases.Boolean) k = refl
    by_parts zero (elements.Class name) k = refl
    by_parts (suc n) e k = array_slots (record { dimensions = suc n; element = e }) (omega arith)

module _ (next : ℕ) (here : Place) (texts : List (List ℕ)) (c : Context) (number : ℤ) (value : Value) (rest : List Value) (addresses : List ℕ) (done : Memory × Effect) (below : List ℕ)
    (h : RunningOnTwo array_like next here texts c number value rest addresses done below) where
  abbrev part : Context → Outcome
  part = λ c. array_like c number rest value

  abbrev like_word : ℕ
  like_word = get_or here.words (here.at.top - 2) 0

  abbrev count : ℕ
  count = get_or here.words (here.at.top - 1) 0

  kind : is_reference_value value ≡ true
  kind = by_value value h.executes.does
    where
      by_value : (v : Value) → array_like c number rest v ≡ Ok done → is_reference_value v ≡ true
      by_value Null e = refl
      by_value (Reference id) e = refl
      by_value (Int n) e = absurd cc
      by_value (Long n) e = absurd cc
      by_value Half e = absurd cc
      by_value Unset e = absurd cc

  pub two : TwoOnTop addresses c.frame.locals number value rest here.words here.at.top below
  two =
      two_on_top addresses c.frame.locals c.frame.stack number value rest here.words here.at.top below h.executes.memory.objects.are h.executes.frame h.stack kind
      h.executes.top_within

  pub within : here.at.top ≤ length here.words
  within = h.executes.top_within

  pub raises_null : like_word ≡ 0 → DidIn here.blocks texts here (effects.Raises 15) c addresses done below
  raises_null zero_is =
      raises_in part texts next here c addresses done below h.executes null_pointer 15
      (done_same (c.memory, Raises null_pointer) done (subst (λ (v : Value). array_like c number rest v ≡ Ok done) (two.null zero_is) h.executes.does))
      (subst (λ (w : World). HasNumber w null_pointer 15) (sym h.guests.world_is) (system_numbers h.guests.given h.guests.contents).null_pointer)

  -- ---- the other array

  pub record Liked : Type 0 where
    pub components : FieldTypeOf (List ℕ)
    pub values : List Value
    pub passes : holds_references components ≡ true
    pub stands : ArrayStands c.program.world addresses components values (words_at here.blocks like_word)
    pub does : make_array c components number rest ≡ Ok done

  pub liked : (like_word ≡ 0 → ⊥) → Liked
  liked other =
      let r = two.refers other in
      let does : array_like c number rest (Reference r.id) ≡ Ok done = subst (λ (v : Value). array_like c number rest v ≡ Ok done) r.is h.executes.does in
      let array =
      bound_gave (object_at c.memory.objects r.id >>= array_in)
      (λ (a : Components). tested ReferenceFault (holds_references a.0) a >>= λ a. make_array c a.0 number rest) done does in
      let passed =
      bound_gave (tested ReferenceFault (holds_references array.0.0) array.0) (λ (a : Components). make_array c a.0 number rest) done array.2 in
      let kept = tested_gave ReferenceFault (holds_references array.0.0) array.0 passed.0 passed.1 in
      record {
        components = array.0.0;
        values = array.0.1;
        passes = kept.0;
        stands =
            h.executes.memory.objects.each r.id like_word (ArrayWith array.0.0 array.0.1) r.at (array_there c.memory.objects r.id array.0 array.1).there;
        does = ap (λ (a : Components). make_array c a.0 number rest) kept.1 ∙ passed.2;
      }

  pub block_length : (m : Liked) → 0 < length (words_at here.blocks like_word)
  block_length m = let e = ap length m.stands.words_are in omega (arith, e)

  -- its first word, which the new one gets
  abbrev word : ℕ
  word = get_or (words_at here.blocks like_word) 0 0

  -- ---- a negative count

  pub raises_negative : (m : Liked) → 2147483647 < count → count < 4294967296 → DidIn here.blocks texts here (effects.Raises 14) c addresses done below
  raises_negative m negative fits =
      raises_in part texts next here c addresses done below h.executes negative_size 14
      (done_same (c.memory, Raises negative_size) done
      (sym (ap (λ (n : ℤ). make_array c m.components n rest) (two.number_is ∙ negative_count count negative fits)) ∙ m.does))
      (subst (λ (w : World). HasNumber w negative_size 14) (sym h.guests.world_is) (system_numbers h.guests.given h.guests.contents).negative_size)

  -- ---- an array

  module _ (m : Liked) (small : count ≤ 2147483647) where
    abbrev cost : ℕ
    cost = array_cells m.components count

    one_cell : field_slots m.components ≡ 1
    one_cell = reference_cells m.components m.passes

    cost_is : cost ≡ 2 + count * 1
    cost_is = ap (λ (n : ℕ). 2 + count * n) one_cell

    does : push_arrays c m.components (count ∷ []) rest (paid cost c.memory) ≡ Ok done
    does = sym (ap (λ (n : ℤ). make_array c m.components n rest) (two.number_is ∙ small_count count small)) ∙ m.does

    pub lacking : (cells : ℕ) (after : Blocks) → IsLacking (2 + count * 1) here.held.cells cells here.blocks after →
        DidIn here.blocks texts (place here.at here.words (record here.held { cells = cells }) after) (effects.Throws here.held.out_of_memory) c
        addresses done below
    lacking cells after lacks =
        let fewer : c.memory.cells < cost = let a = h.executes.memory.cells in let b = lacks.lacks in let e = cost_is in omega (arith, a, b, e) in
        lacks_in part texts next here c addresses done below h.executes cells after
        (done_same (c.memory, Throws out_of_memory) done
        (sym (ap (push_arrays c m.components (count ∷ []) rest) (paid_lacks cost c.memory fewer)) ∙ does))
        lacks.same_cells lacks.same

    pub made :
        (cells : ℕ) (after : Blocks) (address : ℕ) (at : Registers)
        → IsMade (word ∷ count ∷ replicate (count * 1) 0) (2 + count * 1) here.held.cells cells here.blocks after address → at.pc ≡ next
        → at.top ≡ here.at.top - 1
        → DidIn here.blocks texts (place at (set here.words (here.at.top - 2) address) (record here.held { cells = cells }) after) effects.Goes c addresses done below
    made cells after address at new pc_is top_is =
        let enough : cost ≤ c.memory.cells = let a = h.executes.memory.cells in let b = new.paid in let e = cost_is in omega (arith, a, b, e) in
        let left : cells + cost ≡ here.held.cells = let b = new.paid in let e = cost_is in omega (arith, b, e) in
        let is : done ≡ (
          record c.memory { objects = c.memory.objects ++ new_array m.components count ∷ []; cells = c.memory.cells - cost },
          Goes c.next c.frame.locals (Reference (next_object c.memory) ∷ rest),
        ) =
        done_same (
          record c.memory { objects = c.memory.objects ++ new_array m.components count ∷ []; cells = c.memory.cells - cost },
          Goes c.next c.frame.locals (Reference (next_object c.memory) ∷ rest),
        ) done
        (sym (ap (push_arrays c m.components (count ∷ []) rest) (paid_left cost c.memory enough)) ∙ does) in
        let first : word ≡ m.stands.word = ap (λ (l : List ℕ). get_or l 0 0) m.stands.words_are in
        let joins : Joins (m.stands.word ∷ count ∷ replicate (count * width (value_type m.components)) 0) here.blocks after address =
        subst (λ (n : ℕ). Joins (m.stands.word ∷ count ∷ replicate (count * n) 0) here.blocks after address) (sym (reference_width m.components m.passes))
        (subst (λ (n : ℕ). Joins (n ∷ count ∷ replicate (count * 1) 0) here.blocks after address) first new.joins) in
        let few : count < 2147483648 = omega (arith, small) in
        let stand =
        array_joined c.program.world c.memory.objects addresses here.blocks after m.components m.stands.word count address h.executes.memory.objects
        m.stands.type few joins in
        let less : here.at.top - 2 < length here.words = let a = within in let b = two.enough in omega (arith, a, b) in
        let up : here.at.top - 2 + 1 ≡ at.top = let b = two.enough in omega (arith, b, top_is) in
        let used =
        subst (λ (n : ℕ). in_use (set here.words (here.at.top - 2) address) n ≡ address ∷ in_use here.words (here.at.top - 2)) up
        (in_use_pushed here.words (here.at.top - 2) address less) in
        let lower = frame_grown addresses (address ∷ []) c.frame.locals rest (in_use here.words (here.at.top - 2)) below two.lower in
        goes_in part texts next here c addresses done below h.executes at (set here.words (here.at.top - 2) address) (record here.held { cells = cells }) after
        (address ∷ []) _ (Reference (next_object c.memory) ∷ rest) is pc_is
        (frame_pushed (addresses ++ address ∷ []) c.frame.locals (Reference (next_object c.memory)) rest (in_use (set here.words (here.at.top - 2) address) at.top)
        (in_use here.words (here.at.top - 2)) below lower
        (address, used, last_place addresses address (next_object c.memory) h.executes.memory.objects.count))
        (memory_grown c.program.world texts c.memory addresses (address ∷ []) here.held here.blocks after (new_array m.components count ∷ []) h.executes.memory stand cost cells left)
        (joined_grows addresses (word ∷ count ∷ replicate (count * 1) 0) here.blocks after address new.joins)
