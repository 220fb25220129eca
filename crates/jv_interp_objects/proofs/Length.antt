-- The length of an array on words: what the machine does stands afterwards.
use Rattle.std.proofs.Common.{◌≡◌, ℕ, pos, ◌+◌, ◌-◌, ◌<◌, ◌≤◌, List, ◌∷◌, Ok, length, set, sym, ap, subst, ◌∙◌, get_or, arith}
use Rattle.std.specs.Int.{w32, cast_signed}
use Rattle.std.proofs.lemmas.Int.{to_z_pos}
use Rattle.jv_store.specs.Content.{words_at}
use Rattle.jv_text.specs.declared.descriptor.FieldTypeOf.{FieldTypeOf}
use Rattle.jv_meaning_world.specs.World.{World}
use Rattle.jv_meaning_typing.specs.Named.{object_class_type}
use Rattle.jv_meaning_machine.specs.Faults.{◌>>=◌}
use Rattle.jv_meaning_machine.specs.Values.{Value}
use Rattle.jv_meaning_machine.specs.Values.Value.{Int, Long, Null, Reference, Half, Unset}
use Rattle.jv_meaning_machine.specs.Objects.Object.{ArrayWith}
use Rattle.jv_meaning_machine.specs.State.{Memory}
use Rattle.jv_meaning_machine.specs.Operands.{object_at, taken_reference}
use Rattle.jv_meaning_machine.specs.Effects.{Effect, Context, null_pointer, goes_on}
use Rattle.jv_meaning_machine.specs.Effects.Effect.{Goes, Raises}
use Rattle.jv_meaning_machine.specs.Arrays.{Components, array_in, length_of, array_length}
use Rattle.jv_interp_words.specs.declared.registers.Registers.{Registers}
use Rattle.jv_interp_words.specs.ValuesInWords.{IsOnTop}
use Rattle.jv_interp_words.specs.FramesInWords.{in_use}
use Rattle.jv_interp_words.proofs.Gave.{bound_gave}
use Rattle.jv_interp_words.proofs.Taken.{taken_gave}
use Rattle.jv_interp_words.proofs.InUse.{in_use_top, in_use_pushed}
use Rattle.jv_interp_heap.specs.ObjectsInBlocks.{HasNumber, ArrayStands}
use Rattle.jv_interp_held.specs.declared.effect.Effect.TheVariants as effects
use Rattle.jv_interp_held.specs.Executing.{Place, place, Did}
use Rattle.jv_interp_heap.proofs.Numbered.{system_numbers}
use Rattle.jv_interp_held.proofs.Popped.{Popped, frame_popped, frame_pushed, some_used, null_word, reference_word, not_zero}
use Rattle.jv_interp_held.proofs.Raised.{raised, went_on}
use Rattle.jv_interp_objects.specs.Loads.{Measuring}
use Rattle.jv_interp_objects.proofs.Loaded.{done_same, array_there}

-- ---- in the machine

pub record TakesArray (c : Context) (done : Memory × Effect) : Type 0 where
  pub array : Value
  pub rest : List Value
  pub stood : c.frame.stack ≡ array ∷ rest
  pub does : length_of c array rest ≡ Ok done

pub takes_array : (c : Context) (done : Memory × Effect) → array_length c ≡ Ok done → TakesArray c done
takes_array c done e =
    let top = bound_gave (taken_reference c.memory.objects c.frame.stack) (λ (t : Value × List Value). length_of c t.0 t.1) done e in
    record {
      array = top.0.0;
      rest = top.0.1;
      stood = taken_gave c.memory.objects object_class_type c.frame.stack top.0 top.1;
      does = top.2;
    }

-- ---- on words

module _ (next : ℕ) (here : Place) (texts : List (List ℕ)) (c : Context) (addresses : List ℕ) (done : Memory × Effect) (below : List ℕ)
    (h : Measuring next here texts c addresses done below) where
  pub t : TakesArray c done
  t = takes_array c done h.executes.does

  pub first : Popped addresses c.frame.locals t.array t.rest (in_use here.words here.at.top) below
  first = frame_popped addresses c.frame.locals c.frame.stack t.array t.rest (in_use here.words here.at.top) below h.executes.frame t.stood

  pub some : 1 ≤ here.at.top
  some = some_used addresses t.array here.words here.at.top first.under h.executes.top_within first.on_top

  pub top_within : here.at.top ≤ length here.words
  top_within = h.executes.top_within

  abbrev array_word : ℕ
  array_word = get_or here.words (here.at.top - 1) 0

  on_top : IsOnTop addresses t.array (array_word ∷ in_use here.words (here.at.top - 1)) first.under
  on_top = subst (λ (u : List ℕ). IsOnTop addresses t.array u first.under) (in_use_top here.words here.at.top some h.executes.top_within) first.on_top

  pub raises : array_word ≡ 0 → Did texts here (effects.Raises 15) c addresses done below
  raises zero_is = by_reference t.array t.does on_top
    where
      by_reference :
          (v : Value) → length_of c v t.rest ≡ Ok done → IsOnTop addresses v (array_word ∷ in_use here.words (here.at.top - 1)) first.under
          → Did texts here (effects.Raises 15) c addresses done below
      by_reference Null does on =
          raised array_length texts next here c addresses done below h.executes null_pointer 15
          (done_same (c.memory, Raises null_pointer) done does)
          (subst (λ (w : World). HasNumber w null_pointer 15) (sym h.guests.world_is) (system_numbers h.guests.given h.guests.contents).null_pointer)
      by_reference (Reference id) does on =
          let r = reference_word addresses id array_word _ first.under on in
          absurd (not_zero addresses id array_word h.executes.memory.objects.are r.0 zero_is)
      by_reference (Int n) does on = absurd cc
      by_reference (Long n) does on = absurd cc
      by_reference Half does on = absurd cc
      by_reference Unset does on = absurd cc

  pub record Measured : Type 0 where
    pub components : FieldTypeOf (List ℕ)
    pub values : List Value
    pub stands : ArrayStands c.program.world addresses components values (words_at here.blocks array_word)
    pub is : done ≡ (c.memory, Goes c.next c.frame.locals (Int (pos (length values)) ∷ t.rest))
    pub rest_is : in_use here.words (here.at.top - 1) ≡ first.under

  pub measured : (array_word ≡ 0 → ⊥) → Measured
  measured other = by_reference t.array t.does on_top
    where
      by_reference :
          (v : Value) → length_of c v t.rest ≡ Ok done → IsOnTop addresses v (array_word ∷ in_use here.words (here.at.top - 1)) first.under → Measured
      by_reference Null does on = absurd (other (null_word addresses array_word _ first.under on).0)
      by_reference (Reference id) does on =
          let r = reference_word addresses id array_word _ first.under on in
          let array =
          bound_gave (object_at c.memory.objects id >>= array_in) (λ (a : Components). goes_on c (Int (pos (length a.1)) ∷ t.rest)) done does in
          record {
            components = array.0.0;
            values = array.0.1;
            stands = h.executes.memory.objects.each id array_word (ArrayWith array.0.0 array.0.1) r.0 (array_there c.memory.objects id array.0 array.1).there;
            is = done_same (c.memory, Goes c.next c.frame.locals (Int (pos (length array.0.1)) ∷ t.rest)) done array.2;
            rest_is = r.1;
          }
      by_reference (Int n) does on = absurd cc
      by_reference (Long n) does on = absurd cc
      by_reference Half does on = absurd cc
      by_reference Unset does on = absurd cc

  pub block_length : (m : Measured) → 1 < length (words_at here.blocks array_word)
  block_length m = let e = ap length m.stands.words_are in omega (arith, e)

  pub goes :
      (m : Measured) (at : Registers) → at.pc ≡ next → at.top ≡ here.at.top
      → Did texts (place at (set here.words (here.at.top - 1) (get_or (words_at here.blocks array_word) 1 0)) here.held here.blocks) effects.Goes c addresses done below
  goes m at pc_is top_is =
      let word_is : get_or (words_at here.blocks array_word) 1 0 ≡ length m.values = ap (λ (l : List ℕ). get_or l 1 0) m.stands.words_are in
      let number_is : pos (length m.values) ≡ cast_signed w32 (length m.values) = sym (to_z_pos w32 (length m.values) (let few = m.stands.few in omega (arith, few))) in
      let within : here.at.top - 1 < length here.words = let a = top_within in let b = some in omega (arith, a, b) in
      let up : here.at.top - 1 + 1 ≡ at.top = let b = some in omega (arith, b, top_is) in
      let used =
      subst (λ (n : ℕ). in_use (set here.words (here.at.top - 1) (length m.values)) n ≡ length m.values ∷ in_use here.words (here.at.top - 1)) up
      (in_use_pushed here.words (here.at.top - 1) (length m.values) within) in
      subst (λ (x : ℕ). Did texts (place at (set here.words (here.at.top - 1) x) here.held here.blocks) effects.Goes c addresses done below) (sym word_is)
      (went_on array_length texts next here c addresses done below h.executes at (set here.words (here.at.top - 1) (length m.values))
      (Int (pos (length m.values)) ∷ t.rest) m.is pc_is
      (frame_pushed addresses c.frame.locals (Int (pos (length m.values))) t.rest (in_use (set here.words (here.at.top - 1) (length m.values)) at.top) first.under below first.lower
      (length m.values, used ∙ ap (λ (l : List ℕ). length m.values ∷ l) m.rest_is, number_is)))
