-- Stores of numbers into arrays, where the array and the index are known by their words.
use Rattle.std.proofs.Common.{◌≡◌, ℕ, ◌+◌, ◌-◌, ◌*◌, ◌<◌, ◌≤◌, List, [], ◌∷◌, length, get_or, sym, ap, subst, ◌∙◌, arith}
use Rattle.jv_store.specs.Content.{words_at, written}
use Rattle.jv_code.specs.declared.kinds.NumberElement.{NumberElement}
use Rattle.jv_meaning_machine.specs.State.{Memory}
use Rattle.jv_meaning_machine.specs.Values.{Value, narrowed}
use Rattle.jv_meaning_machine.specs.Effects.{Effect, Context}
use Rattle.jv_interp_words.specs.declared.registers.Registers.{Registers}
use Rattle.jv_interp_heap.specs.declared.narrowing.Narrowing.{Narrowing}
use Rattle.jv_interp_heap.specs.ObjectsInBlocks.{Blocks, IsIn}
use Rattle.jv_interp_heap.specs.Narrowing.{Narrows}
use Rattle.jv_interp_held.specs.declared.effect.Effect.TheVariants as effects
use Rattle.jv_interp_held.specs.Executing.{Place, place}
use Rattle.jv_interp_held.specs.Growing.{DidIn}
use Rattle.jv_interp_objects.specs.Stores.{Storing, NarrowsBy}
use Rattle.jv_interp_objects.proofs.StoredIn.{t, Above, enough, raises, Inside, inside, block_length, length_word, raises_index, component, value_stored, stored_word, stored_long, long_stays, value_width}

pub below_one : (top : ℕ) → (top - 1 - 2 ≡ top - 3) × (top - 1 - 1 ≡ top - 2)
below_one top = (omega arith, omega arith)

pub below_two : (top : ℕ) → (top - 2 - 2 ≡ top - 4) × (top - 2 - 1 ≡ top - 3)
below_two top = (omega arith, omega arith)

module _ (slots next : ℕ) (here : Place) (texts : List (List ℕ)) (c : Context) (kind : NumberElement) (addresses : List ℕ) (done : Memory × Effect) (below : List ℕ)
    (h : Storing slots next here texts c kind addresses done below) (top_words : List ℕ)
    (u : Above slots next here texts c kind addresses done below h top_words) (array index : ℕ)
    (array_is : get_or here.words (here.at.top - slots - 2) 0 ≡ array) (index_is : get_or here.words (here.at.top - slots - 1) 0 ≡ index) where
  abbrev pub Array : Type 0
  Array = Inside slots next here texts c kind addresses done below h top_words u

  pub all_there : slots + 2 ≤ here.at.top
  all_there = enough slots next here texts c kind addresses done below h top_words u

  pub null_raises : array ≡ 0 → DidIn here.blocks texts here (effects.Raises 15) c addresses done below
  null_raises zero_is = raises slots next here texts c kind addresses done below h top_words u (array_is ∙ zero_is)

  pub in_array : (array ≡ 0 → ⊥) → Inside slots next here texts c kind addresses done below h top_words u
  in_array other = inside slots next here texts c kind addresses done below h top_words u (λ e. other (sym array_is ∙ e))

  module _ (i : Inside slots next here texts c kind addresses done below h top_words u) where
    pub count_word : get_or (words_at here.blocks array) 1 0 ≡ length i.of.values
    count_word =
        subst (λ (n : ℕ). get_or (words_at here.blocks n) 1 0 ≡ length i.of.values) array_is
        (length_word slots next here texts c kind addresses done below h top_words u i)

    pub block_size : length (words_at here.blocks array) ≡ 2 + length i.of.values * slots
    block_size =
        subst (λ (n : ℕ). length (words_at here.blocks n) ≡ 2 + length i.of.values * slots) array_is
        (block_length slots next here texts c kind addresses done below h top_words u i)

    pub few_values : length i.of.values < 2147483648
    few_values = i.stands.few

    pub outside_raises : length i.of.values ≤ index → DidIn here.blocks texts here (effects.Raises 17) c addresses done below
    outside_raises outside =
        raises_index slots next here texts c kind addresses done below h top_words u i (omega (arith, outside, index_is))

    pub word_stored :
        (how : Narrowing) (stored : ℕ) (at : Registers) (after : Blocks) → slots ≡ 1 → index < length i.of.values
        → top_words ≡ get_or here.words (here.at.top - 1) 0 ∷ [] → Narrows how (get_or here.words (here.at.top - 1) 0) stored
        → NarrowsBy how kind c.program.world (get_or (words_at here.blocks (get_or here.words (here.at.top - slots - 2) 0)) 0 0) → at.pc ≡ next
        → at.top ≡ here.at.top - slots - 2 → after ≡ written here.blocks array (index + 2) stored
        → DidIn here.blocks texts (place at here.words here.held after) effects.Goes c addresses done below
    word_stored how stored at after one within top_is narrows by pc_is at_top e =
        let k = component slots next here texts c kind addresses done below h top_words u i (omega (arith, within, index_is)) in
        let value_in = value_stored slots next here texts c kind addresses done below h top_words u i how stored one narrows by top_is in
        stored_word slots next here texts c kind addresses done below h top_words u i k stored at after one value_in pc_is at_top
        (e ∙ ap (λ (n : ℕ). written here.blocks n (index + 2) stored) (sym array_is)
        ∙ ap (λ (n : ℕ). written here.blocks (get_or here.words (here.at.top - slots - 2) 0) (n + 2) stored) (sym index_is))

    pub long_stored :
        (low high : ℕ) (at : Registers) (after : Blocks) → slots ≡ 2 → index < length i.of.values → top_words ≡ low ∷ high ∷ [] → at.pc ≡ next
        → at.top ≡ here.at.top - slots - 2 → after ≡ written (written here.blocks array (index * 2 + 2) low) array (index * 2 + 3) high
        → DidIn here.blocks texts (place at here.words here.held after) effects.Goes c addresses done below
    long_stored low high at after two within top_is pc_is at_top e =
        let k = component slots next here texts c kind addresses done below h top_words u i (omega (arith, within, index_is)) in
        let value = t slots next here texts c kind addresses done below h in
        let same = long_stays i.of.components value.value (value_width slots next here texts c kind addresses done below h ∙ two) in
        let value_in : IsIn addresses (narrowed i.of.components value.value) (low ∷ high ∷ []) =
        subst (λ (l : List ℕ). IsIn addresses (narrowed i.of.components value.value) l) top_is
        (subst (λ (v : Value). IsIn addresses v top_words) (sym same) u.value_in) in
        stored_long slots next here texts c kind addresses done below h top_words u i k low high at after two value_in pc_is at_top
        (e ∙ ap (λ (n : ℕ). written (written here.blocks n (index * 2 + 2) low) n (index * 2 + 3) high) (sym array_is)
        ∙ ap (λ (n : ℕ). written (written here.blocks (get_or here.words (here.at.top - slots - 2) 0) (n * 2 + 2) low) (get_or here.words (here.at.top - slots - 2) 0) (n * 2 + 3) high) (sym index_is))
