-- host/Io's methods with two arguments on words, and `className`: what the machine does stands afterwards.
use Rattle.std.proofs.Common.{◌≡◌, ℕ, pos, negsuc, ◌+◌, ◌-◌, ◌<◌, ◌≤◌, ℤ, Bool, true, false, nat_lt, List, [], ◌∷◌, Some, Ok, length, set, get_or, drop, refl, sym, ap, subst, ◌∙◌, arith, slice_get}
use Rattle.std.specs.Int.{w32, cast_signed}
use Rattle.std.proofs.lemmas.Int.{to_z_pos}
use Rattle.std.proofs.lemmas.Option.{slice_get_past, slice_get_within, slice_get-get_or}
use Rattle.jv_store.specs.Content.{words_at}
use Rattle.jv_meaning_world.specs.World.{Loaded, World}
use Rattle.jv_meaning_world.specs.Numbers.{HoldsAtNumber}
use Rattle.jv_meaning_world.proofs.Up.{found_is_named}
use Rattle.jv_meaning_machine.specs.Faults.Fault.{ReferenceFault}
use Rattle.jv_meaning_machine.specs.Values.{Value, is_reference_value}
use Rattle.jv_meaning_machine.specs.Values.Value.{Int, Long, Null, Reference, Half, Unset}
use Rattle.jv_meaning_machine.specs.Objects.{Object}
use Rattle.jv_meaning_machine.specs.Objects.Object.{InstanceOf, ArrayWith}
use Rattle.jv_meaning_machine.specs.State.{Memory}
use Rattle.jv_meaning_machine.specs.Operands.{object_at}
use Rattle.jv_meaning_machine.specs.Effects.{Effect, Context, Outcome, goes_on, null_pointer}
use Rattle.jv_meaning_machine.specs.Effects.Effect.{Goes, Raises}
use Rattle.jv_meaning_machine.specs.Calls.{byte_in, byte_or_none, class_name, name_of}
use Rattle.jv_interp_words.specs.declared.registers.Registers.{Registers}
use Rattle.jv_interp_words.specs.ValuesInWords.{AreAddresses}
use Rattle.jv_interp_words.specs.FramesInWords.{in_use, FrameStands}
use Rattle.jv_interp_words.proofs.Gave.{bound_gave, found_gave}
use Rattle.jv_interp_words.proofs.InUse.{in_use_top, in_use_pushed}
use Rattle.jv_interp_heap.specs.ObjectsInBlocks.{HasNumber, ObjectStands}
use Rattle.jv_interp_heap.proofs.Numbered.{system_numbers}
use Rattle.jv_interp_held.specs.declared.effect.Effect.TheVariants as effects
use Rattle.jv_interp_held.specs.Executing.{Place, place, Did}
use Rattle.jv_interp_held.specs.Host.{RunningOnTwo}
use Rattle.jv_interp_held.proofs.Popped.{frame_popped, frame_pushed, some_used}
use Rattle.jv_interp_held.proofs.Raised.{raised, went_on}
use Rattle.jv_interp_objects.proofs.Counted.{negative_count}
use Rattle.jv_interp_objects.proofs.Loaded.{done_same}
use Rattle.jv_interp_objects.proofs.TopReference.{RefersTo, reference_on_top}

-- ---- an int on top, and a reference below it

pub record TwoOnTop (addresses : List ℕ) (locals : List Value) (number : ℤ) (value : Value) (rest : List Value) (words : List ℕ) (top : ℕ) (below : List ℕ) : Type 0 where
  pub enough : 2 ≤ top
  pub number_is : number ≡ cast_signed w32 (get_or words (top - 1) 0)
  pub null : get_or words (top - 2) 0 ≡ 0 → value ≡ Null
  pub refers : (get_or words (top - 2) 0 ≡ 0 → ⊥) → RefersTo addresses value (get_or words (top - 2) 0)
  pub lower : FrameStands addresses locals rest (in_use words (top - 2)) below

pub two_on_top :
    (addresses : List ℕ) (locals stack : List Value) (number : ℤ) (value : Value) (rest : List Value) (words : List ℕ) (top : ℕ) (below : List ℕ)
    → AreAddresses addresses → FrameStands addresses locals stack (in_use words top) below → stack ≡ Int number ∷ value ∷ rest
    → is_reference_value value ≡ true → top ≤ length words → TwoOnTop addresses locals number value rest words top below
two_on_top addresses locals stack number value rest words top below are frame stood kind within =
    let first = frame_popped addresses locals stack (Int number) (value ∷ rest) (in_use words top) below frame stood in
    let some = some_used addresses (Int number) words top first.under within first.on_top in
    let both : first.on_top.0 ∷ first.under ≡ get_or words (top - 1) 0 ∷ in_use words (top - 1) =
    sym first.on_top.1 ∙ in_use_top words top some within in
    let lower : FrameStands addresses locals (value ∷ rest) (in_use words (top - 1)) below =
    subst (λ (l : List ℕ). FrameStands addresses locals (value ∷ rest) l below) (ap (λ (l : List ℕ). drop 1 l) both) first.lower in
    let second_within : top - 1 ≤ length words = omega (arith, within) in
    let second = reference_on_top addresses locals (value ∷ rest) value rest words (top - 1) below are lower refl kind second_within in
    let two : top - 1 - 1 ≡ top - 2 = omega arith in
    record {
      enough = let a = second.some in omega (arith, a);
      number_is = first.on_top.2 ∙ ap (λ (l : List ℕ). cast_signed w32 (get_or l 0 0)) both;
      null = subst (λ (n : ℕ). get_or words n 0 ≡ 0 → value ≡ Null) two second.null;
      refers = subst (λ (n : ℕ). (get_or words n 0 ≡ 0 → ⊥) → RefersTo addresses value (get_or words n 0)) two second.refers;
      lower = subst (λ (n : ℕ). FrameStands addresses locals rest (in_use words n) below) two second.lower;
    }

-- ---- a byte of a name

pub small_word : (word : ℕ) → word < 2147483648 → cast_signed w32 word ≡ pos word
small_word word h = to_z_pos w32 word (omega (arith, h))

pub byte_there : (name : List ℕ) (place : ℕ) → place < 2147483648 → place < length name → get_or name place 0 < 256
    → cast_signed w32 (get_or name place 0) ≡ byte_in name (cast_signed w32 place)
byte_there name place few less byte =
    small_word (get_or name place 0) (omega (arith, byte)) ∙ ap byte_or_none (sym (slice_get-get_or name place 0 less))
    ∙ ap (byte_in name) (sym (small_word place few))

pub none_behind : (name : List ℕ) (place : ℕ) → place < 2147483648 → length name ≤ place → negsuc 0 ≡ byte_in name (cast_signed w32 place)
none_behind name place few past =
    ap byte_or_none (sym (slice_get_past name place past)) ∙ ap (byte_in name) (sym (small_word place few))

pub none_below : (name : List ℕ) (place : ℕ) → 2147483648 ≤ place → place < 4294967296 → negsuc 0 ≡ byte_in name (cast_signed w32 place)
none_below name place high fits = ap (byte_in name) (sym (negative_count place (omega (arith, high)) fits))

none_of_none : (place : ℤ) → negsuc 0 ≡ byte_in [] place
none_of_none (pos n) = ap byte_or_none (sym (slice_get_past [] n (omega arith)))
none_of_none (negsuc n) = refl

is_less : (a b : ℕ) → nat_lt a b ≡ true → a < b
is_less a b e = grind (arith, e)

is_not_less : (a b : ℕ) → nat_lt a b ≡ false → b ≤ a
is_not_less a b e = grind (arith, e)

-- ---- className

module _ (next : ℕ) (here : Place) (texts : List (List ℕ)) (c : Context) (number : ℤ) (value : Value) (rest : List Value) (addresses : List ℕ) (done : Memory × Effect) (below : List ℕ)
    (h : RunningOnTwo class_name next here texts c number value rest addresses done below) where
  abbrev part : Context → Outcome
  part = λ c. class_name c number rest value

  abbrev object_word : ℕ
  object_word = get_or here.words (here.at.top - 2) 0

  abbrev place_word : ℕ
  place_word = get_or here.words (here.at.top - 1) 0

  kind : is_reference_value value ≡ true
  kind = by_value value h.executes.does
    where
      by_value : (v : Value) → class_name c number rest v ≡ Ok done → is_reference_value v ≡ true
      by_value Null e = refl
      by_value (Reference id) e = refl
      by_value (Int n) e = absurd cc
      by_value (Long n) e = absurd cc
      by_value Half e = absurd cc
      by_value Unset e = absurd cc

  pub two : TwoOnTop addresses c.frame.locals number value rest here.words here.at.top below
  two =
      two_on_top addresses c.frame.locals c.frame.stack number value rest here.words here.at.top below h.executes.memory.objects.are h.executes.frame h.stack kind
      h.executes.top_within

  pub within : here.at.top ≤ length here.words
  within = h.executes.top_within

  pub raises : object_word ≡ 0 → Did texts here (effects.Raises 15) c addresses done below
  raises zero_is =
      raised part texts next here c addresses done below h.executes null_pointer 15
      (done_same (c.memory, Raises null_pointer) done (subst (λ (v : Value). class_name c number rest v ≡ Ok done) (two.null zero_is) h.executes.does))
      (subst (λ (w : World). HasNumber w null_pointer 15) (sym h.guests.world_is) (system_numbers h.guests.given h.guests.contents).null_pointer)

  pub record Named : Type 0 where
    pub object : Object
    pub stands : ObjectStands c.program.world addresses object (words_at here.blocks object_word)
    pub is : done ≡ (c.memory, Goes c.next c.frame.locals (Int (byte_in (name_of object) number) ∷ rest))

  pub named : (object_word ≡ 0 → ⊥) → Named
  named other =
      let r = two.refers other in
      let does : class_name c number rest (Reference r.id) ≡ Ok done = subst (λ (v : Value). class_name c number rest v ≡ Ok done) r.is h.executes.does in
      let object =
      bound_gave (object_at c.memory.objects r.id) (λ (o : Object). goes_on c (Int (byte_in (name_of o) number) ∷ rest)) done does in
      let there = found_gave ReferenceFault (slice_get c.memory.objects r.id) object.0 object.1 in
      record {
        object = object.0;
        stands = h.executes.memory.objects.each r.id object_word object.0 r.at there;
        is = done_same (c.memory, Goes c.next c.frame.locals (Int (byte_in (name_of object.0) number) ∷ rest)) done object.2;
      }

  abbrev first_word : ℕ
  first_word = get_or (words_at here.blocks object_word) 0 0

  pub block_length : (m : Named) → 0 < length (words_at here.blocks object_word)
  block_length m = by_object m.object m.stands
    where
      by_object : (o : Object) → ObjectStands c.program.world addresses o (words_at here.blocks object_word) → 0 < length (words_at here.blocks object_word)
      by_object (InstanceOf i) s = let e = ap length s.words_are in omega (arith, e)
      by_object (ArrayWith components values) s = let e = ap length s.words_are in omega (arith, e)

  -- the first word of an instance is its class's number
  pub record HasClass (m : Named) : Type 0 where
    pub l : Loaded
    pub at : slice_get c.program.world first_word ≡ Some l
    pub name : name_of m.object ≡ l.class.name

  pub instance : (m : Named) → first_word < 2147483648 → HasClass m
  instance m few = by_object m.object refl m.stands
    where
      by_object : (o : Object) → m.object ≡ o → ObjectStands c.program.world addresses o (words_at here.blocks object_word) → HasClass m
      by_object (InstanceOf i) e s =
          let first : first_word ≡ s.number = ap (λ (l : List ℕ). get_or l 0 0) s.words_are in
          record {
            l = s.class.l;
            at = ap (slice_get c.program.world) first ∙ s.class.at;
            name = ap name_of e ∙ sym (found_is_named c.program.world i.class s.class.l s.class.named);
          }
      by_object (ArrayWith components values) e s =
          let first : first_word ≡ s.word = ap (λ (l : List ℕ). get_or l 0 0) s.words_are in
          let is = s.type.is in
          absurd (omega (arith, few, first, is))

  -- that of an array is greater than each number
  pub array : (m : Named) → 2147483648 ≤ first_word → name_of m.object ≡ []
  array m high = by_object m.object refl m.stands
    where
      by_object : (o : Object) → m.object ≡ o → ObjectStands c.program.world addresses o (words_at here.blocks object_word) → name_of m.object ≡ []
      by_object (InstanceOf i) e s =
          let first : first_word ≡ s.number = ap (λ (l : List ℕ). get_or l 0 0) s.words_are in
          let few = s.few in
          absurd (omega (arith, high, first, few))
      by_object (ArrayWith components values) e s = ap name_of e

  pub goes :
      (m : Named) (byte : ℕ) → cast_signed w32 byte ≡ byte_in (name_of m.object) number → (at : Registers) → at.pc ≡ next → at.top ≡ here.at.top - 1
      → Did texts (place at (set here.words (here.at.top - 2) byte) here.held here.blocks) effects.Goes c addresses done below
  goes m byte is at pc_is top_is =
      let less : here.at.top - 2 < length here.words = let a = within in let b = two.enough in omega (arith, a, b) in
      let up : here.at.top - 2 + 1 ≡ at.top = let b = two.enough in omega (arith, b, top_is) in
      let used =
      subst (λ (n : ℕ). in_use (set here.words (here.at.top - 2) byte) n ≡ byte ∷ in_use here.words (here.at.top - 2)) up
      (in_use_pushed here.words (here.at.top - 2) byte less) in
      went_on part texts next here c addresses done below h.executes at (set here.words (here.at.top - 2) byte)
      (Int (byte_in (name_of m.object) number) ∷ rest) m.is pc_is
      (frame_pushed addresses c.frame.locals (Int (byte_in (name_of m.object) number)) rest (in_use (set here.words (here.at.top - 2) byte) at.top)
      (in_use here.words (here.at.top - 2)) below two.lower (byte, used, sym is))

  pub goes_named :
      (m : Named) → (k : HasClass m) → (byte : ℕ) → cast_signed w32 byte ≡ byte_in k.l.class.name (cast_signed w32 place_word) → (at : Registers)
      → at.pc ≡ next → at.top ≡ here.at.top - 1
      → Did texts (place at (set here.words (here.at.top - 2) byte) here.held here.blocks) effects.Goes c addresses done below
  goes_named m k byte is at pc_is top_is =
      goes m byte (is ∙ ap (byte_in k.l.class.name) (sym two.number_is) ∙ ap (λ (name : List ℕ). byte_in name number) (sym k.name)) at pc_is top_is

  pub goes_nameless :
      (m : Named) → 2147483648 ≤ first_word → (at : Registers) → at.pc ≡ next → at.top ≡ here.at.top - 1
      → Did texts (place at (set here.words (here.at.top - 2) 4294967295) here.held here.blocks) effects.Goes c addresses done below
  goes_nameless m high at pc_is top_is =
      goes m 4294967295 (none_of_none number ∙ ap (λ (name : List ℕ). byte_in name number) (sym (array m high))) at pc_is top_is

  -- the byte is known by the first word
  pub goes_by :
      (m : Named) (byte : ℕ)
      → (first_word < 2147483648 → HoldsAtNumber c.program.world first_word (λ l. cast_signed w32 byte ≡ byte_in l.class.name (cast_signed w32 place_word)))
      → (2147483648 ≤ first_word → byte ≡ 4294967295) → (at : Registers) → at.pc ≡ next → at.top ≡ here.at.top - 1
      → Did texts (place at (set here.words (here.at.top - 2) byte) here.held here.blocks) effects.Goes c addresses done below
  goes_by m byte has_name nameless at pc_is top_is = by_test (nat_lt first_word 2147483648) refl
    where
      by_test : (b : Bool) → nat_lt first_word 2147483648 ≡ b
          → Did texts (place at (set here.words (here.at.top - 2) byte) here.held here.blocks) effects.Goes c addresses done below
      by_test true e =
          let less = is_less first_word 2147483648 e in
          let k = instance m less in
          goes_named m k byte (has_name less k.l k.at) at pc_is top_is
      by_test false e =
          let high = is_not_less first_word 2147483648 e in
          subst (λ (b : ℕ). Did texts (place at (set here.words (here.at.top - 2) b) here.held here.blocks) effects.Goes c addresses done below)
          (sym (nameless high)) (goes_nameless m high at pc_is top_is)

  -- an instance's first word is the number of a class
  pub first_within : (m : Named) → first_word < 2147483648 → first_word < length c.program.world
  first_within m less = let k = instance m less in slice_get_within c.program.world first_word k.l k.at
