-- host/Io's methods on words: what the machine does stands afterwards.
use Rattle.std.proofs.Common.{◌≡◌, ℕ, zero, suc, ℤ, pos, negsuc, ◌+◌, ◌-◌, ◌%◌, ◌<◌, ◌≤◌, Bool, true, false, List, [], ◌∷◌, ◌++◌, length, drop, set, Ok, refl, sym, ap, subst, ◌∙◌, get_or, arith, append-nil}
use Rattle.std.specs.Prelude.{◌==◌, vec_capacity, if◌then◌else◌}
use Rattle.std.specs.Int.{w32, cast_signed, cast_unsigned}
use Rattle.std.proofs.lemmas.Int.{of_z-to_z, to_z_pos}
use Rattle.std.proofs.lemmas.Bool.Decides.{Decides-eqb}
use Rattle.std.proofs.lemmas.List.Sums.{sum_by-cons}
use Rattle.jv_meaning_machine.specs.Values.{Value, value_words}
use Rattle.jv_meaning_machine.specs.Values.Value.{Int}
use Rattle.jv_meaning_machine.specs.State.{Memory}
use Rattle.jv_meaning_machine.specs.Effects.{Effect, Context, out_of_memory, lacks_memory, goes_on_with}
use Rattle.jv_meaning_machine.specs.Effects.Effect.{Goes, Throws}
use Rattle.jv_meaning_machine.specs.Calls.{with_byte_written, write, read}
use Rattle.jv_interp_words.specs.declared.registers.Registers.{Registers}
use Rattle.jv_interp_words.specs.ValuesInWords.{IsOnTop}
use Rattle.jv_interp_words.specs.FramesInWords.{in_use, FrameStands}
use Rattle.jv_interp_words.proofs.InUse.{in_use_top, in_use_pushed, length-in_use}
use Rattle.jv_interp_words.proofs.FramesStand.{frame_length}
use Rattle.jv_interp_held.specs.declared.held.Held.{Held}
use Rattle.jv_interp_held.specs.declared.effect.Effect.TheVariants as effects
use Rattle.jv_interp_held.specs.EffectsInWords.{EffectStands}
use Rattle.jv_interp_held.specs.Executing.{Place, place, HasRoom, Did}
use Rattle.jv_interp_held.specs.HeldInWords.{MemoryStands}
use Rattle.jv_interp_held.proofs.Popped.{Popped, frame_popped, frame_pushed, some_used}
use Rattle.jv_interp_held.specs.Host.{Writing, Reading}
use Rattle.jv_interp_held.proofs.Entered.{done_same}
use Rattle.jv_interp_held.proofs.Entered.{thrown}

-- ---- write

module _ (next : ℕ) (here : Place) (texts : List (List ℕ)) (c : Context) (number : ℤ) (rest : List Value) (addresses : List ℕ) (done : Memory × Effect) (below : List ℕ)
    (h : Writing next here texts c number rest addresses done below) where
  top : Popped addresses c.frame.locals (Int number) rest (in_use here.words here.at.top) below
  top = frame_popped addresses c.frame.locals c.frame.stack (Int number) rest (in_use here.words here.at.top) below h.executes.frame h.stack

  pub some : 1 ≤ here.at.top
  some = some_used addresses (Int number) here.words here.at.top top.under h.executes.top_within top.on_top

  pub top_within : here.at.top ≤ length here.words
  top_within = h.executes.top_within

  abbrev word : ℕ
  word = get_or here.words (here.at.top - 1) 0

  on_top : IsOnTop addresses (Int number) (word ∷ in_use here.words (here.at.top - 1)) top.under
  on_top = subst (λ (u : List ℕ). IsOnTop addresses (Int number) u top.under) (in_use_top here.words here.at.top some h.executes.top_within) top.on_top

  pub throws : here.held.output_left ≡ 0 → Did texts here (effects.Throws here.held.out_of_memory) c addresses done below
  throws zero_is =
      thrown (λ c. write c number rest) texts next here c addresses done below h.executes out_of_memory here.held.out_of_memory
      (done_same (c.memory, Throws out_of_memory) done
      (subst (λ (n : ℕ). (if n == 0 then lacks_memory c else goes_on_with c (with_byte_written number c.memory) rest) ≡ Ok done)
      (h.executes.memory.output_left ∙ zero_is) h.executes.does))
      h.executes.memory.error_stands

  is_false : (n : ℕ) → (n ≡ 0 → ⊥) → (n == 0) ≡ false
  is_false n other = by_test (n == 0) refl
    where
      by_test : (b : Bool) → (n == 0) ≡ b → b ≡ false
      by_test false e = refl
      by_test true e = absurd (other ((Decides-eqb n 0).0 e))

  pub writes :
      (at : Registers) (held : Held) (byte : ℕ) → (here.held.output_left ≡ 0 → ⊥) → at.pc ≡ next → at.top ≡ here.at.top - 1
      → held ≡ record here.held { output = held.output; output_left = here.held.output_left - 1 } → byte ≡ word % 256 → word < 4294967296
      → held.output.items ≡ here.held.output.items ++ byte ∷ []
      → length held.output.items + (here.held.output_left - 1) ≤ vec_capacity held.output
      → Did texts (place at here.words held here.blocks) effects.Goes c addresses done below
  writes at held byte other pc_is top_is held_is byte_is fits joins room =
      let left : (c.memory.output_left ≡ 0 → ⊥) = λ e. other (sym h.executes.memory.output_left ∙ e) in
      let is : done ≡ (with_byte_written number c.memory, Goes c.next c.frame.locals rest) =
      done_same (with_byte_written number c.memory, Goes c.next c.frame.locals rest) done
      (subst (λ (b : Bool). (if b then lacks_memory c else goes_on_with c (with_byte_written number c.memory) rest) ≡ Ok done)
      (is_false c.memory.output_left left) h.executes.does) in
      let same_word : word ≡ on_top.0 = ap (λ (l : List ℕ). get_or l 0 0) on_top.1 in
      let under_is : in_use here.words (here.at.top - 1) ≡ top.under = ap (λ (l : List ℕ). drop 1 l) on_top.1 in
      let unsigned : cast_unsigned w32 number ≡ word =
      ap (cast_unsigned w32) (on_top.2 ∙ ap (cast_signed w32) (sym same_word)) ∙ of_z-to_z w32 word fits in
      let m = h.executes.memory in
      subst (λ (x : Memory × Effect). Did texts (place at here.words held here.blocks) effects.Goes c addresses x below) (sym is)
      (record {
        more = [];
        effect_stands =
            subst (λ (l : List ℕ). EffectStands c.program.world l c.frame (Goes c.next c.frame.locals rest) effects.Goes at (in_use here.words at.top) below)
            (sym (append-nil addresses))
            (record {
              pc_is = pc_is ∙ h.executes.next_is;
              count = refl;
              stand =
                  subst (λ (u : List ℕ). FrameStands addresses c.frame.locals rest u below)
                  (sym (ap (λ (n : ℕ). in_use here.words n) top_is ∙ under_is)) top.lower;
            });
        memory =
            subst (λ (l : List ℕ). MemoryStands c.program.world texts (with_byte_written number c.memory) l held here.blocks) (sym (append-nil addresses))
            (subst (λ (k : Held). MemoryStands c.program.world texts (with_byte_written number c.memory) addresses k here.blocks) (sym held_is)
            (record {
              objects = m.objects;
              statics = m.statics;
              literals = m.literals;
              error_stands = m.error_stands;
              arguments_stand = m.arguments_stand;
              cells = m.cells;
              output_left = ap (λ (n : ℕ). n - 1) m.output_left;
              output =
                  ap (λ (l : List ℕ). l ++ cast_unsigned w32 number % 256 ∷ []) m.output
                  ∙ ap (λ (n : ℕ). here.held.output.items ++ n % 256 ∷ []) unsigned
                  ∙ ap (λ (n : ℕ). here.held.output.items ++ n ∷ []) (sym byte_is) ∙ sym joins;
              output_room = room;
              read_within = m.read_within;
              input = m.input;
            }));
      })

-- ---- read

next_dropped : (l : List ℕ) (n d : ℕ) → n < length l → drop n l ≡ get_or l n d ∷ drop (n + 1) l
next_dropped l n d h = from l n d h ∙ ap (λ (k : ℕ). get_or l n d ∷ drop k l) (one_more n)
  where
    one_more : (n : ℕ) → suc n ≡ n + 1
    one_more n = omega arith

    from : (l : List ℕ) (n d : ℕ) → n < length l → drop n l ≡ get_or l n d ∷ drop (suc n) l
    from [] n d h = absurd (omega (arith, h))
    from (x ∷ l) zero d h = refl
    from (x ∷ l) (suc n) d h = from l n d (omega (arith, h))

module _ (next : ℕ) (here : Place) (texts : List (List ℕ)) (c : Context) (addresses : List ℕ) (done : Memory × Effect) (below : List ℕ)
    (h : Reading next here texts c addresses done below) where
  -- what is pushed, and what then waits
  pub record Reads (word count : ℕ) : Type 0 where
    pub value : ℤ
    pub input : List ℕ
    pub value_is : value ≡ cast_signed w32 word
    pub within : count ≤ length here.held.input.items
    pub input_is : input ≡ drop count here.held.input.items
    pub is : done ≡ (record c.memory { input = input }, Goes c.next c.frame.locals (Int value ∷ c.frame.stack))

  abbrev waiting : List ℕ
  waiting = here.held.input.items

  input_at : (input : List ℕ) → c.memory.input ≡ input → read c c.frame.stack input ≡ Ok done
  input_at input e = subst (λ (i : List ℕ). read c c.frame.stack i ≡ Ok done) e h.executes.does

  pub reads_byte : here.held.read < length waiting → (byte : ℕ) → byte ≡ get_or waiting here.held.read byte → byte < 2147483648 → Reads byte (here.held.read + 1)
  reads_byte less byte byte_is few =
      let input : c.memory.input ≡ byte ∷ drop (here.held.read + 1) waiting =
      h.executes.memory.input ∙ next_dropped waiting here.held.read byte less ∙ ap (λ (b : ℕ). b ∷ drop (here.held.read + 1) waiting) (sym byte_is) in
      record {
        value = pos byte;
        input = drop (here.held.read + 1) waiting;
        value_is = sym (to_z_pos w32 byte few);
        within = omega (arith, less);
        input_is = refl;
        is =
            done_same (record c.memory { input = drop (here.held.read + 1) waiting }, Goes c.next c.frame.locals (Int (pos byte) ∷ c.frame.stack)) done
            (input_at (byte ∷ drop (here.held.read + 1) waiting) input);
      }

  pub reads_end : (here.held.read < length waiting → ⊥) → Reads 4294967295 here.held.read
  reads_end over =
      let m = h.executes.memory in
      let ended : drop here.held.read waiting ≡ [] = all_dropped waiting here.held.read over in
      let empty : c.memory.input ≡ [] = m.input ∙ ended in
      record {
        value = negsuc 0;
        input = c.memory.input;
        value_is = refl;
        within = m.read_within;
        input_is = m.input;
        is = done_same (c.memory, Goes c.next c.frame.locals (Int (negsuc 0) ∷ c.frame.stack)) done (input_at [] empty);
      }
    where
      all_dropped : (l : List ℕ) (n : ℕ) → (n < length l → ⊥) → drop n l ≡ []
      all_dropped [] n e = drop-nil n
        where
          drop-nil : (n : ℕ) → drop {A = ℕ} n [] ≡ []
          drop-nil zero = refl
          drop-nil (suc n) = refl
      all_dropped (x ∷ l) zero e = absurd (e (omega arith))
      all_dropped (x ∷ l) (suc n) e = all_dropped l n (λ less. e (omega (arith, less)))

  pub has_room : (word count : ℕ) → Reads word count → HasRoom c below (length here.words) done → here.at.top < length here.words
  has_room word count r room =
      let fits = subst (λ (x : Memory × Effect). HasRoom c below (length here.words) x) r.is room in
      let size = frame_length addresses c.frame.locals c.frame.stack (in_use here.words here.at.top) below h.executes.frame in
      let used = length-in_use here.words here.at.top h.executes.top_within in
      let sum = sum_by-cons value_words (Int r.value) c.frame.stack in
      let one : value_words (Int r.value) ≡ 1 = refl in
      omega (arith, fits, size, used, sum, one)

  pub reads :
      (word count : ℕ) (r : Reads word count) (at : Registers) (held : Held) → here.at.top < length here.words → at.pc ≡ next → at.top ≡ here.at.top + 1
      → held ≡ record here.held { read = count }
      → Did texts (place at (set here.words here.at.top word) held here.blocks) effects.Goes c addresses done below
  reads word count r at held room pc_is top_is held_is =
      let m = h.executes.memory in
      let after : Memory = record c.memory { input = r.input } in
      let words = set here.words here.at.top word in
      let used : in_use words at.top ≡ word ∷ in_use here.words here.at.top =
      subst (λ (n : ℕ). in_use words n ≡ word ∷ in_use here.words here.at.top) (sym top_is) (in_use_pushed here.words here.at.top word room) in
      subst (λ (x : Memory × Effect). Did texts (place at words held here.blocks) effects.Goes c addresses x below) (sym r.is)
      (record {
        more = [];
        effect_stands =
            subst (λ (l : List ℕ). EffectStands c.program.world l c.frame (Goes c.next c.frame.locals (Int r.value ∷ c.frame.stack)) effects.Goes at (in_use words at.top) below)
            (sym (append-nil addresses))
            (record {
              pc_is = pc_is ∙ h.executes.next_is;
              count = refl;
              stand =
                  frame_pushed addresses c.frame.locals (Int r.value) c.frame.stack (in_use words at.top) (in_use here.words here.at.top) below
                  h.executes.frame (word, used, r.value_is);
            });
        memory =
            subst (λ (l : List ℕ). MemoryStands c.program.world texts after l held here.blocks) (sym (append-nil addresses))
            (subst (λ (k : Held). MemoryStands c.program.world texts after addresses k here.blocks) (sym held_is)
            (record {
              objects = m.objects;
              statics = m.statics;
              literals = m.literals;
              error_stands = m.error_stands;
              arguments_stand = m.arguments_stand;
              cells = m.cells;
              output_left = m.output_left;
              output = m.output;
              output_room = m.output_room;
              read_within = r.within;
              input = r.input_is;
            }));
      })
