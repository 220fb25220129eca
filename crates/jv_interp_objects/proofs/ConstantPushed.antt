-- ldc and ldc2_w on words: what the machine does stands afterwards.
use Rattle.std.proofs.Common.{◌≡◌, ℕ, ℤ, ◌+◌, ◌*◌, ◌<◌, List, ◌∷◌, ◌++◌, Option, Some, None, Ok, length, set, refl, sym, ap, subst, ◌∙◌, arith}
use Rattle.std.specs.Int.{w32, w64, cast_signed}
use Rattle.std.specs.Option.{option_map}
use Rattle.jv_pool.specs.Constants.{long_at}
use Rattle.jv_class.specs.Class.{InitialValue}
use Rattle.jv_class.specs.Class.InitialValue.{StringValue}
use Rattle.jv_meaning_machine.specs.Faults.{OrFault, found, ◌>>=◌}
use Rattle.jv_meaning_machine.specs.Faults.Fault.{OffsetFault}
use Rattle.jv_meaning_machine.specs.Values.{Value}
use Rattle.jv_meaning_machine.specs.Values.Value.{Int, Long, Reference}
use Rattle.jv_meaning_machine.specs.State.{Memory}
use Rattle.jv_meaning_machine.specs.Effects.{Effect, Context, goes_on, out_of_memory}
use Rattle.jv_meaning_machine.specs.Effects.Effect.{Goes, Throws}
use Rattle.jv_meaning_machine.specs.Literals.{pool_at, literal, string_loaded, constant_value, push_value, push_constant, push_long_constant}
use Rattle.jv_interp_words.specs.declared.registers.Registers.{Registers}
use Rattle.jv_interp_words.specs.FramesInWords.{in_use}
use Rattle.jv_interp_words.proofs.Gave.{bound_gave}
use Rattle.jv_interp_words.proofs.Grown.{frame_grown}
use Rattle.jv_interp_words.proofs.InUse.{in_use_pushed, in_use_two}
use Rattle.jv_interp_heap.specs.ObjectsInBlocks.{Blocks}
use Rattle.jv_interp_held.specs.declared.held.Held.{Held}
use Rattle.jv_interp_held.specs.declared.effect.Effect.TheVariants as effects
use Rattle.jv_interp_held.specs.Executing.{Place, place, HasRoom, Did}
use Rattle.jv_interp_held.specs.Growing.{DidIn}
use Rattle.jv_interp_held.proofs.Popped.{frame_pushed}
use Rattle.jv_interp_held.proofs.Raised.{went_on}
use Rattle.jv_interp_objects.specs.Literals.{FindingLiteral, LiteralGiven}
use Rattle.jv_interp_objects.specs.Constants.{PushingInt, PushingLong, PushingString}
use Rattle.jv_interp_objects.proofs.Went.{done_same, room_for, lacks_in, goes_in}
use Rattle.jv_interp_objects.proofs.Lacking.{nothing_unmoved}

-- ---- an int

module _ (bits next : ℕ) (here : Place) (texts : List (List ℕ)) (c : Context) (index : ℕ) (addresses : List ℕ) (done : Memory × Effect) (below : List ℕ)
    (h : PushingInt bits next here texts c index addresses done below) where
  int_is : done ≡ (c.memory, Goes c.next c.frame.locals (Int (cast_signed w32 bits) ∷ c.frame.stack))
  int_is =
      done_same (c.memory, Goes c.next c.frame.locals (Int (cast_signed w32 bits) ∷ c.frame.stack)) done
      (sym (ap (λ (o : OrFault InitialValue). o >>= λ constant. constant_value c.program constant c.memory >>= push_value c) h.constant_is) ∙ h.executes.does)

  pub int_room : HasRoom c below (length here.words) done → here.at.top < length here.words
  int_room room =
      let fits =
      room_for (λ c. push_constant c index) texts next here c addresses done below h.executes (Int (cast_signed w32 bits)) c.memory int_is room in
      omega (arith, fits)

  pub int_pushed :
      (at : Registers) → at.pc ≡ next → at.top ≡ here.at.top + 1 → here.at.top < length here.words
      → Did texts (place at (set here.words here.at.top bits) here.held here.blocks) effects.Goes c addresses done below
  int_pushed at pc_is top_is room =
      let used =
      subst (λ (n : ℕ). in_use (set here.words here.at.top bits) n ≡ bits ∷ in_use here.words here.at.top) (sym top_is)
      (in_use_pushed here.words here.at.top bits room) in
      went_on (λ c. push_constant c index) texts next here c addresses done below h.executes at (set here.words here.at.top bits)
      (Int (cast_signed w32 bits) ∷ c.frame.stack) int_is pc_is
      (frame_pushed addresses c.frame.locals (Int (cast_signed w32 bits)) c.frame.stack (in_use (set here.words here.at.top bits) at.top)
      (in_use here.words here.at.top) below h.executes.frame (bits, used, refl))

-- ---- a long

module _ (low high next : ℕ) (here : Place) (texts : List (List ℕ)) (c : Context) (index : ℕ) (addresses : List ℕ) (done : Memory × Effect) (below : List ℕ)
    (h : PushingLong low high next here texts c index addresses done below) where
  abbrev long_value : Value
  long_value = Long (cast_signed w64 (high * 4294967296 + low))

  long_is : done ≡ (c.memory, Goes c.next c.frame.locals (Long (cast_signed w64 (high * 4294967296 + low)) ∷ c.frame.stack))
  long_is =
      done_same (c.memory, Goes c.next c.frame.locals (long_value ∷ c.frame.stack)) done
      (sym (goes_with (long_at (pool_at c) index) h.constant_is) ∙ h.executes.does)
    where
      some_same : (a b : ℤ) → Some a ≡ Some b → a ≡ b
      some_same a b e = cc

      goes_with :
          (o : Option ℕ) → option_map (cast_signed w64) o ≡ Some (cast_signed w64 (high * 4294967296 + low))
          → (found OffsetFault o >>= λ bits. goes_on c (Long (cast_signed w64 bits) ∷ c.frame.stack)) ≡ Ok (c.memory, Goes c.next c.frame.locals (long_value ∷ c.frame.stack))
      goes_with None e = absurd cc
      goes_with (Some bits) e = ap (λ (z : ℤ). Ok (c.memory, Goes c.next c.frame.locals (Long z ∷ c.frame.stack))) (some_same (cast_signed w64 bits) (cast_signed w64 (high * 4294967296 + low)) e)

  pub long_room : HasRoom c below (length here.words) done → here.at.top + 1 < length here.words
  long_room room =
      let fits = room_for (λ c. push_long_constant c index) texts next here c addresses done below h.executes long_value c.memory long_is room in
      omega (arith, fits)

  pub long_pushed :
      (at : Registers) → at.pc ≡ next → at.top ≡ here.at.top + 2 → here.at.top + 1 < length here.words
      → Did texts (place at (set (set here.words here.at.top low) (here.at.top + 1) high) here.held here.blocks) effects.Goes c addresses done below
  long_pushed at pc_is top_is room =
      let words = set (set here.words here.at.top low) (here.at.top + 1) high in
      let used =
      subst (λ (n : ℕ). in_use (set (set here.words here.at.top low) (here.at.top + 1) high) n ≡ high ∷ low ∷ in_use here.words here.at.top) (sym top_is)
      (in_use_two here.words here.at.top low high room) in
      went_on (λ c. push_long_constant c index) texts next here c addresses done below h.executes at words
      (long_value ∷ c.frame.stack) long_is pc_is
      (frame_pushed addresses c.frame.locals long_value c.frame.stack (in_use words at.top)
      (in_use here.words here.at.top) below h.executes.frame (low, high, used, refl))

-- ---- a String

same_loaded : (a b : Option (Memory × Value)) → ◌≡◌ {A = OrFault (Option (Memory × Value))} (Ok a) (Ok b) → b ≡ a
same_loaded a b e = cc

module _ (number : ℕ) (text : List ℕ) (next : ℕ) (here : Place) (texts : List (List ℕ)) (c : Context) (index : ℕ) (addresses : List ℕ) (done : Memory × Effect) (below : List ℕ)
    (h : PushingString number text next here texts c index addresses done below) where
  pub record Loads : Type 0 where
    pub made : Option (Memory × ℕ)
    pub finds : FindingLiteral number text here.held here.blocks texts c.program c.memory addresses made
    pub does : push_value c (string_loaded made) ≡ Ok done

  pub loads : Loads
  loads =
      let does : (constant_value c.program (StringValue text) c.memory >>= push_value c) ≡ Ok done =
      sym (ap (λ (o : OrFault InitialValue). o >>= λ constant. constant_value c.program constant c.memory >>= push_value c) h.constant_is) ∙ h.executes.does in
      let value = bound_gave (constant_value c.program (StringValue text) c.memory) (push_value c) done does in
      let made = bound_gave (literal c.program text c.memory) (λ (m : Option (Memory × ℕ)). Ok (string_loaded m)) value.0 value.1 in
      record {
        made = made.0;
        finds = record {
          does = made.1;
          stands = h.executes.memory;
          number_is = h.number_is;
          units = h.units;
          guests = h.guests;
        };
        does = ap (push_value c) (sym (same_loaded (string_loaded made.0) value.0 made.2)) ∙ value.2;
      }

  pub record Given (held : Held) (after : Blocks) (address : ℕ) : Type 0 where
    pub memory : Memory
    pub object : ℕ
    pub is : loads.made ≡ Some (memory, object)
    pub given : LiteralGiven c.program.world texts addresses here.held here.blocks (Some (memory, object)) held after (Some address)

  pub given_some : (held : Held) (after : Blocks) (address : ℕ) → LiteralGiven c.program.world texts addresses here.held here.blocks loads.made held after (Some address) → Given held after address
  given_some held after address g = by_made loads.made refl g
    where
      by_made : (o : Option (Memory × ℕ)) → loads.made ≡ o → LiteralGiven c.program.world texts addresses here.held here.blocks o held after (Some address) → Given held after address
      by_made None e g = absurd g
      by_made (Some m) e g = record { memory = m.0; object = m.1; is = e; given = g }

  string_is : (held : Held) (after : Blocks) (address : ℕ) (g : Given held after address) → done ≡ (g.memory, Goes c.next c.frame.locals (Reference g.object ∷ c.frame.stack))
  string_is held after address g =
      done_same (g.memory, Goes c.next c.frame.locals (Reference g.object ∷ c.frame.stack)) done
      (sym (ap (λ (o : Option (Memory × ℕ)). push_value c (string_loaded o)) g.is) ∙ loads.does)

  pub string_room : (held : Held) (after : Blocks) (address : ℕ) → LiteralGiven c.program.world texts addresses here.held here.blocks loads.made held
      after (Some address) → HasRoom c below (length here.words) done → here.at.top < length here.words
  string_room held after address l room =
      let g = given_some held after address l in
      let fits =
      room_for (λ c. push_constant c index) texts next here c addresses done below h.executes (Reference g.object) g.memory (string_is held after address g) room in
      omega (arith, fits)

  pub string_pushed :
      (held : Held) (after : Blocks) (address : ℕ) (at : Registers)
      → LiteralGiven c.program.world texts addresses here.held here.blocks loads.made held after (Some address) → at.pc ≡ next
      → at.top ≡ here.at.top + 1 → here.at.top < length here.words
      → DidIn here.blocks texts (place at (set here.words here.at.top address) held after) effects.Goes c addresses done below
  string_pushed held after address at l pc_is top_is room =
      let g = given_some held after address l in
      let more = g.given.more in
      let used =
      subst (λ (n : ℕ). in_use (set here.words here.at.top address) n ≡ address ∷ in_use here.words here.at.top) (sym top_is)
      (in_use_pushed here.words here.at.top address room) in
      let lower = frame_grown addresses more c.frame.locals c.frame.stack (in_use here.words here.at.top) below h.executes.frame in
      goes_in (λ c. push_constant c index) texts next here c addresses done below h.executes at (set here.words here.at.top address) held after more g.memory
      (Reference g.object ∷ c.frame.stack) (string_is held after address g) pc_is
      (frame_pushed (addresses ++ more) c.frame.locals (Reference g.object) c.frame.stack (in_use (set here.words here.at.top address) at.top)
      (in_use here.words here.at.top) below lower (address, used, g.given.stands))
      g.given.memory g.given.grows

  -- its cells are not left
  pub string_lacks :
      (held : Held) (after : Blocks) → LiteralGiven c.program.world texts addresses here.held here.blocks loads.made held after None
      → DidIn here.blocks texts (place here.at here.words held after) (effects.Throws held.out_of_memory) c addresses done below
  string_lacks held after g = by_made loads.made refl g
    where
      by_made :
          (o : Option (Memory × ℕ)) → loads.made ≡ o → LiteralGiven c.program.world texts addresses here.held here.blocks o held after None
          → DidIn here.blocks texts (place here.at here.words held after) (effects.Throws held.out_of_memory) c addresses done below
      by_made (Some m) e g = absurd g
      by_made None e g =
          subst (λ (x : Held). DidIn here.blocks texts (place here.at here.words x after) (effects.Throws x.out_of_memory) c addresses done below) (sym g.same_held)
          (lacks_in (λ c. push_constant c index) texts next here c addresses done below h.executes here.held.cells after
          (done_same (c.memory, Throws out_of_memory) done
          (sym (ap (λ (o : Option (Memory × ℕ)). push_value c (string_loaded o)) e) ∙ loads.does))
          refl g.same)

  pub string_unmoved :
      (held : Held) (after : Blocks) → LiteralGiven c.program.world texts addresses here.held here.blocks loads.made held after None
      → place here.at here.words held after ≡ here
  string_unmoved held after g = by_made loads.made g
    where
      by_made :
          (o : Option (Memory × ℕ)) → LiteralGiven c.program.world texts addresses here.held here.blocks o held after None
          → place here.at here.words held after ≡ here
      by_made (Some m) g = absurd g
      by_made None g = nothing_unmoved here.at here.words here.held held here.blocks after g
