-- Constants that are pushed.
use Rattle.std.proofs.Common.{◌≡◌, ℕ, ℤ, ◌<◌, List, Option, Some, None, Ok, Err, length, refl, sym, ap, subst, ◌∙◌, slice_get}
use Rattle.std.specs.Int.{w32, cast_signed}
use Rattle.std.specs.Option.{option_map}
use Rattle.std.specs.Borrow.{Bor}
use Rattle.jv_class.specs.Class.{InitialValue}
use Rattle.jv_class.specs.Class.InitialValue.{IntValue, LongValue, StringValue}
use Rattle.jv_pool.specs.Constants.{Entry, at_index, utf8_at, integer_in, integer_at, string_in, string_at}
use Rattle.jv_pool.specs.declared.constant.Constant.TheVariants as constants
use Rattle.jv_code.specs.declared.insn.Insn.TheVariants as insns
use Rattle.jv_code.specs.declared.kinds.IndexForm.{IndexForm}
use Rattle.jv_meaning_world.specs.World.{Loaded, World}
use Rattle.jv_meaning_machine.specs.Faults.{OrFault, found, ◌>>=◌}
use Rattle.jv_meaning_machine.specs.Faults.Fault.{OffsetFault}
use Rattle.jv_meaning_machine.specs.State.{Memory}
use Rattle.jv_meaning_machine.specs.Effects.{Effect as EffectOfNames, Context}
use Rattle.jv_meaning_machine.specs.Literals.{pushed_constant, pool_at, constant_value, push_value}
use Rattle.jv_meaning_machine.specs.Laws.Steps.{ExecutionKeeps}
use Rattle.jv_interp_words.specs.declared.registers.Registers.{Registers}
use Rattle.jv_interp_words.proofs.Gave.{bound_gave}
use Rattle.jv_interp_heap.specs.ObjectsInBlocks.{Blocks}
use Rattle.jv_interp_held.specs.Executing.{Place, place}
use Rattle.jv_interp_held.specs.declared.held.Held.{Held}
use Rattle.jv_interp_held.specs.declared.effect.Effect.{Effect}
use Rattle.jv_link.specs.declared.site.Site.{Site}
use Rattle.jv_link.specs.Seen.{place_of}
use Rattle.jv_interp_objects.specs.Constants.{constant_at, CanPushInt, PushesInt, CanPushString, PushesString}
use Rattle.jv_interp_objects.specs.declared.texts.Texts.{Texts}
use Rattle.jv_interp_objects.specs.Texts.{HasText, AreTexts}
use Rattle.jv_interp_objects.specs.Units.{HasUnits}
use Rattle.jv_interp_members.specs.Known.{Known}
use Rattle.jv_interp_members.proofs.Sites.{AtPlace, at_place}
use Rattle.jv_interp_instructions.specs.declared.pool_constants.PoolConstant.{PoolConstant}
use Rattle.jv_interp_instructions.specs.declared.pool_constants.PoolConstant.TheVariants as pushed
use Rattle.jv_interp_instructions.specs.InGuest.{ExecutesIn, CanExecute, Executed}
use Rattle.jv_interp_instructions.specs.PoolConstants.{IsPushed, IsConstantOf, IsOfSite}
use Rattle.jv_interp_instructions.proofs.Grown.{guests, did_same}

-- ---- by the entry at an index

found_text : (o : Option (List ℕ)) (text : List ℕ) → o ≡ Some text → (found OffsetFault o >>= λ bytes. Ok (StringValue bytes)) ≡ Ok (StringValue text)
found_text None text e = absurd cc
found_text (Some t) text e = cc

pub string_pushed :
    (pool : List Entry) (index : ℕ) (text : Bor (List ℕ)) → string_at pool index ≡ Some text.now
    → IsPushed pool index (pushed_constant pool (at_index pool index)) (Some (pushed.String text))
string_pushed pool index text e =
    subst (λ (o : OrFault InitialValue). IsPushed pool index o (Some (pushed.String text))) (sym (is (at_index pool index) e)) (refl, e)
  where
    is : (o : Option Entry) → string_in pool o ≡ Some text.now → pushed_constant pool o ≡ Ok (StringValue text.now)
    is None f = absurd cc
    is (Some (constants.String t)) f = found_text (utf8_at pool t) text.now f
    is (Some c) f = absurd cc

pub int_pushed :
    (pool : List Entry) (index : ℕ) (number : ℤ) (bits : ℕ) → option_map (cast_signed w32) (integer_at pool index) ≡ Some number
    → cast_signed w32 bits ≡ number → IsPushed pool index (pushed_constant pool (at_index pool index)) (Some (pushed.Int bits))
int_pushed pool index number bits e same =
    subst (λ (o : OrFault InitialValue). IsPushed pool index o (Some (pushed.Int bits))) (sym (is (at_index pool index) e)) (sym same)
  where
    is : (o : Option Entry) → option_map (cast_signed w32) (integer_in o) ≡ Some number → pushed_constant pool o ≡ Ok (IntValue number)
    is None f = absurd cc
    is (Some (constants.Integer b)) f = cc
    is (Some c) f = absurd cc

pub none_pushed :
    (pool : List Entry) (index : ℕ) → string_at pool index ≡ None → integer_at pool index ≡ None
    → IsPushed pool index (pushed_constant pool (at_index pool index)) None
none_pushed pool index e f = by_entry (at_index pool index) e f
  where
    none_found : (o : Option (List ℕ)) → o ≡ None → IsPushed pool index (found OffsetFault o >>= λ bytes. Ok (StringValue bytes)) None
    none_found None g = tt
    none_found (Some t) g = absurd cc

    by_entry : (o : Option Entry) → string_in pool o ≡ None → integer_in o ≡ None → IsPushed pool index (pushed_constant pool o) None
    by_entry None g h = tt
    by_entry (Some (constants.String t)) g h = none_found (utf8_at pool t) g
    by_entry (Some (constants.Integer b)) g h = absurd cc
    by_entry (Some c) g h = tt

-- ---- at the site of an instruction

module _ (index : ℕ) (form : IndexForm) (next : ℕ) (k : Known) (world : World) (site : Site) (texts : Texts) (here : Place) (c : Context)
    (addresses : List ℕ) (done : Memory × EffectOfNames) (below : List ℕ) (of_site : IsOfSite world site k)
    (h : ExecutesIn (insns.PoolConstant index form) next k texts.names here c addresses done below) where
  at_site : AtPlace k.world (place_of k.site) c.frame.method.site
  at_site = at_place k.world (place_of k.site) c.frame.method.site h.known.site

  pub class_is : slice_get world site.class ≡ Some c.frame.method.site.by
  class_is =
      subst (λ (w : World). slice_get w site.class ≡ Some c.frame.method.site.by) of_site.world_is
      (ap (λ (s : Site). slice_get k.world s.class) (sym of_site.site_is) ∙ at_site.class)

  pub constant : (answer : Option PoolConstant) → IsConstantOf world site.class index answer
      → IsPushed (pool_at c) index (constant_at c index) answer
  constant answer clause = clause c.frame.method.site.by class_is

  pub some_constant : (v : InitialValue) × (constant_at c index ≡ Ok v)
  some_constant =
      let p = bound_gave (constant_at c index) (λ (v : InitialValue). constant_value c.program v c.memory >>= push_value c) done h.executes.does in
      (p.0, p.1)

  int_of : (o : OrFault InitialValue) (bits : ℕ) → IsPushed (pool_at c) index o (Some (pushed.Int bits)) → o ≡ Ok (IntValue (cast_signed w32 bits))
  int_of (Ok (IntValue number)) bits p = ap (λ (z : ℤ). Ok (IntValue z)) p
  int_of (Ok (LongValue number)) bits p = absurd p
  int_of (Ok (StringValue text)) bits p = absurd p
  int_of (Err fault) bits p = absurd p

  pub int_at : (bits : ℕ) → IsConstantOf world site.class index (Some (pushed.Int bits)) → constant_at c index ≡ Ok (IntValue (cast_signed w32 bits))
  int_at bits clause = int_of (constant_at c index) bits (constant (Some (pushed.Int bits)) clause)

  string_of : (o : OrFault InitialValue) (bytes : Bor (List ℕ)) → IsPushed (pool_at c) index o (Some (pushed.String bytes))
      → (o ≡ Ok (StringValue bytes.now)) × (string_at (pool_at c) index ≡ Some bytes.now)
  string_of (Ok (IntValue number)) bytes p = absurd p
  string_of (Ok (LongValue number)) bytes p = absurd p
  string_of (Ok (StringValue text)) bytes p = (ap (λ (t : List ℕ). Ok (StringValue t)) p.0, p.1)
  string_of (Err fault) bytes p = absurd p

  pub text_at_site :
      (bytes : Bor (List ℕ)) → IsConstantOf world site.class index (Some (pushed.String bytes))
      → (constant_at c index ≡ Ok (StringValue bytes.now)) × (string_at (pool_at c) index ≡ Some bytes.now)
  text_at_site bytes clause = string_of (constant_at c index) bytes (constant (Some (pushed.String bytes)) clause)

  pub no_constant : IsConstantOf world site.class index None → ⊥
  no_constant clause = none_there (constant_at c index) some_constant.0 some_constant.1 (constant None clause)
    where
      none_there : (o : OrFault InitialValue) (v : InitialValue) → o ≡ Ok v → IsPushed (pool_at c) index o None → ⊥
      none_there (Ok (IntValue number)) v e p = p
      none_there (Ok (LongValue number)) v e p = p
      none_there (Ok (StringValue text)) v e p = p
      none_there (Err fault) v e p = cc

-- ---- what is pushed

module _ (kept : ExecutionKeeps) (index : ℕ) (form : IndexForm) (next : ℕ) (k : Known) (world : World) (site : Site) (texts : Texts) (at : Registers) (words : List ℕ) (held : Held) (blocks : Blocks)
    (of_site : IsOfSite world site k) where
  pub can_push_int :
      (bits : ℕ) → IsConstantOf world site.class index (Some (pushed.Int bits))
      → CanExecute (insns.PoolConstant index form) next k texts.names at words held blocks → CanPushInt bits next at words
  can_push_int bits clause h = record {
    held = held;
    blocks = blocks;
    texts = texts.names;
    c = h.c;
    index = index;
    addresses = h.addresses;
    done = h.done;
    below = h.below;
    pushes = record {
      executes = h.executes.executes;
      constant_is = int_at index form next k world site texts (place at words held blocks) h.c h.addresses h.done h.below of_site h.executes bits clause;
    };
    room = h.room;
  }

  pub int_done :
      (bits : ℕ) (after : Registers) (words_after : List ℕ) (effect : Effect) → IsConstantOf world site.class index (Some (pushed.Int bits))
      → PushesInt bits next at words after words_after effect
      → Executed (insns.PoolConstant index form) next k texts.names (place at words held blocks) (place after words_after held blocks) effect
  int_done bits after words_after effect clause pushes c addresses done below h =
      did_same kept (insns.PoolConstant index form) next k texts.names (place at words held blocks) c addresses done below h after words_after held effect refl
      (pushes held blocks texts.names c index addresses done below
      (record {
        executes = h.executes;
        constant_is = int_at index form next k world site texts (place at words held blocks) c addresses done below of_site h bits clause;
      }))

  -- a string's text is among those of the guest's classes
  module _ (are : AreTexts k.world texts) (bytes : Bor (List ℕ)) (clause : IsConstantOf world site.class index (Some (pushed.String bytes))) (number : ℕ)
      (numbered : (w : World) (l : Loaded) (text : List ℕ) → AreTexts w texts → slice_get w site.class ≡ Some l
      → string_at l.class.constant_pool index ≡ Some text → HasText texts.names text number) where
    number_is :
        (c : Context) (addresses : List ℕ) (done : Memory × EffectOfNames) (below : List ℕ)
        → ExecutesIn (insns.PoolConstant index form) next k texts.names (place at words held blocks) c addresses done below
        → HasText texts.names bytes.now number
    number_is c addresses done below h =
        numbered world c.frame.method.site.by bytes.now (subst (λ (w : World). AreTexts w texts) of_site.world_is are)
        (class_is index form next k world site texts (place at words held blocks) c addresses done below of_site h)
        (text_at_site index form next k world site texts (place at words held blocks) c addresses done below of_site h bytes clause).1

    pub short_text : CanExecute (insns.PoolConstant index form) next k texts.names at words held blocks → length bytes.now < 2147483648
    short_text h = are.short number bytes.now (number_is h.c h.addresses h.done h.below h.executes)

    pub text_counted :
        (count : ℕ) → ((w : World) (text : List ℕ) → AreTexts w texts → HasText texts.names text number → HasUnits text count)
        → CanExecute (insns.PoolConstant index form) next k texts.names at words held blocks → HasUnits bytes.now count
    text_counted count counts h = counts k.world bytes.now are (number_is h.c h.addresses h.done h.below h.executes)

    pub can_push_string :
        CanExecute (insns.PoolConstant index form) next k texts.names at words held blocks → CanPushString number bytes.now next at words held blocks
    can_push_string h = record {
      texts = texts.names;
      c = h.c;
      index = index;
      addresses = h.addresses;
      done = h.done;
      below = h.below;
      pushes = record {
        executes = h.executes.executes;
        constant_is = (text_at_site index form next k world site texts (place at words held blocks) h.c h.addresses h.done h.below of_site h.executes bytes clause).0;
        number_is = number_is h.c h.addresses h.done h.below h.executes;
        units = h.executes.units;
        guests = guests kept (insns.PoolConstant index form) next k texts.names (place at words held blocks) h.c h.addresses h.done h.below h.executes;
      };
      room = h.room;
    }

    pub string_done :
        (after : Registers) (words_after : List ℕ) (held_after : Held) (blocks_after : Blocks) (effect : Effect)
        → PushesString number bytes.now next at words held blocks after words_after held_after blocks_after effect
        → Executed (insns.PoolConstant index form) next k texts.names (place at words held blocks) (place after words_after held_after blocks_after) effect
    string_done after words_after held_after blocks_after effect pushes c addresses done below h =
        pushes texts.names c index addresses done below
        (record {
          executes = h.executes;
          constant_is = (text_at_site index form next k world site texts (place at words held blocks) c addresses done below of_site h bytes clause).0;
          number_is = number_is c addresses done below h;
          units = h.units;
          guests = guests kept (insns.PoolConstant index form) next k texts.names (place at words held blocks) c addresses done below h;
        })
