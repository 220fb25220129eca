-- Constants that are pushed in words (JVMS 6.5, ldc, ldc_w and ldc2_w), once it is known what the constant is.
use Rattle.std.specs.Prelude.{◌≡◌, ℕ, List, Some, Ok, length, slice_get}
use Rattle.std.specs.Int.{w32, w64, cast_signed}
use Rattle.std.specs.Option.{option_map}
use Rattle.jv_pool.specs.Constants.{at_index, long_at}
use Rattle.jv_class.specs.Class.{InitialValue}
use Rattle.jv_class.specs.Class.InitialValue.{IntValue, StringValue}
use Rattle.jv_meaning_machine.specs.Alone.{AreUnits}
use Rattle.jv_meaning_machine.specs.State.{Memory}
use Rattle.jv_meaning_machine.specs.Effects.{Effect as EffectOfNames, Context}
use Rattle.jv_meaning_machine.specs.Faults.{OrFault}
use Rattle.jv_meaning_machine.specs.Literals.{pool_at, pushed_constant, push_constant, push_long_constant}
use Rattle.jv_interp_words.specs.declared.registers.Registers.{Registers}
use Rattle.jv_interp_words.specs.ValuesInWords.{long_of}
use Rattle.jv_interp_heap.specs.ObjectsInBlocks.{Blocks}
use Rattle.jv_interp_held.specs.declared.held.Held.{Held}
use Rattle.jv_interp_held.specs.declared.effect.Effect.{Effect}
use Rattle.jv_interp_held.specs.Executing.{Place, place, Executes, HasRoom, Did}
use Rattle.jv_interp_held.specs.Growing.{DidIn}
use Rattle.jv_interp_heap.specs.SystemNumbers.{IsGuestsWorld}

-- what the constant is, to which an index leads
abbrev pub constant_at : Context → ℕ → OrFault InitialValue
constant_at c index = pushed_constant (pool_at c) (at_index (pool_at c) index)

-- ---- an int

pub record PushingInt (bits next : ℕ) (here : Place) (texts : List (List ℕ)) (c : Context) (index : ℕ) (addresses : List ℕ)
    (done : Memory × EffectOfNames) (below : List ℕ) : Type 0 where
  pub executes : Executes (λ c. push_constant c index) texts next here c addresses done below
  pub constant_is : constant_at c index ≡ Ok (IntValue (cast_signed w32 bits))

pub record CanPushInt (bits next : ℕ) (at : Registers) (words : List ℕ) : Type 0 where
  pub held : Held
  pub blocks : Blocks
  pub texts : List (List ℕ)
  pub c : Context
  pub index : ℕ
  pub addresses : List ℕ
  pub done : Memory × EffectOfNames
  pub below : List ℕ
  pub pushes : PushingInt bits next (place at words held blocks) texts c index addresses done below
  pub room : HasRoom c below (length words) done

abbrev pub PushesInt : ℕ → ℕ → Registers → List ℕ → Registers → List ℕ → Effect → Type 0
PushesInt bits next at words at_after words_after effect =
    (held : Held) (blocks : Blocks) (texts : List (List ℕ)) (c : Context) (index : ℕ) (addresses : List ℕ) (done : Memory × EffectOfNames)
    (below : List ℕ)
    → PushingInt bits next (place at words held blocks) texts c index addresses done below
    → Did texts (place at_after words_after held blocks) effect c addresses done below

-- ---- a long, by its halves

pub record PushingLong (low high next : ℕ) (here : Place) (texts : List (List ℕ)) (c : Context) (index : ℕ) (addresses : List ℕ)
    (done : Memory × EffectOfNames) (below : List ℕ) : Type 0 where
  pub executes : Executes (λ c. push_long_constant c index) texts next here c addresses done below
  pub constant_is : option_map (cast_signed w64) (long_at (pool_at c) index) ≡ Some (long_of low high)

pub record CanPushLong (low high next : ℕ) (at : Registers) (words : List ℕ) : Type 0 where
  pub held : Held
  pub blocks : Blocks
  pub texts : List (List ℕ)
  pub c : Context
  pub index : ℕ
  pub addresses : List ℕ
  pub done : Memory × EffectOfNames
  pub below : List ℕ
  pub pushes : PushingLong low high next (place at words held blocks) texts c index addresses done below
  pub room : HasRoom c below (length words) done

abbrev pub PushesLong : ℕ → ℕ → ℕ → Registers → List ℕ → Registers → List ℕ → Effect → Type 0
PushesLong low high next at words at_after words_after effect =
    (held : Held) (blocks : Blocks) (texts : List (List ℕ)) (c : Context) (index : ℕ) (addresses : List ℕ) (done : Memory × EffectOfNames)
    (below : List ℕ)
    → PushingLong low high next (place at words held blocks) texts c index addresses done below
    → Did texts (place at_after words_after held blocks) effect c addresses done below

-- ---- the String of the text with a number

pub record PushingString (number : ℕ) (text : List ℕ) (next : ℕ) (here : Place) (texts : List (List ℕ)) (c : Context) (index : ℕ)
    (addresses : List ℕ) (done : Memory × EffectOfNames) (below : List ℕ) : Type 0 where
  pub executes : Executes (λ c. push_constant c index) texts next here c addresses done below
  pub constant_is : constant_at c index ≡ Ok (StringValue text)
  pub number_is : slice_get texts number ≡ Some text
  pub units : AreUnits c.program.units
  pub guests : IsGuestsWorld c.program.world

pub record CanPushString (number : ℕ) (text : List ℕ) (next : ℕ) (at : Registers) (words : List ℕ) (held : Held) (blocks : Blocks)
    : Type 0 where
  pub texts : List (List ℕ)
  pub c : Context
  pub index : ℕ
  pub addresses : List ℕ
  pub done : Memory × EffectOfNames
  pub below : List ℕ
  pub pushes : PushingString number text next (place at words held blocks) texts c index addresses done below
  pub room : HasRoom c below (length words) done

abbrev pub PushesString : ℕ → List ℕ → ℕ → Registers → List ℕ → Held → Blocks → Registers → List ℕ → Held → Blocks → Effect → Type 0
PushesString number text next at words held blocks at_after words_after held_after blocks_after effect =
    (texts : List (List ℕ)) (c : Context) (index : ℕ) (addresses : List ℕ) (done : Memory × EffectOfNames) (below : List ℕ)
    → PushingString number text next (place at words held blocks) texts c index addresses done below
    → DidIn blocks texts (place at_after words_after held_after blocks_after) effect c addresses done below
