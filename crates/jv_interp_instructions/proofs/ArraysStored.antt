-- Stores of numbers into arrays, as instructions.
use Rattle.std.proofs.Common.{◌≡◌, ℕ, true, zero, List, refl, sym, subst}
use Rattle.jv_text.specs.declared.descriptor.Base.TheVariants as bases
use Rattle.jv_text.specs.declared.descriptor.Element.{Element}
use Rattle.jv_text.specs.declared.descriptor.Element.TheVariants as elements
use Rattle.jv_stackmap.specs.Types.{width}
use Rattle.jv_code.specs.declared.insn.Insn.TheVariants as insns
use Rattle.jv_code.specs.declared.kinds.NumberElement.{NumberElement}
use Rattle.jv_code.specs.declared.kinds.NumberElement.TheVariants as numbers
use Rattle.jv_meaning_world.specs.World.{World}
use Rattle.jv_meaning_typing.specs.NumberRules.{element_number}
use Rattle.jv_meaning_machine.specs.State.{Memory}
use Rattle.jv_meaning_machine.specs.Effects.{Effect as EffectOfNames, Context}
use Rattle.jv_meaning_machine.specs.Arrays.{holds_by}
use Rattle.jv_interp_words.specs.declared.registers.Registers.{Registers}
use Rattle.jv_interp_heap.specs.ObjectsInBlocks.{Blocks}
use Rattle.jv_interp_heap.specs.declared.narrowing.Narrowing.{Narrowing}
use Rattle.jv_interp_heap.specs.declared.narrowing.Narrowing.TheVariants as narrowings
use Rattle.jv_interp_heap.specs.Narrowing.{narrowing_at}
use Rattle.jv_interp_held.specs.declared.held.Held.{Held}
use Rattle.jv_interp_held.specs.declared.effect.Effect.{Effect}
use Rattle.jv_interp_heap.specs.SystemNumbers.{IsGuestsWorld}
use Rattle.jv_interp_objects.specs.Stores.{Storing, CanStore, Stores, CanStoreByte, StoresByte}
use Rattle.jv_interp_members.specs.Known.{Known}
use Rattle.jv_interp_held.specs.Executing.{place}
use Rattle.jv_interp_instructions.specs.InGuest.{ExecutesIn, CanExecute, Executed}

-- what is left of a number that is stored, where the instruction tells it
abbrev pub Keeps : NumberElement → Narrowing → Type 0
Keeps kind how = (dimensions : ℕ) (element : Element (List ℕ)) → holds_by kind dimensions element ≡ true → narrowing_at dimensions element ≡ how

pub keeps_int : Keeps numbers.Int narrowings.Whole
keeps_int zero (elements.Base bases.Int) e = refl
keeps_int dimensions element e = absurd cc

pub keeps_long : Keeps numbers.Long narrowings.Whole
keeps_long zero (elements.Base bases.Long) e = refl
keeps_long dimensions element e = absurd cc

pub keeps_char : Keeps numbers.Char narrowings.Char
keeps_char zero (elements.Base bases.Char) e = refl
keeps_char dimensions element e = absurd cc

pub keeps_short : Keeps numbers.Short narrowings.Short
keeps_short zero (elements.Base bases.Short) e = refl
keeps_short dimensions element e = absurd cc

module _ (next : ℕ) (k : Known) (texts : List (List ℕ)) (at : Registers) (words : List ℕ) (held : Held) (blocks : Blocks) (kind : NumberElement) (slots : ℕ)
    (slots_are : width (element_number kind) ≡ slots) where
  stores_here :
      (c : Context) (addresses : List ℕ) (done : Memory × EffectOfNames) (below : List ℕ)
      → ExecutesIn (insns.ArrayStore kind) next k texts (place at words held blocks) c addresses done below
      → Storing slots next (place at words held blocks) texts c kind addresses done below
  stores_here c addresses done below h = record {
    executes = h.executes;
    slots_are = slots_are;
    guests = subst (λ (world : World). IsGuestsWorld world) (sym h.known.world) h.known.guests;
  }

  pub can_store : (how : Narrowing) → Keeps kind how → CanExecute (insns.ArrayStore kind) next k texts at words held blocks → CanStore slots how next at words held blocks
  can_store how keeps h = record {
    texts = texts;
    c = h.c;
    kind = kind;
    addresses = h.addresses;
    done = h.done;
    below = h.below;
    stores = stores_here h.c h.addresses h.done h.below h.executes;
    narrows = λ type word e. keeps type.dimensions type.element e;
  }

  pub stored :
      (how : Narrowing) → Keeps kind how → (after : Registers) (blocks_after : Blocks) (effect : Effect)
      → Stores slots how next words held at blocks after blocks_after effect
      → Executed (insns.ArrayStore kind) next k texts (place at words held blocks) (place after words held blocks_after) effect
  stored how keeps after blocks_after effect m c addresses done below h =
      m texts c kind addresses done below (stores_here c addresses done below h) (λ type word e. keeps type.dimensions type.element e)

module _ (next : ℕ) (k : Known) (texts : List (List ℕ)) (at : Registers) (words : List ℕ) (held : Held) (blocks : Blocks) where
  pub can_store_byte : CanExecute (insns.ArrayStore numbers.ByteOrBoolean) next k texts at words held blocks → CanStoreByte next at words held blocks
  can_store_byte h = record {
    texts = texts;
    c = h.c;
    addresses = h.addresses;
    done = h.done;
    below = h.below;
    stores = stores_here next k texts at words held blocks numbers.ByteOrBoolean 1 refl h.c h.addresses h.done h.below h.executes;
  }

  pub byte_stored :
      (after : Registers) (blocks_after : Blocks) (effect : Effect) → StoresByte next words held at blocks after blocks_after effect
      → Executed (insns.ArrayStore numbers.ByteOrBoolean) next k texts (place at words held blocks) (place after words held blocks_after) effect
  byte_stored after blocks_after effect m c addresses done below h =
      m texts c addresses done below (stores_here next k texts at words held blocks numbers.ByteOrBoolean 1 refl c addresses done below h)
