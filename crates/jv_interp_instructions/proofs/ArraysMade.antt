-- New arrays of base types, as instructions.
use Rattle.std.proofs.Common.{◌≡◌, ℕ, ◌+◌, ◌*◌, ◌<◌, List, refl, arith}
use Rattle.jv_stackmap.specs.Types.{value_type, width}
use Rattle.jv_code.specs.declared.insn.Insn.TheVariants as insns
use Rattle.jv_code.specs.declared.kinds.ElementType.{ElementType}
use Rattle.jv_code.specs.declared.kinds.ElementType.TheVariants as elements
use Rattle.jv_meaning_world.specs.World.{World}
use Rattle.jv_meaning_machine.specs.Arrays.{base_of, base_components}
use Rattle.jv_meaning_machine.specs.Laws.Steps.{ExecutionKeeps}
use Rattle.jv_interp_words.specs.declared.registers.Registers.{Registers}
use Rattle.jv_interp_heap.specs.ObjectsInBlocks.{Blocks, IsArrayWord, base_number}
use Rattle.jv_interp_held.specs.declared.held.Held.{Held}
use Rattle.jv_interp_held.specs.declared.effect.Effect.{Effect}
use Rattle.jv_interp_objects.specs.Arrays.{CanMakeBaseArray, MakesBaseArray}
use Rattle.jv_interp_members.specs.Known.{Known}
use Rattle.jv_interp_held.specs.Executing.{place}
use Rattle.jv_interp_instructions.specs.InGuest.{CanExecute, Executed}
use Rattle.jv_interp_instructions.proofs.Grown.{guests}

-- the word tells the element
pub tells : (world : World) (element : ElementType) (word : ℕ) → word ≡ 2147483648 + base_number (base_of element) → IsArrayWord world (base_components (base_of element)) word
tells world element word is = record {
  element = base_number (base_of element);
  element_is = refl;
  few_elements = few element;
  few_dimensions = omega arith;
  is = let zero_times : 0 * 65536 + base_number (base_of element) ≡ base_number (base_of element) = omega arith in omega (arith, is, zero_times);
}
  where
    few : (e : ElementType) → base_number (base_of e) < 65536
    few elements.Boolean = omega arith
    few elements.Char = omega arith
    few elements.Byte = omega arith
    few elements.Short = omega arith
    few elements.Int = omega arith
    few elements.Long = omega arith

module _ (kept : ExecutionKeeps) (element : ElementType) (word slots next : ℕ) (k : Known) (texts : List (List ℕ)) (at : Registers) (words : List ℕ) (held : Held) (blocks : Blocks)
    (type : (world : World) → IsArrayWord world (base_components (base_of element)) word) (wide : width (value_type (base_components (base_of element))) ≡ slots) where
  pub can_make : CanExecute (insns.NewArray element) next k texts at words held blocks → CanMakeBaseArray word slots next at words held blocks
  can_make h = record {
    texts = texts;
    c = h.c;
    element = element;
    addresses = h.addresses;
    done = h.done;
    below = h.below;
    makes = record {
      executes = h.executes.executes;
      type = type h.c.program.world;
      slots_are = wide;
      guests = guests kept (insns.NewArray element) next k texts (place at words held blocks) h.c h.addresses h.done h.below h.executes;
    };
  }

  pub made :
      (after : Registers) (words_after : List ℕ) (held_after : Held) (blocks_after : Blocks) (effect : Effect)
      → MakesBaseArray word slots next at words held blocks after words_after held_after blocks_after effect
      → Executed (insns.NewArray element) next k texts (place at words held blocks) (place after words_after held_after blocks_after) effect
  made after words_after held_after blocks_after effect m c addresses done below h =
      m texts c element addresses done below
      (record {
        executes = h.executes;
        type = type c.program.world;
        slots_are = wide;
        guests = guests kept (insns.NewArray element) next k texts (place at words held blocks) c addresses done below h;
      })
