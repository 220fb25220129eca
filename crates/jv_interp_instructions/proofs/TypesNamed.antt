-- Instructions that name a class, or ask what an object is.
use Rattle.std.proofs.Common.{ℕ, List, refl}
use Rattle.jv_code.specs.declared.insn.Insn.TheVariants as insns
use Rattle.jv_meaning_machine.specs.Laws.Steps.{ExecutionKeeps}
use Rattle.jv_interp_words.specs.declared.registers.Registers.{Registers}
use Rattle.jv_interp_heap.specs.ObjectsInBlocks.{Blocks}
use Rattle.jv_interp_held.specs.declared.class_state.ClassState.{ClassState}
use Rattle.jv_interp_held.specs.declared.held.Held.{Held}
use Rattle.jv_interp_held.specs.declared.effect.Effect.{Effect}
use Rattle.jv_interp_held.specs.Executing.{Place, place}
use Rattle.jv_interp_members.specs.Known.{Known}
use Rattle.jv_interp_objects.specs.Asking.{Asks}
use Rattle.jv_interp_objects.specs.Throwing.{Throws}
use Rattle.jv_interp_objects.specs.Storing.{Stores}
use Rattle.jv_interp_objects.specs.Making.{MakesObject, MakesArray, MakesArrays}
use Rattle.jv_interp_instructions.specs.OnWords.{part_of}
use Rattle.jv_interp_instructions.specs.InGuest.{Executed, ExecutedAt}
use Rattle.jv_interp_instructions.proofs.Grown.{did_same, guests}

module _ (kept : ExecutionKeeps) (next : ℕ) (k : Known) (texts : List (List ℕ)) (at : Registers) (words : List ℕ) (held : Held) (blocks : Blocks) where
  pub instance_asked :
      (index : ℕ) (after : Registers) (words_after : List ℕ) (effect : Effect)
      → Asks (part_of (insns.InstanceOf index)) next k held blocks at words after words_after effect
      → Executed (insns.InstanceOf index) next k texts (place at words held blocks) (place after words_after held blocks) effect
  instance_asked index after words_after effect m c addresses done below h =
      did_same kept (insns.InstanceOf index) next k texts (place at words held blocks) c addresses done below h after words_after held effect refl
      (m texts c addresses done below (record { executes = h.executes; known = h.known }))

  pub cast_asked :
      (index : ℕ) (after : Registers) (effect : Effect)
      → Asks (part_of (insns.CheckCast index)) next k held blocks at words after words effect
      → Executed (insns.CheckCast index) next k texts (place at words held blocks) (place after words held blocks) effect
  cast_asked index after effect m c addresses done below h =
      did_same kept (insns.CheckCast index) next k texts (place at words held blocks) c addresses done below h after words held effect refl
      (m texts c addresses done below (record { executes = h.executes; known = h.known }))

  pub thrown : (effect : Effect) → Throws at words effect → Executed insns.Throw next k texts (place at words held blocks) (place at words held blocks) effect
  thrown effect m c addresses done below h =
      did_same kept insns.Throw next k texts (place at words held blocks) c addresses done below h at words held effect refl
      (m next held blocks texts c addresses done below
      (record { executes = h.executes; guests = guests kept insns.Throw next k texts (place at words held blocks) c addresses done below h }))

  pub reference_stored :
      (after : Registers) (blocks_after : Blocks) (effect : Effect) → Stores k.world next words held at blocks after blocks_after effect
      → Executed insns.ReferenceArrayStore next k texts (place at words held blocks) (place after words held blocks_after) effect
  reference_stored after blocks_after effect m c addresses done below h =
      m texts c addresses done below (record { executes = h.executes; world_is = h.known.world; guests = h.known.guests })

module _ (next : ℕ) (k : Known) (texts : List (List ℕ)) (states : List ClassState) (before after : Place) (effect : Effect) (index : ℕ) where
  pub object_made : MakesObject index next k states before after effect → ExecutedAt states (insns.New index) next k texts before after effect
  object_made m c addresses done below h states_are =
      m texts c addresses done below (record { executes = h.executes; known = h.known; states_are = states_are })

  pub array_made : MakesArray index next k before after effect → Executed (insns.NewReferenceArray index) next k texts before after effect
  array_made m c addresses done below h = m texts c addresses done below (record { executes = h.executes; known = h.known })

  pub arrays_made :
      (dimensions : ℕ) → MakesArrays index dimensions next k before after effect
      → Executed (insns.NewMultiArray index dimensions) next k texts before after effect
  arrays_made dimensions m c addresses done below h = m texts c addresses done below (record { executes = h.executes; known = h.known })
