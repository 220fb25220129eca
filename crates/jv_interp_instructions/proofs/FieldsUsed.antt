-- Uses of fields, as instructions.
use Rattle.std.proofs.Common.{◌≡◌, ℕ, List, refl}
use Rattle.jv_code.specs.declared.insn.Insn.TheVariants as insns
use Rattle.jv_code.specs.declared.kinds.FieldAccess.{FieldAccess}
use Rattle.jv_code.specs.declared.kinds.FieldAccess.TheVariants as access
use Rattle.jv_meaning_machine.specs.Laws.Steps.{ExecutionKeeps}
use Rattle.jv_meaning_machine.specs.State.{Memory}
use Rattle.jv_meaning_machine.specs.Effects.{Effect as EffectOfNames, Context}
use Rattle.jv_interp_words.specs.declared.registers.Registers.{Registers}
use Rattle.jv_interp_heap.specs.ObjectsInBlocks.{Blocks}
use Rattle.jv_interp_held.specs.declared.class_state.ClassState.{ClassState}
use Rattle.jv_interp_held.specs.declared.held.Held.{Held}
use Rattle.jv_interp_held.specs.declared.effect.Effect.{Effect}
use Rattle.jv_interp_members.specs.Known.{Known}
use Rattle.jv_interp_members.specs.Using.{Using, CanUseField, UsesField, PutsInField, CanUseStatic, UsesStatic}
use Rattle.jv_interp_held.specs.Executing.{place}
use Rattle.jv_interp_instructions.specs.InGuest.{ExecutesIn, CanExecuteAt, ExecutedAt}
use Rattle.jv_interp_instructions.proofs.Grown.{did_same}

module _ (kept : ExecutionKeeps) (states : List ClassState) (next : ℕ) (k : Known) (texts : List (List ℕ)) (index : ℕ) (at : Registers) (words : List ℕ) (held : Held) (blocks : Blocks) where
  uses_here :
      (how : FieldAccess) (c : Context) (addresses : List ℕ) (done : Memory × EffectOfNames) (below : List ℕ)
      → ExecutesIn (insns.Field how index) next k texts (place at words held blocks) c addresses done below
      → Using how index next k (place at words held blocks) texts c addresses done below
  uses_here how c addresses done below h = record { executes = h.executes; known = h.known; loadable = h.loadable }

  pub can_use : (how : FieldAccess) → CanExecuteAt states (insns.Field how index) next k texts at words held blocks → CanUseField how index next k at words held blocks
  can_use how h = record {
    texts = texts;
    c = h.can.c;
    addresses = h.can.addresses;
    done = h.can.done;
    below = h.can.below;
    uses = uses_here how h.can.c h.can.addresses h.can.done h.can.below h.can.executes;
    room = h.can.room;
  }

  pub can_use_static :
      (how : FieldAccess) → CanExecuteAt states (insns.Field how index) next k texts at words held blocks → CanUseStatic how index next k states at words held
  can_use_static how h = record {
    blocks = blocks;
    texts = texts;
    c = h.can.c;
    addresses = h.can.addresses;
    done = h.can.done;
    below = h.can.below;
    uses = record { uses = uses_here how h.can.c h.can.addresses h.can.done h.can.below h.can.executes; states_are = h.states_are };
    room = h.can.room;
  }

  pub got :
      (after : Registers) (words_after : List ℕ) (effect : Effect) → UsesField access.GetField index next k held at words blocks after words_after effect
      → ExecutedAt states (insns.Field access.GetField index) next k texts (place at words held blocks) (place after words_after held blocks) effect
  got after words_after effect m c addresses done below h states_are =
      did_same kept (insns.Field access.GetField index) next k texts (place at words held blocks) c addresses done below h after words_after held effect refl
      (m texts c addresses done below (uses_here access.GetField c addresses done below h))

  pub put :
      (after : Registers) (blocks_after : Blocks) (effect : Effect) → PutsInField index next k held words at blocks after blocks_after effect
      → ExecutedAt states (insns.Field access.PutField index) next k texts (place at words held blocks) (place after words held blocks_after) effect
  put after blocks_after effect m c addresses done below h states_are = m texts c addresses done below (uses_here access.PutField c addresses done below h)

  pub used_static :
      (how : FieldAccess) (after : Registers) (words_after : List ℕ) (held_after : Held) (effect : Effect) → held_after.cells ≡ held.cells
      → UsesStatic how index next k states at words held after words_after held_after effect
      → ExecutedAt states (insns.Field how index) next k texts (place at words held blocks) (place after words_after held_after blocks) effect
  used_static how after words_after held_after effect same m c addresses done below h states_are =
      did_same kept (insns.Field how index) next k texts (place at words held blocks) c addresses done below h after words_after held_after effect same
      (m blocks texts c addresses done below (record { uses = uses_here how c addresses done below h; states_are = states_are }))
