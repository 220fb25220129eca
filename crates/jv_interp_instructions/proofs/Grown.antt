-- What stands of other guests where an instruction makes no object.
use Rattle.std.proofs.Common.{◌≡◌, ℕ, List, [], refl, sym, subst}
use Rattle.jv_code.specs.Insns.{Instruction}
use Rattle.jv_meaning_world.specs.World.{World}
use Rattle.jv_meaning_machine.specs.Laws.Steps.{ExecutionKeeps}
use Rattle.jv_meaning_machine.specs.State.{Memory}
use Rattle.jv_meaning_machine.specs.Effects.{Effect as EffectOfNames, Context}
use Rattle.jv_interp_words.specs.declared.registers.Registers.{Registers}
use Rattle.jv_interp_heap.specs.ObjectsInBlocks.{Blocks}
use Rattle.jv_interp_held.specs.declared.held.Held.{Held}
use Rattle.jv_interp_held.specs.declared.effect.Effect.{Effect}
use Rattle.jv_interp_held.specs.Executing.{Place, place, Did}
use Rattle.jv_interp_held.specs.Growing.{Grows, DidIn}
use Rattle.jv_interp_held.proofs.Growths.{grows_not}
use Rattle.jv_interp_heap.specs.SystemNumbers.{IsGuestsWorld}
use Rattle.jv_interp_members.specs.Known.{Known}
use Rattle.jv_interp_instructions.specs.OnWords.{DoneOnWords}
use Rattle.jv_interp_instructions.specs.InGuest.{ExecutesIn, Executed}
use Rattle.jv_interp_instructions.proofs.Unpaid.{no_more}

-- no block changed
pub unchanged : (addresses more : List ℕ) (blocks : Blocks) → more ≡ [] → Grows addresses more blocks blocks
unchanged addresses more blocks none = subst (λ (l : List ℕ). Grows addresses l blocks blocks) (sym none) (grows_not addresses blocks)

module _ (kept : ExecutionKeeps) (insn : Instruction) (next : ℕ) (k : Known) (texts : List (List ℕ)) (here : Place) (c : Context) (addresses : List ℕ) (done : Memory × EffectOfNames) (below : List ℕ)
    (h : ExecutesIn insn next k texts here c addresses done below) where
  pub guests : IsGuestsWorld c.program.world
  guests = subst (λ (world : World). IsGuestsWorld world) (sym h.known.world) h.known.guests

  -- what did stands, where no cells were paid and no block changed
  pub did_same :
      (at : Registers) (words : List ℕ) (held : Held) (effect : Effect) → held.cells ≡ here.held.cells
      → Did texts (place at words held here.blocks) effect c addresses done below
      → DidIn here.blocks texts (place at words held here.blocks) effect c addresses done below
  did_same at words held effect same did = record {
    did = did;
    grows =
        unchanged addresses did.more here.blocks
        (no_more kept c.program.world texts c insn done addresses did.more here.held held here.blocks here.blocks h.executes.does h.executes.memory did.memory same);
  }

pub executed_on_words :
    ExecutionKeeps → (insn : Instruction) (next : ℕ) (k : Known) (texts : List (List ℕ)) (at : Registers) (words : List ℕ) (after : Registers) (words_after : List ℕ)
    (held : Held) (blocks : Blocks) (effect : Effect) → DoneOnWords insn next at words after words_after effect
    → Executed insn next k texts (place at words held blocks) (place after words_after held blocks) effect
executed_on_words kept insn next k texts at words after words_after held blocks effect on c addresses done below h =
    did_same kept insn next k texts (place at words held blocks) c addresses done below h after words_after held effect refl
    (on texts held blocks c addresses done below
    (record { executes = h.executes; guests = guests kept insn next k texts (place at words held blocks) c addresses done below h }))
