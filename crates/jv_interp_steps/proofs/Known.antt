-- The instruction at which the method that runs stands, where its bytes are known (JVMS 2.11, 6.5).
use Rattle.std.proofs.Common.{◌≡◌, ℕ, ◌+◌, ◌<◌, Bool, List, Option, Some, length, ap, ◌∙◌, IsTrue, arith}
use Rattle.jv_code.specs.Insns.{Instruction, insn_bytes, insn_fits}
use Rattle.jv_code.specs.Operands.{HasBytes}
use Rattle.jv_code.specs.Places.{IsAt, IsStart}
use Rattle.jv_code.proofs.StartLaws.{OneAtOffset-holds, end_within}
use Rattle.jv_link.specs.declared.site.Site.{Site}
use Rattle.jv_meaning_world.specs.World.{World}
use Rattle.jv_meaning_typing.specs.Environment.{instruction_at, offset_behind}
use Rattle.jv_meaning_machine.specs.State.{Program, State}
use Rattle.jv_interp_words.specs.declared.registers.Registers.{Registers}
use Rattle.jv_interp_heap.specs.ObjectsInBlocks.{Blocks}
use Rattle.jv_interp_held.specs.declared.held.Held.{Held}
use Rattle.jv_interp_words.specs.Stepping.{StepsFrom, CanStep}
use Rattle.jv_interp_words.proofs.StepsStand.{at_hand}
use Rattle.jv_interp_words.proofs.OpcodesStand.{is_start, stands_at}
use Rattle.jv_interp_members.specs.declared.methods.Methods.{Methods}
use Rattle.jv_interp_members.specs.Methods.{AreMethods}
use Rattle.jv_interp_control.specs.declared.frames.Frames.{Frames}
use Rattle.jv_interp_control.specs.declared.control.Control.{Control}
use Rattle.jv_interp_control.specs.Standing.{kept}
use Rattle.jv_interp_steps.specs.Inside.Decoding.{IsSiteOf, StandsNext}
use Rattle.jv_interp_steps.specs.Stepping.{StepsIn}
use Rattle.jv_interp_steps.proofs.Executed.{nexts_at}

same_instruction : (o : Option Instruction) (a b : Instruction) → o ≡ Some a → o ≡ Some b → a ≡ b
same_instruction o a b e f = cc

module _ (world : World) (verified : List Bool) (at : Registers) (program : Program) (texts : List (List ℕ)) (s t : State) (addresses : List ℕ)
    (frames : Frames) (control : Control) (held : Held) (blocks : Blocks)
    (h : StepsIn world verified at program texts s t addresses (kept frames control held blocks)) where
  abbrev steps_from : StepsFrom program s t addresses frames.records.items at frames.words.items
  steps_from = record { running = h.runs.running; apart = h.runs.memory.objects.are; finds = h.guest.finds; goes = h.takes.does }

  pub can_step : CanStep at frames.words.items
  can_step = record { program = program; s = s; t = t; addresses = addresses; waiting = frames.records.items; from = steps_from }

  pub starts : IsStart at.code.now at.pc
  starts = is_start at frames.words.items can_step

  pub is_there :
      (insn : Instruction) → IsAt at.code.now at.pc insn → (there : Instruction)
      → instruction_at h.runs.running.frame.method h.runs.running.frame.offset ≡ Some there → insn ≡ there
  is_there insn is there e =
      let found = at_hand program s t addresses frames.records.items at frames.words.items steps_from in
      OneAtOffset-holds at.code.now at.pc insn found.insn is found.is_at
      ∙ same_instruction (instruction_at h.runs.running.frame.method h.runs.running.frame.offset) found.insn there found.acts.stands e

  pub known_at :
      (insn : Instruction) → HasBytes at.code.now at.pc (insn_bytes insn) → IsTrue (insn_fits at.pc insn) → IsAt at.code.now at.pc insn
  known_at insn bytes fits = stands_at insn at frames.words.items can_step bytes fits

  -- the offset behind it fits
  pub end_small :
      (insn : Instruction) (size : ℕ) → HasBytes at.code.now at.pc (insn_bytes insn) → IsTrue (insn_fits at.pc insn) → size ≡ length (insn_bytes insn)
      → at.pc + size < 65536
  end_small insn size bytes fits is =
      let there = known_at insn bytes fits in
      let within = end_within at.code.now at.pc insn there in
      let few = there.code.few in
      omega (arith, within, few, is)

-- so it stands there in each such state
pub stands_next :
    (world : World) (verified : List Bool) (texts : List (List ℕ)) (at : Registers) (frames : Frames) (control : Control) (held : Held) (blocks : Blocks)
    (methods : Methods) → AreMethods world methods → (site : Site) → IsSiteOf methods at.method at.pc site → (insn : Instruction) (size : ℕ)
    → HasBytes at.code.now at.pc (insn_bytes insn) → IsTrue (insn_fits at.pc insn) → size ≡ length (insn_bytes insn)
    → StandsNext world verified texts at (kept frames control held blocks) site insn (at.pc + size)
stands_next world verified texts at frames control held blocks methods are site is_site insn size bytes fits size_is = λ program s t addresses h there e.
    let frame = h.runs.running.frame in
    let same = is_there world verified at program texts s t addresses frames control held blocks h insn
    (known_at world verified at program texts s t addresses frames control held blocks h insn bytes fits) there e in
    record {
      site_is =
          is_site program addresses at.base frame _ _ there
          (nexts_at world verified at program texts s t addresses frames control held blocks h methods are there e);
      is = same;
      next_is =
          ap (λ (n : ℕ). at.pc + n) size_is ∙ ap (λ (n : ℕ). offset_behind n insn) h.runs.running.current.pc_is
          ∙ ap (λ (i : Instruction). offset_behind frame.offset i) same;
    }
