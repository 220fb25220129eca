-- The instruction at which a method stands (JVMS 4.9.1, 6.5), with the method's place among the classes.
use Rattle.std.specs.Prelude.{◌≡◌, ℕ, Bool, List, Some}
use Rattle.jv_code.specs.Insns.{Instruction}
use Rattle.jv_link.specs.declared.site.Site.{Site}
use Rattle.jv_link.specs.Seen.{seen_site}
use Rattle.jv_meaning_world.specs.World.{World}
use Rattle.jv_meaning_typing.specs.Environment.{instruction_at, offset_behind}
use Rattle.jv_meaning_machine.specs.Frames.{MethodFrame}
use Rattle.jv_meaning_machine.specs.State.{Program, State}
use Rattle.jv_interp_words.specs.declared.records.MethodRecord.{MethodRecord}
use Rattle.jv_interp_words.specs.declared.registers.Registers.{Registers}
use Rattle.jv_interp_members.specs.declared.methods.Methods.{Methods}
use Rattle.jv_interp_control.specs.Inside.Nexts.{HasNext, Nexts}
use Rattle.jv_interp_control.specs.Standing.{Kept}
use Rattle.jv_interp_steps.specs.Stepping.{StepsIn}

abbrev pub record_at : ℕ → ℕ → ℕ → MethodRecord
record_at method pc base = record { method = method; pc = pc; base = base }

-- A frame of the method stands at an instruction.
abbrev pub CanDecode : Methods → ℕ → ℕ → Type 0
CanDecode methods method pc = (base : ℕ) × HasNext methods (record_at method pc base)

pub record IsDecoded (site : Site) (insn : Instruction) (next : ℕ) (program : Program) (frame : MethodFrame) (there : Instruction)
    : Type 0 where
  pub site_is : seen_site program.world site ≡ Some frame.method.site
  pub is : insn ≡ there
  pub next_is : next ≡ offset_behind frame.offset there

-- So it is for each frame that stands here.
abbrev pub Decodes : Methods → ℕ → ℕ → Site → Instruction → ℕ → Type 0
Decodes methods method pc site insn next =
    (program : Program) (addresses : List ℕ) (base : ℕ) (frame : MethodFrame) (used below : List ℕ) (there : Instruction)
    → Nexts methods (record_at method pc base) program addresses frame used below there → IsDecoded site insn next program frame there

-- The method of each frame that stands here is at this place.
abbrev pub IsSiteOf : Methods → ℕ → ℕ → Site → Type 0
IsSiteOf methods method pc site =
    (program : Program) (addresses : List ℕ) (base : ℕ) (frame : MethodFrame) (used below : List ℕ) (there : Instruction)
    → Nexts methods (record_at method pc base) program addresses frame used below there
    → seen_site program.world site ≡ Some frame.method.site

-- In each state that stands here, and from which the next step is taken, the newest frame stands at this instruction.
abbrev pub StandsNext : World → List Bool → List (List ℕ) → Registers → Kept → Site → Instruction → ℕ → Type 0
StandsNext world verified texts at before site insn next =
    (program : Program) (s t : State) (addresses : List ℕ) (h : StepsIn world verified at program texts s t addresses before)
    (there : Instruction)
    → instruction_at h.runs.running.frame.method h.runs.running.frame.offset ≡ Some there
    → IsDecoded site insn next program h.runs.running.frame there
