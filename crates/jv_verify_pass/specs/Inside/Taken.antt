-- What a sink is told of an instruction.
use Rattle.std.specs.Prelude.{◌≡◌, ℕ, Option}
use Rattle.std.specs.Option.{option_map}
use Rattle.jv_code.specs.Insns.{Instruction, instruction_of}
use Rattle.jv_stackmap.specs.Frames.{Frame}
use Rattle.jv_meaning_typing.specs.Typing.{frame_at}
use Rattle.jv_verify_pass.specs.Before.{seen_frame}
use Rattle.jv_verify_pass.specs.Pass.{InPass, Pass, maps_of}
use Rattle.jv_verify_pass.specs.declared.sink.FramedInsn.{FramedInsn}

-- the instruction at an offset, with what falls into it, or none, and the frame of the stack map there, was taken
pub record TakesFramed (pass : Pass) (pc : ℕ) (insn : Instruction) (falling : Option Frame) (Takes : FramedInsn → Type 0) : Type 0 where
  pub framed : FramedInsn
  pub offset : framed.offset ≡ pc
  pub insn_is : instruction_of framed.insn ≡ insn
  pub falls : option_map seen_frame framed.falling ≡ falling
  pub map : InPass pass (λ env. option_map seen_frame framed.map ≡ frame_at (maps_of pass) pc)
  pub takes : Takes framed
