use Rattle.std.proofs.Common.{List, subst, ℕ}
use Rattle.jv_code.specs.Insns.{Instruction, instruction_of}
use Rattle.jv_code.specs.Places.{IsAt}
use Rattle.jv_beyond.specs.Uses.{NamesBeyond}
use Rattle.jv_beyond.proofs.using.tell_use_in.Goals as goal

pub tell_named-requires : goal.tell_named-requires
tell_named-requires c =
    let (insn, at, (index, names)) = c.requires in
    let here = subst (λ (bytes : List ℕ). IsAt bytes c.args.offset (instruction_of c.insn_at-next.result.0)) c.in-Ok.ensures.same c.insn_at-next.ensures.insn in (
      index,
      subst (λ (i : Instruction). NamesBeyond c.args.pool.now i index)
          (c.one_at_offset.ensures c.args.bytes.now c.args.offset insn (instruction_of c.insn_at-next.result.0) at here) names,
    )
