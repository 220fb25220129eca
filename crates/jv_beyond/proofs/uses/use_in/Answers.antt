use Rattle.std.proofs.Common.{rules, ◌≡◌, ◌≤◌, arith}
use Rattle.std.specs.Prelude.{is_some, false}
use Rattle.jv_code.specs.Insns.{instruction_of}
use Rattle.jv_beyond.proofs.InUse.{found_none, no_use, no_use_more}
use Rattle.jv_beyond.proofs.uses.use_in.Goals as goal

pub loop-offset-preserved : goal.loop-offset-preserved
loop-offset-preserved c =
    let pool = c.args.pool.now in
    let insn = instruction_of c.insn_at-next.result.0 in
    let none : is_some c.beyond_of.result ≡ false = search rules in (
      c.insn_at-next.ensures.goes_on,
      no_use_more pool c.args.code.now.bytes.now c.one_at_offset.ensures c.starts_apart.ensures c.loop-offset.offset c.insn_at-next.result.1 insn c.insn_at-next.ensures.insn
          c.insn_at-next.ensures.next (found_none pool insn c.beyond_of.result none c.beyond_of.ensures) c.loop-offset.invariant.1,
    )

pub returns : goal.returns
returns c =
    let bytes = c.size-size.ensures.bytes in
    let end : c.size-size.result ≤ c.loop-offset.offset = search rules in
    no_use c.args.pool.now c.args.code.now.bytes.now c.loop-offset.offset (omega (arith, bytes, end)) c.loop-offset.invariant.1
