use Rattle.jv_code.specs.Opcodes.{return_opcode}
use Rattle.std.proofs.Common.{sym}
use Rattle.jv_interp_words.proofs.OpcodesStand.{both_fit}
use Rattle.jv_interp_steps.proofs.Known.{starts}
use Rattle.jv_interp_steps.proofs.Operands.{with_index, with_count, alone}
use Rattle.jv_interp_steps.proofs.stepping.step_at_hand.Goals as goal

pub opcode_at-opcode-requires-clause-start : goal.opcode_at-opcode-requires-clause-start
opcode_at-opcode-requires-clause-start g c =
    let w = c.requires.can in
    starts c.args.classes.now.world c.args.verified.now c.args.at.now w.program c.args.texts.now.names w.s w.t w.addresses c.args.frames.now c.args.control.now
    c.args.held.now (g.S.Store.content c.args.store.now) w.steps

pub step_known-requires-clause-bytes : goal.step_known-requires-clause-bytes
step_known-requires-clause-bytes g c =
    alone c.args.at.now.code.now c.args.at.now.pc c.opcode_at-opcode.result (return_opcode c.in-Some.kind) (c.in-Some.ensures {u = tt}) c.opcode_at-opcode.ensures.stands

pub step_known-requires-in-177-clause-bytes : goal.step_known-requires-in-177-clause-bytes
step_known-requires-in-177-clause-bytes g c =
    alone c.args.at.now.code.now c.args.at.now.pc c.opcode_at-opcode.result 177 (sym c.in-177.is) c.opcode_at-opcode.ensures.stands

pub step_known-requires-in-182-clause-bytes : goal.step_known-requires-in-182-clause-bytes
step_known-requires-in-182-clause-bytes g c =
    with_index c.args.at.now.code.now c.args.at.now.pc c.opcode_at-opcode.result 182 c.index_behind-index.result (sym c.in-182.is)
    c.opcode_at-opcode.ensures.stands c.index_behind-index.ensures.stands

pub step_known-requires-in-183-clause-bytes : goal.step_known-requires-in-183-clause-bytes
step_known-requires-in-183-clause-bytes g c =
    with_index c.args.at.now.code.now c.args.at.now.pc c.opcode_at-opcode.result 183 c.index_behind-index-in-183.result (sym c.in-183.is)
    c.opcode_at-opcode.ensures.stands c.index_behind-index-in-183.ensures.stands

pub step_known-requires-in-184-clause-bytes : goal.step_known-requires-in-184-clause-bytes
step_known-requires-in-184-clause-bytes g c =
    with_index c.args.at.now.code.now c.args.at.now.pc c.opcode_at-opcode.result 184 c.index_behind-index-in-184.result (sym c.in-184.is)
    c.opcode_at-opcode.ensures.stands c.index_behind-index-in-184.ensures.stands

pub step_known-requires-in-185-clause-bytes : goal.step_known-requires-in-185-clause-bytes
step_known-requires-in-185-clause-bytes g c =
    let w = c.requires.can in
    with_count c.args.at.now.code.now c.args.at.now.pc c.opcode_at-opcode.result c.index_behind-index-in-185.result c.count_behind-count.result
    (starts c.args.classes.now.world c.args.verified.now c.args.at.now w.program c.args.texts.now.names w.s w.t w.addresses c.args.frames.now c.args.control.now
    c.args.held.now (g.S.Store.content c.args.store.now) w.steps)
    (sym c.in-185.is) c.opcode_at-opcode.ensures.stands c.index_behind-index-in-185.ensures.stands c.count_behind-count.ensures.stands

pub step_known-requires-in-185-clause-fits : goal.step_known-requires-in-185-clause-fits
step_known-requires-in-185-clause-fits g c =
    both_fit _ _ c.index_behind-index-in-185.ensures.fits c.count_behind-count.ensures.fits

pub step_known-requires-in-187-clause-bytes : goal.step_known-requires-in-187-clause-bytes
step_known-requires-in-187-clause-bytes g c =
    with_index c.args.at.now.code.now c.args.at.now.pc c.opcode_at-opcode.result 187 c.index_behind-index-in-187.result (sym c.in-187.is)
    c.opcode_at-opcode.ensures.stands c.index_behind-index-in-187.ensures.stands
