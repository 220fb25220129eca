use Rattle.jv_code.specs.Opcodes.{array_load_opcode, array_store_opcode}
use Rattle.std.proofs.Common.{sym}
use Rattle.jv_interp_steps.proofs.Known.{starts}
use Rattle.jv_interp_steps.proofs.Operands.{with_index, with_byte, alone}
use Rattle.jv_interp_steps.proofs.going.step_going.Goals as goal

pub opcode_at-opcode-requires-clause-start : goal.opcode_at-opcode-requires-clause-start
opcode_at-opcode-requires-clause-start g c =
    let w = c.requires.can in
    starts c.args.classes.now.world c.args.verified.now c.args.at.now w.program c.args.texts.now.names w.s w.t w.addresses c.args.frames.now c.args.control.now
    c.args.held.now (g.S.Store.content c.args.store.now) w.steps

pub goes_known-requires-clause-bytes : goal.goes_known-requires-clause-bytes
goes_known-requires-clause-bytes g c =
    alone c.args.at.now.code.now c.args.at.now.pc c.opcode_at-opcode.result (array_load_opcode c.in-Some.kind) (c.in-Some.ensures {u = tt}) c.opcode_at-opcode.ensures.stands

pub goes_known-requires-in-Some-element_stored-clause-bytes : goal.goes_known-requires-in-Some-element_stored-clause-bytes
goes_known-requires-in-Some-element_stored-clause-bytes g c =
    alone c.args.at.now.code.now c.args.at.now.pc c.opcode_at-opcode.result (array_store_opcode c.in-Some-element_stored.kind)
    (c.in-Some-element_stored.ensures {u = tt}) c.opcode_at-opcode.ensures.stands

pub goes_known-requires-in-50-clause-bytes : goal.goes_known-requires-in-50-clause-bytes
goes_known-requires-in-50-clause-bytes g c =
    alone c.args.at.now.code.now c.args.at.now.pc c.opcode_at-opcode.result 50 (sym c.in-50.is) c.opcode_at-opcode.ensures.stands

pub goes_known-requires-in-83-clause-bytes : goal.goes_known-requires-in-83-clause-bytes
goes_known-requires-in-83-clause-bytes g c =
    alone c.args.at.now.code.now c.args.at.now.pc c.opcode_at-opcode.result 83 (sym c.in-83.is) c.opcode_at-opcode.ensures.stands

pub goes_known-requires-in-108-clause-bytes : goal.goes_known-requires-in-108-clause-bytes
goes_known-requires-in-108-clause-bytes g c =
    alone c.args.at.now.code.now c.args.at.now.pc c.opcode_at-opcode.result 108 (sym c.in-108.is) c.opcode_at-opcode.ensures.stands

pub goes_known-requires-in-109-clause-bytes : goal.goes_known-requires-in-109-clause-bytes
goes_known-requires-in-109-clause-bytes g c =
    alone c.args.at.now.code.now c.args.at.now.pc c.opcode_at-opcode.result 109 (sym c.in-109.is) c.opcode_at-opcode.ensures.stands

pub goes_known-requires-in-112-clause-bytes : goal.goes_known-requires-in-112-clause-bytes
goes_known-requires-in-112-clause-bytes g c =
    alone c.args.at.now.code.now c.args.at.now.pc c.opcode_at-opcode.result 112 (sym c.in-112.is) c.opcode_at-opcode.ensures.stands

pub goes_known-requires-in-113-clause-bytes : goal.goes_known-requires-in-113-clause-bytes
goes_known-requires-in-113-clause-bytes g c =
    alone c.args.at.now.code.now c.args.at.now.pc c.opcode_at-opcode.result 113 (sym c.in-113.is) c.opcode_at-opcode.ensures.stands

pub goes_known-requires-in-190-clause-bytes : goal.goes_known-requires-in-190-clause-bytes
goes_known-requires-in-190-clause-bytes g c =
    alone c.args.at.now.code.now c.args.at.now.pc c.opcode_at-opcode.result 190 (sym c.in-190.is) c.opcode_at-opcode.ensures.stands

pub goes_known-requires-in-18-clause-bytes : goal.goes_known-requires-in-18-clause-bytes
goes_known-requires-in-18-clause-bytes g c =
    with_byte c.args.at.now.code.now c.args.at.now.pc c.opcode_at-opcode.result 18 c.index_in_byte-index.result (sym c.in-18.is) c.opcode_at-opcode.ensures.stands c.index_in_byte-index.ensures.stands

pub goes_known-requires-in-19-clause-bytes : goal.goes_known-requires-in-19-clause-bytes
goes_known-requires-in-19-clause-bytes g c =
    with_index c.args.at.now.code.now c.args.at.now.pc c.opcode_at-opcode.result 19 c.index_behind-index.result (sym c.in-19.is) c.opcode_at-opcode.ensures.stands c.index_behind-index.ensures.stands

pub goes_known-requires-in-20-clause-bytes : goal.goes_known-requires-in-20-clause-bytes
goes_known-requires-in-20-clause-bytes g c =
    with_index c.args.at.now.code.now c.args.at.now.pc c.opcode_at-opcode.result 20 c.index_behind-index-in-20.result (sym c.in-20.is)
    c.opcode_at-opcode.ensures.stands c.index_behind-index-in-20.ensures.stands

pub goes_known-requires-in-178-clause-bytes : goal.goes_known-requires-in-178-clause-bytes
goes_known-requires-in-178-clause-bytes g c =
    with_index c.args.at.now.code.now c.args.at.now.pc c.opcode_at-opcode.result 178 c.index_behind-index-in-178.result (sym c.in-178.is)
    c.opcode_at-opcode.ensures.stands c.index_behind-index-in-178.ensures.stands

pub goes_known-requires-in-179-clause-bytes : goal.goes_known-requires-in-179-clause-bytes
goes_known-requires-in-179-clause-bytes g c =
    with_index c.args.at.now.code.now c.args.at.now.pc c.opcode_at-opcode.result 179 c.index_behind-index-in-179.result (sym c.in-179.is)
    c.opcode_at-opcode.ensures.stands c.index_behind-index-in-179.ensures.stands

pub goes_known-requires-in-180-clause-bytes : goal.goes_known-requires-in-180-clause-bytes
goes_known-requires-in-180-clause-bytes g c =
    with_index c.args.at.now.code.now c.args.at.now.pc c.opcode_at-opcode.result 180 c.index_behind-index-in-180.result (sym c.in-180.is)
    c.opcode_at-opcode.ensures.stands c.index_behind-index-in-180.ensures.stands

pub goes_known-requires-in-181-clause-bytes : goal.goes_known-requires-in-181-clause-bytes
goes_known-requires-in-181-clause-bytes g c =
    with_index c.args.at.now.code.now c.args.at.now.pc c.opcode_at-opcode.result 181 c.index_behind-index-in-181.result (sym c.in-181.is)
    c.opcode_at-opcode.ensures.stands c.index_behind-index-in-181.ensures.stands

pub goes_known-requires-in-192-clause-bytes : goal.goes_known-requires-in-192-clause-bytes
goes_known-requires-in-192-clause-bytes g c =
    with_index c.args.at.now.code.now c.args.at.now.pc c.opcode_at-opcode.result 192 c.index_behind-index-in-192.result (sym c.in-192.is)
    c.opcode_at-opcode.ensures.stands c.index_behind-index-in-192.ensures.stands

pub goes_known-requires-in-193-clause-bytes : goal.goes_known-requires-in-193-clause-bytes
goes_known-requires-in-193-clause-bytes g c =
    with_index c.args.at.now.code.now c.args.at.now.pc c.opcode_at-opcode.result 193 c.index_behind-index-in-193.result (sym c.in-193.is)
    c.opcode_at-opcode.ensures.stands c.index_behind-index-in-193.ensures.stands
