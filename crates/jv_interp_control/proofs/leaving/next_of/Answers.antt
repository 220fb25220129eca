use Rattle.std.proofs.Common.{ℕ, ◌+◌, ap, arith}
use Rattle.jv_code.proofs.StartLaws.{end_within}
use Rattle.jv_interp_control.proofs.NextFound.{is_code, some_bytes, known_bytes, stands_there, next_is}
use Rattle.jv_interp_control.proofs.leaving.next_of.Goals as goal

pub unreachable-requires : goal.unreachable-requires
unreachable-requires c =
    let w = c.requires in
    let code = is_code c.args.methods.now c.args.own w.program w.addresses w.frame w.used w.below w.insn w.nexts in
    some_bytes c.args.methods.now c.args.own w.program w.addresses w.frame w.used w.below w.insn w.nexts c.method.result c.in_default.is
    (c.method.ensures w.program.world w.nexts.stands.declared code.are code.at)

pub insn_at-requires : goal.insn_at-requires
insn_at-requires c =
    let w = c.requires in
    let code = is_code c.args.methods.now c.args.own w.program w.addresses w.frame w.used w.below w.insn w.nexts in
    let bytes =
    known_bytes c.args.methods.now c.args.own w.program w.addresses w.frame w.used w.below w.insn w.nexts c.method.result c.in-Some.code c.in-Some.is
    (c.method.ensures w.program.world w.nexts.stands.declared code.are code.at) in
    (w.insn, stands_there c.args.methods.now c.args.own w.program w.addresses w.frame w.used w.below w.insn w.nexts c.in-Some.code.bytes.now bytes)

pub returns : goal.returns
returns c = λ program addresses frame used below insn h.
    let code = is_code c.args.methods.now c.args.own program addresses frame used below insn h in
    let bytes =
    known_bytes c.args.methods.now c.args.own program addresses frame used below insn h c.method.result c.in-Some.code c.in-Some.is
    (c.method.ensures program.world h.stands.declared code.are code.at) in
    next_is c.args.methods.now c.args.own program addresses frame used below insn h c.in-Some.code.bytes.now _ c.insn_at.result.1 bytes c.insn_at.ensures.insn c.insn_at.ensures.next

pub opcode_at-opcode-requires : goal.opcode_at-opcode-requires
opcode_at-opcode-requires c =
    let w = c.requires in
    let code = is_code c.args.methods.now c.args.own w.program w.addresses w.frame w.used w.below w.insn w.nexts in
    let bytes =
    known_bytes c.args.methods.now c.args.own w.program w.addresses w.frame w.used w.below w.insn w.nexts c.method.result c.in-Some.code c.in-Some.is
    (c.method.ensures w.program.world w.nexts.stands.declared code.are code.at) in
    (w.insn, stands_there c.args.methods.now c.args.own w.program w.addresses w.frame w.used w.below w.insn w.nexts c.in-Some.code.bytes.now bytes)

pub overflow_add-result : goal.overflow_add-result
overflow_add-result c =
    let w = c.requires in
    let code = is_code c.args.methods.now c.args.own w.program w.addresses w.frame w.used w.below w.insn w.nexts in
    let bytes =
    known_bytes c.args.methods.now c.args.own w.program w.addresses w.frame w.used w.below w.insn w.nexts c.method.result c.in-Some.code c.in-Some.is
    (c.method.ensures w.program.world w.nexts.stands.declared code.are code.at) in
    let there = stands_there c.args.methods.now c.args.own w.program w.addresses w.frame w.used w.below w.insn w.nexts c.in-Some.code.bytes.now bytes in
    let size = c.in-Some-size_of_call.ensures {u = tt} c.in-Some.code.bytes.now c.args.own.pc w.insn there c.opcode_at-opcode.ensures.stands in
    let within = end_within c.in-Some.code.bytes.now c.args.own.pc w.insn there in
    let few = there.code.few in
    record { fits = omega (arith, size, within, few) }

pub returns-in-Some-size_of_call : goal.returns-in-Some-size_of_call
returns-in-Some-size_of_call c = λ program addresses frame used below insn h.
    let code = is_code c.args.methods.now c.args.own program addresses frame used below insn h in
    let bytes =
    known_bytes c.args.methods.now c.args.own program addresses frame used below insn h c.method.result c.in-Some.code c.in-Some.is
    (c.method.ensures program.world h.stands.declared code.are code.at) in
    let there = stands_there c.args.methods.now c.args.own program addresses frame used below insn h c.in-Some.code.bytes.now bytes in
    let size = c.in-Some-size_of_call.ensures {u = tt} c.in-Some.code.bytes.now c.args.own.pc insn there c.opcode_at-opcode.ensures.stands in
    next_is c.args.methods.now c.args.own program addresses frame used below insn h c.in-Some.code.bytes.now insn (c.args.own.pc + c.in-Some-size_of_call.size)
    bytes there (ap (λ (n : ℕ). c.args.own.pc + n) size)
