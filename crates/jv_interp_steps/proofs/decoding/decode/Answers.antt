use Rattle.std.proofs.Common.{sym, ap, ◌∙◌, Some}
use Rattle.jv_code.proofs.StartLaws.{OneAtOffset-holds}
use Rattle.jv_interp_control.proofs.NextFound.{is_code, some_bytes, known_bytes, stands_there, next_is}
use Rattle.jv_interp_control.proofs.BodyStands.{number_within}
use Rattle.jv_interp_control.proofs.Entered.{is_entered}
use Rattle.jv_interp_steps.specs.Inside.Decoding.{record_at}
use Rattle.jv_interp_steps.proofs.CodeRules.{keeps_rules}
use Rattle.jv_interp_steps.proofs.decoding.decode.Goals as goal

pub method-row-requires : goal.method-row-requires
method-row-requires c =
    let w = c.requires.1 in
    let own = record_at c.args.method c.args.pc c.requires.0 in
    let code = is_code c.args.methods.now own w.program w.addresses w.frame w.used w.below w.insn w.nexts in
    number_within c.args.methods.now c.args.method w.program w.nexts.stands.declared w.frame.method.code code

pub unreachable-requires : goal.unreachable-requires
unreachable-requires c =
    let w = c.requires.1 in
    let own = record_at c.args.method c.args.pc c.requires.0 in
    let code = is_code c.args.methods.now own w.program w.addresses w.frame w.used w.below w.insn w.nexts in
    some_bytes c.args.methods.now own w.program w.addresses w.frame w.used w.below w.insn w.nexts c.method-row.result c.in_default.is
    (c.method-row.ensures w.program.world w.nexts.stands.declared code.are code.at)

pub insn_at-next-requires : goal.insn_at-next-requires
insn_at-next-requires c =
    let w = c.requires.1 in
    let own = record_at c.args.method c.args.pc c.requires.0 in
    let code = is_code c.args.methods.now own w.program w.addresses w.frame w.used w.below w.insn w.nexts in
    let bytes =
    known_bytes c.args.methods.now own w.program w.addresses w.frame w.used w.below w.insn w.nexts c.method-row.result c.in-Some.code c.in-Some.is
    (c.method-row.ensures w.program.world w.nexts.stands.declared code.are code.at) in
    (w.insn, stands_there c.args.methods.now own w.program w.addresses w.frame w.used w.below w.insn w.nexts c.in-Some.code.bytes.now bytes)

pub returns-clause-decodes : goal.returns-clause-decodes
returns-clause-decodes c = λ program addresses base frame used below insn h.
    let own = record_at c.args.method c.args.pc base in
    let code = is_code c.args.methods.now own program addresses frame used below insn h in
    let row = c.method-row.ensures program.world h.stands.declared code.are code.at in
    let bytes = known_bytes c.args.methods.now own program addresses frame used below insn h c.method-row.result c.in-Some.code c.in-Some.is row in
    let there = stands_there c.args.methods.now own program addresses frame used below insn h c.in-Some.code.bytes.now bytes in
    record {
      site_is = row.place ∙ ap Some (sym (is_entered program h.stands.declared frame.method h.stands.entered).site_is);
      is = OneAtOffset-holds c.in-Some.code.bytes.now c.args.pc _ insn c.insn_at-next.ensures.insn there;
      next_is =
          next_is c.args.methods.now own program addresses frame used below insn h c.in-Some.code.bytes.now _ c.insn_at-next.result.1 bytes c.insn_at-next.ensures.insn
          c.insn_at-next.ensures.next;
    }

pub returns-clause-rules : goal.returns-clause-rules
returns-clause-rules c = keeps_rules c.in-Some.code.bytes.now c.args.pc _ c.insn_at-next.ensures.insn
