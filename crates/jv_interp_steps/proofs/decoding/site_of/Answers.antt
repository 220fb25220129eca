use Rattle.std.proofs.Common.{sym, ap, ◌∙◌, Some}
use Rattle.jv_interp_control.proofs.NextFound.{is_code}
use Rattle.jv_interp_control.proofs.BodyStands.{number_within}
use Rattle.jv_interp_control.proofs.Entered.{is_entered}
use Rattle.jv_interp_steps.specs.Inside.Decoding.{record_at}
use Rattle.jv_interp_steps.proofs.decoding.site_of.Goals as goal

pub method-row-requires : goal.method-row-requires
method-row-requires c =
    let w = c.requires.1 in
    let own = record_at c.args.method c.args.pc c.requires.0 in
    let code = is_code c.args.methods.now own w.program w.addresses w.frame w.used w.below w.insn w.nexts in
    number_within c.args.methods.now c.args.method w.program w.nexts.stands.declared w.frame.method.code code

pub returns : goal.returns
returns c = λ program addresses base frame used below insn h.
    let own = record_at c.args.method c.args.pc base in
    let code = is_code c.args.methods.now own program addresses frame used below insn h in
    let row = c.method-row.ensures program.world h.stands.declared code.are code.at in
    row.place ∙ ap Some (sym (is_entered program h.stands.declared frame.method h.stands.entered).site_is)
