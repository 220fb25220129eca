use Rattle.std.proofs.Common.{sym, ◌∙◌}
use Rattle.jv_meaning_typing.specs.Rule.{handler_frame}
use Rattle.jv_verify_types.specs.Numbered.{frame_of}
use Rattle.jv_verify_pass.specs.Pass.{maps_of, names_in}
use Rattle.jv_verify_pass.proofs.GoingOn.{is_covered, not_covered}
use Rattle.jv_verify_pass.proofs.onward.is_unhandled.Goals as goal

pub returns-then-not-covers : goal.returns-then-not-covers
returns-then-not-covers c = λ env insn is left.
    let pass = c.args.pass.now in
    not_covered env (maps_of pass) c.args.offset (handler_frame env insn (frame_of (names_in pass) c.args.frame.now)) c.args.handler c.if-not-covers.ensures

pub returns : goal.returns
returns c = λ env insn is left.
    let pass = c.args.pass.now in
    is_covered env (maps_of pass) c.args.offset (handler_frame env insn (frame_of (names_in pass) c.args.frame.now)) c.args.handler c.handles.result
    (sym c.covers.ensures ∙ c.if-not-covers.false) (c.handles.ensures env insn is left)
