use Rattle.std.proofs.Common.{◌∙◌, ap}
use Rattle.jv_meaning_typing.specs.FrameChanges.{replaced}
use Rattle.jv_verify_types.specs.Typed.{typed, typed_all}
use Rattle.jv_verify_types.specs.Numbered.{NumberFrame}
use Rattle.jv_verify_frame.proofs.Replacing.{replaced_in}
use Rattle.jv_verify_frame.proofs.type_frame.TypeFrame.replace_locals.Goals as goal

pub returns-clause-locals : goal.returns-clause-locals
returns-clause-locals c = λ names.
    replaced_in names c.args.object c.args.by c.self.inside.locals c.replace.new.self c.replace.ensures
    ∙ ap (λ (f : NumberFrame). replaced (typed names c.args.object) (typed names c.args.by) (typed_all names f.locals)) c.self.view_is
