use Rattle.std.proofs.Common.{◌∙◌, ap, sym}
use Rattle.std.specs.List.{list_any}
use Rattle.jv_meaning_typing.specs.FrameChanges.{is_same_object}
use Rattle.jv_verify_types.specs.Typed.{typed, typed_all}
use Rattle.jv_verify_types.specs.Numbered.{NumberFrame}
use Rattle.jv_verify_frame.proofs.Replacing.{any_typed}
use Rattle.jv_verify_frame.proofs.type_frame.TypeFrame.has_in_locals.Goals as goal

pub returns : goal.returns
returns c = λ names.
    c.has.ensures
    ∙ (sym (any_typed names c.args.object c.self.inside.locals)
    ∙ ap (λ (f : NumberFrame). list_any (is_same_object (typed names c.args.object)) (typed_all names f.locals)) c.self.view_is)
