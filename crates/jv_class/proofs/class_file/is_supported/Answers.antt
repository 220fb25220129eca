use Rattle.jv_class.proofs.ShownOf.{supported_shown, supported_all}
use Rattle.jv_class.proofs.class_file.is_supported.Goals as goal

pub returns : goal.returns
returns c = (
  λ on. supported_all c.args.parts.now (c.shown_are_supported.ensures.0 on),
  λ supported. c.shown_are_supported.ensures.1 (supported_shown c.args.parts.now supported),
)
