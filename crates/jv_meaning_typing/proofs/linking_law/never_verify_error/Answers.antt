use Rattle.jv_meaning_typing.proofs.Errors.{never_verify_error}
use Rattle.jv_meaning_typing.proofs.linking_law.never_verify_error.Goals as goal

pub returns : goal.returns
returns c = never_verify_error
