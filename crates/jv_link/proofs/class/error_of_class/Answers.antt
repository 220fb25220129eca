use Rattle.std.proofs.Common.{◌∙◌, ap, sym}
use Rattle.std.specs.Option.{option_and_then}
use Rattle.jv_meaning_typing.specs.ClassResolution.{loading_error}
use Rattle.jv_link.proofs.Loadable.{loadable_is_right, error_by_supers}
use Rattle.jv_link.proofs.class.error_of_class.Goals as goal

pub returns-then-is_loadable : goal.returns-then-is_loadable
returns-then-is_loadable c = λ l at. loadable_is_right c.args.table.now c.args.number l at (sym (c.is_loadable.ensures l at) ∙ c.if-is_loadable.true)

pub returns : goal.returns
returns c = λ l at.
    c.loading_error.ensures ∙ (ap (option_and_then loading_error) (c.fault_of_supers.ensures l at)
    ∙ error_by_supers c.args.table.now l (sym (c.is_loadable.ensures l at) ∙ c.if-is_loadable.false))
