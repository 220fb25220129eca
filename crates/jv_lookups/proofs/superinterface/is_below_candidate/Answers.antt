use Rattle.std.proofs.Common.{◌∙◌, sym, ap}
use Rattle.std.specs.Prelude.{is_some}
use Rattle.jv_classes.proofs.Told.{other_name}
use Rattle.jv_lookups.proofs.Tests.{all_three, some_stands}
use Rattle.jv_lookups.proofs.superinterface.is_below_candidate.Goals as goal

pub returns : goal.returns
returns c = λ l at by at_by m at_m.
    let world = c.args.table.now in
    all_three _ _ c.is_some.result _ (other_name world c.is_numbered.ensures c.args.class c.args.other by m at_by at_m (λ e. c.if-other-class.false (sym e)))
    (sym (c.is_above.ensures m at_m by at_by) ∙ c.if-not-is_above.false)
    (c.is_some.ensures ∙ (some_stands world c.candidate.result c.candidate.ensures.place ∙ ap is_some (c.candidate.ensures.found l at m at_m)))
