use Rattle.std.proofs.Common.{None, sym, ap, ◌∙◌}
use Rattle.jv_classes.proofs.Told.{stands_at}
use Rattle.jv_explain.specs.Supers.{fault_of}
use Rattle.jv_explain.proofs.Blaming.{no_class, none_missing}
use Rattle.jv_explain.proofs.supers.super_fault.Goals as goal

pub returns-in-Some : goal.returns-in-Some
returns-in-Some c = λ l here.
    let (to, there, named) = stands_at c.args.table.now c.args.name.now c.in-Some.of (sym c.find.ensures ∙ c.in-Some.is) in
    c.fault_of_class.ensures l here to there ∙ ap (fault_of c.args.table.now l c.args.why c.args.as_interface) (sym named)

pub returns-in-NoSuper : goal.returns-in-NoSuper
returns-in-NoSuper c = λ l here.
    sym (ap (fault_of c.args.table.now l c.args.why c.args.as_interface) (no_class c.args.table.now c.args.name.now (sym c.find.ensures ∙ c.in-None.is))
    ∙ ap (λ w. fault_of c.args.table.now l w c.args.as_interface None) c.in-NoSuper.is)

pub returns-in_default : goal.returns-in_default
returns-in_default c = λ l here.
    sym (ap (fault_of c.args.table.now l c.args.why c.args.as_interface) (no_class c.args.table.now c.args.name.now (sym c.find.ensures ∙ c.in-None.is))
    ∙ none_missing c.args.table.now l c.args.why c.args.as_interface c.in_default.not-NoSuper)
