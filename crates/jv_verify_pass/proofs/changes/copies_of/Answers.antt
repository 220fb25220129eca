use Rattle.std.proofs.Common.{Option, sym, subst}
use Rattle.std.specs.Prelude.{IfOk}
use Rattle.jv_verify_types.specs.Numbered.{Item}
use Rattle.jv_verify_pass.specs.Inside.Changes.{HoldCopies}
use Rattle.jv_verify_pass.proofs.changes.copies_of.Goals as goal

pub returns-in-Some : goal.returns-in-Some
returns-in-Some c =
    subst (λ (o : Option Item). IfOk c.copies_in_locals.result (λ places. HoldCopies places.items o c.args.frame.now.locals)) (sym c.in-Some.is) c.copies_in_locals.ensures
