use Rattle.std.proofs.Common.{◌∙◌, ap, sym, Some, codes}
use Rattle.std.specs.Option.{ok_or, option_map}
use Rattle.jv_classes.proofs.Told.{stands_at}
use Rattle.jv_lookups.proofs.Chain.{not_named}
use Rattle.jv_link.specs.Seen.{answer, error_of}
use Rattle.jv_link.proofs.Operands.{array_means}
use Rattle.jv_link.proofs.class.member_class.Goals as goal

pub returns-in-Some-clause-found : goal.returns-in-Some-clause-found
returns-in-Some-clause-found c = λ r e.
    let world = c.args.table.now in
    let there = stands_at world (codes "java/lang/Object") c.in-Some.number (sym c.find.ensures ∙ c.in-Some.is) in
    ap (option_map answer) there.1 ∙ ap (λ o. Some (ok_or o (error_of c.args.missing))) (sym there.2 ∙ array_means world c.args.found c.in-Array.field-0 r c.in-Array.is e)

pub returns-in-None-clause-found : goal.returns-in-None-clause-found
returns-in-None-clause-found c = λ r e.
    let world = c.args.table.now in
    ap (λ o. Some (ok_or o (error_of c.args.missing))) (sym (not_named world (codes "java/lang/Object") (sym c.find.ensures ∙ c.in-None.is)) ∙
    array_means world c.args.found c.in-Array.field-0 r c.in-Array.is e)
