use Rattle.jv_malformed.specs.Part.{BeginsWithMethods}
use Rattle.jv_malformed.proofs.structure.faulty_in.Goals as goal

pub returns-in-Ok-behind_methods : goal.returns-in-Ok-behind_methods
returns-in-Ok-behind_methods c = λ none.
    let end = c.in-Ok-behind_methods.field-0.now in
    let members : BeginsWithMethods c.args.pool.now end c.args.bytes.now =
    (c.in-Ok.last.now, (c.in-Some.behind.now, c.in-Some.ensures, c.in-Ok.ensures), c.in-Ok-behind_methods.ensures) in
    (end, members, none end members)
