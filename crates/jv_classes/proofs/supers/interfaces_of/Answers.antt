use Rattle.std.proofs.Common.{ap, ◌∙◌}
use Rattle.jv_classes.specs.Once.{each_once}
use Rattle.jv_classes.proofs.OfFile.{if_ok_so, numbers_of_file}
use Rattle.jv_classes.proofs.supers.interfaces_of.Goals as goal

pub returns-in-Some : goal.returns-in-Some
returns-in-Some c =
    let file = c.in-Some.file.now in
    let same = numbers_of_file file c.pool.result.now c.interfaces.result.now c.pool.ensures c.interfaces.ensures.same c.args.list.now c.args.class.now.class c.in-Some.ensures.file in
    if_ok_so c.numbers_in.result _ _ (λ s h. h ∙ ap each_once same) c.numbers_in.ensures
