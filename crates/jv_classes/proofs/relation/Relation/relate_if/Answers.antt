use Rattle.std.proofs.Common.{◌∙◌, sym, ap, subst}
use Rattle.std.specs.Prelude.{length, ◌||◌, ◌&&◌, nat_eq}
use Rattle.jv_classes.specs.Ways.{related, is_there, IsBelowSize}
use Rattle.jv_classes.proofs.Each.{pair_related}
use Rattle.jv_classes.proofs.relation.Relation.relate_if.Goals as goal

pub returns-in-Some-clause-related : goal.returns-in-Some-clause-related
returns-in-Some-clause-related c = λ a b.
    ap (λ rows. related rows a b) c.relate.ensures
    ∙ (pair_related c.args.self.now c.args.from c.in-Some.number a b c.is_square.ensures c.requires.from (subst (IsBelowSize (length c.args.self.now)) c.in-Some.is c.requires.to)
    ∙ ap (λ o. related c.args.self.now a b || (nat_eq a c.args.from && is_there b o)) (sym c.in-Some.is))
