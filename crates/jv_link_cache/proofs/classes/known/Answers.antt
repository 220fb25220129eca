use Rattle.std.proofs.Common.{ℕ, subst}
use Rattle.jv_link_cache.specs.Inside.Classes.{IsEntry}
use Rattle.jv_link_cache.proofs.Finding.{classes_found}
use Rattle.jv_link_cache.proofs.classes.known.Goals as goal

pub returns-in-Some : goal.returns-in-Some
returns-in-Some c = λ world are.
    classes_found world c.args.class c.args.index c.in-Some.entry.now
    (subst (λ (n : ℕ). IsEntry world c.args.class n c.in-Some.entry.now) c.from.ensures (are c.args.class c.from.result _ (c.in-Some.ensures {u = tt})))
