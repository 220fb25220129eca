use Rattle.std.proofs.Common.{List, ap, subst, sym, ◌∙◌}
use Rattle.std.specs.Option.{option_map}
use Rattle.jv_pool.specs.Constants.{Entry}
use Rattle.jv_class_structure.specs.Seen.{seen_method}
use Rattle.jv_beyond.specs.Inside.Used.{NoUseBelow}
use Rattle.jv_beyond.specs.Uses.{IsUse}
use Rattle.jv_beyond.proofs.InUse.{no_use_there, use_there}
use Rattle.jv_beyond.proofs.finding.use_at.Goals as goal

pub returns-in-Some-use_of : goal.returns-in-Some-use_of
returns-in-Some-use_of c =
    let m = seen_method c.in-Some.method in
    let offset = c.in-Some-use_of.offset in
    let told = c.in-Some-use_of.ensures {u = tt} in
    use_there c.args.parts.now c.args.place m (sym c.method.ensures ∙ ap (option_map seen_method) c.in-Some.is) offset
    (subst (λ (pool : List Entry). IsUse pool m offset) c.pool.ensures told.found) (subst (λ (pool : List Entry). NoUseBelow pool m offset) c.pool.ensures told.first)

pub returns-in-None : goal.returns-in-None
returns-in-None c =
    let m = seen_method c.in-Some.method in
    no_use_there c.args.parts.now c.args.place m (sym c.method.ensures ∙ ap (option_map seen_method) c.in-Some.is)
    (λ offset is. (c.in-None.ensures {u = tt}).none offset (subst (λ (pool : List Entry). IsUse pool m offset) (sym c.pool.ensures) is))
