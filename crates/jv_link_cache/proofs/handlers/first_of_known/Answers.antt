use Rattle.std.proofs.Common.{Option, slice_get, sym, ap, ◌∙◌}
use Rattle.std.specs.Option.{option_map}
use Rattle.jv_format.specs.declared.handlers.Handler.{Handler}
use Rattle.jv_format.specs.Handlers.{handlers_of}
use Rattle.jv_link_cache.specs.Handlers.{takes, handler_pc}
use Rattle.jv_link_cache.proofs.Taking.{table_position, found_none, found_at}
use Rattle.jv_link_cache.proofs.handlers.first_of_known.Goals as goal

pub returns-in_default : goal.returns-in_default
returns-in_default c = λ world ranks pool class are rank_is thrown at.
    let handlers = handlers_of c.args.handlers in
    let place =
    table_position world ranks pool handlers c.args.firsts.now class c.args.offset c.args.rank thrown c.first_at.result are at rank_is c.requires
    (c.first_at.ensures are.reaches are.are) in
    ap (λ (o : Option Handler). option_map handler_pc o) (sym (found_none (takes world pool thrown c.args.offset) handlers (sym place ∙ c.in_default.is)))

pub returns-in-Some-handler : goal.returns-in-Some-handler
returns-in-Some-handler c = λ world ranks pool class are rank_is thrown at.
    let handlers = handlers_of c.args.handlers in
    let place =
    table_position world ranks pool handlers c.args.firsts.now class c.args.offset c.args.rank thrown c.first_at.result are at rank_is c.requires
    (c.first_at.ensures are.reaches are.are) in
    ap (λ (o : Option Handler). option_map handler_pc o)
    (c.in-Some-handler.ensures ∙ ap (slice_get handlers) c.from.ensures
    ∙ sym (found_at (takes world pool thrown c.args.offset) handlers c.in-Some.place (sym place ∙ c.in-Some.is)))

pub returns-in-None : goal.returns-in-None
returns-in-None c = λ world ranks pool class are rank_is thrown at.
    let handlers = handlers_of c.args.handlers in
    let place =
    table_position world ranks pool handlers c.args.firsts.now class c.args.offset c.args.rank thrown c.first_at.result are at rank_is c.requires
    (c.first_at.ensures are.reaches are.are) in
    ap (λ (o : Option Handler). option_map handler_pc o)
    (c.in-None.ensures ∙ ap (slice_get handlers) c.from.ensures
    ∙ sym (found_at (takes world pool thrown c.args.offset) handlers c.in-Some.place (sym place ∙ c.in-Some.is)))
