use Rattle.std.proofs.Common.{Option, sym, ap, ◌∙◌}
use Rattle.std.specs.Option.{option_map}
use Rattle.jv_format.specs.declared.handlers.Handler.{Handler}
use Rattle.jv_format.specs.Handlers.{handlers_of}
use Rattle.jv_link_cache.specs.Handlers.{takes, handler_pc}
use Rattle.jv_link_cache.proofs.Taking.{find_more, find_here, caught_there}
use Rattle.jv_link_cache.proofs.handlers.first_of_all.Goals as goal

pub returns-then-takes : goal.returns-then-takes
returns-then-takes c = λ pool are thrown at.
    let world = c.args.table.now in
    let handlers = handlers_of c.args.handlers in
    let there = sym c.in-Some.ensures in
    let caught = caught_there world pool handlers c.args.caught.now c.loop-place.place c.in-Some.handler c.caught_at.result are there c.caught_at.ensures in
    ap (λ (o : Option Handler). option_map handler_pc o)
    (sym
    (find_here (takes world pool thrown c.args.offset) handlers c.loop-place.place c.in-Some.handler (c.loop-place.invariant pool are thrown at) there
    (sym (c.takes.ensures pool caught thrown at) ∙ c.if-takes.true)))

pub loop-place-preserved : goal.loop-place-preserved
loop-place-preserved c = λ pool are thrown at.
    let world = c.args.table.now in
    let handlers = handlers_of c.args.handlers in
    let there = sym c.in-Some.ensures in
    let caught = caught_there world pool handlers c.args.caught.now c.loop-place.place c.in-Some.handler c.caught_at.result are there c.caught_at.ensures in
    find_more (takes world pool thrown c.args.offset) handlers c.loop-place.place c.in-Some.handler (c.loop-place.invariant pool are thrown at) there
    (sym (c.takes.ensures pool caught thrown at) ∙ c.if-takes.false)
