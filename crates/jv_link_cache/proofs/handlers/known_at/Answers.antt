use Rattle.std.proofs.Common.{List, Option, ap, subst}
use Rattle.std.proofs.lemmas.Result.{IfOk-weaker}
use Rattle.jv_class_structure.specs.Parts.{CodeSeen}
use Rattle.jv_format.specs.declared.handlers.Handler.{Handler}
use Rattle.jv_link_cache.specs.Handlers.{handlers_of_code}
use Rattle.jv_link_cache.specs.Inside.Handlers.{AreKnown}
use Rattle.jv_link_cache.proofs.handlers.known_at.Goals as goal

pub returns-in-Some-clause-handlers : goal.returns-in-Some-clause-handlers
returns-in-Some-clause-handlers c = λ ranks method stand at.
    IfOk-weaker c.known_of.result _ _
    (λ known is. subst (λ (hs : List Handler). AreKnown c.args.table.now ranks c.args.pool.now hs known) (ap handlers_of_code (c.in-Some.ensures method at)) is)
    (c.known_of.ensures.handlers ranks stand)

pub returns-in-None-clause-handlers : goal.returns-in-None-clause-handlers
returns-in-None-clause-handlers c = λ ranks method stand at.
    subst (λ (code : Option CodeSeen). AreKnown c.args.table.now ranks c.args.pool.now (handlers_of_code code) c.no_handlers.result) (c.in-None.ensures method at)
    (c.no_handlers.ensures c.args.table.now ranks c.args.pool.now)
