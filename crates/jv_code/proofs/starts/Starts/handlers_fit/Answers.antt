use Rattle.std.proofs.lemmas.Grind.{elements}
use Rattle.std.proofs.Common.{List, refl, sym, subst, ◌∙◌, arith}
use Rattle.std.specs.List.{All}
use Rattle.std.proofs.lemmas.Bool.{false≢true}
use Rattle.std.proofs.lemmas.List.{take_all}
use Rattle.jv_format.specs.declared.handlers.Handler.{Handler}
use Rattle.jv_format.specs.Handlers.{handlers_of}
use Rattle.jv_code.specs.Handlers.{HandlerFits}
use Rattle.jv_code.proofs.Marks.{handler_more, handler_there}
use Rattle.jv_code.proofs.starts.Starts.handlers_fit.Goals as goal

pub returns-then-not-handler_fits : goal.returns-then-not-handler_fits
returns-then-not-handler_fits c = (
  λ no. absurd cc,
  λ all. absurd (false≢true
      (sym c.if-not-handler_fits.true ∙ c.handler_fits.ensures.1
      (handler_there (HandlerFits c.args.self.now) (handlers_of c.args.table) c.loop-place.place c.in-Some.handler
      (sym c.handler.ensures ∙ c.in-Some.is) all))),
)

pub loop-place-preserved : goal.loop-place-preserved
loop-place-preserved c =
    handler_more (HandlerFits c.args.self.now) (handlers_of c.args.table) c.loop-place.place c.in-Some.handler (sym c.handler.ensures ∙ c.in-Some.is) c.loop-place.invariant
    (c.handler_fits.ensures.0 c.if-not-handler_fits.false)

pub returns : goal.returns
returns c = (
  λ yes. subst (λ (handlers : List Handler). All (HandlerFits c.args.self.now) handlers)
      (take_all c.loop-place.place (handlers_of c.args.table) (omega (arith, c.len-place-end.ensures))) c.loop-place.invariant,
  λ all. refl,
)

pub unreachable-requires : goal.unreachable-requires
unreachable-requires c = grind (arith, elements)
