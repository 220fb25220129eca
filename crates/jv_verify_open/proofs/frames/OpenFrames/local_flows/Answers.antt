use Rattle.std.proofs.Common.{sym, ◌∙◌}
use Rattle.jv_verify_open.proofs.Flowing.{if_ok, none_flows, some_flows}
use Rattle.jv_verify_open.proofs.frames.OpenFrames.local_flows.Goals as goal

pub returns-in-Some-clause-flows : goal.returns-in-Some-clause-flows
returns-in-Some-clause-flows c =
    if_ok c.allow.result (λ b h.
    some_flows c.args.at.types.now c.args.at.words.now c.args.at.offset c.args.self.now c.args.frame.now.locals c.args.local c.in-Some.item b (sym c.local.ensures ∙ c.in-Some.is) h)
    c.allow.ensures.flows

pub returns-in-None-clause-flows : goal.returns-in-None-clause-flows
returns-in-None-clause-flows c =
    none_flows c.args.at.types.now c.args.at.words.now c.args.at.offset c.args.self.now c.args.frame.now.locals c.args.local (sym c.local.ensures ∙ c.in-None.is)
