use Rattle.std.proofs.Common.{[], sym, ◌∙◌, arith}
use Rattle.jv_verify_open.proofs.Flowing.{holds_within}
use Rattle.jv_verify_open.proofs.frames.OpenFrames.object_flows_at.Goals as goal

pub allow-requires-clause-local : goal.allow-requires-clause-local
allow-requires-clause-local c =
    let within = holds_within [] c.args.object c.args.frame.now.locals c.args.place (sym (c.holds.ensures []) ∙ c.if-holds.true) in
    let few = c.requires.few in omega (arith, within, few)
