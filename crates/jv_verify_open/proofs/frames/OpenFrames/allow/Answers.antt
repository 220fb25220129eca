use Rattle.std.proofs.Common.{◌≡◌, ◌≤◌, ◌∙◌, ℕ, get_or, sym, ap, subst}
use Rattle.jv_verify_types.specs.Typed.{TypeWorld}
use Rattle.jv_verify_wants.specs.Wanted.{FlowsToWanted, wanted_at}
use Rattle.jv_verify_wants.specs.Inside.Allowed.{AreAllowed}
use Rattle.jv_verify_open.specs.Open.{OpenFrames}
use Rattle.jv_verify_open.proofs.Flowing.{asked_wanting, flowed_before, if_ok, on_ok, still_flows, to_open, to_wanted}
use Rattle.jv_verify_open.proofs.frames.OpenFrames.allow.Goals as goal

pub allow-requires : goal.allow-requires
allow-requires c =
    subst (λ (t : TypeWorld). AreAllowed t c.args.at.offset c.self.inside.wants) (sym c.names.ensures)
    (subst (λ (o : OpenFrames). AreAllowed c.args.at.types.now.constants.types c.args.at.offset o.wants) (sym c.self.view_is) c.in_ok-find.ensures.wanting.allowed)

pub returns-clause-wanting : goal.returns-clause-wanting
returns-clause-wanting c =
    on_ok c.allow.result
    (asked_wanting c.args.at.types.now c.args.at.words.now c.args.at.offset c.find.new.self _ c.in_ok-find.ensures.wanting
    (ap (λ (o : OpenFrames). o.ends) c.self.view_is) (ap (λ (o : OpenFrames). o.opened) c.self.view_is) (ap (λ (o : OpenFrames). o.found) c.self.view_is)
    (λ k. c.allow.ensures.same k ∙ ap (λ (o : OpenFrames). wanted_at o.wants k) c.self.view_is)
    (subst (λ (t : TypeWorld). AreAllowed t c.args.at.offset c.allow.new.self) c.names.ensures c.allow.ensures.allowed))

pub returns-clause-flows : goal.returns-clause-flows
returns-clause-flows c =
    let types = c.args.at.types.now in
    let offset = c.args.at.offset in
    let found = c.find.new.self in
    let wanting = c.in_ok-find.ensures.wanting in
    if_ok c.allow.result (λ b h. (
      λ t. flowed_before types c.args.at.words.now offset c.args.self.now found c.args.local _ c.in_ok-find.ensures.same
          (to_open types c.args.at.words.now offset found wanting c.args.local c.args.item c.requires.local
          (subst (λ block. get_or found.found block 0 ≡ found.opens) c.from.ensures c.in_ok-find.ensures.found)
          (subst (λ (o : OpenFrames). (place : ℕ) → get_or o.opened place 0 ≤ o.opens) c.self.view_is c.self.invariant.opened)
          (subst (λ (o : OpenFrames). FlowsToWanted types.constants.types c.args.item o.wants c.args.local offset) c.self.view_is
          (subst (λ (w : TypeWorld). FlowsToWanted w c.args.item c.self.inside.wants c.args.local offset) c.names.ensures (h.0 t)))),
      λ flow. h.1
          (subst (λ (w : TypeWorld). FlowsToWanted w c.args.item c.self.inside.wants c.args.local offset) (sym c.names.ensures)
          (subst (λ (o : OpenFrames). FlowsToWanted types.constants.types c.args.item o.wants c.args.local offset) (sym c.self.view_is)
          (to_wanted types c.args.at.words.now offset found wanting c.args.local c.args.item
          (still_flows types c.args.at.words.now offset c.args.self.now found c.args.local _ c.in_ok-find.ensures.same flow)))),
    )) c.allow.ensures.ok
