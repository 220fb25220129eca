use Rattle.std.proofs.Common.{◌≡◌, inl, length, map, ap, sym, ◌∙◌}
use Rattle.std.proofs.lemmas.List.{length-map}
use Rattle.jv_verify_frame.proofs.Replacing.{written}
use Rattle.jv_verify_pass.specs.Inside.Stacks.{lowered_below}
use Rattle.jv_verify_pass.proofs.stacks.FlowedStacks.go_below.Goals as goal

pub returns-in-Ok : goal.returns-in-Ok
returns-in-Ok c =
    let stacks = c.args.self.now.stacks in
    let places = c.in-Ok.places.items in
    let new = c.lower_below.new.stacks in
    let is : new ≡ map (lowered_below places) stacks.items =
    c.lower_below.ensures ∙ (ap (λ ps. map (lowered_below ps) c.deref_mut.result.now) c.deref.ensures.value ∙ ap (map (lowered_below places)) c.deref_mut.ensures.value) in
    let many : stacks.len ≡ length new = stacks.ok.0 ∙ (sym (length-map stacks.items (lowered_below places)) ∙ ap length (sym is)) in
    inl (places, c.in-Ok.ensures, written new _ stacks.len many ∙ is)
