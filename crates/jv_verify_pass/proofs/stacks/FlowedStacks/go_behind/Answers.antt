use Rattle.std.proofs.Common.{◌≡◌, ◌-◌, length, map, ap, sym, ◌∙◌}
use Rattle.std.proofs.lemmas.List.{length-map}
use Rattle.jv_verify_frame.proofs.Replacing.{written}
use Rattle.jv_verify_pass.specs.Inside.Stacks.{lowered}
use Rattle.jv_verify_pass.proofs.stacks.FlowedStacks.go_behind.Goals as goal

pub returns : goal.returns
returns c =
    let stacks = c.args.self.now.stacks in
    let new = c.lower_all.new.stacks in
    let is : new ≡ map (lowered (c.args.height - 6)) stacks.items =
    c.lower_all.ensures ∙ (ap (λ n. map (lowered n) c.deref_mut.result.now) c.stayed.ensures ∙ ap (map (lowered (c.args.height - 6))) c.deref_mut.ensures.value) in
    let many : stacks.len ≡ length new = stacks.ok.0 ∙ (sym (length-map stacks.items (lowered (c.args.height - 6))) ∙ ap length (sym is)) in
    written new _ stacks.len many ∙ is
