use Rattle.std.proofs.Common.{refl, ◌∙◌, arith}
use Rattle.std.proofs.lemmas.Grind.{get_or_default_zero}
use Rattle.jv_verify_open.proofs.Flowing.{all_copies, one_more_copy, same_again}
use Rattle.jv_verify_open.proofs.frames.OpenFrames.object_flows.Goals as goal

pub loop-k-preserved : goal.loop-k-preserved
loop-k-preserved c =
    let so_far = c.loop-k.invariant in (
      λ j before held. one_more_copy c.args.at.types.now c.args.at.words.now c.args.at.offset c.args.self.now c.args.object c.args.frame.now.locals c.in_ok-places.places.items
          c.loop-k.k c.index.result.now c.loop-k.self c.in_ok-object_flows_at.field-0 so_far.2
          (c.index.ensures ∙ get_or_default_zero c.in_ok-places.places.items c.loop-k.k _ (let less = c.loop-k-test.true in let end = c.len-k-end.ensures in omega (arith, less, end)))
          so_far.0 c.if-not-branch.false c.in_ok-object_flows_at.ensures.flows
          j before held,
      c.in_ok-object_flows_at.ensures.wanting,
      same_again c.args.self.now c.loop-k.self c.object_flows_at.new.self so_far.2 c.in_ok-object_flows_at.ensures.same,
    )

pub returns-clause-flows : goal.returns-clause-flows
returns-clause-flows c =
    let stop = c.loop-k-test.false in
    let end = c.len-k-end.ensures in (
      λ t. all_copies c.args.at.types.now c.args.at.words.now c.args.at.offset c.args.self.now c.args.object c.args.frame.now.locals c.in_ok-places.places.items
          c.in_ok-places.ensures (λ j less held. c.loop-k.invariant.0 j (omega (arith, less, stop, end)) held),
      λ all. refl,
    )
