use Rattle.std.proofs.Common.{◌≡◌, inl, inr, refl, ap, subst, ◌∙◌, arith}
use Rattle.std.proofs.lemmas.Bool.{cases_lt}
use Rattle.std.proofs.lemmas.List.{get_or_past}
use Rattle.jv_verify_peaks.specs.Stretches.{AreAtMost}
use Rattle.jv_verify_open.specs.Open.{OpenFrames}
use Rattle.jv_verify_open.proofs.Flowing.{all_blocks, one_more_block, same_again}
use Rattle.jv_verify_open.proofs.frames.OpenFrames.locals_flow.Goals as goal

pub loop-written-preserved : goal.loop-written-preserved
loop-written-preserved c =
    let so_far = c.loop-written.invariant in
    let is : c.self.inside.handled ≡ c.args.self.now.handled = ap (λ (o : OpenFrames). o.handled) c.self.view_is ∙ so_far.2.handled in (
      λ k before above. one_more_block c.args.at.types.now c.args.at.words.now c.args.at.offset c.args.self.now c.args.frame.now.locals c.args.known.now.writes.numbers
          c.args.self.now.handled c.loop-written.block c.in-Some.written k c.loop-written.self c.in_ok-block_flows.field-0 so_far.2 so_far.0
          (subst (λ n. AreAtMost n c.loop-written.block c.in-Some.written c.args.known.now.writes.numbers) is c.in-Some.ensures.some.first)
          (c.in_ok-block_flows.ensures.all c.if-not-branch.false) before above,
      c.in_ok-block_flows.ensures.wanting,
      same_again c.args.self.now c.loop-written.self c.block_flows.new.self so_far.2 c.in_ok-block_flows.ensures.same,
    )

pub returns-clause-flow : goal.returns-clause-flow
returns-clause-flow c =
    let so_far = c.loop-written.invariant in
    let is : c.self.inside.handled ≡ c.args.self.now.handled = ap (λ (o : OpenFrames). o.handled) c.self.view_is ∙ so_far.2.handled in
    let numbers = c.args.known.now.writes.numbers in
    let none : AreAtMost c.args.self.now.handled c.loop-written.block c.blocks-in-loop-written.result numbers =
    subst (λ n. AreAtMost n c.loop-written.block c.blocks-in-loop-written.result numbers) is c.in_default.ensures.none in
    let many = c.blocks-in-loop-written.ensures.many in (
      λ t. all_blocks c.args.at.types.now c.args.at.words.now c.args.at.offset c.args.self.now c.args.frame.now.locals c.args.known.now c.loop-written.block c.requires.room
          c.requires.words c.requires.flowed so_far.0
          (λ k from. elim (cases_lt k c.blocks-in-loop-written.result) [
            | inl less ↦ none k from less
            | inr past ↦ let zero_is = get_or_past numbers k 0 (omega (arith, past, many)) in omega (arith, zero_is)
          ]),
      λ all. refl,
    )
