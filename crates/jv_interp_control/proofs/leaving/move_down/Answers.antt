use Rattle.std.proofs.Common.{◌≡◌, ℕ, subst, arith}
use Rattle.jv_interp_control.proofs.MovedDown.{MovedSoFar, none_moved, one_moved, all_moved}
use Rattle.jv_interp_control.proofs.leaving.move_down.Goals as goal

pub loop-place-init : goal.loop-place-init
loop-place-init c = none_moved c.args.from c.args.to c.args.words.now

pub loop-place-preserved : goal.loop-place-preserved
loop-place-preserved c =
    one_moved c.args.from c.args.to c.loop-place.place c.args.count c.args.words.now c.loop-place.words c.requires.lower c.requires.within c.loop-place-test.true c.loop-place.invariant

pub returns : goal.returns
returns c =
    let end : c.loop-place.place ≡ c.args.count = let a = c.loop-place-test.false in let b = c.loop-place.auto.place-end in omega (arith, a, b) in
    all_moved c.args.from c.args.to c.args.count c.args.words.now c.loop-place.words c.requires.within
    (subst (λ (n : ℕ). MovedSoFar c.args.from c.args.to n c.args.words.now c.loop-place.words) end c.loop-place.invariant)
