use Rattle.std.proofs.Common.{◌≡◌, ◌∙◌, ◌+◌, ◌-◌, ◌++◌, ◌∷◌, [], suc, length, get_or, Some, None, sym, ap, subst, arith}
use Rattle.jv_classes.specs.Ways.{IsBelowSize}
use Rattle.jv_classes.proofs.Followed.{HasFollowed, follow_start, follow_step, follow_end, some_class, superclass_told}
use Rattle.jv_classes.proofs.table.chain_of.Goals as goal

pub loop-init : goal.loop-init
loop-init c =
    let world = c.args.classes.now in
    let next = get_or c.args.direct.now c.args.number None in
    let class = some_class world c.args.number c.requires.number in
    let left : length world ≡ length world - 0 = omega arith in
    subst (λ n. HasFollowed world c.args.number c.new-chain.result.items n next) left
    (subst (λ chain. HasFollowed world c.args.number chain (length world) next) (sym c.new-chain.ensures.items)
    (follow_start world c.args.number next (superclass_told world c.args.direct.now c.args.number None c.requires.direct) class.0 class.1))

pub returns-in_default : goal.returns-in_default
returns-in_default c =
    let world = c.args.classes.now in
    let left = length world - c.loop.counter in
    record {
      found = follow_end world c.args.number c.loop.chain.items left (subst (HasFollowed world c.args.number c.loop.chain.items left) c.in_default.is c.loop.invariant);
      numbers = c.loop.invariant.numbers;
    }

pub loop-preserved : goal.loop-preserved
loop-preserved c =
    let world = c.args.classes.now in
    let chain = c.loop.chain.items in
    let superclass = c.in-Some.superclass in
    let next = get_or c.args.direct.now superclass None in
    let left = length world - (c.loop.counter + 1) in
    let one_less : length world - c.loop.counter ≡ suc (length world - (c.loop.counter + 1)) = omega (arith, c.loop-test.true) in
    let less = subst (IsBelowSize (length world)) c.in-Some.is c.loop.invariant.below in
    let class = some_class world superclass less in
    let pushed : c.push.new.self.items ≡ chain ++ superclass ∷ [] = c.in_ok-push.ensures.items ∙ ap (λ n. chain ++ n ∷ []) c.in_ok-short_number.ensures in
    subst (λ items. HasFollowed world c.args.number items left next) (sym pushed)
    (follow_step world c.args.number chain left superclass next class.0 class.1 less (superclass_told world c.args.direct.now superclass None c.requires.direct)
    (subst (λ n. HasFollowed world c.args.number chain n (Some superclass)) one_less
    (subst (λ n. HasFollowed world c.args.number chain (length world - c.loop.counter) n) c.in-Some.is c.loop.invariant)))
