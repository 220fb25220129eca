use Rattle.std.proofs.Common.{rules, length, ap, arith, ◌≡◌, ◌+◌, ◌++◌, ◌∷◌, [], sym, subst}
use Rattle.jv_pool.specs.Constants.{pool_count}
use Rattle.jv_verify_types.proofs.Guarding.{AreGuardsBelow, guards_next, all_guards}
use Rattle.jv_verify_types.proofs.guards.guards_of.Goals as goal

pub loop-index-preserved : goal.loop-index-preserved
loop-index-preserved c =
    let pushed : c.push.new.self.items ≡ c.loop-index.marks.items ++ c.in_ok-mark.mark ∷ [] = search rules in
    record {
      size = search rules;
      below = λ l at.
          subst (AreGuardsBelow (c.loop-index.index + 1) c.args.classes.now.world l c.args.constants.now.pool) (sym pushed)
          (guards_next c.args.classes.now.world l c.args.constants.now.pool c.loop-index.marks.items c.loop-index.index c.in_ok-mark.mark
          c.loop-index.invariant.size (c.loop-index.invariant.below l at) (c.in_ok-mark.ensures.guarded l at));
      answers = c.in_ok-mark.ensures.answers;
    }

pub returns : goal.returns
returns c = λ l at.
    let all : c.loop-index.index ≡ pool_count c.args.constants.now.pool = search rules in
    all_guards c.args.classes.now.world l c.args.constants.now.pool c.loop-index.marks.items
    (subst (λ n. AreGuardsBelow n c.args.classes.now.world l c.args.constants.now.pool c.loop-index.marks.items) all (c.loop-index.invariant.below l at))

pub loop-index-init : goal.loop-index-init
loop-index-init c = record {
  size = ap length c.in_ok-marks.ensures.items;
  below = λ l at index less. absurd (omega (arith, less));
  answers = c.no_answers-answers.ensures c.args.classes.now.world c.args.current c.args.constants.now.pool;
}
