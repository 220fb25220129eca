use Rattle.std.proofs.Common.{rules, ◌≡◌, ◌+◌, ◌∙◌, [], ◌∷◌, ◌++◌, sym, subst}
use Rattle.jv_pool.specs.Constants.{pool_count}
use Rattle.jv_verify_types.specs.Inside.KeptTexts.{AreItemsBelow}
use Rattle.jv_verify_types.proofs.Finding.{items_next, all_items}
use Rattle.jv_verify_types.proofs.constants.class_items.Goals as goal

pub loop-index-preserved : goal.loop-index-preserved
loop-index-preserved c =
    let index = c.loop-index.index in
    let pushed : c.push.new.self.items ≡ c.loop-index.items.items ++ c.class_item.result ∷ [] = search rules in
    record {
      size = search rules;
      below = λ names arguments kept.
          subst (AreItemsBelow (index + 1) names c.args.pool.now) (sym pushed)
          (items_next names c.args.pool.now c.loop-index.items.items index c.class_item.result c.loop-index.invariant.size (c.class_item.ensures names arguments kept)
          (c.loop-index.invariant.below names arguments kept));
    }

pub returns : goal.returns
returns c = λ names arguments kept.
    let all : c.loop-index.index ≡ pool_count c.args.pool.now = search rules in
    all_items names c.args.pool.now c.loop-index.items.items (c.loop-index.invariant.size ∙ all)
    (subst (λ n. AreItemsBelow n names c.args.pool.now c.loop-index.items.items) all (c.loop-index.invariant.below names arguments kept))
