use Rattle.std.proofs.Common.{rules, ◌≡◌, ◌+◌, ◌∙◌, [], ◌∷◌, ◌++◌, false, get_or, sym, subst}
use Rattle.jv_pool.specs.Constants.{pool_count, utf8_at}
use Rattle.jv_verify_types.specs.Inside.KeptTexts.{IsKept, AreKeptBelow}
use Rattle.jv_verify_types.proofs.Lasting.{through}
use Rattle.jv_verify_types.proofs.Keeping.{kept_next, all_kept}
use Rattle.jv_verify_types.proofs.texts.type_table.Goals as goal

pub loop-index-preserved : goal.loop-index-preserved
loop-index-preserved c =
    let index = c.loop-index.index in
    let marked : c.is_marked-is_name.result ≡ get_or c.in_ok-marks.marks.items index false = search rules in
    let pushed : c.push.new.self.items ≡ c.loop-index.texts.items ++ c.in_ok-types_at.field-0 ∷ [] = search rules in
    record {
      size = search rules;
      kept = subst (AreKeptBelow (index + 1) c.types_at.new.names.names c.types_at.new.arguments.items c.args.pool.now c.in_ok-marks.marks.items) (sym pushed)
          (kept_next c.args.pool.now c.in_ok-marks.marks.items c.loop-index.texts.items index c.in_ok-types_at.field-0 c.loop-index.invariant.size
          c.in_ok-types_at.ensures.goes_on c.in_ok-types_at.ensures.front
          c.loop-index.invariant.kept
          (subst (λ b. IsKept c.types_at.new.names.names c.types_at.new.arguments.items (utf8_at c.args.pool.now index) b
          c.in_ok-types_at.field-0) marked c.in_ok-types_at.ensures.kept));
      goes_on = through c.loop-index.invariant.goes_on c.in_ok-types_at.ensures.goes_on;
      world = c.in_ok-types_at.ensures.world ∙ c.loop-index.invariant.world;
    }

pub returns-clause-kept : goal.returns-clause-kept
returns-clause-kept c =
    let all : c.loop-index.index ≡ pool_count c.args.pool.now = search rules in
    all_kept c.loop-index.names.names c.loop-index.arguments.items c.args.pool.now c.in_ok-marks.marks.items c.loop-index.texts.items (c.loop-index.invariant.size ∙ all)
    c.in_ok-marks.ensures.count c.in_ok-marks.ensures.marked
    (subst (λ n. AreKeptBelow n c.loop-index.names.names c.loop-index.arguments.items c.args.pool.now c.in_ok-marks.marks.items c.loop-index.texts.items) all c.loop-index.invariant.kept)
