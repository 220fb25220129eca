use Rattle.std.proofs.Common.{◌+◌, ◌∙◌, length, arith}
use Rattle.jv_lookups.specs.Inside.Keys.{is_final_open, is_open}
use Rattle.jv_lookups.proofs.KeyRows.{no_class, one_class_more, all_classes}
use Rattle.jv_lookups.proofs.keys.mark_classes.Goals as goal

pub loop-number-init : goal.loop-number-init
loop-number-init c = record {
  width = c.requires;
  finals = no_class is_final_open c.args.seed c.args.classes.now (λ n. n) c.args.marks.now;
  opens = no_class is_open c.args.seed c.args.classes.now (λ n. length c.args.classes.now + n) c.args.marks.now;
}

pub loop-number-preserved : goal.loop-number-preserved
loop-number-preserved c = record {
  width = c.mark_class.ensures.finals.kept.width ∙ c.loop-number.invariant.width;
  finals = one_class_more is_final_open c.args.seed c.args.classes.now (λ n. n) c.loop-number.marks c.mark_class.new.marks c.loop-number.number c.index-classes-number.result
      (omega arith) c.index-classes-number.is c.loop-number.invariant.finals c.mark_class.ensures.finals;
  opens = one_class_more is_open c.args.seed c.args.classes.now (λ n. length c.args.classes.now + n) c.loop-number.marks c.mark_class.new.marks c.loop-number.number c.index-classes-number.result
      (omega arith) c.index-classes-number.is c.loop-number.invariant.opens
      c.mark_class.ensures.opens;
}

pub returns-clause-finals : goal.returns-clause-finals
returns-clause-finals c = all_classes is_final_open c.args.seed c.args.classes.now (λ n. n) c.loop-number.marks c.loop-number.number (omega arith) c.loop-number.invariant.finals

pub returns-clause-opens : goal.returns-clause-opens
returns-clause-opens c =
    all_classes is_open c.args.seed c.args.classes.now (λ n. length c.args.classes.now + n) c.loop-number.marks c.loop-number.number (omega arith) c.loop-number.invariant.opens
