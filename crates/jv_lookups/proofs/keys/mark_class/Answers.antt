use Rattle.std.proofs.Common.{◌<◌, sym, subst, arith}
use Rattle.jv_lookups.specs.Inside.Keys.{is_final_open, is_open}
use Rattle.jv_lookups.proofs.KeyRows.{no_method, one_method_more, all_methods, final_open_same, open_same}
use Rattle.jv_lookups.proofs.keys.mark_class.Goals as goal

pub loop-place-init : goal.loop-place-init
loop-place-init c = record {
  finals = no_method is_final_open c.args.seed c.args.finals c.args.marks.now;
  opens = no_method is_open c.args.seed c.args.opens c.args.marks.now;
}

pub loop-place-preserved : goal.loop-place-preserved
loop-place-preserved c = record {
  finals = one_method_more is_final_open c.args.seed c.args.finals final_open_same c.args.marks.now c.loop-place.marks c.mark_method.new.marks c.args.class.now.class.methods
      c.loop-place.place c.method.result c.method.ensures c.loop-place.invariant.finals c.mark_method.ensures.finals;
  opens = one_method_more is_open c.args.seed c.args.opens open_same c.args.marks.now c.loop-place.marks c.mark_method.new.marks c.args.class.now.class.methods
      c.loop-place.place c.method.result c.method.ensures c.loop-place.invariant.opens c.mark_method.ensures.opens;
}

pub mark_method-requires-clause-finals : goal.mark_method-requires-clause-finals
mark_method-requires-clause-finals c = subst (λ n. c.args.finals < n) (sym c.loop-place.invariant.finals.kept.width) c.requires.finals

pub mark_method-requires-clause-opens : goal.mark_method-requires-clause-opens
mark_method-requires-clause-opens c = subst (λ n. c.args.opens < n) (sym c.loop-place.invariant.finals.kept.width) c.requires.opens

pub returns-clause-finals : goal.returns-clause-finals
returns-clause-finals c = all_methods is_final_open c.args.seed c.args.finals c.args.marks.now c.loop-place.marks c.args.class.now.class.methods
    c.loop-place.place (omega arith) c.loop-place.invariant.finals

pub returns-clause-opens : goal.returns-clause-opens
returns-clause-opens c = all_methods is_open c.args.seed c.args.opens c.args.marks.now c.loop-place.marks c.args.class.now.class.methods c.loop-place.place (omega arith) c.loop-place.invariant.opens
