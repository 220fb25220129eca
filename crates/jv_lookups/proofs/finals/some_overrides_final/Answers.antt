use Rattle.std.proofs.Common.{◌∙◌, arith}
use Rattle.jv_meaning_world.specs.Numbers.{classes_at}
use Rattle.jv_lookups.proofs.Looking.{some_breaks, none_breaks, none_breaks_of_all}
use Rattle.jv_lookups.proofs.finals.some_overrides_final.Goals as goal

pub returns-then-breaks_final_by-clause-broken : goal.returns-then-breaks_final_by-clause-broken
returns-then-breaks_final_by-clause-broken c =
    some_breaks c.args.classes.now c.args.of c.index-classes-of.result (classes_at c.args.classes.now c.args.chain.now) c.requires.of c.index-classes-of.is
    c.loop-place.place c.method.result c.method.ensures c.if-breaks_final_by.ensures.broken

pub loop-place-preserved : goal.loop-place-preserved
loop-place-preserved c = record {
  none = none_breaks c.args.classes.now c.args.of c.index-classes-of.result (classes_at c.args.classes.now c.args.chain.now) c.requires.of c.index-classes-of.is
      c.loop-place.place c.method.result c.method.ensures c.if-breaks_final_by.ensures.broken c.loop-place.invariant.none;
  many = c.breaks_final_by.ensures.marks ∙ c.loop-place.invariant.many;
  asked = c.breaks_final_by.ensures.asked ∙ c.loop-place.invariant.asked;
}

pub returns-clause-broken : goal.returns-clause-broken
returns-clause-broken c =
    none_breaks_of_all c.args.classes.now c.args.of c.index-classes-of.result (classes_at c.args.classes.now c.args.chain.now) c.requires.of c.index-classes-of.is
    c.loop-place.place (omega arith) c.loop-place.invariant.none
