use Rattle.std.proofs.Common.{◌∙◌, sym}
use Rattle.jv_meaning_world.specs.Numbers.{classes_at}
use Rattle.jv_lookups.specs.Inside.Members.{candidates_at, is_specific}
use Rattle.jv_lookups.proofs.Candidates.{candidate_by, below_same, abstract_one, above_other, most_specific, none_specific}
use Rattle.jv_lookups.proofs.MarkedAbove.{within}
use Rattle.jv_lookups.proofs.Standing.{method_stands}
use Rattle.jv_lookups.proofs.Tests.{kept, dropped}
use Rattle.jv_lookups.proofs.superinterface.specific.Goals as goal

pub returns-then-is_marked_above-clause-found : goal.returns-then-is_marked_above-clause-found
returns-then-is_marked_above-clause-found c = λ l at m at_m.
    let world = c.args.table.now in
    let marked = sym c.is_marked_above.ensures ∙ c.if-is_marked_above.true in
    none_specific world c.args.searched.now c.args.name.now c.args.descriptor.now l m
    (sym (c.requires.above c.args.class (within c.args.above.now c.args.class marked) l at m at_m) ∙ marked)

pub returns-then-not-is_concrete-clause-found : goal.returns-then-not-is_concrete-clause-found
returns-then-not-is_concrete-clause-found c = λ l at m at_m.
    let world = c.args.table.now in
    let all = candidates_at world c.args.searched.now c.args.name.now c.args.descriptor.now l in
    let there = method_stands world c.in-Some.place c.in-Some.ensures.place in
    dropped (is_specific world all) _ there.0 (sym (c.in-Some.ensures.found l at m at_m) ∙ there.1)
    (abstract_one world all there.0 (sym (c.is_concrete.ensures there.0 there.1) ∙ c.if-not-is_concrete.true))

pub returns-then-has_below-clause-found : goal.returns-then-has_below-clause-found
returns-then-has_below-clause-found c = λ l at m at_m.
    let world = c.args.table.now in
    let all = candidates_at world c.args.searched.now c.args.name.now c.args.descriptor.now l in
    let there = method_stands world c.in-Some.place c.in-Some.ensures.place in
    let is = sym (c.in-Some.ensures.found l at m at_m) ∙ there.1 in
    dropped (is_specific world all) _ there.0 is
    (above_other world all there.0 (sym (c.is_concrete.ensures there.0 there.1) ∙ c.if-not-is_concrete.false)
    (below_same world c.args.name.now c.args.descriptor.now l m there.0 (classes_at world c.args.searched.now)
    (candidate_by c.args.name.now c.args.descriptor.now l m there.0 is) ∙ (sym (c.has_below.ensures l at m at_m) ∙ c.if-has_below.true)))

pub returns-clause-found : goal.returns-clause-found
returns-clause-found c = λ l at m at_m.
    let world = c.args.table.now in
    let all = candidates_at world c.args.searched.now c.args.name.now c.args.descriptor.now l in
    let there = method_stands world c.in-Some.place c.in-Some.ensures.place in
    let is = sym (c.in-Some.ensures.found l at m at_m) ∙ there.1 in
    there.1 ∙ kept (is_specific world all) _ there.0 is
    (most_specific world all there.0 (sym (c.is_concrete.ensures there.0 there.1) ∙ c.if-not-is_concrete.false)
    (below_same world c.args.name.now c.args.descriptor.now l m there.0 (classes_at world c.args.searched.now)
    (candidate_by c.args.name.now c.args.descriptor.now l m there.0 is) ∙ (sym (c.has_below.ensures l at m at_m) ∙ c.if-has_below.false)))
