use Rattle.std.proofs.Common.{◌∙◌}
use Rattle.jv_lookups.specs.Inside.Keys.{is_final_open, is_open}
use Rattle.jv_lookups.specs.Inside.Steps.{as_method}
use Rattle.jv_lookups.proofs.KeyRows.{kept_on, method_marked}
use Rattle.jv_lookups.proofs.keys.mark_method.Goals as goal

pub returns-clause-finals : goal.returns-clause-finals
returns-clause-finals c =
    method_marked is_final_open c.args.seed c.args.finals c.args.marks.now c.mark_if-2.new.marks (as_method c.args.method.now) c.member_key-key.result
    c.args.name.now c.args.descriptor.now c.requires.name c.requires.descriptor
    c.member_key-key.ensures (λ h. c.mark_if-2.ensures.kept.marked c.member_key-key.result c.args.finals (c.mark_if.ensures.marked (c.is_final_open.ensures ∙ h)))
    (kept_on c.args.marks.now c.mark_if.new.marks c.mark_if-2.new.marks c.mark_if.ensures.kept c.mark_if-2.ensures.kept)

pub returns-clause-opens : goal.returns-clause-opens
returns-clause-opens c =
    method_marked is_open c.args.seed c.args.opens c.args.marks.now c.mark_if-2.new.marks (as_method c.args.method.now) c.member_key-key.result
    c.args.name.now c.args.descriptor.now c.requires.name c.requires.descriptor
    c.member_key-key.ensures (λ h. c.mark_if-2.ensures.marked (c.is_open.ensures ∙ h))
    (kept_on c.args.marks.now c.mark_if.new.marks c.mark_if-2.new.marks c.mark_if.ensures.kept c.mark_if-2.ensures.kept)
