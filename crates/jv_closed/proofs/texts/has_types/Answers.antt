use Rattle.std.proofs.Common.{refl, ap, ◌∙◌}
use Rattle.jv_text.specs.Seen.{seen_element, seen_field_type}
use Rattle.jv_meaning_library.specs.Closed.{element_names, is_there}
use Rattle.jv_closed.specs.There.{are_there}
use Rattle.jv_closed.proofs.There.{flat_of_map, one_more_at, all_of_them}
use Rattle.jv_closed.proofs.texts.has_types.Goals as goal

pub loop-k-init : goal.loop-k-init
loop-k-init c = refl

pub loop-k-preserved : goal.loop-k-preserved
loop-k-preserved c =
    c.both-all.ensures
    ∙ one_more_at (is_there c.args.table.now) (λ t. element_names (seen_element t.element)) c.args.types.now c.loop-k.k _ c.loop-k.all c.has_element-is_there.result
    c.loop-k-test.true c.loop-k.invariant c.has_element-is_there.ensures

pub returns : goal.returns
returns c =
    all_of_them (is_there c.args.table.now) (λ t. element_names (seen_element t.element)) c.args.types.now c.loop-k.k c.loop-k.all c.loop-k-test.false c.loop-k.invariant
    ∙ ap (are_there c.args.table.now) (flat_of_map (λ t. element_names t.element) seen_field_type c.args.types.now)
