use Rattle.std.proofs.Common.{◌≡◌, ap, sym, ◌∙◌}
use Rattle.jv_class.specs.Class.{Field}
use Rattle.jv_meaning_library.specs.Closed.{descriptor_names, is_there}
use Rattle.jv_closed.specs.There.{are_there}
use Rattle.jv_closed.proofs.There.{one_more_such}
use Rattle.jv_closed.proofs.classes.has_field_types.Goals as goal

pub loop-k-preserved : goal.loop-k-preserved
loop-k-preserved c =
    c.both-all.ensures
    ∙ one_more_such (is_there c.args.table.now) (λ (m : Field). descriptor_names m.descriptor) c.args.class.now.class.fields c.loop-k.k c.loop-k.all c.in_ok-is_there.is_there
    (λ m. m.descriptor ≡ c.field_descriptor.result) c.field_descriptor.ensures
    (λ m e. c.in_ok-is_there.ensures ∙ ap (λ t. are_there c.args.table.now (descriptor_names t)) (c.bytes.ensures ∙ sym e)) c.loop-k.invariant
