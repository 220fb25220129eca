use Rattle.std.proofs.Common.{sym, ap, ◌∙◌}
use Rattle.std.specs.Prelude.{slice_get}
use Rattle.std.specs.Option.{option_map}
use Rattle.std.proofs.lemmas.Option.{slice_get-map}
use Rattle.jv_stackmap.specs.Seen.{seen_type}
use Rattle.jv_program_explain.proofs.unmet.item_at.Goals as goal

pub returns : goal.returns
returns c =
    ap (option_map seen_type) (c.type_at.ensures ∙ ap (λ types. slice_get types c.args.depth) c.as_slice.ensures.value)
    ∙ sym (slice_get-map seen_type c.args.frame.now.stack.items c.args.depth)
