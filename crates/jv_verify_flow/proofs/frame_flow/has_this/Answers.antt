use Rattle.std.proofs.Common.{sym, ap, ◌∙◌}
use Rattle.std.specs.List.{list_any}
use Rattle.jv_stackmap.specs.Frames.{is_uninitialized_this}
use Rattle.jv_verify_frame.proofs.Replacing.{any_reversed}
use Rattle.jv_verify_types.specs.Mapped.{types_of_entries}
use Rattle.jv_verify_flow.proofs.frame_flow.has_this.Goals as goal

pub loop-entry-init : goal.loop-entry-init
loop-entry-init c =
    any_reversed is_uninitialized_this (types_of_entries c.args.types.now c.args.map.now.locals)
    ∙ ap (λ es. list_any is_uninitialized_this (types_of_entries c.args.types.now es)) (sym c.locals-entries.ensures)
