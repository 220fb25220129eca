use Rattle.std.proofs.Common.{sym, ◌∙◌}
use Rattle.jv_library.proofs.Steps.{same_next}
use Rattle.jv_library.proofs.same.are_same.Goals as goal

pub loop-file-preserved : goal.loop-file-preserved
loop-file-preserved c =
    same_next c.args.one.now c.args.other.now c.loop-file.file c.library_file.result.now c.library_file-in-loop-file.result.now c.library_file.ensures
    c.library_file-in-loop-file.ensures (sym c.ne.ensures ∙ c.if-ne.false) c.loop-file.invariant
