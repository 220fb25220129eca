use Rattle.std.proofs.Common.{sym}
use Rattle.jv_meaning_world.specs.Verdicts.{is_final_instance}
use Rattle.jv_lookups.proofs.Looking.{final_same, one_passes, one_more_fails}
use Rattle.jv_lookups.proofs.finals.declares_final.Goals as goal

pub returns-then-is_final_instance : goal.returns-then-is_final_instance
returns-then-is_final_instance c =
    one_passes is_final_instance c.args.class.now.class.methods c.loop-place.place c.method.result (final_same c.method.result) c.method.ensures (sym c.if-is_final_instance.ensures)

pub loop-place-preserved : goal.loop-place-preserved
loop-place-preserved c =
    one_more_fails is_final_instance c.args.class.now.class.methods c.loop-place.place c.method.result (final_same c.method.result) c.method.ensures
    c.loop-place.invariant (sym c.if-is_final_instance.ensures)
