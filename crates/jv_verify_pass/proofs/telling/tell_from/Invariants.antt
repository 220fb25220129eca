use Rattle.std.proofs.Common.{◌≤◌, ◌-◌}
use Rattle.jv_code.specs.Places.{IsStartOrEnd}
use Rattle.jv_verify_types.specs.Numbered.{frame_of}
use Rattle.jv_verify_pass.specs.Before.{AreFramed, TookAll}
use Rattle.jv_verify_pass.specs.Pass.{InPass, maps_of, names_in}
use Rattle.jv_verify_pass.specs.Inside.Seen.{IsSeen}
use Rattle.jv_verify_pass.specs.Inside.Walk.{Reaches, when_falls}
use Rattle.jv_verify_pass.proofs.telling.tell_from.Given as goal

abbrev pub invariant-instructions : goal.invariant-instructions
invariant-instructions g l = record {
  seen : IsSeen l.pass l.seen l.offset l.frame;
  starts : IsStartOrEnd l.pass.context.code l.offset;
  within : l.offset ≤ l.end;
  took : TookAll g.S.FrameSink.takes l.fn.sink l.sink (λ all. InPass l.pass (λ env. AreFramed env (maps_of l.pass) 0 l.offset all));
  reaches : InPass l.pass (λ env. Reaches env (maps_of l.pass) l.offset (when_falls l.falls (frame_of (names_in l.pass) l.frame)));
}

abbrev pub decreases-instructions : goal.decreases-instructions
decreases-instructions g l = l.end - l.offset
